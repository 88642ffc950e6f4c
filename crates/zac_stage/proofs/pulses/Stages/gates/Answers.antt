use Rattle.std.proofs.Common.{ap, sym, ◌∙◌, arith}
use Rattle.std.proofs.lemmas.Grind.{common_steps}
use Rattle.std.specs.List.{slice_get}
use Rattle.zac_stage.specs.Staging.{Staging}
use Rattle.zac_stage.proofs.StagingFacts.{slots, row_read}
use Rattle.zac_stage.proofs.pulses.Stages.gates.Goals as goal

pub index-requires : goal.index-requires
index-requires c = grind (arith, common_steps, slots _ c.self.invariant)

pub returns : goal.returns
returns c =
    ap (λ (s : Staging). slice_get s.gates c.args.t) (sym c.self.view_is)
    ∙ row_read c.self.inside.gates.items c.args.t c.index.result.now c.as_slice.result.now (grind (arith, common_steps, slots _ c.self.invariant)) c.index.ensures c.as_slice.ensures.value
