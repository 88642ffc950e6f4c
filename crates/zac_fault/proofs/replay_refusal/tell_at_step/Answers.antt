use Rattle.std.proofs.Common.{ℕ, ◌∷◌, ◌++◌, [], codes, map, subst}
use Rattle.zac_io.specs.Outside.{Writes}
use Rattle.zair_text.specs.Lines.{joined}
use Rattle.zac_fault.specs.Parts.{part_bytes}
use Rattle.zac_fault.specs.Replayed.{step_parts}
use Rattle.zac_fault.proofs.replay_refusal.tell_at_step.Goals as goal

pub returns-clause-line : goal.returns-clause-line
returns-clause-line g c =
    subst (λ (n : ℕ). Writes (g.E.Sink.written c.args.err.now) (g.E.Sink.written c.tell_behind.new.err)
    (joined (codes "not the circuit: " ∷ (step_parts n (map part_bytes c.args.detail.now) ++ codes "\n" ∷ []))) c.tell_behind.result) c.from.ensures c.tell_behind.ensures.line
