use Rattle.std.proofs.Common.{◌<◌, ℕ, inl, inr}
use Rattle.zac_arch.specs.Architecture.{site_count}
use Rattle.zair_machine.specs.Sites.{AreTogether}
use Rattle.zair_state.proofs.Minima.{at_none}
use Rattle.zair_machine.proofs.machine.Machine.note_pair.Goals as goal

pub returns-in-None-clause-marks : goal.returns-in-None-clause-marks
returns-in-None-clause-marks c = λ site. (
  λ m. inl m,
  λ h. elim h [
    | inl m ↦ m
    | inr t ↦ absurd (at_none ((site : ℕ) → ¬ AreTogether c.args.self.now.card c.args.self.now.state site c.args.p.a c.args.p.b) (λ (site : ℕ). (site < site_count c.args.self.now.card) × AreTogether c.args.self.now.card c.args.self.now.state site c.args.p.a c.args.p.b) c.common_site.result c.in-None.is c.common_site.ensures site t)
  ],
)
