use Rattle.std.proofs.Common.{List, ℕ, subst, sym}
use Rattle.zair_read.specs.Compact.{BeginsWithStep}
use Rattle.zair_read.proofs.job.step.Goals as goal

pub returns : goal.returns
returns c = subst (λ (b : List ℕ). BeginsWithStep c.args.aod c.in_ok-step.step b c.in_ok-step.rest.now) (sym c.in_ok-rest.ensures) c.in_ok-step.ensures
