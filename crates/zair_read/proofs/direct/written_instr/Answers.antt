use Rattle.std.proofs.Common.{List, ℕ, IfOk, subst, sym}
use Rattle.zair_read.specs.Texts.{IsInstrText}
use Rattle.zair_read.proofs.direct.written_instr.Goals as goal

pub returns-in-Some : goal.returns-in-Some
returns-in-Some c = subst (λ (b : List ℕ). IfOk c.job.result (IsInstrText b)) (sym c.in-Some.ensures) c.job.ensures
