use Rattle.std.proofs.Common.{List, ℕ, ◌∷◌, ◌++◌, [], codes, subst}
use Rattle.zac_io.specs.Outside.{Writes}
use Rattle.zair_text.specs.Lines.{joined}
use Rattle.zac_fault.specs.Replayed.{step_parts}
use Rattle.zac_fault.proofs.replay_refusal.tell_machine_fault.Goals as goal

pub returns-in-Touch-clause-line : goal.returns-in-Touch-clause-line
returns-in-Touch-clause-line g c = rw (c.in-Touch.is, ← c.from.ensures, ← c.from-in-Touch.ensures) c.tell_numbers.ensures.line

pub returns-in-PickWrong-clause-line : goal.returns-in-PickWrong-clause-line
returns-in-PickWrong-clause-line g c = rw c.in-PickWrong.is c.tell_number-in-PickWrong.ensures.line

pub returns-in-DropWrong-clause-line : goal.returns-in-DropWrong-clause-line
returns-in-DropWrong-clause-line g c = rw c.in-DropWrong.is c.tell_number-in-DropWrong.ensures.line

pub returns-in-TrapFull-clause-line : goal.returns-in-TrapFull-clause-line
returns-in-TrapFull-clause-line g c = rw c.in-TrapFull.is c.tell_numbers-in-TrapFull.ensures.line

pub returns-in-LitAlone-clause-line : goal.returns-in-LitAlone-clause-line
returns-in-LitAlone-clause-line g c = rw c.in-LitAlone.is c.tell_number-in-LitAlone.ensures.line

pub returns-in-NotAtRest-clause-line : goal.returns-in-NotAtRest-clause-line
returns-in-NotAtRest-clause-line g c = rw c.in-NotAtRest.is c.tell_number-in-NotAtRest.ensures.line

pub returns-in-Crossing-clause-line : goal.returns-in-Crossing-clause-line
returns-in-Crossing-clause-line g c =
    rw c.in-Crossing.is
    (subst (λ (parts : List (List ℕ)). Writes (g.E.Sink.written c.args.err.now) (g.E.Sink.written c.tell_at_step.new.err)
    (joined (codes "not the circuit: " ∷ (step_parts c.args.step parts ++ codes "\n" ∷ []))) c.tell_at_step.result) c.three_parts-detail.ensures c.tell_at_step.ensures.line)
