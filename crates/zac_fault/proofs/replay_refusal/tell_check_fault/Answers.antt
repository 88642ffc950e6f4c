use Rattle.zac_fault.proofs.replay_refusal.tell_check_fault.Goals as goal

pub returns-in-Early-clause-line : goal.returns-in-Early-clause-line
returns-in-Early-clause-line g c = rw c.in-Early.is c.tell_numbers.ensures.line
