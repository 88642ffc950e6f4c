use Rattle.zair_machine.proofs.Numbering.{named_told}
use Rattle.zair_machine.proofs.counts.count_named.Goals as goal

pub returns-in-Activate-clause-named : goal.returns-in-Activate-clause-named
returns-in-Activate-clause-named c = λ i j r b at there. rw (c.in-Activate.is, ← c.as_slice.ensures) (named_told c.args.rows.now c.args.columns.now c.as_slice.result.now c.count_caught.new.counts i j r b c.count_caught.ensures.counts at there)
