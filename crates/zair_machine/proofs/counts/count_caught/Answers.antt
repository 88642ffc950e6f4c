use Rattle.std.proofs.Common.{ap, ◌∙◌, arith, length, get_or}
use Rattle.zair_machine.proofs.Counting.{length_counted}
use Rattle.zair_machine.proofs.Numbering.{caught_start, caught_more, caught_whole, caught_within}
use Rattle.zair_machine.proofs.counts.count_caught.Goals as goal

pub loop-c-init : goal.loop-c-init
loop-c-init c = (c.requires.room, caught_start c.args.rows.now c.args.columns.now c.requires.rows_rising.rising c.requires.columns_rising.rising c.requires.columns_rising.few c.args.atoms.now _ c.requires.clean)

pub count-requires : goal.count-requires
count-requires c = caught_within c.args.rows.now c.args.columns.now c.loop-c.counts (get_or c.args.atoms.now c.loop-c.c-index (record { q = 0; row = 0; column = 0 })) c.crossing_of.result (omega (arith, c.loop-c.invariant.0)) c.crossing_of.ensures

pub loop-c-preserved : goal.loop-c-preserved
loop-c-preserved c = (
  ap length c.count.ensures ∙ length_counted c.crossing_of.result c.loop-c.counts ∙ c.loop-c.invariant.0,
  rw c.count.ensures (caught_more c.args.rows.now c.args.columns.now c.requires.rows_rising.rising c.requires.columns_rising.rising c.requires.columns_rising.few c.args.atoms.now c.loop-c.counts c.loop-c.c-index (record { q = 0; row = 0; column = 0 }) c.crossing_of.result c.loop-c-test.true (omega (arith, c.loop-c.invariant.0)) c.crossing_of.ensures c.loop-c.invariant.1),
)

pub returns-clause-counts : goal.returns-clause-counts
returns-clause-counts c = caught_whole c.args.rows.now c.args.columns.now c.requires.rows_rising.rising c.requires.columns_rising.rising c.requires.columns_rising.few c.args.atoms.now c.loop-c.counts c.loop-c.c-index c.loop-c-test.false c.loop-c.invariant.1
