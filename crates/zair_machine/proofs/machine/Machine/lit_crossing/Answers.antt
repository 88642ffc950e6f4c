use Rattle.std.proofs.Common.{arith}
use Rattle.zair_state.proofs.Picking.{none_below_more}
use Rattle.zair_state.proofs.Resting.{SomeLit, none_lit, first_lit, never_lit}
use Rattle.zair_machine.proofs.machine.Machine.lit_crossing.Goals as goal

pub returns-in-Some : goal.returns-in-Some
returns-in-Some c =
    first_lit c.args.self.now.card c.args.self.now.state c.loop-aod.aod c.active-rows.result.now c.active-columns.result.now c.in-Some.row c.in-Some.column c.lit_pair.result c.active-rows.ensures c.active-columns.ensures c.in-Some.is c.loop-aod.invariant c.lit_pair.ensures

pub loop-aod-preserved : goal.loop-aod-preserved
loop-aod-preserved c =
    none_below_more (SomeLit c.args.self.now.card c.args.self.now.state) c.loop-aod.aod c.loop-aod.invariant (none_lit c.args.self.now.card c.args.self.now.state c.loop-aod.aod c.active-rows.result.now c.active-columns.result.now c.lit_pair.result c.active-rows.ensures c.active-columns.ensures c.in_default.is c.lit_pair.ensures)

pub returns : goal.returns
returns c =
    never_lit c.args.self.now.card c.args.self.now.state c.loop-aod.aod (omega (arith, c.loop-aod-test.false, c.aod_count-aod-end.ensures)) c.loop-aod.invariant
