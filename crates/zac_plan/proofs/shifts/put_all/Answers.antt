use Rattle.zac_plan.specs.Seats.{rests_in}
use Rattle.zac_plan.proofs.Making.{made_more, next_empty, next_in}
use Rattle.zac_plan.proofs.Worlds.{places_of_world}
use Rattle.std.proofs.Common.{refl, sym}
use Rattle.zac_plan.proofs.shifts.put_all.Goals as goal

pub loop-shift-init : goal.loop-shift-init
loop-shift-init c = sym (places_of_world c.args.world.now.architecture c.args.world.now refl)

pub put-requires-clause-q_in : goal.put-requires-clause-q_in
put-requires-clause-q_in c =
    next_in (rests_in c.args.world.now) c.args.shifts.now c.requires.can_make c.loop-shift.shift-index _ c.loop-shift-test.true
    c.args.world.now.architecture c.loop-shift.world c.loop-shift.invariant

pub put-requires-clause-empty : goal.put-requires-clause-empty
put-requires-clause-empty c =
    next_empty (rests_in c.args.world.now) c.args.shifts.now c.requires.can_make c.loop-shift.shift-index _ c.loop-shift-test.true
    c.args.world.now.architecture c.loop-shift.world c.loop-shift.invariant

pub loop-shift-preserved : goal.loop-shift-preserved
loop-shift-preserved c =
    made_more (rests_in c.args.world.now) c.args.shifts.now c.requires.can_make c.loop-shift.shift-index _ c.loop-shift-test.true
    c.args.world.now.architecture c.loop-shift.world c.put.new.self c.loop-shift.invariant c.put.ensures
