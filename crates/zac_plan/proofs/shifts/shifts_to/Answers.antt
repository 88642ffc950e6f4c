use Rattle.std.proofs.Common.{◌≡◌, ◌+◌, ◌++◌, [], ◌∷◌, arith, length, rules, subst, sym, take}
use Rattle.std.proofs.lemmas.List.{length-append}
use Rattle.std.proofs.lemmas.Slice.Zip.{zip_turn}
use Rattle.std.specs.Iterator.Adapters.{zip_first, zip_second}
use Rattle.std.specs.Slice.Iter.{iter_rest}
use Rattle.zac_plan.specs.Plan.{shifts_to}
use Rattle.zac_plan.specs.Seats.{rests_in}
use Rattle.zac_plan.proofs.Making.{listed_more}
use Rattle.zac_plan.proofs.shifts.shifts_to.Goals as goal

pub loop-q-preserved : goal.loop-q-preserved
loop-q-preserved c =
    let qubits = c.args.qubits.now in
    let traps = c.args.traps.now in
    let k = length c.loop-q.yielded in
    let first : iter_rest (zip_first c.into_iter-q-iterator.result) ≡ qubits = search rules in
    let second : iter_rest (zip_second c.into_iter-q-iterator.result) ≡ traps = search rules in
    let turn =
    zip_turn qubits traps c.loop-q.yielded c.into_iter-q-iterator.result c.loop-q.q-iterator c.next.new.self c.next.result first second c.loop-q.yielded_by
    (c.in-Some.q, c.in-Some.trap) c.in-Some.is c.next.ensures.steps in
    let more : k + 1 ≡ length (c.loop-q.yielded ++ (c.in-Some.q, c.in-Some.trap) ∷ []) = sym (length-append c.loop-q.yielded ((c.in-Some.q, c.in-Some.trap) ∷ [])) in
    record {
      shifts =
          subst (λ m. c.push.new.self.items ≡ shifts_to (rests_in c.args.world.now) (take m qubits) (take m traps)) more
          (listed_more c.args.world.now qubits traps k c.in-Some.q.now c.in-Some.trap.now c.trap_of.result c.loop-q.shifts.items c.push.new.self.items turn.0 turn.1
          (turn.2 0) (turn.3 0) c.trap_of.ensures.rests c.loop-q.invariant.shifts c.in_ok-push.ensures.items);
      number = omega (arith, c.loop-q.invariant.number, c.in_ok-push.ensures.len);
    }
