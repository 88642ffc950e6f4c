use Rattle.std.proofs.Common.{◌≡◌, ℕ, List, length, sym, subst, arith}
use Rattle.zac_gates.specs.declared.circuit.Op.{Op}
use Rattle.zac_gates.specs.Waiting.{HasQubitsBelow}
use Rattle.zac_gates.proofs.CheckingFacts.{qubits_below}
use Rattle.zac_stage.specs.Numbers.{IsNumbering, IsPulseCount}
use Rattle.zac_stage.specs.Tops.{AreNumbered, AreTops}
use Rattle.zac_stage.specs.Walk.{IsWalk}
use Rattle.zac_stage.proofs.WalkFacts.{numbered_all, counted_all}
use Rattle.zac_stage.proofs.numbering.numbers.Goals as goal

pub step-requires-clause-in_range : goal.step-requires-clause-in_range
step-requires-clause-in_range c =
    subst (λ (l : List Op). HasQubitsBelow l c.loop-i.walk.tops.len) (sym c.ops-ops.ensures.value)
    (subst (λ (q : ℕ). HasQubitsBelow c.args.circuit.now.ops q) (sym c.loop-i.invariant.qubits) (qubits_below c.args.circuit.now c.ops-ops.ensures.valid))

pub step-requires-clause-walk : goal.step-requires-clause-walk
step-requires-clause-walk c =
    let walk = c.loop-i.invariant.walk in
    subst (λ (s : ℕ). IsWalk c.ops-ops.result.now s c.loop-i.walk c.loop-i.i) (sym walk.sites_are) walk

pub returns-clause-numbering : goal.returns-clause-numbering
returns-clause-numbering c =
    let walk = c.loop-i.invariant.walk in
    let done : c.loop-i.i ≡ length c.ops-ops.result.now = omega arith in
    subst (λ (l : List Op). IsNumbering l c.args.sites c.loop-i.walk.numbers.items) c.ops-ops.ensures.value
    (numbered_all c.ops-ops.result.now c.args.sites c.loop-i.walk.numbers.items (subst (λ (i : ℕ). AreNumbered c.ops-ops.result.now c.args.sites c.loop-i.walk.numbers.items i) done walk.numbered))

pub returns-clause-pulses : goal.returns-clause-pulses
returns-clause-pulses c =
    let walk = c.loop-i.invariant.walk in
    let w = c.loop-i.walk in
    let done : c.loop-i.i ≡ length c.ops-ops.result.now = omega arith in
    let count : length w.rooms.counts.items ≡ c.len-pulses.result = omega (arith, c.len-pulses.ensures) in
    subst (λ (p : ℕ). IsPulseCount c.args.circuit.now.ops w.numbers.items p) count
    (subst (λ (l : List Op). IsPulseCount l w.numbers.items (length w.rooms.counts.items)) c.ops-ops.ensures.value
    (counted_all c.ops-ops.result.now w.numbers.items w.rooms.counts.items w.tops.items w.fence (subst (λ (i : ℕ). AreTops c.ops-ops.result.now w.numbers.items w.rooms.counts.items w.tops.items w.fence i) done walk.tops)))
