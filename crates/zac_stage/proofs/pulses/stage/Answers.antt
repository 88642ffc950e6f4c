use Rattle.std.proofs.Common.{◌≡◌, ◌+◌, ℕ, List, map, refl, subst, arith}
use Rattle.std.specs.List.{range_with_len}
use Rattle.zac_gates.specs.declared.circuit.Op.{Op}
use Rattle.zac_stage.specs.Numbers.{pairs_of, ones_of}
use Rattle.zac_stage.specs.Rows.{rows_of}
use Rattle.zac_stage.proofs.StagingFacts.{staged}
use Rattle.zac_stage.proofs.pulses.stage.Goals as goal

pub invariant_of-result : goal.invariant_of-result
invariant_of-result c =
    let numbers = c.in_ok-numbers.numbers.items in
    let made = c.in_ok-pairs.ensures in
    staged c.args.circuit.now c.args.sites numbers c.in_ok-numbers.pulses (rows_of c.in_ok-pairs.pairs.items) (rows_of c.in_ok-pairs.gates.items) (omega arith) c.in_ok-numbers.ensures.numbering c.in_ok-numbers.ensures.pulses
    (subst (λ (l : List ℕ). rows_of c.in_ok-pairs.pairs.items ≡ map (pairs_of c.args.circuit.now.ops l) (range_with_len 0 c.in_ok-numbers.pulses)) c.as_slice.ensures.value
    (subst (λ (o : List Op). rows_of c.in_ok-pairs.pairs.items ≡ map (pairs_of o c.as_slice.result.now) (range_with_len 0 c.in_ok-numbers.pulses)) c.ops.ensures.value made.pairs))
    (subst (λ (l : List ℕ). rows_of c.in_ok-pairs.gates.items ≡ map (ones_of c.args.circuit.now.ops l) (range_with_len 0 (c.in_ok-numbers.pulses + 1))) c.as_slice.ensures.value
    (subst (λ (o : List Op). rows_of c.in_ok-pairs.gates.items ≡ map (ones_of o c.as_slice.result.now) (range_with_len 0 (c.in_ok-numbers.pulses + 1))) c.ops.ensures.value made.gates))

pub returns : goal.returns
returns c = (invariant_of-result c, refl, refl)
