use Rattle.std.proofs.Common.{◌≡◌, ◌≢◌, ◌≤◌, ℕ, List, length, map, sym, ap, subst, arith}
use Rattle.std.specs.List.{AllPairs}
use Rattle.zac_arch.specs.Architecture.{storage_count}
use Rattle.zac_arch.specs.declared.place.TrapId.{TrapId}
use Rattle.zac_place.specs.Homes.{IsOrderBelow, IsUsedBefore, IsFilledBefore, AreHomesByUse, AreApartInStorage}
use Rattle.zac_place.specs.Ranks.{number_of}
use Rattle.zac_place.specs.declared.offsets.RankedTrap.{RankedTrap}
use Rattle.zac_place.proofs.UseFacts.{once, used_apart}
use Rattle.zac_place.proofs.HomeFacts.{AreHomesByUse-set, AreApartInStorage-set}
use Rattle.zac_place.proofs.homing.homes.Goals as goal

pub homes_in_order-requires-clause-distinct : goal.homes_in_order-requires-clause-distinct
homes_in_order-requires-clause-distinct c =
    subst (AllPairs (λ (p q : ℕ). p ≢ q)) (sym c.as_slice.ensures.value)
    (once (IsUsedBefore c.args.circuit.now.ops) (used_apart c.args.circuit.now.ops) c.in_ok-qubits.qubits.items c.in_ok-qubits.ensures.order.in_order)

pub returns-clause-by_use : goal.returns-clause-by_use
returns-clause-by_use c =
    let a = c.args.card.now in
    let circuit = c.args.circuit.now in
    let qubits = c.as_slice.result.now in
    let traps = c.as_slice-2.result.now in
    let used = subst (IsOrderBelow (IsUsedBefore circuit.ops) circuit.qubits) (sym c.as_slice.ensures.value) c.in_ok-qubits.ensures.order in
    let filled = subst (λ (l : List RankedTrap). IsOrderBelow (IsFilledBefore a) (storage_count a) (map number_of l)) (sym c.as_slice-2.ensures.value) c.in_ok-traps.ensures.order in
    let number : length qubits ≡ circuit.qubits = omega (arith, ap length c.as_slice.ensures.value, c.in_ok-qubits.ensures.number) in
    let few : length qubits ≤ length traps = omega (arith, ap length c.as_slice-2.ensures.value, c.in_ok-traps.ensures.number, c.requires) in
    subst (λ (l : List TrapId). AreHomesByUse a circuit l) (sym c.of.ensures)
    (AreHomesByUse-set a circuit qubits traps c.in_ok-homes.homes.items used filled number few (omega (arith, c.in_ok-homes.ensures.number)) c.in_ok-homes.ensures.homes)

pub returns-clause-apart : goal.returns-clause-apart
returns-clause-apart c =
    let a = c.args.card.now in
    let circuit = c.args.circuit.now in
    let qubits = c.as_slice.result.now in
    let traps = c.as_slice-2.result.now in
    let used = subst (IsOrderBelow (IsUsedBefore circuit.ops) circuit.qubits) (sym c.as_slice.ensures.value) c.in_ok-qubits.ensures.order in
    let filled = subst (λ (l : List RankedTrap). IsOrderBelow (IsFilledBefore a) (storage_count a) (map number_of l)) (sym c.as_slice-2.ensures.value) c.in_ok-traps.ensures.order in
    let number : length qubits ≡ circuit.qubits = omega (arith, ap length c.as_slice.ensures.value, c.in_ok-qubits.ensures.number) in
    let few : length qubits ≤ length traps = omega (arith, ap length c.as_slice-2.ensures.value, c.in_ok-traps.ensures.number, c.requires) in
    subst (λ (l : List TrapId). AreApartInStorage a circuit.qubits l) (sym c.of.ensures)
    (AreApartInStorage-set a circuit qubits traps c.in_ok-homes.homes.items used filled number few (omega (arith, c.in_ok-homes.ensures.number)) c.in_ok-homes.ensures.homes)
