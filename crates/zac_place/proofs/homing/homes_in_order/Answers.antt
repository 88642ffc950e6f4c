use Rattle.std.proofs.Common.{◌≡◌, ◌≢◌, ◌<◌, inl, inr, Some, length, get_or, set, sym, ap, ◌∙◌, arith}
use Rattle.std.proofs.lemmas.Bool.{cases_eq}
use Rattle.std.proofs.lemmas.List.{length-set, get_or-set_same, get_or-set_other}
use Rattle.std.proofs.lemmas.Option.{slice_get-get_or, slice_get_within, get_or_from_slice_get}
use Rattle.zac_arch.specs.declared.place.TrapId.{TrapId}
use Rattle.zac_place.proofs.HomeFacts.{nowhere}
use Rattle.zac_place.proofs.PlacingFacts.{one_place, element_at}
use Rattle.zac_place.proofs.homing.homes_in_order.Goals as goal

pub loop-k-preserved : goal.loop-k-preserved
loop-k-preserved c =
    let qubits = c.args.qubits.now in
    let traps = c.args.traps.now in
    let homes = c.loop-k.homes.items in
    let here = c.loop-k.k in
    let qubit = get_or qubits here 0 in
    let home : TrapId = record { 0 = (get_or traps here nowhere).number } in
    let len = length-set homes qubit home in
    record {
      number = len ∙ c.loop-k.invariant.number;
      homes = λ k q trap lt is_q is_trap.
          let q_at = element_at qubits k q is_q in
          let new : TrapId = record { 0 = trap.number } in
          elim (cases_eq k here) [
            | inl same ↦
                let same_qubit : qubit ≡ q = ap (λ i. get_or qubits i 0) (sym same) ∙ q_at.1 in
                let trap_is : get_or traps here nowhere ≡ trap = ap (λ i. get_or traps i nowhere) (sym same) ∙ get_or_from_slice_get traps k trap nowhere is_trap in
                let within : qubit < length homes = omega (arith, c.requires.below k 0 q_at.0, c.loop-k.invariant.number, q_at.1) in
                let at : get_or (set homes qubit home) q new ≡ new = ap (λ i. get_or (set homes qubit home) i new) (sym same_qubit) ∙ get_or-set_same homes qubit home new within ∙ ap (λ t. let h : TrapId = record { 0 = t.number } in h) trap_is in
                slice_get-get_or (set homes qubit home) q new (omega arith) ∙ ap (λ h. Some h) at
            | inr apart ↦
                let before = c.loop-k.invariant.homes k q trap (omega (arith, apart)) is_q is_trap in
                let within : q < length homes = slice_get_within homes q new before in
                let other : q ≢ qubit = λ same. apart (one_place qubits k here c.requires.distinct q_at.0 c.loop-k-test.true (q_at.1 ∙ same)) in
                slice_get-get_or (set homes qubit home) q new (omega arith) ∙ ap (λ h. Some h) (get_or-set_other homes qubit q home new other ∙ get_or_from_slice_get homes q new new before)
          ];
    }
