-- Qubits in their order rest in traps in theirs.
use Rattle.std.proofs.Common.{ℕ, ◌≡◌, ◌≢◌, ◌<◌, ◌≤◌, inl, inr, List, Some, length, map, get_or, sym, ap, ◌∙◌, subst, arith}
use Rattle.std.specs.List.{slice_get}
use Rattle.std.proofs.lemmas.List.{length-map, get_or-map, get_or_default}
use Rattle.std.proofs.lemmas.Option.{slice_get-get_or, get_or_from_slice_get}
use Rattle.zac_arch.specs.Architecture.{Architecture, storage_count}
use Rattle.zac_arch.specs.declared.place.TrapId.{TrapId}
use Rattle.zac_gates.specs.Ops.{NativeCircuit}
use Rattle.zac_place.specs.Homes.{rise, run, IsUsedBefore, IsFilledBefore, IsOrderBelow, AreHomesByUse, AreApartInStorage}
use Rattle.zac_place.specs.Ranks.{number_of}
use Rattle.zac_place.specs.declared.offsets.RankedTrap.{RankedTrap}
use Rattle.zac_place.proofs.PlacingFacts.{one_place, element_at}
use Rattle.zac_place.proofs.UseFacts.{once}

-- a trap is not filled before itself
filled_apart : (a : Architecture) (t u : ℕ) → IsFilledBefore a t u → t ≢ u
filled_apart a t u (inl lower) same = let e = ap (rise a) same in omega arith
filled_apart a t u (inr (level, inl nearer)) same = let e = ap (run a) same in omega arith
filled_apart a t u (inr (level, inr (even, lt))) same = omega arith

-- some trap
abbrev pub nowhere : RankedTrap
nowhere = record { rise = 0; run = 0; number = 0 }

module _ (a : Architecture) (c : NativeCircuit) (qubits : List ℕ) (traps : List RankedTrap) (homes : List TrapId) (used : IsOrderBelow (IsUsedBefore c.ops) c.qubits qubits) (filled : IsOrderBelow (IsFilledBefore a) (storage_count a) (map number_of traps)) (qubits_len : length qubits ≡ c.qubits) (few : length qubits ≤ length traps) (homes_len : length homes ≡ length qubits) (set : (k q : ℕ) (trap : RankedTrap) → slice_get qubits k ≡ Some q → slice_get traps k ≡ Some trap → slice_get homes q ≡ Some (record { 0 = trap.number })) where
  pub AreHomesByUse-set : AreHomesByUse a c homes
  AreHomesByUse-set =
      record {
        qubits = qubits;
        traps = map number_of traps;
        used = used;
        filled = filled;
        each = homes_len ∙ qubits_len;
        rest = λ k q t is_q is_t.
            let e = element_at (map number_of traps) k t is_t in
            let within : k < length traps = omega (arith, e.0, length-map traps number_of) in
            let number : (get_or traps k nowhere).number ≡ t = sym (get_or-map number_of traps k nowhere 0 within) ∙ e.1 in
            set k q (get_or traps k nowhere) is_q (slice_get-get_or traps k nowhere within) ∙ ap (λ (n : ℕ). let h : TrapId = record { 0 = n } in Some h) number;
      }

  -- the home of a qubit is the trap at its place in the order
  home_at : (q : ℕ) (d : TrapId) → q < length homes → (k : ℕ) × (k < length qubits) × (get_or qubits k 0 ≡ q) × ((get_or homes q d).0 ≡ get_or (map number_of traps) k 0)
  home_at q d q_in =
      let has = used.all q (omega arith) in
      let k = has.0 in
      let k_in : k < length qubits = has.1 in
      let within : k < length traps = omega arith in
      let at : get_or qubits k 0 ≡ q = get_or_default qubits k 0 q k_in ∙ has.2 in
      let home : slice_get homes q ≡ Some (record { 0 = (get_or traps k nowhere).number }) = set k q (get_or traps k nowhere) (slice_get-get_or qubits k 0 k_in ∙ ap (λ n. Some n) at) (slice_get-get_or traps k nowhere within) in
      (k, k_in, at, ap (λ (h : TrapId). h.0) (get_or_from_slice_get homes q (record { 0 = (get_or traps k nowhere).number }) d home) ∙ sym (get_or-map number_of traps k nowhere 0 within))

  pub AreApartInStorage-set : AreApartInStorage a c.qubits homes
  AreApartInStorage-set =
      let len : length (map number_of traps) ≡ length traps = length-map traps number_of in
      record {
        each = homes_len ∙ qubits_len;
        in_storage = λ q d q_in.
            let home = home_at q d q_in in
            subst (λ (n : ℕ). n < storage_count a) (sym home.3) (filled.below home.0 0 (omega (arith, home.1)));
        distinct = λ p q d lt q_in same.
            let one = home_at p d (omega arith) in
            let other = home_at q d q_in in
            let place : one.0 ≡ other.0 = one_place (map number_of traps) one.0 other.0 (once (IsFilledBefore a) (filled_apart a) (map number_of traps) filled.in_order) (omega (arith, one.1)) (omega (arith, other.1)) (sym one.3 ∙ same ∙ other.3) in
            let qubit : p ≡ q = sym one.2 ∙ ap (λ k. get_or qubits k 0) place ∙ other.2 in
            omega arith;
      }
