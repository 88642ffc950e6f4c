-- The measured moves are a phase.
use Rattle.std.proofs.Common.{◌≡◌, ◌≢◌, ℕ, ◌+◌, ◌<◌, ◌≤◌, Bool, true, false, inl, inr, List, [], ◌∷◌, ◌++◌, length, get_or, sym, ap, subst, arith}
use Rattle.std.proofs.lemmas.Bool.{cases_lt}
use Rattle.std.proofs.lemmas.List.{get_or_append_left, get_or_push, length_push}
use Rattle.zac_arch.specs.Architecture.{Architecture, storage_count, trap_count}
use Rattle.zac_arch.specs.declared.place.TrapId.{TrapId}
use Rattle.zac_group.specs.declared.shift.Shift.{Shift}
use Rattle.zac_group.specs.Groups.{IsPhase}
use Rattle.group_speed.specs.Moves.{AreMoves, place}

place_apart : (turned : Bool) (count i j : ℕ) → i < j → j < count → place turned count i ≢ place turned count j
place_apart true count i j lt within = omega arith
place_apart false count i j lt within = omega arith

place_within : (turned : Bool) (count k : ℕ) → k < count → place turned count k < count
place_within true count k lt = omega arith
place_within false count k lt = lt

at_push : (P : ℕ → Shift → Type 0) (ss : List Shift) (s : Shift) (n : ℕ) → length ss ≡ n → ((k : ℕ) (d : Shift) → k < n → P k (get_or ss k d)) → P n s → (k : ℕ) (d : Shift) → k < n + 1 → P k (get_or (ss ++ s ∷ []) k d)
at_push P ss s n long h last k d lt =
    elim (cases_lt k n) [
      | inl low ↦ subst (λ (t : Shift). P k t) (sym (get_or_append_left ss (s ∷ []) d k (omega arith))) (h k d low)
      | inr high ↦
          let e : n ≡ k = omega arith in
          subst (λ (t : Shift). P k t) (sym (get_or_push ss s d k (omega arith))) (subst (λ (m : ℕ). P m s) e last)
    ]

pub moves_push : (turned : Bool) (count n : ℕ) (ss new : List Shift) (s : Shift) → AreMoves turned count n ss →
    s.q ≡ n → s.from.0 ≡ n → s.to.0 ≡ 2048 + place turned count n → new ≡ ss ++ s ∷ [] → AreMoves turned count (n + 1) new
moves_push turned count n ss new s h q from to is =
    let long = h.long in
    subst (λ (l : List Shift). AreMoves turned count (n + 1) l) (sym is)
    (record {
      long = omega (arith, length_push ss s);
      qubits = at_push (λ k t. t.q ≡ k) ss s n long h.qubits q;
      sources = at_push (λ k t. t.from.0 ≡ k) ss s n long h.sources from;
      targets = at_push (λ k t. t.to.0 ≡ 2048 + place turned count k) ss s n long h.targets to;
    })

pub moves_phase : (a : Architecture) (turned : Bool) (count : ℕ) (ss : List Shift) → count ≤ 2048 → storage_count a ≡ 2048 → trap_count a ≡ 4096 → AreMoves turned count count ss → IsPhase a ss
moves_phase a turned count ss few storage traps h =
    let long = h.long in
    record {
      qubits = λ i j d lt j_in e. omega (arith, h.qubits i d (omega arith), h.qubits j d (omega arith));
      sources = λ i j d lt j_in e. omega (arith, h.sources i d (omega arith), h.sources j d (omega arith), ap (λ (t : TrapId). t.0) e);
      targets = λ i j d lt j_in e.
          let apart = place_apart turned count i j lt (omega arith) in
          omega (arith, h.targets i d (omega arith), h.targets j d (omega arith), ap (λ (t : TrapId). t.0) e);
      between = λ k d lt.
          let within = place_within turned count k (omega arith) in
          let from = h.sources k d (omega arith) in
          let to = h.targets k d (omega arith) in
          inl (omega arith, (omega arith, omega arith));
    }
