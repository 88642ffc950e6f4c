-- The measured moves are a phase.
use Rattle.std.proofs.Common.{◌≡◌, ◌≢◌, ℕ, ◌+◌, ◌*◌, ◌<◌, ◌≤◌, inl, inr, List, [], ◌∷◌, ◌++◌, length, get_or, sym, ap, subst, arith}
use Rattle.std.proofs.lemmas.Bool.{cases_lt}
use Rattle.std.proofs.lemmas.List.{get_or_append_left, get_or_push, length_push}
use Rattle.zac_arch.specs.Architecture.{Architecture, storage_count, trap_count}
use Rattle.zac_arch.specs.declared.place.TrapId.{TrapId}
use Rattle.zac_group.specs.declared.shift.Shift.{Shift}
use Rattle.zac_group.specs.Groups.{IsPhase}
use Rattle.lower_speed.specs.Moves.{AreMoves}

at_push : (P : ℕ → Shift → Type 0) (ss : List Shift) (s : Shift) (n : ℕ) → length ss ≡ n → ((k : ℕ) (d : Shift) → k < n → P k (get_or ss k d)) → P n s → (k : ℕ) (d : Shift) → k < n + 1 → P k (get_or (ss ++ s ∷ []) k d)
at_push P ss s n long h last k d lt =
    elim (cases_lt k n) [
      | inl low ↦ subst (λ (t : Shift). P k t) (sym (get_or_append_left ss (s ∷ []) d k (omega arith))) (h k d low)
      | inr high ↦
          let e : n ≡ k = omega arith in
          subst (λ (t : Shift). P k t) (sym (get_or_push ss s d k (omega arith))) (subst (λ (m : ℕ). P m s) e last)
    ]

pub moves_push : (traps n : ℕ) (ss new : List Shift) (s : Shift) → AreMoves traps n ss →
    s.q ≡ n → s.from.0 ≡ n → s.to.0 ≡ traps + n → new ≡ ss ++ s ∷ [] → AreMoves traps (n + 1) new
moves_push traps n ss new s h q from to is =
    let long = h.long in
    subst (λ (l : List Shift). AreMoves traps (n + 1) l) (sym is)
    (record {
      long = omega (arith, length_push ss s);
      qubits = at_push (λ k t. t.q ≡ k) ss s n long h.qubits q;
      sources = at_push (λ k t. t.from.0 ≡ k) ss s n long h.sources from;
      targets = at_push (λ k t. t.to.0 ≡ traps + k) ss s n long h.targets to;
    })

pub moves_phase : (a : Architecture) (traps : ℕ) (ss : List Shift) → storage_count a ≡ traps → trap_count a ≡ 2 * traps → AreMoves traps traps ss → IsPhase a ss
moves_phase a traps ss storage all h =
    let long = h.long in
    record {
      qubits = λ i j d lt j_in e. omega (arith, h.qubits i d (omega arith), h.qubits j d (omega arith));
      sources = λ i j d lt j_in e. omega (arith, h.sources i d (omega arith), h.sources j d (omega arith), ap (λ (t : TrapId). t.0) e);
      targets = λ i j d lt j_in e. omega (arith, h.targets i d (omega arith), h.targets j d (omega arith), ap (λ (t : TrapId). t.0) e);
      between = λ k d lt.
          let from = h.sources k d (omega arith) in
          let to = h.targets k d (omega arith) in
          inl (omega arith, (omega arith, omega arith));
    }
