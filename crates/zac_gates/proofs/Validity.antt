-- What a walk over the ops knows of their validity.
use Rattle.std.proofs.Common.{◌≡◌, ℕ, ◌+◌, ◌<◌, ◌≤◌, ◌⊎◌, ◌↔◌, Bool, false, IsTrue, Some, List, length, refl, sym, ap, ◌∙◌, subst, inl, inr, ⊎_elim, arith, slice_get}
use Rattle.std.proofs.lemmas.Option.{same_Some, slice_get_within}
use Rattle.std.proofs.lemmas.Bool.{false≢true, cases_lt}
use Rattle.zac_gates.specs.declared.circuit.Op.{Op}
use Rattle.zac_gates.specs.declared.circuit.Op.TheVariants.{One, Two, Fence, Read}
use Rattle.zac_gates.specs.Ops.{NativeCircuit, Names, IsRead, IsInRange, IsReadBefore, IsValidAt, AreValidBelow, IsValid}

-- the test tells which qubits the ops before place n read
abbrev pub TellsReads : (ℕ → Bool) → List Op → ℕ → Type 0
TellsReads has ops n = (q : ℕ) → IsTrue (has q) ↔ IsReadBefore ops n q

pub valid_at : (c : NativeCircuit) (n : ℕ) (op : Op) (has : ℕ → Bool) → TellsReads has c.ops n →
    IsInRange c.qubits c.bits op → ((q : ℕ) → Names op q → has q ≡ false) → IsValidAt c n op
valid_at c n op has tells in_range apart =
    record {
      in_range = in_range;
      unread = λ q names before. false≢true (sym (apart q names) ∙ (tells q).1 before);
    }

pub valid_more : (c : NativeCircuit) (n : ℕ) (op : Op) → AreValidBelow c n → slice_get c.ops n ≡ Some op → IsValidAt c n op → AreValidBelow c (n + 1)
valid_more c n op below is valid k x lt at =
    ⊎_elim (λ (l : k < n). below k x l at)
    (λ (g : n ≤ k).
    let here : k ≡ n = omega arith in
    let same : op ≡ x = same_Some op x (sym is ∙ ap (slice_get c.ops) (sym here) ∙ at) in
    subst (λ (m : ℕ). IsValidAt c m x) (sym here) (subst (IsValidAt c n) same valid))
    (cases_lt k n)

pub valid_all : (c : NativeCircuit) (n : ℕ) → AreValidBelow c n → length c.ops ≤ n → IsValid c
valid_all c n below all k op at = below k op (omega (arith, slice_get_within c.ops k op at)) at

read_is : (op : Op) (q : ℕ) → IsRead op → Names op q → (bit : ℕ) × (op ≡ Read q bit)
read_is (One p angles) q read names = absurd read
read_is (Two a b) q read names = absurd read
read_is Fence q read names = absurd read
read_is (Read p bit) q read names = (bit, ap (λ (x : ℕ). Read x bit) names)

-- one op more
pub reads_more : (ops : List Op) (n : ℕ) (op : Op) (old new : ℕ → Bool) → slice_get ops n ≡ Some op → TellsReads old ops n →
    ((q : ℕ) → IsTrue (new q) ↔ (IsTrue (old q) ⊎ (IsRead op × Names op q))) → TellsReads new ops (n + 1)
reads_more ops n op old new is tells changes q = (
  λ yes. ⊎_elim
      (λ had. let before = (tells q).0 had in (before.0, before.1, omega (arith, before.2), before.3))
      (λ now. let found = read_is op q now.0 now.1 in (n, found.0, omega arith, is ∙ ap (λ (x : Op). Some x) found.1))
      ((changes q).0 yes),
  λ before. ⊎_elim
      (λ (l : before.0 < n). (changes q).1 (inl ((tells q).1 (before.0, before.1, l, before.3))))
      (λ (g : n ≤ before.0).
      let here : before.0 ≡ n = omega (arith, before.2) in
      let same : Read q before.1 ≡ op = same_Some (Read q before.1) op (sym before.3 ∙ ap (slice_get ops) here ∙ is) in
      let P : Op → Type 0 = λ x. IsRead x × Names x q in
      (changes q).1 (inr (subst P same (tt, refl))))
      (cases_lt before.0 n),
)
