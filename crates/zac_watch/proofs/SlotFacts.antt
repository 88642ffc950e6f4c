-- Slots that are sorted.
use Rattle.std.proofs.Common.{◌≡◌, ◌==◌, ℕ, ◌+◌, ◌<◌, ◌≤◌, ◌⊎◌, inl, inr, true, false, cond, List, length, get_or, sym, ap, ◌∙◌, arith}
use Rattle.std.specs.List.{AllPairs}
use Rattle.std.specs.Ordering.{is_lt, nat_cmp, ordering_then}
use Rattle.std.specs.declared.cmp.Ordering.{Ordering}
use Rattle.std.specs.declared.cmp.Ordering.TheVariants.{Less, Equal, Greater}
use Rattle.std.proofs.lemmas.Bool.{cases_lt, cases_order, eq-eqb, le-ltb, lt-ltb}
use Rattle.std.proofs.lemmas.Cmp.{nat_cmp_total, on_total, then_total}
use Rattle.std.proofs.lemmas.List.Sorted.{ranks_by, sorted_far}
use Rattle.zac_watch.specs.declared.slot.Slot.{Slot}
use Rattle.zac_watch.specs.Slots.{IsNoLater}

cmp_less : (a b : ℕ) → a < b → nat_cmp a b ≡ Less
cmp_less a b lt = ap (λ t. cond t Less (cond (a == b) Equal Greater)) (lt-ltb a b lt)

cmp_equal : (a b : ℕ) → a ≡ b → nat_cmp a b ≡ Equal
cmp_equal a b e =
    ap (λ t. cond t Less (cond (a == b) Equal Greater)) (le-ltb a b (omega arith)) ∙ ap (λ t. cond t Equal Greater) (eq-eqb a b e)

-- what is not less than another by two numbers
not_before : (o : Ordering) (a b m n : ℕ) → is_lt (ordering_then (ordering_then (nat_cmp a b) (nat_cmp m n)) o) ≡ false →
    (b < a) ⊎ ((b ≡ a) × ((n < m) ⊎ ((n ≡ m) × (is_lt o ≡ false))))
not_before o a b m n h =
    elim (cases_order a b) [
      | inl e ↦
          let second : is_lt (ordering_then (nat_cmp m n) o) ≡ false = sym (ap (λ r. is_lt (ordering_then (ordering_then r (nat_cmp m n)) o)) (cmp_equal a b e)) ∙ h in
          elim (cases_order m n) [
            | inl same ↦ inr (sym e, inr (sym same, sym (ap (λ r. is_lt (ordering_then r o)) (cmp_equal m n same)) ∙ second))
            | inr w ↦ elim w [
              | inl lt ↦
                  let holds : is_lt (ordering_then (nat_cmp m n) o) ≡ true = ap (λ r. is_lt (ordering_then r o)) (cmp_less m n lt) in
                  absurd (let x : true ≡ false = sym holds ∙ second in cc)
              | inr gt ↦ inr (sym e, inl gt)
            ]
          ]
      | inr w ↦ elim w [
        | inl lt ↦
            let holds : is_lt (ordering_then (ordering_then (nat_cmp a b) (nat_cmp m n)) o) ≡ true =
            ap (λ r. is_lt (ordering_then (ordering_then r (nat_cmp m n)) o)) (cmp_less a b lt) in
            absurd (let x : true ≡ false = sym holds ∙ h in cc)
        | inr gt ↦ inl gt
      ]
    ]

not_less : (p q : ℕ) → is_lt (nat_cmp p q) ≡ false → q ≤ p
not_less p q h =
    elim (cases_lt p q) [
      | inl lt ↦ absurd (let x : true ≡ false = sym (ap is_lt (cmp_less p q lt)) ∙ h in cc)
      | inr ge ↦ ge
    ]

no_later : (x y : Slot) → is_lt (ordering_then (ordering_then (nat_cmp y.begin x.begin) (nat_cmp y.instr x.instr)) (nat_cmp y.place x.place)) ≡ false → IsNoLater x y
no_later x y h =
    elim (not_before (nat_cmp y.place x.place) y.begin x.begin y.instr x.instr h) [
      | inl less ↦ inl less
      | inr same ↦ elim same.1 [
        | inl less ↦ inr (same.0, inl less)
        | inr last ↦ inr (same.0, inr (last.0, not_less y.place x.place last.1))
      ]
    ]

-- slots that are sorted by begin, then instruction, then place
pub sorted_slots : (xs : List Slot) → ((k : ℕ) (d : Slot) → 0 ≤ k → k + 1 < length xs →
    is_lt (ordering_then (ordering_then (nat_cmp (get_or xs (k + 1) d).begin (get_or xs k d).begin) (nat_cmp (get_or xs (k + 1) d).instr (get_or xs k d).instr)) (nat_cmp (get_or xs (k + 1) d).place (get_or xs k d).place)) ≡ false) → AllPairs IsNoLater xs
sorted_slots xs sorted i j d lt j_in =
    let order = then_total (then_total (on_total (λ (s : Slot). s.begin) nat_cmp_total) (on_total (λ (s : Slot). s.instr) nat_cmp_total)) (on_total (λ (s : Slot). s.place) nat_cmp_total) in
    let far = sorted_far _ (ranks_by order (λ (s : Slot). s)) xs sorted i j d (omega arith) j_in in
    no_later (get_or xs i d) (get_or xs j d) far
