-- Numbers that compare as others do.
use Rattle.std.proofs.Common.{◌≡◌, ℕ, ◌<◌, ◌==◌, inl, inr, cond, sym, ap, ◌∙◌, arith}
use Rattle.std.specs.Ordering.{nat_cmp}
use Rattle.std.specs.declared.cmp.Ordering.TheVariants.{Less, Equal, Greater}
use Rattle.std.proofs.lemmas.Bool.{cases_order, eq-eqb, le-ltb, lt-ltb, ne_eqb}

pub cmp_less : (a b : ℕ) → a < b → nat_cmp a b ≡ Less
cmp_less a b lt = ap (λ t. cond t Less (cond (a == b) Equal Greater)) (lt-ltb a b lt)

pub cmp_equal : (a b : ℕ) → a ≡ b → nat_cmp a b ≡ Equal
cmp_equal a b e =
    ap (λ t. cond t Less (cond (a == b) Equal Greater)) (le-ltb a b (omega arith))
    ∙ ap (λ t. cond t Equal Greater) (eq-eqb a b e)

pub cmp_greater : (a b : ℕ) → b < a → nat_cmp a b ≡ Greater
cmp_greater a b gt =
    ap (λ t. cond t Less (cond (a == b) Equal Greater)) (le-ltb a b (omega arith))
    ∙ ap (λ t. cond t Equal Greater) (ne_eqb a b (λ e. omega arith))

pub cmp_flip : (a b c d : ℕ) → nat_cmp a b ≡ nat_cmp c d → nat_cmp b a ≡ nat_cmp d c
cmp_flip a b c d same =
    elim (cases_order a b) [
      | inl e ↦ elim (cases_order c d) [
        | inl f ↦ cmp_equal b a (sym e) ∙ sym (cmp_equal d c (sym f))
        | inr w ↦ elim w [
          | inl lt ↦ absurd (let x : Equal ≡ Less = sym (cmp_equal a b e) ∙ same ∙ cmp_less c d lt in cc)
          | inr gt ↦ absurd (let x : Equal ≡ Greater = sym (cmp_equal a b e) ∙ same ∙ cmp_greater c d gt in cc)
        ]
      ]
      | inr v ↦ elim v [
        | inl lt ↦ elim (cases_order c d) [
          | inl f ↦ absurd (let x : Less ≡ Equal = sym (cmp_less a b lt) ∙ same ∙ cmp_equal c d f in cc)
          | inr w ↦ elim w [
            | inl l ↦ cmp_greater b a lt ∙ sym (cmp_greater d c l)
            | inr g ↦ absurd (let x : Less ≡ Greater = sym (cmp_less a b lt) ∙ same ∙ cmp_greater c d g in cc)
          ]
        ]
        | inr gt ↦ elim (cases_order c d) [
          | inl f ↦ absurd (let x : Greater ≡ Equal = sym (cmp_greater a b gt) ∙ same ∙ cmp_equal c d f in cc)
          | inr w ↦ elim w [
            | inl l ↦ absurd (let x : Greater ≡ Less = sym (cmp_greater a b gt) ∙ same ∙ cmp_less c d l in cc)
            | inr g ↦ cmp_less b a gt ∙ sym (cmp_less d c g)
          ]
        ]
      ]
    ]
