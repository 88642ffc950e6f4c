-- Numbers that compare as two others do.
use Rattle.std.proofs.Common.{◌≡◌, ℕ, ◌<◌, ◌==◌, inl, inr, cond, sym, ap, ◌∙◌, arith}
use Rattle.std.specs.Ordering.{nat_cmp}
use Rattle.std.specs.declared.cmp.Ordering.TheVariants.{Less, Equal, Greater}
use Rattle.std.proofs.lemmas.Bool.{cases_order, eq-eqb, le-ltb, lt-ltb, ne_eqb}

cmp_less : (a b : ℕ) → a < b → nat_cmp a b ≡ Less
cmp_less a b lt = ap (λ t. cond t Less (cond (a == b) Equal Greater)) (lt-ltb a b lt)

cmp_equal : (a b : ℕ) → a ≡ b → nat_cmp a b ≡ Equal
cmp_equal a b e =
    ap (λ t. cond t Less (cond (a == b) Equal Greater)) (le-ltb a b (omega arith))
    ∙ ap (λ t. cond t Equal Greater) (eq-eqb a b e)

cmp_greater : (a b : ℕ) → b < a → nat_cmp a b ≡ Greater
cmp_greater a b gt =
    ap (λ t. cond t Less (cond (a == b) Equal Greater)) (le-ltb a b (omega arith))
    ∙ ap (λ t. cond t Equal Greater) (ne_eqb a b (λ e. omega arith))

-- if those are equal, so are these
pub equal_as : (a b c d : ℕ) → nat_cmp a b ≡ nat_cmp c d → a ≡ b → c ≡ d
equal_as a b c d same e =
    elim (cases_order c d) [
      | inl f ↦ f
      | inr w ↦ elim w [
        | inl lt ↦ absurd (let x : Equal ≡ Less = sym (cmp_equal a b e) ∙ same ∙ cmp_less c d lt in cc)
        | inr gt ↦ absurd (let x : Equal ≡ Greater = sym (cmp_equal a b e) ∙ same ∙ cmp_greater c d gt in cc)
      ]
    ]

-- if the first of those is below the second, so it is of these
pub less_as : (a b c d : ℕ) → nat_cmp a b ≡ nat_cmp c d → a < b → c < d
less_as a b c d same lt =
    elim (cases_order c d) [
      | inl f ↦ absurd (let x : Less ≡ Equal = sym (cmp_less a b lt) ∙ same ∙ cmp_equal c d f in cc)
      | inr w ↦ elim w [
        | inl below ↦ below
        | inr gt ↦ absurd (let x : Less ≡ Greater = sym (cmp_less a b lt) ∙ same ∙ cmp_greater c d gt in cc)
      ]
    ]

-- if the first of those is above the second, so it is of these
pub greater_as : (a b c d : ℕ) → nat_cmp a b ≡ nat_cmp c d → b < a → d < c
greater_as a b c d same gt =
    elim (cases_order c d) [
      | inl f ↦ absurd (let x : Greater ≡ Equal = sym (cmp_greater a b gt) ∙ same ∙ cmp_equal c d f in cc)
      | inr w ↦ elim w [
        | inl lt ↦ absurd (let x : Greater ≡ Less = sym (cmp_greater a b gt) ∙ same ∙ cmp_less c d lt in cc)
        | inr above ↦ above
      ]
    ]
