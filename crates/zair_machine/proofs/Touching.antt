-- The first crossing of rows and columns with a property.
use Rattle.std.proofs.Common.{◌≡◌, ℕ, ◌+◌, ◌<◌, ◌≤◌, inl, inr, List, [], Some, None, length, get_or, take, refl, sym, ap, ◌∙◌, subst, arith}
use Rattle.std.specs.List.{AllPairs, Contains}
use Rattle.std.proofs.lemmas.Bool.{cases_order}
use Rattle.std.proofs.lemmas.List.{take_more, take_all, get_or_default, get_or-take, length-take}
use Rattle.zair_form.specs.declared.step.Beam.{Beam}
use Rattle.zair_state.specs.Least.{IsLeastPairOf, IsNoLater}
use Rattle.zair_state.proofs.Membership.{contains_none}
use Rattle.zair_state.proofs.Minima.{contains_end}

module _ (T : Beam → Beam → Type 0) where
  -- no crossing of these rows and columns has the property
  abbrev pub NoTouch : List Beam → List Beam → Type 0
  NoTouch rows columns = (row column : Beam) → Contains rows row → Contains columns column → ¬ T row column

  pub none_touch : (columns : List Beam) → NoTouch [] columns
  none_touch columns row column h k = absurd (contains_none row h)

  pub no_more_touch : (rows columns : List Beam) (k : ℕ) (d : Beam) → k < length rows → NoTouch (take k rows) columns → ((id : ℕ) → ¬ ((column : Beam) × Contains columns column × T (get_or rows k d) column × (column.id ≡ id))) → NoTouch (take (k + 1) rows) columns
  no_more_touch rows columns k d lt before here row column in_rows in_columns t =
      elim (contains_end (take k rows) (get_or rows k d) row (subst (λ (l : List Beam). Contains l row) (take_more rows k d lt) in_rows)) [
        | inl there ↦ before row column there in_columns t
        | inr e ↦ here column.id (column, in_columns, subst (λ (b : Beam). T b column) (sym e) t, refl)
      ]

  -- the pairs of ids of such crossings
  abbrev pub Pair : List Beam → List Beam → ℕ → ℕ → Type 0
  Pair rows columns r c = (row : Beam) × (column : Beam) × Contains rows row × Contains columns column × (row.id ≡ r) × (column.id ≡ c) × T row column

  taken : (rows : List Beam) (k i : ℕ) (d : Beam) → i < k → i < length rows → Contains (take k rows) (get_or rows i d)
  taken rows k i d lt within = (i, omega (arith, length-take k rows), get_or-take k rows i _ lt ∙ get_or_default rows i _ d within)

  pub touches_first : (rows columns : List Beam) (k : ℕ) (d : Beam) (id : ℕ) → AllPairs (λ (b c : Beam). b.id < c.id) rows → k < length rows → NoTouch (take k rows) columns → ((column : Beam) × Contains columns column × T (get_or rows k d) column × (column.id ≡ id)) → ((n : ℕ) → ((column : Beam) × Contains columns column × T (get_or rows k d) column × (column.id ≡ n)) → id ≤ n) → IsLeastPairOf (Pair rows columns) (Some ((get_or rows k d).id, id))
  touches_first rows columns k d id rising lt before here least =
      let row = get_or rows k d in (
        (row, here.0, (k, lt, get_or_default rows k row d lt), here.1, refl, here.3, here.2),
        λ m n p.
            let at : get_or rows p.2.0 d ≡ p.0 = get_or_default rows p.2.0 d p.0 p.2.1 ∙ p.2.2 in
            elim (cases_order p.2.0 k) as (λ _. IsNoLater (row.id, id) (m, n)) [
              | inl e ↦
                  let same : row ≡ p.0 = ap (λ (i : ℕ). get_or rows i d) (sym e) ∙ at in
                  inr (ap (λ (b : Beam). b.id) same ∙ p.4, least n (p.1, p.3, subst (λ (b : Beam). T b p.1) (sym same) p.6, p.5))
              | inr other ↦ elim other [
                | inl less ↦ absurd (before p.0 p.1 (subst (λ (b : Beam). Contains (take k rows) b) at (taken rows k p.2.0 d less p.2.1)) p.3 p.6)
                | inr more ↦
                    let far = rising k p.2.0 d more p.2.1 in
                    let last : (get_or rows p.2.0 d).id ≡ m = ap (λ (b : Beam). b.id) at ∙ p.4 in
                    inl (omega arith)
              ]
            ],
      )

  pub never_touches : (rows columns : List Beam) (k : ℕ) → length rows ≤ k → NoTouch (take k rows) columns → IsLeastPairOf (Pair rows columns) None
  never_touches rows columns k le none m n p = none p.0 p.1 (subst (λ (l : List Beam). Contains l p.0) (sym (take_all k rows le)) p.2) p.3 p.6
