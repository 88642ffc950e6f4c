-- Atoms that a crossing can catch.
use Rattle.std.proofs.Common.{◌≡◌, ◌≢◌, ℕ, ◌+◌, ◌-◌, ◌<◌, ◌≤◌, ◌⊎◌, inl, inr, Bool, IsTrue, eqb, eqb-true, eq-eqb, Option, Some, None, List, length, take, drop, get_or, refl, sym, ap, ◌∙◌, subst, arith, slice_get}
use Rattle.std.specs.List.{Any, Contains}
use Rattle.std.proofs.lemmas.Bool.{cases_lt, cases_order}
use Rattle.std.proofs.lemmas.List.{take_all, get_or-take, length-take, get_or-drop, length-drop}
use Rattle.std.proofs.lemmas.Option.{slice_get_within, slice_get-get_or, get_or_from_slice_get}
use Rattle.zac_arch.specs.Architecture.{Architecture, StandsAt}
use Rattle.zac_arch.specs.declared.place.Point.{Point}
use Rattle.zac_arch.specs.declared.place.TrapId.{TrapId}
use Rattle.zair_form.specs.declared.step.Beam.{Beam}
use Rattle.zair_form.specs.declared.step.Caught.{Caught}
use Rattle.zair_state.specs.declared.place.Place.{Place}
use Rattle.zair_state.specs.declared.place.Place.TheVariants.{Trap, Held}
use Rattle.zair_state.specs.Legal.{Picks}
use Rattle.zair_state.specs.Least.{IsLeastOf, lesser_of, number_if}
use Rattle.zair_state.specs.State.{State, IsAt, HasId, crossing, IsFreeOfOthers}
use Rattle.zair_state.proofs.BeamLists.{Rising, one_of_id, has_id}
use Rattle.zair_state.proofs.Minima.{Same, any_id, same_or, least_of_either, least_one, least_same}

pub stands_told : (a : Architecture) (t u : ℕ) (p : Point) → ((t u : ℕ) (p : Point) → StandsAt a t p → StandsAt a u p → t ≡ u) → StandsAt a u p → Same (IsTrue (eqb u t)) (StandsAt a t p)
stands_told a t u p one at = (λ e. subst (λ (n : ℕ). StandsAt a n p) (eqb-true u t e) at, λ h. eq-eqb u t (one u t p at h))

same_trap : (t u : TrapId) → Some (Trap t) ≡ Some (Trap u) → t ≡ u
same_trap t u e = cc

pub rests_told : (a : Architecture) (s : State) (q : ℕ) (home : TrapId) (p : Point) (test : Bool) → IsAt s q (Trap home) → Same (IsTrue test) (StandsAt a home.0 p) → Same (IsTrue test) ((trap : TrapId) × IsAt s q (Trap trap) × StandsAt a trap.0 p)
rests_told a s q home p test at told =
    (λ t. (home, at, told.0 t), λ h. told.1 (subst (λ (x : TrapId). StandsAt a x.0 p) (same_trap h.0 home (sym h.1 ∙ at)) h.2))

pub held_rests_not : (a : Architecture) (s : State) (q k row column : ℕ) (p : Point) → IsAt s q (Held k row column) → ¬ ((trap : TrapId) × IsAt s q (Trap trap) × StandsAt a trap.0 p)
held_rests_not a s q k row column p at h = let e = h.1 in absurd (cc)

-- what is asked of a catch where its crossing stands
abbrev pub PicksHere : Architecture → State → ℕ → List Beam → List Beam → Caught → Point → Type 0
PicksHere a s aod rows columns c p =
    (Any (λ (b : Beam). b.id ≡ c.row) rows ⊎ Any (λ (b : Beam). b.id ≡ c.column) columns)
    × ((trap : TrapId) × IsAt s c.q (Trap trap) × StandsAt a trap.0 p)
    × IsFreeOfOthers a s aod p

pub picks_told : (a : Architecture) (s : State) (aod : ℕ) (new_rows new_columns rows columns : List Beam) (c : Caught) (p : Point) (test : Bool) → Rising rows → Rising columns
    → Contains rows (record { id = c.row; at = p.y }) × Contains columns (record { id = c.column; at = p.x }) → Same (IsTrue test) (PicksHere a s aod new_rows new_columns c p) → Same (IsTrue test) (Picks a s aod new_rows new_columns rows columns c)
picks_told a s aod new_rows new_columns rows columns c p test up across at told =
    let row : Beam = record { id = c.row; at = p.y } in
    let column : Beam = record { id = c.column; at = p.x } in
    let either = same_or _ _ _ _ (any_id new_rows c.row) (any_id new_columns c.column) in (
      λ t. let h = told.0 t in record {
        row = row;
        column = column;
        row_active = at.0;
        column_active = at.1;
        row_named = refl;
        column_named = refl;
        new = either.0 h.0;
        trap = h.1.0;
        rests = h.1.1;
        exact = h.1.2;
        free = h.2;
      },
      λ h.
          let er : h.row ≡ row = one_of_id rows h.row row up h.row_active at.0 h.row_named in
          let ec : h.column ≡ column = one_of_id columns h.column column across h.column_active at.1 h.column_named in
          let e : crossing h.row h.column ≡ p = ap (λ (b : Beam). crossing b h.column) er ∙ ap (λ (b : Beam). crossing row b) ec in
          told.1 (either.1 h.new, (h.trap, h.rests, subst (λ (q : Point). StandsAt a h.trap.0 q) e h.exact), subst (λ (q : Point). IsFreeOfOthers a s aod q) e h.free),
    )

pub picks_nowhere : (a : Architecture) (s : State) (aod : ℕ) (new_rows new_columns rows columns : List Beam) (c : Caught) → ¬ (HasId rows c.row × HasId columns c.column) → ¬ Picks a s aod new_rows new_columns rows columns c
picks_nowhere a s aod new_rows new_columns rows columns c none h =
    none (subst (HasId rows) h.row_named (has_id rows h.row h.row_active), subst (HasId columns) h.column_named (has_id columns h.column h.column_active))

-- another place of a list than the k-th
pub others_told : {X : Type 0} (R : X → Type 0) (xs : List X) (k : ℕ) → k < length xs → Same (Any R (take k xs) ⊎ Any R (drop (k + 1) xs)) ((d : X) × (j : ℕ) × (slice_get xs j ≡ Some d) × (k ≢ j) × R d)
others_told R xs k lt = (
  λ h. elim h [
    | inl x ↦
        let within : x.0 < k = omega (arith, x.2, length-take k xs) in
        let at : get_or xs x.0 x.1 ≡ x.1 = sym (get_or-take k xs x.0 x.1 within) ∙ x.3 in
        (x.1, x.0, slice_get-get_or xs x.0 x.1 (omega (arith, within, lt)) ∙ ap (λ y. Some y) at, (λ e. absurd (omega (arith, e, within))), x.4)
    | inr x ↦
        let within : x.0 + (k + 1) < length xs = omega (arith, x.2, length-drop (k + 1) xs) in
        let at : get_or xs (k + 1 + x.0) x.1 ≡ x.1 = sym (get_or-drop (k + 1) xs x.0 x.1) ∙ x.3 in
        (x.1, k + 1 + x.0, slice_get-get_or xs (k + 1 + x.0) x.1 (omega (arith, within)) ∙ ap (λ y. Some y) at, (λ e. absurd (omega (arith, e))), x.4)
  ],
  λ h.
      let within = slice_get_within xs h.1 h.0 h.2 in
      let at = get_or_from_slice_get xs h.1 h.0 h.0 h.2 in
      elim (cases_order h.1 k) [
        | inl e ↦ absurd (h.3 (sym e))
        | inr other ↦ elim other [
          | inl less ↦ inl (h.1, h.0, omega (arith, less, lt, length-take k xs), get_or-take k xs h.1 h.0 less ∙ at, h.4)
          | inr more ↦
              let i = h.1 - (k + 1) in
              let back : k + 1 + i ≡ h.1 = omega arith in
              inr (i, h.0, omega (arith, within, more, length-drop (k + 1) xs), get_or-drop (k + 1) xs i h.0 ∙ ap (λ j. get_or xs j h.0) back ∙ at, h.4)
        ]
      ],
)

-- items at places with a property of both, by their keys
module _ {X : Type 0} (key : X → ℕ) (R : ℕ → X → Type 0) (xs : List X) where
  abbrev pub KeyAt : ℕ → ℕ → Type 0
  KeyAt n id = (c : X) × (i : ℕ) × (i < n) × (slice_get xs i ≡ Some c) × (key c ≡ id) × R i c

  pub least_at_start : IsLeastOf (KeyAt 0) None
  least_at_start = λ n h. let lt = h.2 in absurd (omega arith)

  pub least_at_more : (k : ℕ) (d : X) (test : Bool) (o : Option ℕ) → k < length xs → Same (IsTrue test) (R k (get_or xs k d)) → IsLeastOf (KeyAt k) o → IsLeastOf (KeyAt (k + 1)) (lesser_of o (number_if test (key (get_or xs k d))))
  least_at_more k d test o lt same h =
      let x = get_or xs k d in
      let at : slice_get xs k ≡ Some x = slice_get-get_or xs k d lt in
      least_of_either (KeyAt k) (λ n. R k x × (key x ≡ n)) (KeyAt (k + 1)) o (number_if test (key x))
      (λ n y. elim (cases_lt y.1 k) [
        | inl less ↦ inl (y.0, y.1, less, y.3, y.4, y.5)
        | inr last ↦
            let e : y.1 ≡ k = let more = y.2 in omega arith in
            let there : slice_get xs k ≡ Some y.0 = ap (slice_get xs) (sym e) ∙ y.3 in
            let same : y.0 ≡ x = cc in
            inr (subst (λ z. R k z) same (subst (λ j. R j y.0) e y.5), ap key (sym same) ∙ y.4)
      ])
      (λ n y. (y.0, y.1, let lt = y.2 in omega arith, y.3, y.4, y.5))
      (λ n y. (x, k, omega arith, at, y.1, y.0))
      h (least_one (R k x) test (key x) same)

  pub least_at_whole : (k : ℕ) (o : Option ℕ) → length xs ≤ k → IsLeastOf (KeyAt k) o → IsLeastOf (λ id. (c : X) × (i : ℕ) × (slice_get xs i ≡ Some c) × (key c ≡ id) × R i c) o
  least_at_whole k o le h =
      least_same (KeyAt k) (λ id. (c : X) × (i : ℕ) × (slice_get xs i ≡ Some c) × (key c ≡ id) × R i c) o
      (λ id. (λ y. (y.0, y.1, y.3, y.4, y.5), λ y. (y.0, y.1, let lt = slice_get_within xs y.1 y.0 y.2 in omega arith, y.2, y.3, y.4))) h

-- numbers below which none has the property
abbrev pub NoneBelow : (ℕ → Type 0) → ℕ → Type 0
NoneBelow P n = (m : ℕ) → m < n → ¬ P m

pub none_below_start : (P : ℕ → Type 0) → NoneBelow P 0
none_below_start P m lt = absurd (omega arith)

pub none_below_more : (P : ℕ → Type 0) (n : ℕ) → NoneBelow P n → ¬ P n → NoneBelow P (n + 1)
none_below_more P n below here m lt h = elim (cases_lt m n) [
  | inl less ↦ below m less h
  | inr le ↦ let e : m ≡ n = omega arith in here (subst P e h)
]

pub first_of_all : (P : ℕ → Type 0) (n : ℕ) → NoneBelow P n → P n → IsLeastOf P (Some n)
first_of_all P n below here = (here, λ m h. elim (cases_lt m n) [ inl less ↦ absurd (below m less h) | inr le ↦ le ])

pub none_of_all : (P : ℕ → Type 0) (n most : ℕ) → most ≤ n → ((m : ℕ) → P m → m < most) → NoneBelow P n → IsLeastOf P None
none_of_all P n most le bound below m h = below m (let lt = bound m h in omega arith) h

pub held_same : (k row column k' row' column' : ℕ) → Held k row column ≡ Held k' row' column' → (k ≡ k') × (row ≡ row') × (column ≡ column')
held_same k row column k' row' column' e = (cc, cc, cc)

pub place_same : (s : State) (q : ℕ) (x y : Place) → IsAt s q x → IsAt s q y → x ≡ y
place_same s q x y h k = let e : Some x ≡ Some y = sym h ∙ k in cc

-- the rest of a list as it is cut off
pub rest_of : {X : Type 0} (xs : List X) (k : ℕ) → take (length xs - k) (drop k xs) ≡ drop k xs
rest_of xs k = take_all (length xs - k) (drop k xs) (omega (arith, length-drop k xs))
