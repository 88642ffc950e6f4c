-- A step that breaks no condition is legal.
use Rattle.std.proofs.Common.{◌≡◌, ◌≢◌, ℕ, suc, ◌+◌, ◌<◌, ◌≤◌, ◌⊎◌, inl, inr, Bool, true, cond, List, [], ◌∷◌, Some, length, get_or, map, refl, sym, ap, ◌∙◌, subst, arith, slice_get, leb, le-leb}
use Rattle.std.specs.List.{All, AllPairs, Any, Contains, count_by}
use Rattle.std.proofs.lemmas.Bool.{cases_eq, cases_lt}
use Rattle.std.proofs.lemmas.List.Sums.{sum_by-cons}
use Rattle.std.proofs.lemmas.Option.{slice_get_within, slice_get-get_or}
use Rattle.zac_arch.specs.Architecture.{Architecture, StandsAt}
use Rattle.zac_arch.specs.declared.place.TrapId.{TrapId}
use Rattle.zair_form.specs.declared.step.Beam.{Beam}
use Rattle.zair_form.specs.declared.step.Caught.{Caught}
use Rattle.zair_form.specs.declared.step.Dropped.{Dropped}
use Rattle.zair_form.specs.declared.step.OneGate.{OneGate}
use Rattle.zair_form.specs.declared.step.PairOf.{PairOf}
use Rattle.zair_form.specs.declared.step.ReadOf.{ReadOf}
use Rattle.zair_form.specs.declared.step.Step.{Step}
use Rattle.zair_form.specs.declared.step.Step.TheVariants.{Activate, Move, Deactivate, One, Pulse, Readout}
use Rattle.zair_state.specs.declared.fault.Axis.{Axis}
use Rattle.zair_state.specs.declared.fault.Axis.TheVariants.{Row, Column}
use Rattle.zair_state.specs.declared.fault.MachineFault.{MachineFault}
use Rattle.zair_state.specs.declared.fault.MachineFault.TheVariants.{Unknown, Busy, NotActive, Limit, Order, Gap, Touch, PickWrong, DropWrong, TrapFull, PairWrong, LitAlone, NotAtRest, Crossing}
use Rattle.zair_state.specs.declared.place.Place.TheVariants.{Trap, Held}
use Rattle.zair_state.specs.State.{State, beams_of, IsAt, HasId, crossing, IsFreeOfOthers, ArePlaced, AreInRange}
use Rattle.zair_state.specs.Legal.{IsLegal, AreOnce, AreFresh, ListsActive, Picks, Drops, Rests, IsPairOf}
use Rattle.zair_state.specs.Result.{with_beams}
use Rattle.zair_state.specs.Faults.{along, active, ids, IsTwice, IsOneTooMany, IsOffField, AreSameCatch, IsOnTrapWithAtom}
use Rattle.zair_state.specs.FirstFault.{Breaks}
use Rattle.zair_state.proofs.Membership.{contains_none, contains_cases, contains_here, contains_later, contains_map, all_from_contains, any_or_none, any_from_contained}
use Rattle.zair_state.proofs.BeamLists.{has_id}
use Rattle.zair_state.proofs.Changing.{within_back}
use Rattle.zair_state.proofs.Deciding.{Told, told_and, told_or, told_has, told_contained, told_stands, told_free, told_clear, told_on_trap, told_held, told_held_by, told_in_range, where_is, InTrap, InBeams, Nowhere}

-- what can be told holds where it can't fail
pub sure : {P : Type 0} → Told P → ¬ ¬ P → P
sure told h = elim told [ inl does ↦ does | inr doesnt ↦ absurd (h doesnt) ]

pub once_from : (ns : List ℕ) → ((n : ℕ) → ¬ IsTwice ns n) → AreOnce ns
once_from ns h i j d before within e =
    h (get_or ns j d) (
      i,
      j,
      before,
      slice_get-get_or ns i d (omega arith) ∙ ap (λ (n : ℕ). Some n) e,
      slice_get-get_or ns j d within,
    )

-- the greatest of the ids
greatest : (b : Beam) (beams : List Beam) → (m : Beam) × Contains (b ∷ beams) m × ((c : Beam) → Contains (b ∷ beams) c → c.id ≤ m.id)
greatest b [] = (
  b,
  contains_here b [],
  λ c in_list. elim (contains_cases b c [] in_list) [
    | inl e ↦ let same : b.id ≡ c.id = ap (λ (x : Beam). x.id) e in omega arith
    | inr none ↦ absurd (contains_none c none)
  ],
)
greatest b (c ∷ cs) =
    let r = greatest c cs in
    elim (cases_lt r.0.id b.id) [
      | inl lt ↦ (
        b,
        contains_here b (c ∷ cs),
        λ x in_list. elim (contains_cases b x (c ∷ cs) in_list) [
          | inl e ↦ let same : b.id ≡ x.id = ap (λ (y : Beam). y.id) e in omega arith
          | inr later ↦ let most = r.2 x later in omega arith
        ],
      )
      | inr ge ↦ (
        r.0,
        contains_later b r.0 (c ∷ cs) r.1,
        λ x in_list. elim (contains_cases b x (c ∷ cs) in_list) [
          | inl e ↦ let same : b.id ≡ x.id = ap (λ (y : Beam). y.id) e in omega arith
          | inr later ↦ r.2 x later
        ],
      )
    ]

one_more : (m n k : ℕ) → m ≡ 1 → n ≡ k → m + n ≡ suc k
one_more m n k e f = omega arith

all_counted : (beams : List Beam) (id : ℕ) → ((c : Beam) → Contains beams c → c.id ≤ id) → count_by (λ (b : Beam). leb b.id id) beams ≡ length beams
all_counted [] id h = refl
all_counted (b ∷ bs) id h =
    let rest = all_counted bs id (λ c later. h c (contains_later b c bs later)) in
    let first : leb b.id id ≡ true = le-leb b.id id (h b (contains_here b bs)) in
    sum_by-cons (λ (x : Beam). cond (leb x.id id) 1 0) b bs
    ∙ one_more (cond (leb b.id id) 1 0) (count_by (λ (x : Beam). leb x.id id) bs) (length bs) (ap (λ (t : Bool). cond t 1 0) first) rest

too_many : (most : ℕ) (beams : List Beam) → most < length beams → (id : ℕ) × IsOneTooMany most beams id
too_many most [] h = absurd (omega arith)
too_many most (b ∷ bs) h =
    let r = greatest b bs in
    let count = all_counted (b ∷ bs) r.0.id r.2 in
    (r.0.id, (has_id (b ∷ bs) r.0 r.1, subst (λ (n : ℕ). most < n) (sym count) h))

pub few_from : (most : ℕ) (beams : List Beam) → ((id : ℕ) → ¬ IsOneTooMany most beams id) → length beams ≤ most
few_from most beams h = elim (cases_lt most (length beams)) [
  | inl more ↦ let r = too_many most beams more in absurd (h r.0 r.1)
  | inr few ↦ few
]

pub placed_from : (gap : ℕ) (beams : List Beam) → ((id : ℕ) → ¬ IsOffField beams id) →
    ((k : ℕ) (lower upper : Beam) → slice_get beams k ≡ Some lower → slice_get beams (k + 1) ≡ Some upper → ¬ (upper.at ≤ lower.at)) →
    ((k : ℕ) (lower upper : Beam) → slice_get beams k ≡ Some lower → slice_get beams (k + 1) ≡ Some upper → lower.at < upper.at → ¬ (upper.at < lower.at + gap)) → ArePlaced gap beams
placed_from gap beams on order far = record {
  on_the_field = all_from_contains (λ (b : Beam). b.at ≤ 1000000) beams (λ b in_beams. elim (cases_lt 1000000 b.at) [
    | inl off ↦ absurd (on b.id (any_from_contained (λ (c : Beam). (c.id ≡ b.id) × (1000000 < c.at)) beams b in_beams (refl, off)))
    | inr le ↦ le
  ]);
  spaced = λ k d within.
      let lower : Beam = get_or beams k d in
      let upper : Beam = get_or beams (k + 1) d in
      let at_lower : slice_get beams k ≡ Some lower = slice_get-get_or beams k d (omega arith) in
      let at_upper : slice_get beams (k + 1) ≡ Some upper = slice_get-get_or beams (k + 1) d within in
      apart lower upper (order k lower upper at_lower at_upper) (far k lower upper at_lower at_upper);
}
  where
    apart : (lower upper : Beam) → ¬ (upper.at ≤ lower.at) → (lower.at < upper.at → ¬ (upper.at < lower.at + gap)) → lower.at + gap ≤ upper.at
    apart lower upper above far = elim (cases_lt lower.at upper.at) [
      | inl lt ↦ elim (cases_lt upper.at (lower.at + gap)) [ inl near ↦ absurd (far lt near) | inr enough ↦ enough ]
      | inr ge ↦ absurd (above ge)
    ]

pub told_id : (beams : List Beam) (id : ℕ) → Told (HasId beams id)
told_id beams id = told_has (ids beams) id

one_trap : (t u : TrapId) → Some (Trap t) ≡ Some (Trap u) → t ≡ u
one_trap t u e = cc

-- the row and the column pick the atom that rests in the trap
abbrev PicksAt : Architecture → State → ℕ → List Beam → List Beam → Caught → TrapId → Beam → Beam → Type 0
PicksAt a s aod new_rows new_columns c t row column =
    ((row.id ≡ c.row) × (column.id ≡ c.column))
    × ((HasId new_rows c.row ⊎ HasId new_columns c.column) × (StandsAt a t.0 (crossing row column) × IsFreeOfOthers a s aod (crossing row column)))

told_pick_at : (a : Architecture) (s : State) (aod : ℕ) (new_rows new_columns : List Beam) (c : Caught) (t : TrapId) (row column : Beam) → Told (PicksAt a s aod new_rows new_columns c t row column)
told_pick_at a s aod new_rows new_columns c t row column =
    told_and (told_and (cases_eq row.id c.row) (cases_eq column.id c.column))
    (told_and (told_or (told_id new_rows c.row) (told_id new_columns c.column)) (told_and (told_stands a t.0 (crossing row column)) (told_free a s aod (crossing row column))))

-- the row and the column drop the atom into its trap
abbrev DropsAt : Architecture → State → ℕ → List ℕ → List ℕ → Dropped → Beam → Beam → Type 0
DropsAt a s aod rows columns d row column =
    IsAt s d.q (Held aod row.id column.id) × ((Contains rows row.id ⊎ Contains columns column.id) × StandsAt a d.trap.0 (crossing row column))

told_drop_at : (a : Architecture) (s : State) (aod : ℕ) (rows columns : List ℕ) (d : Dropped) (row column : Beam) → Told (DropsAt a s aod rows columns d row column)
told_drop_at a s aod rows columns d row column =
    told_and (told_held_by (slice_get s.places d.q) aod row.id column.id)
    (told_and (told_or (told_has rows row.id) (told_has columns column.id)) (told_stands a d.trap.0 (crossing row column)))

module _ (a : Architecture) (s : State) where
  told_pick : (aod : ℕ) (new_rows new_columns rows columns : List Beam) (c : Caught) → Told (Picks a s aod new_rows new_columns rows columns c)
  told_pick aod new_rows new_columns rows columns c = elim (where_is s.places c.q) [
    | InTrap t e ↦ elim (told_contained (λ (row : Beam). (column : Beam) × Contains columns column × PicksAt a s aod new_rows new_columns c t row column) rows
        (λ row. told_contained (PicksAt a s aod new_rows new_columns c t row) columns (told_pick_at a s aod new_rows new_columns c t row))) [
          | inl r ↦ let h = r.2.2 in inl (record {
            row = r.0;
            column = r.2.0;
            row_active = r.1;
            column_active = r.2.1;
            row_named = h.0.0;
            column_named = h.0.1;
            new = h.1.0;
            trap = t;
            rests = e;
            exact = h.1.1.0;
            free = h.1.1.1;
          })
          | inr none ↦ inr (λ p.
              let same : p.trap ≡ t = one_trap p.trap t (sym p.rests ∙ e) in
              none (
                p.row,
                p.row_active,
                (
                  p.column,
                  p.column_active,
                  ((p.row_named, p.column_named), (p.new, (subst (λ (u : TrapId). StandsAt a u.0 (crossing p.row p.column)) same p.exact, p.free))),
                ),
              ))
        ]
    | InBeams k row column e ↦ inr (λ p. let f = p.rests in absurd (cc))
    | Nowhere past ↦ inr (λ p. let lt = slice_get_within s.places c.q (Trap p.trap) p.rests in absurd (omega arith))
  ]

  told_drop : (aod : ℕ) (rows columns : List ℕ) (d : Dropped) → Told (Drops a s aod rows columns d)
  told_drop aod rows columns d =
      elim (told_contained (λ (row : Beam). (column : Beam) × Contains (beams_of s aod).columns column × DropsAt a s aod rows columns d row column) (beams_of s aod).rows
      (λ row. told_contained (DropsAt a s aod rows columns d row) (beams_of s aod).columns (told_drop_at a s aod rows columns d row))) [
        | inl r ↦ let h = r.2.2 in inl (record {
          row = r.0;
          column = r.2.0;
          row_active = r.1;
          column_active = r.2.1;
          held = h.0;
          vanishes = h.1.0;
          exact = h.1.1;
        })
        | inr none ↦ inr (λ p. none (p.row, p.row_active, (p.column, p.column_active, (p.held, (p.vanishes, p.exact)))))
      ]

  module _ (aod : ℕ) (rows columns : List Beam) (atoms : List Caught) (none : (fault : MachineFault) → ¬ Breaks a s (Activate aod rows columns atoms) fault) where
    abbrev after_along : Axis → List Beam
    after_along axis = with_beams (along axis rows columns) (active s aod axis)

    fresh_along : (axis : Axis) → AreFresh (along axis rows columns) (active s aod axis)
    fresh_along axis = record {
      once = once_from (ids (along axis rows columns)) (λ n twice. none (Busy (record { axis = axis; id = n })) (inl twice));
      inactive = all_from_contains (λ (b : Beam). ¬ HasId (active s aod axis) b.id) (along axis rows columns)
          (λ b listed here. none (Busy (record { axis = axis; id = b.id })) (inr (has_id (along axis rows columns) b listed, here)));
    }

    few_along : (axis : Axis) → length (after_along axis) ≤ along axis a.figures.rows a.figures.columns
    few_along axis = few_from (along axis a.figures.rows a.figures.columns) (after_along axis) (λ id many. none (Limit (record { axis = axis; id = id })) (inl many))

    placed_along : (axis : Axis) → ArePlaced a.figures.gap (after_along axis)
    placed_along axis = placed_from a.figures.gap (after_along axis)
        (λ id off. none (Limit (record { axis = axis; id = id })) (inr off))
        (λ k lower upper at_lower at_upper below. none (Order (record { axis = axis; id = upper.id })) (lower, upper, (k, at_lower, at_upper, refl), below))
        (λ k lower upper at_lower at_upper above near. none (Gap (record { axis = axis; id = upper.id })) (lower, upper, (k, at_lower, at_upper, refl), above, near))

    pub activate_legal : IsLegal a s (Activate aod rows columns atoms)
    activate_legal = record {
      known = elim (cases_lt aod (length s.aods)) [ inl lt ↦ lt | inr ge ↦ absurd (none (Unknown aod) (inl (contains_here aod [], ge))) ];
      rows_fresh = fresh_along Row;
      columns_fresh = fresh_along Column;
      few_rows = few_along Row;
      few_columns = few_along Column;
      rows_placed = placed_along Row;
      columns_placed = placed_along Column;
      picks = λ i d within.
          let c : Caught = get_or atoms i d in
          sure (told_pick aod rows columns (after_along Row) (after_along Column) c)
          (λ wrong. none (PickWrong c.q) (c, i, slice_get-get_or atoms i d within, refl, inl wrong));
      once = λ i j d before within.
          let c : Caught = get_or atoms i d in
          let e : Caught = get_or atoms j d in
          let at_c : slice_get atoms i ≡ Some c = slice_get-get_or atoms i d (omega arith) in
          let at_e : slice_get atoms j ≡ Some e = slice_get-get_or atoms j d within in
          let distinct : i ≢ j = λ same. absurd (omega arith) in
          let other : ¬ AreSameCatch c e = λ same. none (PickWrong c.q) (c, i, at_c, refl, inr (e, j, at_e, distinct, same)) in
          (λ q. other (inl q), λ crossed. other (inr crossed));
      clear = λ row column in_rows in_columns new unlisted.
          sure (told_clear a s aod (crossing row column))
          (λ touching. none (Touch row.id column.id) (row, column, in_rows, in_columns, refl, refl, (new, unlisted, touching)));
    }

  told_carried : (aod : ℕ) (row column : Beam) → Told (IsOnTrapWithAtom a s aod row column)
  told_carried aod row column =
      elim (told_and (told_held s.places aod row.id column.id) (told_and (told_on_trap a (crossing row column)) (told_free a s aod (crossing row column)))) [
        | inl h ↦ inl (record { q = h.0.0; holds = h.0.1; trap = h.1.0.0; exact = h.1.0.1; free = h.1.1 })
        | inr doesnt ↦ inr (λ h. doesnt ((h.q, h.holds), ((h.trap, h.exact), h.free)))
      ]

  module _ (aod : ℕ) (rows columns : List Beam) (none : (fault : MachineFault) → ¬ Breaks a s (Move aod rows columns) fault) where
    listed_along : (axis : Axis) → ListsActive (along axis rows columns) (active s aod axis)
    listed_along axis = record {
      once = once_from (ids (along axis rows columns)) (λ n twice. none (Busy (record { axis = axis; id = n })) twice);
      only = all_from_contains (λ (b : Beam). HasId (active s aod axis) b.id) (along axis rows columns) (λ b listed.
          sure (told_id (active s aod axis) b.id) (λ idle. none (NotActive (record { axis = axis; id = b.id })) (inl (has_id (along axis rows columns) b listed, idle))));
      all = all_from_contains (λ (b : Beam). HasId (along axis rows columns) b.id) (active s aod axis) (λ b here.
          sure (told_id (along axis rows columns) b.id) (λ left_out. none (NotActive (record { axis = axis; id = b.id })) (inr (has_id (active s aod axis) b here, left_out))));
    }

    moved_placed : (axis : Axis) → ArePlaced a.figures.gap (with_beams (along axis rows columns) [])
    moved_placed axis = placed_from a.figures.gap (with_beams (along axis rows columns) [])
        (λ id off. none (Limit (record { axis = axis; id = id })) off)
        (λ k lower upper at_lower at_upper below. none (Order (record { axis = axis; id = upper.id })) (lower, upper, (k, at_lower, at_upper, refl), below))
        (λ k lower upper at_lower at_upper above near. none (Gap (record { axis = axis; id = upper.id })) (lower, upper, (k, at_lower, at_upper, refl), above, near))

    pub move_legal : IsLegal a s (Move aod rows columns)
    move_legal = record {
      known = elim (cases_lt aod (length s.aods)) [ inl lt ↦ lt | inr ge ↦ absurd (none (Unknown aod) (inl (contains_here aod [], ge))) ];
      rows_listed = listed_along Row;
      columns_listed = listed_along Column;
      rows_placed = moved_placed Row;
      columns_placed = moved_placed Column;
      crossings = λ row column in_rows in_columns. elim (told_clear a s aod (crossing row column)) [
        | inl clear ↦ inl clear
        | inr touching ↦
            let on = sure (told_carried aod row column) (λ fails. none (Touch row.id column.id) (row, column, in_rows, in_columns, refl, refl, (touching, fails))) in
            inr (record {
              q = on.q;
              holds = on.holds;
              trap = record { 0 = on.trap };
              exact = on.exact;
              empty = λ r there. none (TrapFull on.q (record { 0 = on.trap })) (row, column, in_rows, in_columns, on.holds, on.exact, (r, there));
              free = on.free;
            })
      ];
    }

  module _ (aod : ℕ) (rows columns : List ℕ) (atoms : List Dropped) (none : (fault : MachineFault) → ¬ Breaks a s (Deactivate aod rows columns atoms) fault) where
    once_along : (axis : Axis) → AreOnce (along axis rows columns)
    once_along axis = once_from (along axis rows columns) (λ n twice. none (Busy (record { axis = axis; id = n })) twice)

    active_along : (axis : Axis) → All (HasId (active s aod axis)) (along axis rows columns)
    active_along axis = all_from_contains (HasId (active s aod axis)) (along axis rows columns) (λ id listed.
        sure (told_id (active s aod axis) id) (λ idle. none (NotActive (record { axis = axis; id = id })) (listed, idle)))

    pub deactivate_legal : IsLegal a s (Deactivate aod rows columns atoms)
    deactivate_legal = record {
      known = elim (cases_lt aod (length s.aods)) [ inl lt ↦ lt | inr ge ↦ absurd (none (Unknown aod) (inl (contains_here aod [], ge))) ];
      rows_once = once_along Row;
      columns_once = once_along Column;
      rows_active = active_along Row;
      columns_active = active_along Column;
      drops = all_from_contains (Drops a s aod rows columns) atoms (λ d listed.
          sure (told_drop aod rows columns d)
          (λ wrong. none (DropWrong d.q) (inr (inl (any_from_contained (λ (e : Dropped). (e.q ≡ d.q) × ¬ Drops a s aod rows columns e) atoms d listed (refl, wrong))))));
      once = once_from (map (λ (d : Dropped). d.q) atoms) (λ n twice. none (DropWrong n) (inr (inr twice)));
      all = λ q row column held vanishes.
          sure (any_or_none (λ (d : Dropped). d.q ≡ q) atoms (λ d. cases_eq d.q q))
          (λ left. none (DropWrong q) (inl (row, column, held, vanishes, left)));
    }

  at_rest : (step : Step) (q : ℕ) → ((fault : MachineFault) → ¬ Breaks a s step fault) → (length s.places ≤ q → Breaks a s step (Unknown q)) →
      ((k row column : ℕ) → IsAt s q (Held k row column) → Breaks a s step (NotAtRest q)) → Rests s q
  at_rest step q none unknown held = elim (where_is s.places q) [
    | InTrap t e ↦ (t, e)
    | InBeams k row column e ↦ absurd (none (NotAtRest q) (held k row column e))
    | Nowhere past ↦ absurd (none (Unknown q) (unknown past))
  ]

  pub one_legal : (gate : OneGate) → ((fault : MachineFault) → ¬ Breaks a s (One gate) fault) → IsLegal a s (One gate)
  one_legal gate none = at_rest (One gate) gate.q none (λ past. inr (inl (contains_here gate.q [], past))) (λ k row column e. (refl, (k, row, column, e)))

  pub readout_legal : (reads : List ReadOf) → ((fault : MachineFault) → ¬ Breaks a s (Readout reads) fault) → IsLegal a s (Readout reads)
  readout_legal reads none = all_from_contains (λ (r : ReadOf). Rests s r.q) reads (λ r listed.
      at_rest (Readout reads) r.q none
      (λ past. inr (inl (contains_map (λ (r : ReadOf). r.q) reads r listed, past)))
      (λ k row column e. (any_from_contained (λ (x : ReadOf). x.q ≡ r.q) reads r listed refl, (k, row, column, e))))

  module _ (pairs : List PairOf) (none : (fault : MachineFault) → ¬ Breaks a s (Pulse pairs) fault) where
    told_pair : (q r : ℕ) (p : PairOf) → Told (IsPairOf p q r)
    told_pair q r p = told_or (told_and (cases_eq p.a q) (cases_eq p.b r)) (told_and (cases_eq p.a r) (cases_eq p.b q))

    turned : (p : PairOf) (q r : ℕ) → IsPairOf p q r → IsPairOf p r q
    turned p q r h = elim h [ inl e ↦ inr e | inr e ↦ inl e ]

    -- the listed pairs are in range, whichever qubit is the smaller
    listed_in_range : (p : PairOf) → Contains pairs p → AreInRange a s p.a p.b
    listed_in_range p listed = sure (told_in_range a s p.a p.b) (λ far. elim (cases_lt p.b p.a) [
      | inl lt ↦ none (PairWrong p.b p.a) (
        omega arith,
        inr (inl (any_from_contained (λ (x : PairOf). IsPairOf x p.b p.a) pairs p listed (inr (refl, refl)), λ near. far (turned_range p.b p.a near))),
      )
      | inr le ↦ none (PairWrong p.a p.b) (le, inr (inl (any_from_contained (λ (x : PairOf). IsPairOf x p.a p.b) pairs p listed (inl (refl, refl)), far)))
    ])
      where
        turned_range : (q r : ℕ) → AreInRange a s q r → AreInRange a s r q
        turned_range q r h = record {
          two = λ e. h.two (sym e);
          q_at = h.r_at;
          r_at = h.q_at;
          q_rests = h.r_rests;
          r_rests = h.q_rests;
          near = within_back a.figures.radius h.q_at h.r_at h.near;
        }

    in_range_listed : (q r : ℕ) → AreInRange a s q r → Any (λ (p : PairOf). IsPairOf p q r) pairs
    in_range_listed q r near = elim (cases_lt r q) [
      | inl lt ↦
          let found = sure (any_or_none (λ (p : PairOf). IsPairOf p r q) pairs (told_pair r q)) (λ left. none (PairWrong r q) (omega arith, inr (inr (back near, left)))) in
          (found.0, found.1, found.2, found.3, turned found.1 r q found.4)
      | inr le ↦ sure (any_or_none (λ (p : PairOf). IsPairOf p q r) pairs (told_pair q r)) (λ left. none (PairWrong q r) (le, inr (inr (near, left))))
    ]
      where
        back : AreInRange a s q r → AreInRange a s r q
        back h = record {
          two = λ e. h.two (sym e);
          q_at = h.r_at;
          r_at = h.q_at;
          q_rests = h.r_rests;
          r_rests = h.q_rests;
          near = within_back a.figures.radius h.q_at h.r_at h.near;
        }

    listed_once : AllPairs (λ (p p' : PairOf). ¬ IsPairOf p' p.a p.b) pairs
    listed_once i j d before within same =
        let p : PairOf = get_or pairs i d in
        let p' : PairOf = get_or pairs j d in
        let at_p : slice_get pairs i ≡ Some p = slice_get-get_or pairs i d (omega arith) in
        let at_p' : slice_get pairs j ≡ Some p' = slice_get-get_or pairs j d within in
        elim (cases_lt p.b p.a) [
          | inl lt ↦ none (PairWrong p.b p.a) (omega arith, inl (i, j, p, p', before, at_p, at_p', inr (refl, refl), turned p' p.a p.b same))
          | inr le ↦ none (PairWrong p.a p.b) (le, inl (i, j, p, p', before, at_p, at_p', inl (refl, refl), same))
        ]

    pub pulse_legal : IsLegal a s (Pulse pairs)
    pulse_legal = record {
      in_range = record {
        only = all_from_contains (λ (p : PairOf). AreInRange a s p.a p.b) pairs listed_in_range;
        all = in_range_listed;
        once = listed_once;
      };
      none_alone = λ q p lit.
          sure (any_or_none (λ (x : PairOf). (x.a ≡ q) ⊎ (x.b ≡ q)) pairs (λ x. told_or (cases_eq x.a q) (cases_eq x.b q)))
          (λ left. none (LitAlone q) ((p, lit), left));
      dark = λ aod row column in_rows in_columns lit. none (Crossing aod row.id column.id) (row, column, in_rows, in_columns, refl, refl, lit);
    }

  pub made_legal : (step : Step) → ((fault : MachineFault) → ¬ Breaks a s step fault) → IsLegal a s step
  made_legal (Activate aod rows columns atoms) none = activate_legal aod rows columns atoms none
  made_legal (Move aod rows columns) none = move_legal aod rows columns none
  made_legal (Deactivate aod rows columns atoms) none = deactivate_legal aod rows columns atoms none
  made_legal (One gate) none = one_legal gate none
  made_legal (Pulse pairs) none = pulse_legal pairs none
  made_legal (Readout reads) none = readout_legal reads none
