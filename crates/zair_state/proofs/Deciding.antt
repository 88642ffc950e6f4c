-- Whether a thing holds of a state can be told.
use Rattle.std.proofs.Common.{◌≡◌, ◌≢◌, ℕ, zero, suc, ◌+◌, ◌*◌, ◌<◌, ◌≤◌, ◌⊎◌, inl, inr, List, [], ◌∷◌, Option, Some, None, length, refl, sym, ap, ap₂, ◌∙◌, subst, arith, slice_get}
use Rattle.std.specs.List.{All, Contains}
use Rattle.std.proofs.lemmas.Bool.{cases_eq, cases_lt}
use Rattle.std.proofs.lemmas.List.{get_or_past}
use Rattle.std.proofs.lemmas.List.Elements.{All-contains}
use Rattle.std.proofs.lemmas.Option.{slice_get_within}
use Rattle.zac_arch.specs.Architecture.{Architecture, StandsAt, trap_points, IsLit, IsInWidenedBox, last_x, last_y}
use Rattle.zac_arch.specs.Distances.{squared_distance, IsFarther}
use Rattle.zac_arch.specs.declared.card.Zone.{Zone}
use Rattle.zac_arch.specs.declared.card.ZoneKind.{ZoneKind}
use Rattle.zac_arch.specs.declared.card.ZoneKind.TheVariants.{Storage, Entangling}
use Rattle.zac_arch.specs.declared.place.Point.{Point}
use Rattle.zac_arch.specs.declared.place.TrapId.{TrapId}
use Rattle.zair_form.specs.declared.step.Beam.{Beam}
use Rattle.zair_state.specs.declared.place.Place.{Place}
use Rattle.zair_state.specs.declared.place.Place.TheVariants.{Trap, Held}
use Rattle.zair_state.specs.State.{State, Beams, idle, beams_of, crossing, EachCrossing, IsFreeOfOthers, IsClear, RestsLit, AreInRange}
use Rattle.zair_state.proofs.Membership.{contains_none, all_from_contains, any_or_none, any_contained, any_from_contained}

-- P holds, or it doesn't
abbrev pub Told : Type 0 → Type 0
Told P = P ⊎ ¬ P

pub told_and : {P Q : Type 0} → P ⊎ ¬ P → Q ⊎ ¬ Q → (P × Q) ⊎ ¬ (P × Q)
told_and p q = elim p [
  | inl yes_p ↦ elim q [ inl yes_q ↦ inl (yes_p, yes_q) | inr no_q ↦ inr (λ h. no_q h.1) ]
  | inr no_p ↦ inr (λ h. no_p h.0)
]

pub told_or : {P Q : Type 0} → P ⊎ ¬ P → Q ⊎ ¬ Q → (P ⊎ Q) ⊎ ¬ (P ⊎ Q)
told_or p q = elim p [
  | inl yes_p ↦ inl (inl yes_p)
  | inr no_p ↦ elim q [ inl yes_q ↦ inl (inr yes_q) | inr no_q ↦ inr (λ h. elim h [ inl x ↦ no_p x | inr x ↦ no_q x ]) ]
]

pub told_lt : (m n : ℕ) → Told (m < n)
told_lt m n = elim (cases_lt m n) [ inl lt ↦ inl lt | inr ge ↦ inr (λ h. absurd (omega arith)) ]

pub told_le : (m n : ℕ) → Told (m ≤ n)
told_le m n = elim (cases_lt n m) [ inl lt ↦ inr (λ h. absurd (omega arith)) | inr ge ↦ inl ge ]

pub told_all : {X : Type 0} (P : X → Type 0) (xs : List X) → ((x : X) → Told (P x)) → Told (All P xs)
told_all P xs told = elim (any_or_none (λ x. ¬ P x) xs (λ x. elim (told x) [ inl does ↦ inr (λ doesnt. doesnt does) | inr doesnt ↦ inl doesnt ])) [
  | inl some ↦ inr (λ all. let r = any_contained (λ x. ¬ P x) xs some in r.2 (All-contains P xs r.0 all r.1))
  | inr none ↦ inl (all_from_contains P xs (λ x in_xs. elim (told x) [
    | inl does ↦ does
    | inr doesnt ↦ absurd (none (any_from_contained (λ x. ¬ P x) xs x in_xs doesnt))
  ]))
]

-- an item with P is found, or there is none
pub told_contained : {X : Type 0} (P : X → Type 0) (xs : List X) → ((x : X) → Told (P x)) → Told ((x : X) × Contains xs x × P x)
told_contained P xs told = elim (any_or_none P xs told) [
  | inl some ↦ inl (any_contained P xs some)
  | inr none ↦ inr (λ h. none (any_from_contained P xs h.0 h.1 h.2))
]

pub told_has : (ns : List ℕ) (n : ℕ) → Told (Contains ns n)
told_has ns n = elim (told_contained (λ (m : ℕ). m ≡ n) ns (λ m. cases_eq m n)) [
  | inl r ↦ inl (subst (λ (m : ℕ). Contains ns m) r.2 r.1)
  | inr none ↦ inr (λ h. none (n, h, refl))
]

pub told_crossings : (rows columns : List Beam) (P : Beam → Beam → Type 0) → ((row column : Beam) → Told (P row column)) → Told (EachCrossing rows columns P)
told_crossings rows columns P told =
    elim (told_all (λ (row : Beam). All (P row) columns) rows (λ row. told_all (P row) columns (told row))) [
      | inl all ↦ inl (λ row column in_rows in_columns. All-contains (P row) columns column (All-contains (λ (row : Beam). All (P row) columns) rows row all in_rows) in_columns)
      | inr none ↦ inr (λ each. none (all_from_contains (λ (row : Beam). All (P row) columns) rows (λ row in_rows. all_from_contains (P row) columns (λ column in_columns. each row column in_rows in_columns))))
    ]

told_below : (P : ℕ → Type 0) → ((k : ℕ) → Told (P k)) → (n : ℕ) → Told ((k : ℕ) → k < n → P k)
told_below P told zero = inl (λ k lt. absurd (omega arith))
told_below P told (suc n) = elim (told_below P told n) [
  | inl below ↦ elim (told n) [
    | inl here ↦ inl (λ k lt. elim (cases_eq k n) [ inl e ↦ subst P (sym e) here | inr ne ↦ below k (omega arith) ])
    | inr not_here ↦ inr (λ h. not_here (h n (omega arith)))
  ]
  | inr not_below ↦ inr (λ h. not_below (λ k lt. h k (omega arith)))
]

-- another AOD of this number crosses far from the point
abbrev IsFarFrom : Architecture → State → ℕ → Point → ℕ → Type 0
IsFarFrom a s aod p k = k ≢ aod → EachCrossing (beams_of s k).rows (beams_of s k).columns (λ row column. IsFarther a.figures.reach p (crossing row column))

told_far : (a : Architecture) (s : State) (aod : ℕ) (p : Point) (k : ℕ) → Told (IsFarFrom a s aod p k)
told_far a s aod p k = elim (cases_eq k aod) [
  | inl e ↦ inl (λ ne. absurd (ne e))
  | inr ne ↦ elim (told_crossings (beams_of s k).rows (beams_of s k).columns (λ row column. IsFarther a.figures.reach p (crossing row column))
      (λ row column. told_lt (a.figures.reach * a.figures.reach) (squared_distance p (crossing row column)))) [
        | inl far ↦ inl (λ other. far)
        | inr near ↦ inr (λ h. near (h ne))
      ]
]

pub told_free : (a : Architecture) (s : State) (aod : ℕ) (p : Point) → Told (IsFreeOfOthers a s aod p)
told_free a s aod p = elim (told_below (IsFarFrom a s aod p) (told_far a s aod p) (length s.aods)) [
  | inl below ↦ inl (λ other ne. elim (cases_lt other (length s.aods)) [
    | inl lt ↦ below other lt ne
    | inr ge ↦ λ row column in_rows in_columns. absurd (contains_none row (subst (λ (b : Beams). Contains b.rows row) (get_or_past s.aods other idle ge) in_rows))
  ])
  | inr not_below ↦ inr (λ free. not_below (λ k lt ne. free k ne))
]

pub told_clear : (a : Architecture) (s : State) (aod : ℕ) (p : Point) → Told (IsClear a s aod p)
told_clear a s aod p = elim (told_and (told_free a s aod p) (told_all (IsFarther a.figures.reach p) (trap_points a) (λ t. told_lt (a.figures.reach * a.figures.reach) (squared_distance p t)))) [
  | inl h ↦ inl (record { free = h.0; off_traps = h.1 })
  | inr doesnt ↦ inr (λ h. doesnt (h.free, h.off_traps))
]

abbrev point : ℕ → ℕ → Point
point x y = record { x = x; y = y }

same_point : (p q : Point) → p.x ≡ q.x → p.y ≡ q.y → p ≡ q
same_point p q e f = let same : point p.x p.y ≡ point q.x q.y = ap₂ point e f in same

pub told_point : (p q : Point) → Told (p ≡ q)
told_point p q = elim (told_and (cases_eq p.x q.x) (cases_eq p.y q.y)) [
  | inl h ↦ inl (same_point p q h.0 h.1)
  | inr doesnt ↦ inr (λ e. doesnt (ap (λ (r : Point). r.x) e, ap (λ (r : Point). r.y) e))
]

told_some : (o : Option Point) (p : Point) → Told (o ≡ Some p)
told_some None p = inr (λ e. absurd (cc))
told_some (Some q) p = elim (told_point q p) [ inl e ↦ inl (ap (λ (r : Point). Some r) e) | inr ne ↦ inr (λ e. ne (cc)) ]

pub told_stands : (a : Architecture) (t : ℕ) (p : Point) → Told (StandsAt a t p)
told_stands a t p = told_some (slice_get (trap_points a) t) p

told_somewhere : (ps : List Point) (p : Point) → Told ((t : ℕ) × (slice_get ps t ≡ Some p))
told_somewhere [] p = inr (λ h. let e = h.1 in absurd (cc))
told_somewhere (q ∷ qs) p = elim (told_point q p) [
  | inl e ↦ inl (0, ap (λ (r : Point). Some r) e)
  | inr ne ↦ elim (told_somewhere qs p) [ inl h ↦ inl (suc h.0, h.1) | inr none ↦ inr (λ h. nowhere q qs p ne none h.0 h.1) ]
]
  where
    nowhere : (q : Point) (qs : List Point) (p : Point) → ¬ (q ≡ p) → ¬ ((t : ℕ) × (slice_get qs t ≡ Some p)) → (t : ℕ) → ¬ (slice_get (q ∷ qs) t ≡ Some p)
    nowhere q qs p ne none zero e = ne (cc)
    nowhere q qs p ne none (suc t) e = none (t, e)

-- some trap stands there
pub told_on_trap : (a : Architecture) (p : Point) → Told ((t : ℕ) × StandsAt a t p)
told_on_trap a p = told_somewhere (trap_points a) p

-- an atom rests in a trap, is held, or isn't there
pub data WhereIs (ps : List Place) (q : ℕ) : Type 0 where
  InTrap : (t : TrapId) → slice_get ps q ≡ Some (Trap t) → WhereIs ps q
  InBeams : (aod row column : ℕ) → slice_get ps q ≡ Some (Held aod row column) → WhereIs ps q
  Nowhere : length ps ≤ q → WhereIs ps q

pub where_is : (ps : List Place) (q : ℕ) → WhereIs ps q
where_is [] q = Nowhere (omega arith)
where_is (Trap t ∷ ps) zero = InTrap t refl
where_is (Held aod row column ∷ ps) zero = InBeams aod row column refl
where_is (p ∷ ps) (suc q) = elim (where_is ps q) [
  | InTrap t e ↦ InTrap t e
  | InBeams aod row column e ↦ InBeams aod row column e
  | Nowhere past ↦ Nowhere (omega arith)
]

-- the place is this crossing
told_place : (p : Place) (aod row column : ℕ) → Told (p ≡ Held aod row column)
told_place (Trap t) aod row column = inr (λ e. absurd (cc))
told_place (Held k r c) aod row column = elim (told_and (cases_eq k aod) (told_and (cases_eq r row) (cases_eq c column))) [
  | inl h ↦ let e = h.0 in let f = h.1.0 in let g = h.1.1 in inl (cc)
  | inr doesnt ↦ inr (λ e. doesnt (cc, (cc, cc)))
]

-- some atom is held at this crossing
pub told_held : (ps : List Place) (aod row column : ℕ) → Told ((q : ℕ) × (slice_get ps q ≡ Some (Held aod row column)))
told_held [] aod row column = inr (λ h. let e = h.1 in absurd (cc))
told_held (p ∷ ps) aod row column = elim (told_place p aod row column) [
  | inl e ↦ inl (0, ap (λ (x : Place). Some x) e)
  | inr ne ↦ elim (told_held ps aod row column) [ inl h ↦ inl (suc h.0, h.1) | inr none ↦ inr (λ h. nobody p ps aod row column ne none h.0 h.1) ]
]
  where
    nobody : (p : Place) (ps : List Place) (aod row column : ℕ) → ¬ (p ≡ Held aod row column) → ¬ ((q : ℕ) × (slice_get ps q ≡ Some (Held aod row column))) → (q : ℕ) → ¬ (slice_get (p ∷ ps) q ≡ Some (Held aod row column))
    nobody p ps aod row column ne none zero e = ne (cc)
    nobody p ps aod row column ne none (suc q) e = none (q, e)

pub told_held_by : (p : Option Place) (aod row column : ℕ) → Told (p ≡ Some (Held aod row column))
told_held_by None aod row column = inr (λ e. absurd (cc))
told_held_by (Some p) aod row column = elim (told_place p aod row column) [ inl e ↦ inl (ap (λ (x : Place). Some x) e) | inr ne ↦ inr (λ e. ne (cc)) ]

told_entangling : (k : ZoneKind) → Told (k ≡ Entangling)
told_entangling Storage = inr (λ e. absurd (cc))
told_entangling Entangling = inl refl

told_box : (radius : ℕ) (z : Zone) (p : Point) → Told (IsInWidenedBox radius z p)
told_box radius z p = elim (told_and (told_and (told_le z.x (p.x + radius)) (told_le p.x (last_x z + radius))) (told_and (told_le z.y (p.y + radius)) (told_le p.y (last_y z + radius)))) [
  | inl h ↦ inl (record { left = h.0.0; right = h.0.1; bottom = h.1.0; top = h.1.1 })
  | inr doesnt ↦ inr (λ h. doesnt ((h.left, h.right), (h.bottom, h.top)))
]

pub told_lit : (a : Architecture) (p : Point) → Told (IsLit a p)
told_lit a p = any_or_none (λ (z : Zone). (z.kind ≡ Entangling) × IsInWidenedBox a.figures.radius z p) a.zones (λ z. told_and (told_entangling z.kind) (told_box a.figures.radius z p))

stood : (o : Option Point) → ((p : Point) × (o ≡ Some p)) ⊎ (o ≡ None)
stood None = inr refl
stood (Some p) = inl (p, refl)

same_trap : (t u : TrapId) → Some (Trap t) ≡ Some (Trap u) → t ≡ u
same_trap t u e = cc

-- an atom rests lit at one point alone
pub lit_at_one : (a : Architecture) (s : State) (q : ℕ) (p r : Point) → RestsLit a s q p → RestsLit a s q r → p ≡ r
lit_at_one a s q p r h k =
    let same : h.0 ≡ k.0 = same_trap h.0 k.0 (sym h.1 ∙ k.1) in
    let there : slice_get (trap_points a) k.0.0 ≡ Some p = subst (λ (t : TrapId). slice_get (trap_points a) t.0 ≡ Some p) same h.2 in
    let both : Some p ≡ Some r = sym there ∙ k.2 in
    cc

pub told_rests_lit : (a : Architecture) (s : State) (q : ℕ) → Told ((p : Point) × RestsLit a s q p)
told_rests_lit a s q = elim (where_is s.places q) [
  | InTrap t e ↦ elim (stood (slice_get (trap_points a) t.0)) [
    | inl r ↦ elim (told_lit a r.0) [
      | inl lit ↦ inl (r.0, (t, e, r.1, lit))
      | inr dark ↦ inr (λ h. dark (subst (IsLit a) (at_one t r.0 e r.1 h.0 h.1) h.1.3))
    ]
    | inr none ↦ inr (λ h.
        let same : h.1.0 ≡ t = same_trap h.1.0 t (sym h.1.1 ∙ e) in
        let there : slice_get (trap_points a) t.0 ≡ Some h.0 = subst (λ (u : TrapId). slice_get (trap_points a) u.0 ≡ Some h.0) same h.1.2 in
        absurd (cc))
  ]
  | InBeams aod row column e ↦ inr (λ h. let f = h.1.1 in absurd (cc))
  | Nowhere past ↦ inr (λ h. let lt = slice_get_within s.places q (Trap h.1.0) h.1.1 in absurd (omega arith))
]
  where
    at_one : (t : TrapId) (p : Point) → slice_get s.places q ≡ Some (Trap t) → slice_get (trap_points a) t.0 ≡ Some p → (r : Point) → RestsLit a s q r → r ≡ p
    at_one t p e there r h =
        let same : h.0 ≡ t = same_trap h.0 t (sym h.1 ∙ e) in
        let here : slice_get (trap_points a) t.0 ≡ Some r = subst (λ (u : TrapId). slice_get (trap_points a) u.0 ≡ Some r) same h.2 in
        let both : Some r ≡ Some p = sym here ∙ there in
        cc

pub told_in_range : (a : Architecture) (s : State) (q r : ℕ) → Told (AreInRange a s q r)
told_in_range a s q r = elim (cases_eq q r) [
  | inl e ↦ inr (λ h. h.two e)
  | inr ne ↦ elim (told_rests_lit a s q) [
    | inr dark ↦ inr (λ h. dark (h.q_at, h.q_rests))
    | inl x ↦ elim (told_rests_lit a s r) [
      | inr dark ↦ inr (λ h. dark (h.r_at, h.r_rests))
      | inl y ↦ elim (told_le (squared_distance x.0 y.0) (a.figures.radius * a.figures.radius)) [
        | inl near ↦ inl (record { two = ne; q_at = x.0; r_at = y.0; q_rests = x.1; r_rests = y.1; near = near })
        | inr far ↦ inr (λ h. far (
            subst (λ (p : Point). squared_distance p y.0 ≤ a.figures.radius * a.figures.radius) (lit_at_one a s q h.q_at x.0 h.q_rests x.1)
            (subst (λ (p : Point). squared_distance h.q_at p ≤ a.figures.radius * a.figures.radius) (lit_at_one a s r h.r_at y.0 h.r_rests y.1) h.near)))
      ]
    ]
  ]
]
