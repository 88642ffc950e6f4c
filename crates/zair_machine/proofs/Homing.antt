-- Homes that are right: storage traps of which no two are the same.
use Rattle.std.proofs.Common.{◌≡◌, ◌≢◌, ℕ, ◌+◌, ◌*◌, ◌<◌, ◌≤◌, ◌⊎◌, inl, inr, Bool, true, false, eqb, eqb-true, Option, Some, None, List, length, map, take, get_or, set, slice_get, replicate, sym, ap, ◌∙◌, subst, arith}
use Rattle.std.specs.List.{list_any}
use Rattle.std.proofs.lemmas.Bool.{cases_lt, cases_eq, false≢true}
use Rattle.std.proofs.lemmas.Bool.Decides.{Decides-eqb}
use Rattle.std.proofs.lemmas.Grind.{get_or-set_at}
use Rattle.std.proofs.lemmas.List.{get_or-map, get_or-take, length-take, length-map, length-set, length-replicate, get_or-set_other, take_all, get_or_default}
use Rattle.std.proofs.lemmas.Map.Made.{IsDistinct-from_AllPairs}
use Rattle.std.proofs.lemmas.Map.Steps.{length-le_from_distinct_below}
use Rattle.std.proofs.lemmas.Map.Views.{Contains-from_any}
use Rattle.std.proofs.lemmas.Option.{slice_get_within, slice_get-get_or, get_or_from_slice_get}
use Rattle.zac_arch.specs.Architecture.{Architecture, storage_count, trap_count}
use Rattle.zac_arch.specs.declared.place.TrapId.{TrapId}
use Rattle.zac_arch.specs.Rules.{KeepsRules}
use Rattle.zac_arch.specs.declared.card.Figures.{Figures}
use Rattle.zair_state.specs.declared.place.Place.{Place}
use Rattle.zac_arch.proofs.Geometry.{storage_count_most, trap_count_is}
use Rattle.zair_state.specs.declared.place.Place.TheVariants.{Trap}
use Rattle.zair_state.specs.Least.{IsLeastOf}
use Rattle.zair_state.specs.Legal.{AreOnce}
use Rattle.zair_machine.specs.Machine.{IsKept, IsWrongHome}
use Rattle.zair_state.specs.State.{Beams, idle, opening}
use Rattle.zair_machine.proofs.Full.{same_trap_number}
use Rattle.zair_machine.proofs.Noting.{home_at}
use Rattle.zair_machine.proofs.Holding.{crossings_opening}
use Rattle.zair_state.proofs.Picking.{NoneBelow, none_below_more, none_of_all, first_of_all}
use Rattle.zair_state.proofs.Soundness.{opening_sound}

pub read_mark : (taken : List Bool) (t : ℕ) (b c : Bool) → t < length taken → b ≡ get_or taken t b → b ≡ c → get_or taken t false ≡ c
read_mark taken t b c lt e f = sym (get_or_default taken t b false lt) ∙ sym e ∙ f

module _ (a : Architecture) (homes : List TrapId) where
  -- the first k homes are right
  abbrev pub AreRight : ℕ → Type 0
  AreRight k = NoneBelow (IsWrongHome a homes) k

  pub in_storage : (k i : ℕ) (d : TrapId) → AreRight k → i < k → i < length homes → (get_or homes i d).0 < storage_count a
  in_storage k i d right lt within = elim (cases_lt (get_or homes i d).0 (storage_count a)) [
    | inl less ↦ less
    | inr ge ↦ absurd (right i lt (get_or homes i d, slice_get-get_or homes i d within, inl ge))
  ]

  pub all_apart : (k i j : ℕ) (d : TrapId) → AreRight k → i < j → j < k → j < length homes → (get_or homes i d).0 ≢ (get_or homes j d).0
  all_apart k i j d right less lt within e =
      let same : get_or homes i d ≡ get_or homes j d = same_trap_number _ _ e in
      right j lt (get_or homes j d, slice_get-get_or homes j d within, inr (i, less, slice_get-get_or homes i d (omega arith) ∙ ap (λ (t : TrapId). Some t) same))

  -- the numbers of the first k homes
  abbrev pub first_numbers : ℕ → List ℕ
  first_numbers k = map (λ (h : TrapId). h.0) (take k homes)

  number_at : (k i d : ℕ) (e : TrapId) → i < k → k ≤ length homes → get_or (first_numbers k) i d ≡ (get_or homes i e).0
  number_at k i d e lt le =
      get_or-map (λ (h : TrapId). h.0) (take k homes) i e d (omega (arith, length-take k homes)) ∙ ap (λ (h : TrapId). h.0) (get_or-take k homes i e lt)

  first_count : (k : ℕ) → k ≤ length homes → length (first_numbers k) ≡ k
  first_count k le = omega (arith, length-map (take k homes) (λ (h : TrapId). h.0), length-take k homes)

  pub first_once : (k : ℕ) → k ≤ length homes → AreRight k → AreOnce (first_numbers k)
  first_once k le right i j d less lt e =
      let none : TrapId = record { 0 = 0 } in
      let below : j < k = omega (arith, lt, first_count k le) in
      all_apart k i j none right less below (omega (arith, below, le)) (sym (number_at k i d none (omega (arith, less, below)) le) ∙ e ∙ number_at k j d none below le)

  -- of right homes there are no more than storage traps
  pub few_right : (k : ℕ) → k ≤ length homes → AreRight k → k ≤ storage_count a
  few_right k le right =
      let most = length-le_from_distinct_below (first_numbers k) (storage_count a) (IsDistinct-from_AllPairs Decides-eqb (first_numbers k) (first_once k le right)) below in
      omega (arith, most, first_count k le)
    where
      below : (n : ℕ) → list_any (eqb n) (first_numbers k) ≡ true → n < storage_count a
      below n h =
          let c = Contains-from_any eqb-true n (first_numbers k) h in
          let lt : c.0 < k = omega (arith, c.1, first_count k le) in
          let none : TrapId = record { 0 = 0 } in
          let at : n ≡ (get_or homes c.0 none).0 = sym c.2 ∙ number_at k c.0 n none lt le in
          omega (arith, at, in_storage k c.0 none right lt (omega (arith, lt, le)))

  -- the marks of the traps of the first k homes
  pub record AreMarked (taken : List Bool) (k : ℕ) : Type 0 where
    pub len : length taken ≡ storage_count a
    pub right : AreRight k
    pub there : (p : ℕ) (d : TrapId) → p < k → p < length homes → get_or taken (get_or homes p d).0 false ≡ true
    pub only : (t : ℕ) → get_or taken t false ≡ true → (p : ℕ) × (p < k) × (slice_get homes p ≡ Some (record { 0 = t }))

  pub wrong_here : (taken : List Bool) (q : ℕ) (d : TrapId) → AreMarked taken q → q < length homes → (length taken ≤ (get_or homes q d).0) ⊎ (get_or taken (get_or homes q d).0 false ≡ true) → IsLeastOf (IsWrongHome a homes) (Some q)
  wrong_here taken q d marked lt h =
      first_of_all (IsWrongHome a homes) q marked.right (
        get_or homes q d,
        slice_get-get_or homes q d lt,
        elim h [
          | inl ge ↦ inl (omega (arith, ge, marked.len))
          | inr mark ↦ inr (marked.only (get_or homes q d).0 mark)
        ],
      )

  right_here : (taken : List Bool) (q : ℕ) (d : TrapId) → AreMarked taken q → q < length homes → (get_or homes q d).0 < length taken → get_or taken (get_or homes q d).0 false ≡ false → ¬ IsWrongHome a homes q
  right_here taken q d marked lt within unmarked w =
      let here : get_or homes q d ≡ w.0 = get_or_from_slice_get homes q w.0 d w.1 in
      elim w.2 [
        | inl ge ↦ absurd (let e = ap (λ (t : TrapId). t.0) here in omega (arith, e, ge, within, marked.len))
        | inr p ↦
            let before : get_or homes p.0 d ≡ w.0 = get_or_from_slice_get homes p.0 w.0 d p.2 in
            let same = ap (λ (t : TrapId). get_or taken t.0 false) (before ∙ sym here) in
            absurd (false≢true (sym unmarked ∙ sym same ∙ marked.there p.0 d p.1 (omega (arith, p.1, lt))))
      ]

  pub marked_more : (taken : List Bool) (q : ℕ) (d : TrapId) → AreMarked taken q → q < length homes → (get_or homes q d).0 < length taken → get_or taken (get_or homes q d).0 false ≡ false → AreMarked (set taken (get_or homes q d).0 true) (q + 1)
  marked_more taken q d marked lt within unmarked =
      let t : ℕ = (get_or homes q d).0 in
      record {
        len = length-set taken t true ∙ marked.len;
        right = none_below_more (IsWrongHome a homes) q marked.right (right_here taken q d marked lt within unmarked);
        there = λ p e less inside. elim (cases_eq (get_or homes p e).0 t) as (λ _. get_or (set taken t true) (get_or homes p e).0 false ≡ true) [
          | inl same ↦ get_or-set_at taken t (get_or homes p e).0 true false same within
          | inr unlike ↦ elim (cases_lt p q) as (λ _. get_or (set taken t true) (get_or homes p e).0 false ≡ true) [
            | inl earlier ↦ get_or-set_other taken t (get_or homes p e).0 true false unlike ∙ marked.there p e earlier inside
            | inr late ↦
                let last : p ≡ q = omega (arith, less, late) in
                absurd (unlike (ap (λ (i : ℕ). (get_or homes i e).0) last ∙ ap (λ (x : TrapId). x.0) (get_or_default homes q e d lt)))
          ]
        ];
        only = λ u h. elim (cases_eq u t) as (λ _. (p : ℕ) × (p < q + 1) × (slice_get homes p ≡ Some (record { 0 = u }))) [
          | inl same ↦
              let last : get_or homes q d ≡ record { 0 = u } = same_trap_number (get_or homes q d) (record { 0 = u }) (sym same) in
              (q, omega arith, slice_get-get_or homes q d lt ∙ ap (λ (x : TrapId). Some x) last)
          | inr unlike ↦
              let old = marked.only u (sym (get_or-set_other taken t u true false unlike) ∙ h) in
              (old.0, (let less = old.1 in omega arith), old.2)
        ];
      }

  pub none_wrong_at_end : (k : ℕ) → length homes ≤ k → AreRight k → IsLeastOf (IsWrongHome a homes) None
  none_wrong_at_end k le right = none_of_all (IsWrongHome a homes) k (length homes) le (λ m h. slice_get_within homes m h.0 h.1) right

  -- where no home is wrong, the state at the begin is kept
  opening_kept : (traps crossings : List ℕ) → KeepsRules a → ((q : ℕ) → ¬ IsWrongHome a homes q) → length traps ≡ trap_count a → length crossings ≡ a.figures.aods * 65536 → ((q : ℕ) (home : TrapId) → slice_get homes q ≡ Some home → slice_get traps home.0 ≡ Some q) → IsKept a (opening a homes) traps crossings
  opening_kept traps crossings rules none len wide told =
      let right : AreRight (length homes) = λ q lt. none q in
      let once : AreOnce (map (λ (h : TrapId). h.0) homes) = subst (λ (l : List TrapId). AreOnce (map (λ (h : TrapId). h.0) l)) (take_all (length homes) homes (omega arith)) (first_once (length homes) (omega arith) right) in
      let few = few_right (length homes) (omega arith) right in
      record {
        sound = opening_sound a homes (λ i d lt. omega (arith, in_storage (length homes) i d right lt lt, trap_count_is a rules)) once;
        few = omega (arith, few, storage_count_most a rules, length-map homes (λ (h : TrapId). Trap h));
        all_traps = len;
        all_crossings = wide ∙ ap (λ (n : ℕ). n * 65536) (sym (length-replicate a.figures.aods idle));
        traps_told = λ q t at. told q t (home_at homes q t at);
        crossings_told = crossings_opening homes crossings;
      }

  pub opened_kept : (traps crossings : List ℕ) (places : List Place) (aods : List Beams) (f : Figures) (o : Option ℕ) → KeepsRules a → f ≡ a.figures → places ≡ map (λ (h : TrapId). Trap h) homes → aods ≡ replicate f.aods idle → IsLeastOf (IsWrongHome a homes) o → o ≡ None → length traps ≡ trap_count a → length crossings ≡ f.aods * 65536 → ((q : ℕ) (home : TrapId) → slice_get homes q ≡ Some home → slice_get traps home.0 ≡ Some q) → IsKept a (record { places = places; aods = aods }) traps crossings
  opened_kept traps crossings places aods f o rules g p b told e len wide noted =
      let none : (q : ℕ) → ¬ IsWrongHome a homes q = subst (λ (x : Option ℕ). IsLeastOf (IsWrongHome a homes) x) e told in
      let idle_all : aods ≡ replicate a.figures.aods idle = b ∙ ap (λ (x : Figures). replicate x.aods idle) g in
      rw (p, idle_all) (opening_kept traps crossings rules none len (wide ∙ ap (λ (x : Figures). x.aods * 65536) g) noted)
