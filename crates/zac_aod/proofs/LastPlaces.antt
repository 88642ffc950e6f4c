-- Where beams stand last before they are switched off, of rows and of columns alike: a beam stood where the move before
-- had put it.
use Rattle.std.proofs.Common.{◌≡◌, ◌≢◌, ℕ, ◌<◌, inl, inr, Bool, cond, eqb, Option, None, Some, List, [], ◌∷◌, ◌++◌, refl, sym, ap, ◌∙◌, subst, arith, eq-eqb}
use Rattle.std.specs.List.{Contains, filter_map, flat_map}
use Rattle.std.specs.Option.{option_map_or}
use Rattle.std.proofs.lemmas.Bool.{ne_eqb}
use Rattle.std.proofs.lemmas.List.{append-nil, append_assoc}
use Rattle.std.proofs.lemmas.List.Concat.{flat_map-append}
use Rattle.std.proofs.lemmas.List.Elements.{All-contains}
use Rattle.std.proofs.lemmas.Option.{same_Some}
use Rattle.zac_arch.specs.Architecture.{Architecture}
use Rattle.zac_group.specs.declared.shift.Shift.{Shift}
use Rattle.zair_form.specs.Times.{last_at, rows_set, columns_set}
use Rattle.zair_form.specs.declared.step.Beam.{Beam}
use Rattle.zair_form.specs.declared.step.Step.{Step}
use Rattle.zair_state.specs.Resources.{rows_off, columns_off, last_rows, last_columns}
use Rattle.zair_state.proofs.BeamLists.{Rising}
use Rattle.zair_state.proofs.Membership.{contains_none, contains_here, contains_later, contains_cases, pairs_head, pairs_tail}
use Rattle.zac_aod.specs.Lines.{rows_of}
use Rattle.zac_aod.specs.Lowering.{Leg, loading, flight, unloading, job_steps, catch_row, move_to, drop_row}
use Rattle.zac_aod.specs.declared.line.Line.{Line}
use Rattle.zac_aod.specs.declared.stage.Stage.{Stage}
use Rattle.zac_aod.specs.declared.stage.Stage.TheVariants as stage
use Rattle.zac_aod.proofs.JobSteps.{steps_in}
use Rattle.zac_aod.proofs.ListParts.{contained_in_append, contains_left, contains_right, contained_in_filter_map, contains_filter_map}

-- the last positions before beams are switched off, where steps set beams and switch them off so
abbrev pub lasts : (Step → List Beam) → (Step → List ℕ) → List Step → List Step → List ℕ
lasts set off earlier [] = []
lasts set off earlier (s ∷ ss) =
    filter_map (λ id. last_at id (flat_map set earlier)) (off s) ++ lasts set off (earlier ++ s ∷ []) ss

pub last_rows_are : (earlier steps : List Step) → last_rows earlier steps ≡ lasts rows_set rows_off earlier steps
last_rows_are earlier [] = refl
last_rows_are earlier (s ∷ ss) = ap (λ (ns : List ℕ). filter_map (λ id. last_at id (flat_map rows_set earlier)) (rows_off s) ++ ns) (last_rows_are (earlier ++ s ∷ []) ss)

pub last_columns_are : (earlier steps : List Step) → last_columns earlier steps ≡ lasts columns_set columns_off earlier steps
last_columns_are earlier [] = refl
last_columns_are earlier (s ∷ ss) = ap (λ (ns : List ℕ). filter_map (λ id. last_at id (flat_map columns_set earlier)) (columns_off s) ++ ns) (last_columns_are (earlier ++ s ∷ []) ss)

-- a position given at the end is the last one
last_behind : (id at : ℕ) (xs ys : List Beam) → last_at id ys ≡ Some at → last_at id (xs ++ ys) ≡ Some at
last_behind id at [] ys e = e
last_behind id at (x ∷ xs) ys e = ap (λ (o : Option ℕ). option_map_or Some o (cond (eqb x.id id) (Some x.at) None)) (last_behind id at xs ys e)

pub not_given : (id : ℕ) (beams : List Beam) → ((b : Beam) → Contains beams b → b.id ≢ id) → last_at id beams ≡ None
not_given id [] none = refl
not_given id (b ∷ bs) none =
    ap (λ (o : Option ℕ). option_map_or Some o (cond (eqb b.id id) (Some b.at) None)) (not_given id bs (λ c d. none c (contains_later b c bs d)))
    ∙ ap (λ (t : Bool). cond t (Some b.at) None) (ne_eqb b.id id (none b (contains_here b bs)))

-- in a list of rising ids a beam has one position
pub given_once : (beams : List Beam) (b : Beam) → Rising beams → Contains beams b → last_at b.id beams ≡ Some b.at
given_once [] b rising c = absurd (contains_none b c)
given_once (x ∷ xs) b rising c = elim (contains_cases x b xs c) [
  | inl e ↦ subst (λ (y : Beam). last_at y.id (x ∷ xs) ≡ Some y.at) e
      (ap (λ (o : Option ℕ). option_map_or Some o (cond (eqb x.id x.id) (Some x.at) None)) (not_given x.id xs (λ y d.
      let lt = All-contains (λ (z : Beam). x.id < z.id) xs y (pairs_head (λ (b c : Beam). b.id < c.id) x xs rising) d in
      λ same. absurd (omega arith)))
      ∙ ap (λ (t : Bool). cond t (Some x.at) None) (eq-eqb x.id x.id refl))
  | inr later ↦ ap (λ (o : Option ℕ). option_map_or Some o (cond (eqb x.id b.id) (Some x.at) None)) (given_once xs b (pairs_tail (λ (b c : Beam). b.id < c.id) x xs rising) later)
]

-- what the last step sets is the last position
pub set_last : (set : Step → List Beam) (before : List Step) (step : Step) (id at : ℕ) → last_at id (set step) ≡ Some at → last_at id (flat_map set (before ++ step ∷ [])) ≡ Some at
set_last set before step id at e =
    subst (λ (bs : List Beam). last_at id bs ≡ Some at) (sym (flat_map-append set before (step ∷ []) ∙ ap (λ (bs : List Beam). flat_map set before ++ bs) (append-nil (set step))))
    (last_behind id at (flat_map set before) (set step) e)

-- moves switch nothing off
abbrev pub Quiet : Architecture → List Shift → ℕ → (Step → List ℕ) → Type 0
Quiet a shifts aod off = (stage : Stage) → off (move_to a shifts aod stage) ≡ []

-- each beam that is switched off with a row was put last at a place with the property
abbrev pub Stood : Architecture → List Shift → ℕ → (Step → List Beam) → (Step → List ℕ) → List Line → (ℕ → Type 0) → Type 0
Stood a shifts aod set off lines P = (l : Line) → Contains lines l → (id : ℕ) → Contains (off (drop_row a shifts aod l.from)) id
    → (at : ℕ) × (last_at id (set (move_to a shifts aod (stage.Landed l.from))) ≡ Some at) × P at

in_unloading : (a : Architecture) (shifts : List Shift) (aod : ℕ) (set : Step → List Beam) (off : Step → List ℕ) (P : ℕ → Type 0) (before : List Step) (r : Line) (rs : List Line)
    → Quiet a shifts aod off → Stood a shifts aod set off (r ∷ rs) P → (y : ℕ)
    → Contains (lasts set off (before ++ move_to a shifts aod (stage.Landed r.from) ∷ []) (steps_in (unloading a shifts aod (r ∷ rs)))) y → P y
in_unloading a shifts aod set off P before r [] quiet stood y c =
    let move = move_to a shifts aod (stage.Landed r.from) in
    elim (contained_in_append (filter_map (λ id. last_at id (flat_map set (before ++ move ∷ []))) (off (drop_row a shifts aod r.from))) [] y c) [
      | inl here ↦
          let id = contained_in_filter_map (λ id. last_at id (flat_map set (before ++ move ∷ []))) (off (drop_row a shifts aod r.from)) y here in
          let s = stood r (contains_here r []) id.0 id.1 in
          subst P (same_Some s.0 y (sym (set_last set before move id.0 s.0 s.1) ∙ id.2)) s.2
      | inr none ↦ absurd (contains_none y none)
    ]
in_unloading a shifts aod set off P before r (s ∷ rs) quiet stood y c =
    let move = move_to a shifts aod (stage.Landed r.from) in
    let next = move_to a shifts aod (stage.Landed s.from) in
    let drop = drop_row a shifts aod r.from in
    let now = before ++ move ∷ [] in
    let later = now ++ drop ∷ [] in
    let rest = lasts set off (later ++ next ∷ []) (steps_in (unloading a shifts aod (s ∷ rs))) in
    elim (contained_in_append (filter_map (λ id. last_at id (flat_map set now)) (off drop)) (filter_map (λ id. last_at id (flat_map set later)) (off next) ++ rest) y c) [
      | inl here ↦
          let id = contained_in_filter_map (λ id. last_at id (flat_map set now)) (off drop) y here in
          let t = stood r (contains_here r (s ∷ rs)) id.0 id.1 in
          subst P (same_Some t.0 y (sym (set_last set before move id.0 t.0 t.1) ∙ id.2)) t.2
      | inr d ↦ elim (contained_in_append (filter_map (λ id. last_at id (flat_map set later)) (off next)) rest y d) [
        | inl moved ↦
            let id = contained_in_filter_map (λ id. last_at id (flat_map set later)) (off next) y moved in
            absurd (contains_none id.0 (subst (λ (ids : List ℕ). Contains ids id.0) (quiet (stage.Landed s.from)) id.1))
        | inr there ↦ in_unloading a shifts aod set off P later s rs quiet (λ l e. stood l (contains_later r l (s ∷ rs) e)) y there
      ]
    ]

has_unloading : (a : Architecture) (shifts : List Shift) (aod : ℕ) (set : Step → List Beam) (off : Step → List ℕ) (before : List Step) (r : Line) (rs : List Line)
    → (l : Line) → Contains (r ∷ rs) l → (id at : ℕ) → Contains (off (drop_row a shifts aod l.from)) id → last_at id (set (move_to a shifts aod (stage.Landed l.from))) ≡ Some at
    → Contains (lasts set off (before ++ move_to a shifts aod (stage.Landed r.from) ∷ []) (steps_in (unloading a shifts aod (r ∷ rs)))) at
has_unloading a shifts aod set off before r [] l c id at listed e = elim (contains_cases r l [] c) [
  | inl same ↦
      let move = move_to a shifts aod (stage.Landed r.from) in
      let h : ℕ → Option ℕ = λ id. last_at id (flat_map set (before ++ move ∷ [])) in
      let off_here = subst (λ (m : Line). Contains (off (drop_row a shifts aod m.from)) id) (sym same) listed in
      let last_here = subst (λ (m : Line). last_at id (set (move_to a shifts aod (stage.Landed m.from))) ≡ Some at) (sym same) e in
      contains_left (filter_map h (off (drop_row a shifts aod r.from))) [] at (contains_filter_map h (off (drop_row a shifts aod r.from)) id at off_here (set_last set before move id at last_here))
  | inr none ↦ absurd (contains_none l none)
]
has_unloading a shifts aod set off before r (s ∷ rs) l c id at listed e =
    let move = move_to a shifts aod (stage.Landed r.from) in
    let next = move_to a shifts aod (stage.Landed s.from) in
    let drop = drop_row a shifts aod r.from in
    let now = before ++ move ∷ [] in
    let later = now ++ drop ∷ [] in
    let h : ℕ → Option ℕ = λ id. last_at id (flat_map set now) in
    let k : ℕ → Option ℕ = λ id. last_at id (flat_map set later) in
    let rest = lasts set off (later ++ next ∷ []) (steps_in (unloading a shifts aod (s ∷ rs))) in
    elim (contains_cases r l (s ∷ rs) c) [
      | inl same ↦
          let off_here = subst (λ (m : Line). Contains (off (drop_row a shifts aod m.from)) id) (sym same) listed in
          let last_here = subst (λ (m : Line). last_at id (set (move_to a shifts aod (stage.Landed m.from))) ≡ Some at) (sym same) e in
          contains_left (filter_map h (off drop)) (filter_map k (off next) ++ rest) at (contains_filter_map h (off drop) id at off_here (set_last set before move id at last_here))
      | inr d ↦ contains_right (filter_map h (off drop)) (filter_map k (off next) ++ rest) at (contains_right (filter_map k (off next)) rest at (has_unloading a shifts aod set off later s rs l d id at listed e))
    ]

-- where nothing is switched off there is no last position
skipped : (set : Step → List Beam) (off : Step → List ℕ) (earlier xs ys : List Step) → ((x : Step) → Contains xs x → off x ≡ []) → lasts set off earlier (xs ++ ys) ≡ lasts set off (earlier ++ xs) ys
skipped set off earlier [] ys none = ap (λ (ss : List Step). lasts set off ss ys) (sym (append-nil earlier))
skipped set off earlier (x ∷ xs) ys none =
    ap (λ (ids : List ℕ). filter_map (λ id. last_at id (flat_map set earlier)) ids ++ lasts set off (earlier ++ x ∷ []) (xs ++ ys)) (none x (contains_here x xs))
    ∙ skipped set off (earlier ++ x ∷ []) xs ys (λ y c. none y (contains_later x y xs c))
    ∙ ap (λ (ss : List Step). lasts set off ss ys) (append_assoc earlier (x ∷ []) xs)

map-append : (xs ys : List Leg) → steps_in (xs ++ ys) ≡ steps_in xs ++ steps_in ys
map-append [] ys = refl
map-append (x ∷ xs) ys = ap (λ (ss : List Step). x.step ∷ ss) (map-append xs ys)

-- loading switches nothing off
abbrev pub QuietCatches : Architecture → List Shift → ℕ → (Step → List ℕ) → Type 0
QuietCatches a shifts aod off = (row : ℕ) → off (catch_row a shifts aod row) ≡ []

loading_is_quiet : (a : Architecture) (shifts : List Shift) (aod : ℕ) (off : Step → List ℕ) → Quiet a shifts aod off → QuietCatches a shifts aod off → (lines : List Line)
    → (x : Step) → Contains (steps_in (loading a shifts aod lines)) x → off x ≡ []
loading_is_quiet a shifts aod off quiet catches [] x c = absurd (contains_none x c)
loading_is_quiet a shifts aod off quiet catches (r ∷ []) x c = elim (contains_cases (catch_row a shifts aod r.from) x [] c) [
  | inl e ↦ ap off (sym e) ∙ catches r.from
  | inr none ↦ absurd (contains_none x none)
]
loading_is_quiet a shifts aod off quiet catches (r ∷ s ∷ rs) x c =
    let move = move_to a shifts aod (stage.Parked r.from s.from) in
    let rest = steps_in (loading a shifts aod (s ∷ rs)) in
    elim (contains_cases (catch_row a shifts aod r.from) x (move ∷ rest) c) [
      | inl e ↦ ap off (sym e) ∙ catches r.from
      | inr d ↦ elim (contains_cases move x rest d) [
        | inl e ↦ ap off (sym e) ∙ quiet (stage.Parked r.from s.from)
        | inr later ↦ loading_is_quiet a shifts aod off quiet catches (s ∷ rs) x later
      ]
    ]

-- the last positions of a job are those of its unloading
job_lasts : (a : Architecture) (shifts : List Shift) (aod : ℕ) (set : Step → List Beam) (off : Step → List ℕ) → Quiet a shifts aod off → QuietCatches a shifts aod off → (r : Line) (rs : List Line)
    → lasts set off [] (steps_in ((loading a shifts aod (r ∷ rs) ++ flight a shifts aod (r ∷ rs)) ++ unloading a shifts aod (r ∷ rs)))
    ≡ lasts set off (steps_in (loading a shifts aod (r ∷ rs)) ++ move_to a shifts aod (stage.Landed r.from) ∷ []) (steps_in (unloading a shifts aod (r ∷ rs)))
job_lasts a shifts aod set off quiet catches r rs =
    let loads = loading a shifts aod (r ∷ rs) in
    let flies = flight a shifts aod (r ∷ rs) in
    let unloads = unloading a shifts aod (r ∷ rs) in
    let move = move_to a shifts aod (stage.Landed r.from) in
    ap (lasts set off []) (map-append (loads ++ flies) unloads ∙ ap (λ (ss : List Step). ss ++ steps_in unloads) (map-append loads flies))
    ∙ skipped set off [] (steps_in loads ++ move ∷ []) (steps_in unloads) (λ x c. elim (contained_in_append (steps_in loads) (move ∷ []) x c) [
      | inl d ↦ loading_is_quiet a shifts aod off quiet catches (r ∷ rs) x d
      | inr d ↦ elim (contains_cases move x [] d) [ inl e ↦ ap off (sym e) ∙ quiet (stage.Landed r.from) | inr none ↦ absurd (contains_none x none) ]
    ])

in_lasts : (a : Architecture) (shifts : List Shift) (aod : ℕ) (set : Step → List Beam) (off : Step → List ℕ) (P : ℕ → Type 0) (lines : List Line)
    → Quiet a shifts aod off → QuietCatches a shifts aod off → Stood a shifts aod set off lines P → (y : ℕ)
    → Contains (lasts set off [] (steps_in ((loading a shifts aod lines ++ flight a shifts aod lines) ++ unloading a shifts aod lines))) y → P y
in_lasts a shifts aod set off P [] quiet catches stood y c = absurd (contains_none y c)
in_lasts a shifts aod set off P (r ∷ rs) quiet catches stood y c =
    in_unloading a shifts aod set off P (steps_in (loading a shifts aod (r ∷ rs))) r rs quiet stood y (subst (λ (ns : List ℕ). Contains ns y) (job_lasts a shifts aod set off quiet catches r rs) c)

-- a last position of a job has the property, where each beam stood at such a place when it was switched off
pub in_job_lasts : (a : Architecture) (shifts : List Shift) (aod : ℕ) (set : Step → List Beam) (off : Step → List ℕ) (P : ℕ → Type 0)
    → Quiet a shifts aod off → QuietCatches a shifts aod off → Stood a shifts aod set off (rows_of a shifts) P → (y : ℕ) → Contains (lasts set off [] (job_steps a shifts aod)) y → P y
in_job_lasts a shifts aod set off P quiet catches stood y c = in_lasts a shifts aod set off P (rows_of a shifts) quiet catches stood y c

has_lasts : (a : Architecture) (shifts : List Shift) (aod : ℕ) (set : Step → List Beam) (off : Step → List ℕ) (lines : List Line)
    → Quiet a shifts aod off → QuietCatches a shifts aod off → (l : Line) → Contains lines l → (id at : ℕ) → Contains (off (drop_row a shifts aod l.from)) id
    → last_at id (set (move_to a shifts aod (stage.Landed l.from))) ≡ Some at
    → Contains (lasts set off [] (steps_in ((loading a shifts aod lines ++ flight a shifts aod lines) ++ unloading a shifts aod lines))) at
has_lasts a shifts aod set off [] quiet catches l c id at listed e = absurd (contains_none l c)
has_lasts a shifts aod set off (r ∷ rs) quiet catches l c id at listed e =
    subst (λ (ns : List ℕ). Contains ns at) (sym (job_lasts a shifts aod set off quiet catches r rs))
    (has_unloading a shifts aod set off (steps_in (loading a shifts aod (r ∷ rs))) r rs l c id at listed e)

-- where a beam stands when it is switched off is a last position
pub has_job_lasts : (a : Architecture) (shifts : List Shift) (aod : ℕ) (set : Step → List Beam) (off : Step → List ℕ)
    → Quiet a shifts aod off → QuietCatches a shifts aod off → (l : Line) → Contains (rows_of a shifts) l → (id at : ℕ) → Contains (off (drop_row a shifts aod l.from)) id
    → last_at id (set (move_to a shifts aod (stage.Landed l.from))) ≡ Some at → Contains (lasts set off [] (job_steps a shifts aod)) at
has_job_lasts a shifts aod set off quiet catches l c id at listed e = has_lasts a shifts aod set off (rows_of a shifts) quiet catches l c id at listed e
