-- Positions that a timer remembers.
use Rattle.std.proofs.Common.{◌≡◌, ◌≢◌, ℕ, zero, suc, ◌+◌, ◌<◌, inl, inr, Bool, true, false, cond, eqb, Option, Some, None, List, [], ◌∷◌, ◌++◌, length, get_or, map, take, fold, max, replicate, set, refl, sym, ap, ◌∙◌, subst, arith, slice_get}
use Rattle.std.specs.List.{flat_map}
use Rattle.std.specs.Option.{option_map_or}
use Rattle.std.proofs.lemmas.Bool.{cases_eq, eq-eqb, ne_eqb}
use Rattle.std.proofs.lemmas.List.{take_more, append-nil, map-append, append_assoc}
use Rattle.std.proofs.lemmas.List.Sums.{fold-append}
use Rattle.std.proofs.lemmas.Grind.{flat_map-append}
use Rattle.zac_arch.specs.Distances.{IsMoveTime}
use Rattle.zac_arch.specs.declared.card.Figures.{Figures}
use Rattle.zair_form.specs.Times.{Lasts, rows_set, columns_set, last_at, change, greatest_change}
use Rattle.zair_form.specs.Timing.{LastPositions, AreLast, AreLastOf}
use Rattle.zair_form.specs.declared.step.Beam.{Beam}
use Rattle.zair_form.specs.declared.step.Step.{Step}
use Rattle.zair_form.specs.declared.step.Step.TheVariants.{Move}

replicated : {X : Type 0} (n id : ℕ) (x : X) → id < n → slice_get (replicate n x) id ≡ Some x
replicated zero id x lt = absurd (omega arith)
replicated (suc n) zero x lt = refl
replicated (suc n) (suc id) x lt = replicated n id x (omega arith)

-- before any beam
pub none_yet : (last : List (Option ℕ)) → last ≡ replicate 256 None → AreLast last []
none_yet last e id lt = ap (λ (l : List (Option ℕ)). slice_get l id) e ∙ replicated 256 id None lt

joined : (test : Bool) (at : ℕ) (o p : Option ℕ) → option_map_or Some (cond test (Some at) o) p ≡ cond test (Some at) (option_map_or Some o p)
joined true at o p = refl
joined false at o p = refl

-- one beam more
last_at_more : (id : ℕ) (given : List Beam) (b : Beam) → last_at id (given ++ b ∷ []) ≡ cond (eqb b.id id) (Some b.at) (last_at id given)
last_at_more id [] b = refl
last_at_more id (c ∷ given) b =
    ap (λ (o : Option ℕ). option_map_or Some o (cond (eqb c.id id) (Some c.at) None)) (last_at_more id given b) ∙ joined (eqb b.id id) b.at (last_at id given) (cond (eqb c.id id) (Some c.at) None)

set_same : {X : Type 0} (xs : List X) (i : ℕ) (x y : X) → slice_get xs i ≡ Some x → slice_get (set xs i y) i ≡ Some y
set_same [] i x y h = cc
set_same (z ∷ zs) zero x y h = refl
set_same (z ∷ zs) (suc i) x y h = set_same zs i x y h

set_other : {X : Type 0} (xs : List X) (i k : ℕ) (y : X) → k ≢ i → slice_get (set xs i y) k ≡ slice_get xs k
set_other [] i k y ne = refl
set_other (z ∷ zs) zero zero y ne = absurd (ne refl)
set_other (z ∷ zs) zero (suc k) y ne = refl
set_other (z ∷ zs) (suc i) zero y ne = refl
set_other (z ∷ zs) (suc i) (suc k) y ne = set_other zs i k y (λ e. ne (ap suc e))

pub noted : (last : List (Option ℕ)) (given : List Beam) (b : Beam) → b.id < 256 → AreLast last given → AreLast (set last b.id (Some b.at)) (given ++ b ∷ [])
noted last given b lt h id inside =
    elim (cases_eq b.id id) as (λ _. slice_get (set last b.id (Some b.at)) id ≡ Some (last_at id (given ++ b ∷ []))) [
      | inl e ↦
          let here = set_same last b.id (last_at b.id given) (Some b.at) (h b.id lt) in
          let told : last_at id (given ++ b ∷ []) ≡ Some b.at = last_at_more id given b ∙ ap (λ (t : Bool). cond t (Some b.at) (last_at id given)) (eq-eqb b.id id e) in
          ap (λ (k : ℕ). slice_get (set last b.id (Some b.at)) k) (sym e) ∙ here ∙ ap Some (sym told)
      | inr ne ↦
          let told : last_at id (given ++ b ∷ []) ≡ last_at id given = last_at_more id given b ∙ ap (λ (t : Bool). cond t (Some b.at) (last_at id given)) (ne_eqb b.id id ne) in
          set_other last b.id id (Some b.at) (λ same. ne (sym same)) ∙ h id inside ∙ ap Some (sym told)
    ]

-- the beams of a step behind those of earlier ones
pub set_by_more : {X : Type 0} (f : X → List Beam) (earlier : List X) (s : X) → flat_map f (earlier ++ s ∷ []) ≡ flat_map f earlier ++ f s
set_by_more f earlier s = flat_map-append f earlier (s ∷ []) ∙ ap (λ (l : List Beam). flat_map f earlier ++ l) (append-nil (f s))

changes_more : (given beams : List Beam) (k : ℕ) (d : Beam) → k < length beams → greatest_change given (take (k + 1) beams) ≡ max (greatest_change given (take k beams)) (change given (get_or beams k d))
changes_more given beams k d lt =
    ap (λ (l : List Beam). fold max 0 (map (change given) l)) (take_more beams k d lt)
    ∙ ap (λ (l : List ℕ). fold max 0 l) (map-append (change given) (take k beams) (get_or beams k d ∷ []))
    ∙ fold-append max 0 (map (change given) (take k beams)) (change given (get_or beams k d) ∷ [])

pub greatest_more : (given beams : List Beam) (k greatest by : ℕ) (d : Beam) → k < length beams → greatest ≡ greatest_change given (take k beams) → by ≡ change given (get_or beams k d) → max greatest by ≡ greatest_change given (take (k + 1) beams)
greatest_more given beams k greatest by d lt e f =
    let folded : greatest_change given (take (k + 1) beams) ≡ max (greatest_change given (take k beams)) (change given (get_or beams k d)) = changes_more given beams k d lt in
    rw (e, f) (sym folded)

-- one beam more of a list
pub taken_more : (given beams : List Beam) (k : ℕ) (d : Beam) → k < length beams → (given ++ take k beams) ++ get_or beams k d ∷ [] ≡ given ++ take (k + 1) beams
taken_more given beams k d lt = append_assoc given (take k beams) (get_or beams k d ∷ []) ∙ ap (λ (l : List Beam). given ++ l) (sym (take_more beams k d lt))

-- what a timer remembers behind a step that gives these positions
pub remembers : (earlier : List Step) (s : Step) (old new : LastPositions) (rows columns : List Beam) → rows_set s ≡ rows → columns_set s ≡ columns
    → (AreLast old.rows (flat_map rows_set earlier) → AreLast new.rows (flat_map rows_set earlier ++ rows))
    → (AreLast old.columns (flat_map columns_set earlier) → AreLast new.columns (flat_map columns_set earlier ++ columns))
    → AreLastOf old earlier → AreLastOf new (earlier ++ s ∷ [])
remembers earlier s old new rows columns r c on_rows on_columns h = record {
  rows = subst (AreLast new.rows) (ap (λ (l : List Beam). flat_map rows_set earlier ++ l) (sym r) ∙ sym (set_by_more rows_set earlier s)) (on_rows h.rows);
  columns = subst (AreLast new.columns) (ap (λ (l : List Beam). flat_map columns_set earlier ++ l) (sym c) ∙ sym (set_by_more columns_set earlier s)) (on_columns h.columns);
}

-- a move of these changes lasts its move time
pub move_lasts : (f : Figures) (earlier : List Step) (s : Step) (aod : ℕ) (rows columns : List Beam) (dx dy t : ℕ) → s ≡ Move aod rows columns
    → dx ≡ greatest_change (flat_map columns_set earlier) (columns_set s) → dy ≡ greatest_change (flat_map rows_set earlier) (rows_set s)
    → IsMoveTime f.accel dx dy t → Lasts f earlier (Move aod rows columns) t
move_lasts f earlier s aod rows columns dx dy t is x y time =
    let across : dx ≡ greatest_change (flat_map columns_set earlier) columns = x ∙ ap (λ (u : Step). greatest_change (flat_map columns_set earlier) (columns_set u)) is in
    let along : dy ≡ greatest_change (flat_map rows_set earlier) rows = y ∙ ap (λ (u : Step). greatest_change (flat_map rows_set earlier) (rows_set u)) is in
    subst (λ (d : ℕ). IsMoveTime f.accel d (greatest_change (flat_map rows_set earlier) rows) t) across (subst (λ (d : ℕ). IsMoveTime f.accel dx d t) along time)
