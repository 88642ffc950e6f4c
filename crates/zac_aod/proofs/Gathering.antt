-- What loops over lines, atoms and rows gather.
use Rattle.std.proofs.Common.{◌≡◌, ℕ, zero, suc, ◌+◌, ◌-◌, ◌<◌, ◌≤◌, ◌==◌, Bool, true, false, cond, Some, None, List, [], ◌∷◌, ◌++◌, length, map, filter, take, drop, get_or, refl, sym, ap, ◌∙◌, subst, arith, append_assoc, drop-cons}
use Rattle.std.specs.List.{list_any}
use Rattle.std.proofs.Math.Seq.{take-suc, take-length}
use Rattle.std.proofs.lemmas.Grind.{flat_map-append}
use Rattle.std.proofs.lemmas.Bool.{le-ltb, lt-ltb, eq-eqb, false_from_ne_true, ne_eqb}
use Rattle.std.proofs.lemmas.Option.{cond_some, none-some}
use Rattle.std.proofs.lemmas.List.{length-take-le, map-append}
use Rattle.std.proofs.lemmas.List.Elements.{filter-append}
use Rattle.zac_arch.specs.Architecture.{Architecture, StandsAt}
use Rattle.zac_arch.specs.declared.place.Point.{Point}
use Rattle.zac_arch.specs.declared.place.TrapId.{TrapId}
use Rattle.zac_aod.specs.Jobs.{StandAt}
use Rattle.zac_group.specs.declared.shift.Shift.{Shift}
use Rattle.zair_form.specs.declared.step.Beam.{Beam}
use Rattle.zac_aod.specs.Layout.{atom_among, atom_of, place_over, route_of}
use Rattle.zac_aod.specs.Lines.{by_source, with_line, rows_of, columns_of, crossings_of}
use Rattle.zac_aod.specs.Stages.{beams_over}
use Rattle.zac_aod.specs.declared.atom.Atom.{Atom}
use Rattle.zac_aod.specs.declared.line.Line.{Line}
use Rattle.zac_aod.specs.declared.route.Route.{Route}

-- one more element
pub take_more : {X : Type 0} (xs : List X) (k : ℕ) (d : X) → k < length xs → take (k + 1) xs ≡ take k xs ++ get_or xs k d ∷ []
take_more xs k d lt = let e : k + 1 ≡ suc k = omega arith in subst (λ n. take n xs ≡ take k xs ++ get_or xs k d ∷ []) (sym e) (take-suc xs k d lt)

pub drop_one : {X : Type 0} (xs : List X) (k : ℕ) (d : X) → k < length xs → drop k xs ≡ get_or xs k d ∷ drop (k + 1) xs
drop_one xs k d lt = let e : suc k ≡ k + 1 = omega arith in subst (λ n. drop k xs ≡ get_or xs k d ∷ drop n xs) e (drop-cons xs k d lt)

-- a line that is there stays out
pub with_line_same : (l : Line) (ms : List Line) (place : ℕ) (d : Line) → place < length ms → ((k : ℕ) → k < place → (get_or ms k d).from < l.from)
    → (get_or ms place d).from ≡ l.from → with_line l ms ≡ ms
with_line_same l [] place d lt before same = absurd (omega arith)
with_line_same l (m ∷ ms) zero d lt before same =
    ap (λ t. cond t (l ∷ m ∷ ms) (cond (l.from == m.from) (m ∷ ms) (m ∷ with_line l ms))) (le-ltb l.from m.from (omega arith))
    ∙ ap (λ t. cond t (m ∷ ms) (m ∷ with_line l ms)) (eq-eqb l.from m.from (sym same))
with_line_same l (m ∷ ms) (suc k) d lt before same =
    let low : m.from < l.from = before 0 (omega arith) in
    ap (λ t. cond t (l ∷ m ∷ ms) (cond (l.from == m.from) (m ∷ ms) (m ∷ with_line l ms))) (le-ltb l.from m.from (omega arith))
    ∙ ap (λ t. cond t (m ∷ ms) (m ∷ with_line l ms)) (ne_eqb l.from m.from (λ e. omega arith))
    ∙ ap (λ (ys : List Line). m ∷ ys) (with_line_same l ms k d (omega arith) (λ j h. before (suc j) (omega arith)) same)

-- another is put in before the first that is above it
pub with_line_new : (l : Line) (ms : List Line) (place : ℕ) (d : Line) → place ≤ length ms → ((k : ℕ) → k < place → (get_or ms k d).from < l.from)
    → (place < length ms → l.from < (get_or ms place d).from) → with_line l ms ≡ take place ms ++ l ∷ drop place ms
with_line_new l [] zero d le before above = refl
with_line_new l [] (suc k) d le before above = absurd (omega arith)
with_line_new l (m ∷ ms) zero d le before above =
    ap (λ t. cond t (l ∷ m ∷ ms) (cond (l.from == m.from) (m ∷ ms) (m ∷ with_line l ms))) (lt-ltb l.from m.from (above (omega arith)))
with_line_new l (m ∷ ms) (suc k) d le before above =
    let low : m.from < l.from = before 0 (omega arith) in
    ap (λ t. cond t (l ∷ m ∷ ms) (cond (l.from == m.from) (m ∷ ms) (m ∷ with_line l ms))) (le-ltb l.from m.from (omega arith))
    ∙ ap (λ t. cond t (m ∷ ms) (m ∷ with_line l ms)) (ne_eqb l.from m.from (λ e. omega arith))
    ∙ ap (λ (ys : List Line). m ∷ ys) (with_line_new l ms k d (omega arith) (λ j h. before (suc j) (omega arith)) (λ h. above (omega arith)))

-- lines are sorted from the last one on
pub sorted_more : (lines : List Line) (done : ℕ) (d : Line) → done < length lines
    → with_line (get_or lines (length lines - 1 - done) d) (by_source (drop (length lines - done) lines)) ≡ by_source (drop (length lines - (done + 1)) lines)
sorted_more lines done d lt =
    let j : ℕ = length lines - 1 - done in
    let e : j ≡ length lines - (done + 1) = omega arith in
    let f : j + 1 ≡ length lines - done = omega arith in
    let g : drop j lines ≡ get_or lines j d ∷ drop (j + 1) lines = drop_one lines j d (omega arith) in
    ap (λ n. with_line (get_or lines j d) (by_source (drop n lines))) (sym f)
    ∙ ap by_source (sym g)
    ∙ ap (λ n. by_source (drop n lines)) e

cond_append : (t : Bool) (b : Beam) (xs ys : List Beam) → cond t (b ∷ (xs ++ ys)) (xs ++ ys) ≡ cond t (b ∷ xs) xs ++ ys
cond_append true b xs ys = refl
cond_append false b xs ys = refl

-- beams over one more line
beams_snoc : (active : Line → Bool) (at : Line → ℕ) (id : ℕ) (lines : List Line) (l : Line)
    → beams_over active at id (lines ++ l ∷ []) ≡ beams_over active at id lines ++ beams_over active at (id + length lines) (l ∷ [])
beams_snoc active at id [] l = ap (λ n. beams_over active at n (l ∷ [])) (let e : id ≡ id + 0 = omega arith in e)
beams_snoc active at id (m ∷ ms) l =
    let e : id + 1 + length ms ≡ id + length (m ∷ ms) = omega arith in
    let rest = beams_snoc active at (id + 1) ms l ∙ ap (λ n. beams_over active at (id + 1) ms ++ beams_over active at n (l ∷ [])) e in
    ap (λ bs. cond (active m) (record { id = id; at = at m } ∷ bs) bs) rest
    ∙ cond_append (active m) (record { id = id; at = at m }) (beams_over active at (id + 1) ms) (beams_over active at (id + length (m ∷ ms)) (l ∷ []))

beams_to : (active : Line → Bool) (at : Line → ℕ) (lines : List Line) (k : ℕ) (d : Line) → k < length lines
    → beams_over active at 0 (take (k + 1) lines) ≡ beams_over active at 0 (take k lines) ++ beams_over active at k (get_or lines k d ∷ [])
beams_to active at lines k d lt =
    let n : length (take k lines) ≡ k = length-take-le k lines (omega arith) in
    let e : 0 + length (take k lines) ≡ k = omega arith in
    ap (beams_over active at 0) (take_more lines k d lt)
    ∙ beams_snoc active at 0 (take k lines) (get_or lines k d)
    ∙ ap (λ n. beams_over active at 0 (take k lines) ++ beams_over active at n (get_or lines k d ∷ [])) e

beams_on : (active : Line → Bool) (at : Line → ℕ) (lines : List Line) (k : ℕ) (d : Line) → k < length lines → active (get_or lines k d) ≡ true
    → (beams : List Beam) → beams ≡ beams_over active at 0 (take k lines)
    → beams ++ record { id = k; at = at (get_or lines k d) } ∷ [] ≡ beams_over active at 0 (take (k + 1) lines)
beams_on active at lines k d lt on beams so_far =
    let b : Beam = record { id = k; at = at (get_or lines k d) } in
    ap (λ (bs : List Beam). bs ++ b ∷ []) so_far
    ∙ ap (λ t. beams_over active at 0 (take k lines) ++ cond t (b ∷ []) []) (sym on)
    ∙ sym (beams_to active at lines k d lt)

pub append_none : {X : Type 0} (xs : List X) → xs ++ [] ≡ xs
append_none [] = refl
append_none (x ∷ xs) = ap (λ ys. x ∷ ys) (append_none xs)

beams_off : (active : Line → Bool) (at : Line → ℕ) (lines : List Line) (k : ℕ) (d : Line) → k < length lines → active (get_or lines k d) ≡ false
    → (beams : List Beam) → beams ≡ beams_over active at 0 (take k lines) → beams ≡ beams_over active at 0 (take (k + 1) lines)
beams_off active at lines k d lt off beams so_far =
    so_far
    ∙ sym (append_none (beams_over active at 0 (take k lines)))
    ∙ ap (λ t. beams_over active at 0 (take k lines) ++ cond t (record { id = k; at = at (get_or lines k d) } ∷ []) []) (sym off)
    ∙ sym (beams_to active at lines k d lt)

-- the rows and the columns of atoms
pub rows_of_routes : (a : Architecture) (shifts : List Shift) → by_source (map (λ (r : Route). r.row) (map (route_of a) shifts)) ≡ rows_of a shifts
rows_of_routes a [] = refl
rows_of_routes a (s ∷ ss) = ap (with_line (route_of a s).row) (rows_of_routes a ss)

pub columns_of_routes : (a : Architecture) (shifts : List Shift) → by_source (map (λ (r : Route). r.column) (map (route_of a) shifts)) ≡ columns_of a shifts
columns_of_routes a [] = refl
columns_of_routes a (s ∷ ss) = ap (with_line (route_of a s).column) (columns_of_routes a ss)

pub atoms_of_routes : (a : Architecture) (columns : List Line) (shifts : List Shift) → map (atom_among columns) (map (route_of a) shifts) ≡ map (λ (s : Shift). atom_among columns (route_of a s)) shifts
atoms_of_routes a columns [] = refl
atoms_of_routes a columns (s ∷ ss) = ap (λ (ts : List Atom). atom_among columns (route_of a s) ∷ ts) (atoms_of_routes a columns ss)

-- rows and columns, as they are made from routes that are read by other names
pub rows_read : (a : Architecture) (shifts : List Shift) {rows lines lines' : List Line} {routes routes' : List Route} → rows ≡ by_source lines' → lines' ≡ lines → lines ≡ map (λ (r : Route). r.row) routes' → routes' ≡ routes → routes ≡ map (route_of a) shifts
    → rows ≡ rows_of a shifts
rows_read a shifts made same lines read routes = made ∙ ap by_source (same ∙ lines ∙ ap (map (λ (r : Route). r.row)) (read ∙ routes)) ∙ rows_of_routes a shifts

pub columns_read : (a : Architecture) (shifts : List Shift) {columns lines lines' : List Line} {routes routes' : List Route} → columns ≡ by_source lines' → lines' ≡ lines → lines ≡ map (λ (r : Route). r.column) routes' → routes' ≡ routes → routes ≡ map (route_of a) shifts
    → columns ≡ columns_of a shifts
columns_read a shifts made same lines read routes = made ∙ ap by_source (same ∙ lines ∙ ap (map (λ (r : Route). r.column)) (read ∙ routes)) ∙ columns_of_routes a shifts

pub atoms_read : (a : Architecture) (shifts : List Shift) {atoms : List Atom} {routes routes' : List Route} {columns columns' : List Line} → atoms ≡ map (atom_among columns') routes' → columns' ≡ columns → columns ≡ columns_of a shifts → routes' ≡ routes → routes ≡ map (route_of a) shifts
    → atoms ≡ map (atom_of a shifts) shifts
atoms_read a shifts {routes' = routes'} made same columns read routes =
    made ∙ ap (λ (ls : List Line). map (atom_among ls) routes') (same ∙ columns) ∙ ap (map (atom_among (columns_of a shifts))) (read ∙ routes) ∙ atoms_of_routes a (columns_of a shifts) shifts

-- what holds of some atom holds of that of some move
pub any_of_map : {X Y : Type 0} (p : Y → Bool) (f : X → Y) (xs : List X) → list_any p (map f xs) ≡ list_any (λ (x : X). p (f x)) xs
any_of_map p f [] = refl
any_of_map p f (x ∷ xs) = grind (arith, any_of_map p f xs)

-- one more is taken, or not
taken_more : {X Y : Type 0} (f : X → Y) (p : X → Bool) (xs : List X) (k : ℕ) (d : X) → k < length xs
    → map f (filter p (take (k + 1) xs)) ≡ map f (filter p (take k xs)) ++ map f (filter p (get_or xs k d ∷ []))
taken_more f p xs k d lt =
    ap (λ zs. map f (filter p zs)) (take_more xs k d lt)
    ∙ ap (map f) (filter-append p (take k xs) (get_or xs k d ∷ []))
    ∙ map-append f (filter p (take k xs)) (filter p (get_or xs k d ∷ []))

pub taken_on : {X Y : Type 0} (f : X → Y) (p : X → Bool) (xs : List X) (k : ℕ) (d : X) → k < length xs → p (get_or xs k d) ≡ true
    → (ys : List Y) → ys ≡ map f (filter p (take k xs)) → ys ++ f (get_or xs k d) ∷ [] ≡ map f (filter p (take (k + 1) xs))
taken_on f p xs k d lt on ys so_far =
    ap (λ zs. zs ++ f (get_or xs k d) ∷ []) so_far
    ∙ ap (λ t. map f (filter p (take k xs)) ++ map f (cond t (get_or xs k d ∷ []) [])) (sym on)
    ∙ sym (taken_more f p xs k d lt)

pub taken_off : {X Y : Type 0} (f : X → Y) (p : X → Bool) (xs : List X) (k : ℕ) (d : X) → k < length xs → p (get_or xs k d) ≡ false
    → (ys : List Y) → ys ≡ map f (filter p (take k xs)) → ys ≡ map f (filter p (take (k + 1) xs))
taken_off f p xs k d lt off ys so_far =
    so_far
    ∙ sym (append_none (map f (filter p (take k xs))))
    ∙ ap (λ t. map f (filter p (take k xs)) ++ map f (cond t (get_or xs k d ∷ []) [])) (sym off)
    ∙ sym (taken_more f p xs k d lt)

pub take_all : {X : Type 0} (xs : List X) (k : ℕ) → k ≤ length xs → length xs ≤ k → take k xs ≡ xs
take_all xs k le ge = let e : length xs ≡ k = omega arith in subst (λ n. take n xs ≡ xs) e (take-length xs)

-- one more trap
pub stand_snoc : (a : Architecture) (ts : List TrapId) (ps : List Point) (t : TrapId) (p : Point) → StandAt a ts ps → StandsAt a t.0 p → StandAt a (ts ++ t ∷ []) (ps ++ p ∷ [])
stand_snoc a [] [] t p h s = (s, tt)
stand_snoc a (u ∷ us) (q ∷ qs) t p h s = (h.0, stand_snoc a us qs t p h.1 s)
stand_snoc a [] (q ∷ qs) t p h s = absurd h
stand_snoc a (u ∷ us) [] t p h s = absurd h

pub row_more : (a : Architecture) (traps : List TrapId) (points : List Point) (y : ℕ) (xs : List ℕ) (k d : ℕ) → k < length xs
    → StandAt a traps (points ++ map {A = ℕ} {B = Point} (λ x. record { x = x; y = y }) (take k xs)) → (t : TrapId) → StandsAt a t.0 (record { x = get_or xs k d; y = y })
    → StandAt a (traps ++ t ∷ []) (points ++ map {A = ℕ} {B = Point} (λ x. record { x = x; y = y }) (take (k + 1) xs))
row_more a traps points y xs k d lt h t s =
    let f : ℕ → Point = λ x. record { x = x; y = y } in
    let e : points ++ map f (take (k + 1) xs) ≡ (points ++ map f (take k xs)) ++ f (get_or xs k d) ∷ [] =
    ap (λ zs. points ++ map f zs) (take_more xs k d lt)
    ∙ ap (λ zs. points ++ zs) (map-append f (take k xs) (get_or xs k d ∷ []))
    ∙ sym (append_assoc points (map f (take k xs)) (f (get_or xs k d) ∷ [])) in
    subst (λ zs. StandAt a (traps ++ t ∷ []) zs) (sym e) (stand_snoc a traps (points ++ map f (take k xs)) t (f (get_or xs k d)) h s)

-- one more row of points
pub grid_more : (points : List Point) (xs ys : List ℕ) (k d : ℕ) → k < length ys
    → points ++ crossings_of xs (take (k + 1) ys) ≡ (points ++ crossings_of xs (take k ys)) ++ map {A = ℕ} {B = Point} (λ x. record { x = x; y = get_or ys k d }) xs
grid_more points xs ys k d lt =
    let row : ℕ → List Point = λ y. map {A = ℕ} {B = Point} (λ x. record { x = x; y = y }) xs in
    ap (λ zs. points ++ crossings_of xs zs) (take_more ys k d lt)
    ∙ ap (λ zs. points ++ zs) (flat_map-append row (take k ys) (get_or ys k d ∷ []))
    ∙ ap (λ zs. points ++ (crossings_of xs (take k ys) ++ zs)) (append_none (row (get_or ys k d)))
    ∙ sym (append_assoc points (crossings_of xs (take k ys)) (row (get_or ys k d)))

-- a line that is given a place, or none
pub placed_on : (active : Line → Bool) (at : Line → ℕ) (lines : List Line) (k : ℕ) (d : Line) → k < length lines → (place : ℕ) → Some place ≡ place_over active at (get_or lines k d)
    → (beams : List Beam) → beams ≡ beams_over active at 0 (take k lines) → beams ++ record { id = k; at = place } ∷ [] ≡ beams_over active at 0 (take (k + 1) lines)
placed_on active at lines k d lt place given beams so_far =
    let l : Line = get_or lines k d in
    let on = cond_some (active l) (at l) place (sym given) in
    ap (λ (n : ℕ). beams ++ record { id = k; at = n } ∷ []) (sym on.1) ∙ beams_on active at lines k d lt on.0 beams so_far

pub placed_off : (active : Line → Bool) (at : Line → ℕ) (lines : List Line) (k : ℕ) (d : Line) → k < length lines → None ≡ place_over active at (get_or lines k d)
    → (beams : List Beam) → beams ≡ beams_over active at 0 (take k lines) → beams ≡ beams_over active at 0 (take (k + 1) lines)
placed_off active at lines k d lt given beams so_far =
    let l : Line = get_or lines k d in
    beams_off active at lines k d lt
    (false_from_ne_true (active l) (λ on. none-some (at l) (given ∙ ap (λ b. cond b (Some (at l)) None) on)))
    beams so_far

-- the same of a list that is read by another name
pub taken_on_of : {X Y : Type 0} (f : X → Y) (p : X → Bool) (read xs : List X) → read ≡ xs → (k : ℕ) (d : X) → k < length read → p (get_or read k d) ≡ true
    → (ys : List Y) → ys ≡ map f (filter p (take k xs)) → ys ++ f (get_or read k d) ∷ [] ≡ map f (filter p (take (k + 1) xs))
taken_on_of f p read xs e k d lt on ys so_far =
    subst (λ zs. ys ≡ map f (filter p (take k zs)) → ys ++ f (get_or read k d) ∷ [] ≡ map f (filter p (take (k + 1) zs))) e
    (taken_on f p read k d lt on ys) so_far

pub taken_off_of : {X Y : Type 0} (f : X → Y) (p : X → Bool) (read xs : List X) → read ≡ xs → (k : ℕ) (d : X) → k < length read → p (get_or read k d) ≡ false
    → (ys : List Y) → ys ≡ map f (filter p (take k xs)) → ys ≡ map f (filter p (take (k + 1) xs))
taken_off_of f p read xs e k d lt off ys so_far =
    subst (λ zs. ys ≡ map f (filter p (take k zs)) → ys ≡ map f (filter p (take (k + 1) zs))) e
    (taken_off f p read k d lt off ys) so_far
