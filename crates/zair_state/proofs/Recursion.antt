-- Facts on the items of a closed list, from facts that are listed one by one.
use Rattle.std.proofs.Common.{◌≡◌, ℕ, ◌*◌, ◌<◌, ◌≢◌, List, [], ◌∷◌, refl, zero, suc, true, false, Bool, ◌&&◌, ltb-true, nat_lt, Some}
use Rattle.std.specs.List.{All, AllPairs, AllByRecursion, slice_get, list_all}
use Rattle.std.proofs.lemmas.List.Elements.{All-nil, All-cons}
use Rattle.std.proofs.lemmas.List.Kept.{AllPairs-cons}
use Rattle.zac_arch.specs.Architecture.{Architecture, trap_points}
use Rattle.zac_arch.specs.Distances.{squared_distance, IsFarther}
use Rattle.zac_arch.specs.declared.place.Point.{Point}
use Rattle.zair_form.specs.declared.step.Beam.{Beam}
use Rattle.zair_state.specs.declared.place.Place.{Place}
use Rattle.zair_state.specs.State.{State, EachCrossing, IsClear, IsFreeOfOthers}
use Rattle.zair_state.proofs.Closed.{each_crossing}

pub all_of : {X : Type 0} (P : X → Type 0) (xs : List X) → AllByRecursion P xs → All P xs
all_of P [] h = All-nil P
all_of P (x ∷ xs) h = All-cons P x xs h.0 (all_of P xs h.1)

pub pairs_of : {X : Type 0} (R : X → X → Type 0) (x : X) (xs : List X) → AllByRecursion (R x) xs → AllPairs R xs → AllPairs R (x ∷ xs)
pairs_of R x xs h more = AllPairs-cons R x xs (all_of (R x) xs h) more

map_all : {X : Type 0} (P Q : X → Type 0) (xs : List X) → ((x : X) → P x → Q x) → AllByRecursion P xs → AllByRecursion Q xs
map_all P Q [] f h = tt
map_all P Q (x ∷ xs) f h = (f x h.0, map_all P Q xs f h.1)

pub crossings_of : (rows columns : List Beam) (P : Beam → Beam → Type 0) → AllByRecursion (λ r. AllByRecursion (P r) columns) rows → EachCrossing rows columns P
crossings_of rows columns P h =
    each_crossing rows columns P (all_of (λ (r : Beam). All (P r) columns) rows (map_all (λ (r : Beam). AllByRecursion (P r) columns) (λ (r : Beam). All (P r) columns) rows (λ r g. all_of (P r) columns g) h))

-- nobody is at a place that each qubit's place differs from
pub nobody_at : (places : List Place) (there : Place) → AllByRecursion (λ (p : Place). p ≢ there) places → (q : ℕ) → ¬ (slice_get places q ≡ Some there)
nobody_at [] there h q e = absurd (cc)
nobody_at (p ∷ ps) there h zero e = h.0 (cc)
nobody_at (p ∷ ps) there h (suc q) e = nobody_at ps there h.1 q e

both : (a b : Bool) → a && b ≡ true → (a ≡ true) × (b ≡ true)
both true b e = (refl, e)
both false b e = absurd (cc)

tested : (test : Point → ℕ) (bound : ℕ) (ps : List Point) → list_all (λ (p : Point). nat_lt bound (test p)) ps ≡ true → AllByRecursion (λ (p : Point). bound < test p) ps
tested test bound [] e = tt
tested test bound (p ∷ ps) e =
    let h = both (nat_lt bound (test p)) (list_all (λ (q : Point). nat_lt bound (test q)) ps) e in
    (ltb-true _ _ h.0, tested test bound ps h.1)

-- a point that computes as far from all traps is clear
pub clear_by_test : (a : Architecture) (s : State) (aod : ℕ) (p : Point) → IsFreeOfOthers a s aod p → list_all (λ (t : Point). nat_lt (a.figures.reach * a.figures.reach) (squared_distance p t)) (trap_points a) ≡ true → IsClear a s aod p
clear_by_test a s aod p free e = record {
  free = free;
  off_traps = all_of (IsFarther a.figures.reach p) (trap_points a) (tested (squared_distance p) (a.figures.reach * a.figures.reach) (trap_points a) e);
}
