-- A flag for each trap, set where an atom rests in it.
use Rattle.std.proofs.Common.{◌≡◌, ℕ, ◌+◌, ◌<◌, ◌≤◌, inl, inr, Bool, true, false, not, ◌&&◌, is_none, is_some, List, length, map, replicate, get_or, set, Option, Some, None, refl, sym, ap, ◌∙◌, arith}
use Rattle.std.specs.List.{slice_index_or}
use Rattle.std.specs.Option.{MatchOption}
use Rattle.std.proofs.lemmas.Bool.{cases_lt}
use Rattle.std.proofs.lemmas.List.{get_or-map, get_or-replicate, length-map, length-replicate, length-set, map-set, same_lists}
use Rattle.std.proofs.lemmas.Option.{none-some}
use Rattle.std.proofs.Math.ListN.{get_or-map as get_or-map_default}
use Rattle.zac_arch.specs.Architecture.{Architecture}
use Rattle.zac_flags.specs.Flags.{AreSet, IsFirstUnset, IsLastUnset, is_unset}
use Rattle.zac_pairing.specs.Pairing.{mate, IsPairing, freed}
use Rattle.zac_world.specs.Free.{IsFirstFree, is_free}
use Rattle.zac_world.specs.Places.{Places, is_empty, traps_of, ArePlaced}
use Rattle.zac_world.specs.Worlds.{cleared}
use Rattle.zac_world.specs.declared.free.Side.TheVariants.{Left, Right}
use Rattle.zac_world.proofs.PlacesFacts.{empty_is}

-- no atom rests in a trap yet
none_at : (left right : List (Option ℕ)) (t : ℕ) (o : Option ℕ) → IsPairing left right → ((q : ℕ) → mate left q ≡ None) → o ≡ mate right t → is_some (mate right t) ≡ false
none_at left right t None pairing alone is = ap is_some (sym is)
none_at left right t (Some q) pairing alone is = absurd (none-some t (sym (alone q) ∙ pairing.back q t (sym is)))

pub none_taken : (left right : List (Option ℕ)) (n : ℕ) → IsPairing left right → ((q : ℕ) → mate left q ≡ None) → length right ≡ n → replicate n false ≡ map is_some right
none_taken left right n pairing alone many =
    same_lists (replicate n false) (map is_some right) (length-replicate n false ∙ sym many ∙ sym (length-map right is_some))
    (λ t d lt.
    let within : t < n = omega (arith, lt, length-replicate n false) in
    get_or-replicate n t false d within
    ∙ sym (get_or-map is_some right t None d (omega (arith, many)) ∙ none_at left right t (mate right t) pairing alone refl))

-- an atom goes from one trap, if it was in any, into another one
pub taken_after : (right : List (Option ℕ)) (before : Option ℕ) (t q : ℕ) → set (cleared (map is_some right) before) t true ≡ map is_some (set (freed right before) t (Some q))
taken_after right None t q = sym (map-set is_some right t (Some q))
taken_after right (Some k) t q =
    ap (λ (l : List Bool). set l t true) (sym (map-set is_some right k None)) ∙ sym (map-set is_some (set right k None) t (Some q))

pub length-cleared : (taken : List Bool) (before : Option ℕ) → length (cleared taken before) ≡ length taken
length-cleared taken None = refl
length-cleared taken (Some t) = length-set taken t false

-- a trap is free where neither list has its flag set
pub free_is : (a : Architecture) (left right : List (Option ℕ)) (taken marks : List Bool) → ArePlaced a left right → IsPairing left right → taken ≡ map is_some right →
    (t : ℕ) → is_unset taken marks t ≡ (is_empty (traps_of left) t && not (slice_index_or marks t false))
free_is a left right taken marks placed pairing are t =
    ap (λ (b : Bool). not b && not (slice_index_or marks t false)) (ap (λ (l : List Bool). get_or l t false) are ∙ get_or-map_default is_some right t None)
    ∙ ap (λ (b : Bool). b && not (slice_index_or marks t false)) (other (mate right t) ∙ sym (empty_is a left right t (mate right t) placed pairing refl))
  where
    other : (o : Option ℕ) → not (is_some o) ≡ is_none o
    other None = refl
    other (Some q) = refl

module _ (p : Places) (taken marks : List Bool) (begin end : ℕ) (same : (t : ℕ) → is_unset taken marks t ≡ is_free p marks t) where
  only_one : (t : ℕ) → is_unset taken marks t ≡ false → is_free p marks t ≡ true → {P : Type 0} → P
  only_one t fails holds {P} = absurd (let both : true ≡ false = sym holds ∙ sym (same t) ∙ fails in cc)

  none_free : AreSet taken marks begin end → (t : ℕ) → begin ≤ t → t < end → is_free p marks t ≡ false
  none_free none t ge lt = sym (same t) ∙ none t ge lt

  pub first_on_right : (found : Option ℕ) → MatchOption found (AreSet taken marks begin end) (IsFirstUnset taken marks begin end) →
      MatchOption found ((t : ℕ) → begin ≤ t → t < end → is_free p marks t ≡ false) (IsFirstFree p marks Right begin end)
  first_on_right None none = none_free none
  first_on_right (Some t) is =
      record {
        from_begin = is.from_begin;
        before_end = is.before_end;
        free = sym (same t) ∙ is.unset;
        first = λ other ge lt free. elim (cases_lt other t) as (λ _. t ≤ other) [
          | inl less ↦ only_one other (is.first other ge less) free
          | inr more ↦ more
        ];
      }

  pub first_on_left : (found : Option ℕ) → MatchOption found (AreSet taken marks begin end) (IsLastUnset taken marks begin end) →
      MatchOption found ((t : ℕ) → begin ≤ t → t < end → is_free p marks t ≡ false) (IsFirstFree p marks Left begin end)
  first_on_left None none = none_free none
  first_on_left (Some t) is =
      record {
        from_begin = is.from_begin;
        before_end = is.before_end;
        free = sym (same t) ∙ is.unset;
        first = λ other ge lt free. elim (cases_lt t other) as (λ _. other ≤ t) [
          | inl more ↦ only_one other (is.last other more lt) free
          | inr less ↦ less
        ];
      }
