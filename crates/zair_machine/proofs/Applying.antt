-- What a step changes: beams and atoms one after another, and the whole state.
use Rattle.std.proofs.Common.{◌≡◌, ℕ, ◌+◌, ◌*◌, ◌<◌, ◌≤◌, inl, inr, Bool, false, cond, not, eqb, List, [], ◌∷◌, ◌++◌, length, take, drop, get_or, set, append-nil, drop_of_length-le, take_all, refl, sym, ap, ◌∙◌, subst, arith, length-take, length-set}
use Rattle.std.specs.List.{All, Contains, list_any}
use Rattle.std.proofs.lemmas.Bool.{cases_Bool}
use Rattle.std.proofs.lemmas.List.Elements.{All-contains, filter_more}
use Rattle.std.proofs.lemmas.List.{get_or_default}
use Rattle.std.proofs.lemmas.Option.{slice_get_within}
use Rattle.zac_arch.specs.Architecture.{Architecture}
use Rattle.zair_form.specs.declared.step.Beam.{Beam}
use Rattle.zair_form.specs.declared.step.Caught.{Caught}
use Rattle.zair_form.specs.declared.step.Dropped.{Dropped}
use Rattle.zair_form.specs.declared.step.Step.TheVariants.{Move}
use Rattle.zair_state.specs.declared.place.Place.{Place}
use Rattle.zair_state.specs.declared.place.Place.TheVariants.{Trap, Held}
use Rattle.zair_state.specs.State.{State, Beams, EachCrossing, idle, beams_of}
use Rattle.zair_state.specs.Legal.{Picks, Drops}
use Rattle.zair_state.specs.Result.{after, after_catching, after_dropping, with_beams, without_beams}
use Rattle.zair_state.specs.Invariant.{IsSound}
use Rattle.zair_machine.specs.Machine.{IsKept, TellsTraps, TellsCrossings}
use Rattle.zair_state.proofs.Membership.{all_from_contains}
use Rattle.zair_state.proofs.BeamLists.{stays, among, found, length-without}
use Rattle.zair_machine.proofs.AfterBeams.{length_with_beams}
use Rattle.zair_state.proofs.Changing.{changes_of}

unlisted_stays : (ids : List ℕ) (n : ℕ) → ¬ Contains ids n → list_any (λ id. eqb id n) ids ≡ false
unlisted_stays ids n h = elim (cases_Bool (list_any (λ id. eqb id n) ids)) [ inl t ↦ absurd (h (found ids n t)) | inr f ↦ f ]

-- a beam that isn't listed stays
pub one_stays : (ids : List ℕ) (beams : List Beam) (k : ℕ) (d : Beam) → k < length beams → ¬ Contains ids (get_or beams k d).id → without_beams ids (take (k + 1) beams) ≡ without_beams ids (take k beams) ++ get_or beams k d ∷ []
one_stays ids beams k d lt h =
    let b = get_or beams k d in
    filter_more (stays ids) beams k d lt ∙ ap (λ (t : Bool). without_beams ids (take k beams) ++ cond (not t) (b ∷ []) []) (unlisted_stays ids b.id h)

-- a listed one goes
pub one_goes : (ids : List ℕ) (beams : List Beam) (k : ℕ) (d : Beam) → k < length beams → Contains ids (get_or beams k d).id → without_beams ids (take (k + 1) beams) ≡ without_beams ids (take k beams)
one_goes ids beams k d lt h =
    let b = get_or beams k d in
    filter_more (stays ids) beams k d lt ∙ ap (λ (t : Bool). without_beams ids (take k beams) ++ cond (not t) (b ∷ []) []) (among ids b.id h) ∙ append-nil (without_beams ids (take k beams))

pub fewer_stay : (ids : List ℕ) (beams : List Beam) (k : ℕ) → length (without_beams ids (take k beams)) ≤ k
fewer_stay ids beams k = omega (arith, length-without ids (take k beams), length-take k beams)

-- as many places as before
pub length_caught : (aod : ℕ) (atoms : List Caught) (places : List Place) → length (after_catching aod atoms places) ≡ length places
length_caught aod [] places = refl
length_caught aod (c ∷ cs) places = length_caught aod cs (set places c.q (Held aod c.row c.column)) ∙ length-set places c.q (Held aod c.row c.column)

pub length_dropped : (atoms : List Dropped) (places : List Place) → length (after_dropping atoms places) ≡ length places
length_dropped [] places = refl
length_dropped (d ∷ ds) places = length_dropped ds (set places d.q (Trap d.trap)) ∙ length-set places d.q (Trap d.trap)

-- the listed atoms are among those that have a place
pub picked_within : (a : Architecture) (s : State) (aod : ℕ) (new_rows new_columns rows columns : List Beam) (atoms : List Caught) → All (Picks a s aod new_rows new_columns rows columns) atoms → All (λ (c : Caught). c.q < length s.places) atoms
picked_within a s aod new_rows new_columns rows columns atoms h =
    all_from_contains (λ (c : Caught). c.q < length s.places) atoms (λ c listed.
    let p = All-contains (Picks a s aod new_rows new_columns rows columns) atoms c h listed in slice_get_within s.places c.q (Trap p.trap) p.rests)

pub dropped_within : (a : Architecture) (s : State) (aod : ℕ) (rows columns : List ℕ) (atoms : List Dropped) → All (Drops a s aod rows columns) atoms → All (λ (d : Dropped). d.q < length s.places) atoms
dropped_within a s aod rows columns atoms h =
    all_from_contains (λ (d : Dropped). d.q < length s.places) atoms (λ d listed.
    let p = All-contains (Drops a s aod rows columns) atoms d h listed in slice_get_within s.places d.q (Held aod p.row.id p.column.id) p.held)

-- the state with these places, and with these beams at one AOD
abbrev pub set_to : State → ℕ → List Place → List Beam → List Beam → State
set_to s aod places rows columns = record { places = places; aods = set s.aods aod (record { rows = rows; columns = columns }) }

pub set_same : (s : State) (aod : ℕ) (p p' : List Place) (r r' c c' : List Beam) → p ≡ p' → r ≡ r' → c ≡ c' → set_to s aod p r c ≡ set_to s aod p' r' c'
set_same s aod p p' r r' c c' e f g =
    ap (λ (x : List Place). set_to s aod x r c) e ∙ ap (λ (x : List Beam). set_to s aod p' x c) f ∙ ap (λ (x : List Beam). set_to s aod p' r' x) g

pub kept_so : (a : Architecture) (s now next : State) (traps traps' crossings crossings' : List ℕ) → IsKept a s traps crossings → IsSound a next → length next.places ≡ length s.places → length next.aods ≡ length s.aods → length traps' ≡ length traps → length crossings' ≡ length crossings → TellsTraps next.places traps' → TellsCrossings next.places crossings' → now ≡ next → IsKept a now traps' crossings'
kept_so a s now next traps traps' crossings crossings' kept sound same as_many long wide traps_told crossings_told e =
    let there : IsKept a next traps' crossings' = record {
      sound = sound;
      few = let few = kept.few in omega arith;
      all_traps = long ∙ kept.all_traps;
      all_crossings = wide ∙ kept.all_crossings ∙ ap (λ (n : ℕ). n * 65536) (sym as_many);
      traps_told = traps_told;
      crossings_told = crossings_told;
    } in
    subst (λ (x : State). IsKept a x traps' crossings') (sym e) there

-- a legal move lists no more beams than the card allows
module _ (a : Architecture) (s : State) (aod : ℕ) (rows columns : List Beam) (known : aod < length s.aods) (sound : IsSound a (after s (Move aod rows columns))) where
  abbrev target : Beams
  target = record { rows = with_beams rows []; columns = with_beams columns [] }

  there : beams_of (after s (Move aod rows columns)) aod ≡ target
  there = (changes_of s (after s (Move aod rows columns)) aod target known refl).there

  pub few_rows_moved : a.figures.rows ≤ 64 → length rows + 0 ≤ 64
  few_rows_moved most =
      let few : length (with_beams rows []) ≤ a.figures.rows = subst (λ (b : Beams). length b.rows ≤ a.figures.rows) there (sound.rows aod).few in
      omega (arith, length_with_beams rows [])

  pub few_columns_moved : a.figures.columns ≤ 64 → length columns + 0 ≤ 64
  few_columns_moved most =
      let few : length (with_beams columns []) ≤ a.figures.columns = subst (λ (b : Beams). length b.columns ≤ a.figures.columns) there (sound.columns aod).few in
      omega (arith, length_with_beams columns [])

-- what is written through a slice of the whole vector
pub written_back : {X : Type 0} (n : ℕ) (xs ys : List X) → length ys ≡ n → length xs ≡ length ys → take n (xs ++ drop (length xs) ys) ≡ xs
written_back {X} n xs ys e f =
    ap (λ (l : List X). take n (xs ++ l)) (drop_of_length-le ys (omega arith)) ∙ ap (take n) (append-nil xs) ∙ take_all n xs (omega arith)

-- the beams that are read at an AOD are its beams
pub read_beams : (s : State) (aod : ℕ) (beams : Beams) → aod < length s.aods → beams ≡ get_or s.aods aod beams → beams ≡ beams_of s aod
read_beams s aod beams known e = e ∙ get_or_default s.aods aod beams idle known

pub few_added : (most : ℕ) (listed on : List Beam) → length (with_beams listed on) ≤ most → most ≤ 64 → length listed + length on ≤ 64
few_added most listed on few le = omega (arith, length_with_beams listed on)

pub few_on : (most : ℕ) (read on : List Beam) → read ≡ on → length on ≤ most → most ≤ 64 → length read ≤ 64
few_on most read on e few le = let same : length read ≡ length on = ap length e in omega arith

-- what is told of the crossings of beams, told of an AOD that has these beams
pub told_of_aod : (X Y : Beams) (P : Beam → Beam → Type 0) (Q test : Type 0) → X ≡ Y → (test → EachCrossing X.rows X.columns P) × (EachCrossing X.rows X.columns P → test) → Q → (test → Q → EachCrossing Y.rows Y.columns P) × ((Q → EachCrossing Y.rows Y.columns P) → test)
told_of_aod X Y P Q test e told here = (
  λ t q. subst (λ (b : Beams). EachCrossing b.rows b.columns P) e (told.0 t),
  λ h. told.1 (subst (λ (b : Beams). EachCrossing b.rows b.columns P) (sym e) (h here)),
)
