-- The sorted slots of a program's steps are those of its named order.
use Rattle.std.proofs.Common.{◌≡◌, ◌≢◌, ℕ, zero, suc, ◌+◌, ◌<◌, ◌≤◌, inl, inr, List, [], ◌∷◌, ◌++◌, length, map, get_or, set, refl, ap, sym, ◌∙◌, subst, arith}
use Rattle.std.specs.List.{AllPairs, AllByRecursion, Contains, swap}
use Rattle.std.specs.List.Sorted.{IsPermutation, apply_swaps, SwapsInRange}
use Rattle.std.proofs.lemmas.Bool.{cases_lt}
use Rattle.std.proofs.lemmas.List.{map-set, length-append, length-map}
use Rattle.std.proofs.lemmas.List.Sorted.{Contains-permutation, length_permutation}
use Rattle.zac_arch.specs.declared.card.Figures.{Figures}
use Rattle.zair_form.specs.declared.step.Step.{Step}
use Rattle.zair_form.specs.declared.program.Instr.{Instr}
use Rattle.zair_form.specs.Steps.{steps_of}
use Rattle.zair_form.specs.Times.{Timed, AreTimed, AreTimedSteps}
use Rattle.zair_state.specs.Orders.{IsOrderOf, IsNamedBefore}
use Rattle.zair_state.proofs.Ordering.{EachLater, AllPairs-from_each_later, all_of_order}
use Rattle.zair_state.proofs.Membership.{contains_none, contains_here, contains_later, contains_cases}
use Rattle.zac_watch.specs.declared.slot.Slot.{Slot}
use Rattle.zac_watch.specs.Named.{AreInNamedOrder, places_in}
use Rattle.zac_watch.specs.Slots.{slot_of, AreSlotsOf, IsNoLater}

-- swaps of mapped lists
get_or-map_default : {X Y : Type 0} (f : X → Y) (xs : List X) (i : ℕ) (d : X) → get_or (map f xs) i (f d) ≡ f (get_or xs i d)
get_or-map_default f [] i d = refl
get_or-map_default f (x ∷ xs) zero d = refl
get_or-map_default f (x ∷ xs) (suc i) d = get_or-map_default f xs i d

swap-map : {X Y : Type 0} (f : X → Y) (xs : List X) (i j : ℕ) → swap (map f xs) i j ≡ map f (swap xs i j)
swap-map f [] i j = refl
swap-map {X} {Y} f (d ∷ ys) i j =
    let xs : List X = d ∷ ys in
    ap (λ (y : Y). set (set (map f xs) i y) j (get_or (map f xs) i (f d))) (get_or-map_default f xs j d)
    ∙ ap (λ (y : Y). set (set (map f xs) i (f (get_or xs j d))) j y) (get_or-map_default f xs i d)
    ∙ ap (λ (l : List Y). set l j (f (get_or xs i d))) (sym (map-set f xs i (get_or xs j d)))
    ∙ sym (map-set f (set xs i (get_or xs j d)) j (get_or xs i d))

swaps-map : {X Y : Type 0} (f : X → Y) (xs : List X) (moves : List (ℕ × ℕ)) → apply_swaps (map f xs) moves ≡ map f (apply_swaps xs moves)
swaps-map f xs [] = refl
swaps-map {X} {Y} f xs (m ∷ moves) = ap (λ (l : List Y). swap l m.0 m.1) (swaps-map f xs moves) ∙ swap-map f (apply_swaps xs moves) m.0 m.1

-- an order of a mapped list is one of the list, mapped
record Lifted {X Y : Type 0} (f : X → Y) (xs : List X) (ys : List Y) : Type 0 where
  order : List X
  permutes : IsPermutation xs order
  is : ys ≡ map f order

lifted : {X Y : Type 0} (f : X → Y) (xs : List X) (ys : List Y) → IsPermutation (map f xs) ys → Lifted f xs ys
lifted f xs ys permutes = record {
  order = apply_swaps xs permutes.moves;
  permutes = record { moves = permutes.moves; below = subst (λ (n : ℕ). SwapsInRange n permutes.moves) (length-map xs f) permutes.below; is = refl };
  is = permutes.is ∙ swaps-map f xs permutes.moves;
}

-- a list round one of its elements
record Split {X : Type 0} (ys : List X) (x : X) : Type 0 where
  before : List X
  behind : List X
  is : ys ≡ before ++ x ∷ behind

split_at : {X : Type 0} (ys : List X) (x : X) → Contains ys x → Split ys x
split_at [] x h = absurd (contains_none x h)
split_at {X} (y ∷ ys) x h = elim (contains_cases y x ys h) [
  | inl same ↦ record { before = []; behind = ys; is = ap (λ (z : X). z ∷ ys) same }
  | inr later ↦
      let rest = split_at ys x later in
      record { before = y ∷ rest.before; behind = rest.behind; is = ap (λ (l : List X). y ∷ l) rest.is }
]

contains_rest : {X : Type 0} (before : List X) (x y : X) (behind : List X) → x ≢ y → Contains (before ++ x ∷ behind) y → Contains (before ++ behind) y
contains_rest [] x y behind ne h = elim (contains_cases x y behind h) [ inl same ↦ absurd (ne same) | inr later ↦ later ]
contains_rest (z ∷ before) x y behind ne h = elim (contains_cases z y (before ++ x ∷ behind) h) [
  | inl same ↦ subst (λ v. Contains (z ∷ (before ++ behind)) v) same (contains_here z (before ++ behind))
  | inr later ↦ contains_later z y (before ++ behind) (contains_rest before x y behind ne later)
]

length_split : {X : Type 0} (before : List X) (x : X) (behind : List X) → length (before ++ x ∷ behind) ≡ suc (length (before ++ behind))
length_split [] x behind = refl
length_split (z ∷ before) x behind = ap suc (length_split before x behind)

-- two steps stand at different places of the program
abbrev pub StandApart : Timed → Timed → Type 0
StandApart x y = ¬ ((x.instr ≡ y.instr) × (x.place ≡ y.place))

none_same : (x : Timed) (ys : List Timed) (y : Timed) → AllByRecursion (StandApart x) ys → Contains ys y → x ≢ y
none_same x [] y apart h same = absurd (contains_none y h)
none_same x (z ∷ ys) y apart h same = elim (contains_cases z y ys h) [
  | inl here ↦
      let one : x ≡ z = same ∙ sym here in
      apart.0 (ap (λ (t : Timed). t.instr) one, ap (λ (t : Timed). t.place) one)
  | inr later ↦ none_same x ys y apart.1 later same
]

-- a list of the same length that has all the elements of one without repetition is an order of it
order_of : (xs ys : List Timed) → EachLater StandApart xs → ((x : Timed) → Contains xs x → Contains ys x) → length ys ≡ length xs → IsOrderOf xs ys
order_of [] [] apart has same = refl
order_of [] (y ∷ ys) apart has same = absurd (let e : suc (length ys) ≡ 0 = same in omega arith)
order_of (x ∷ xs) ys apart has same =
    let split = split_at ys x (has x (contains_here x xs)) in
    let long : length ys ≡ suc (length (split.before ++ split.behind)) = ap length split.is ∙ length_split split.before x split.behind in
    let short : length (split.before ++ split.behind) ≡ length xs = omega (arith, same) in (
      split.before,
      split.behind,
      split.is,
      order_of xs (split.before ++ split.behind) apart.1
          (λ y h. contains_rest split.before x y split.behind (none_same x xs y apart.0 h)
          (subst (λ (l : List Timed). Contains l y) split.is (has y (contains_later x y xs h))))
          short,
    )

-- steps of one instruction stand in it, behind the earlier ones
timed_places : (f : Figures) (n : ℕ) (earlier : List Step) (from : ℕ) (ss : List Step) (ts : List Timed) (k : ℕ) → AreTimed f n earlier from ss ts → k ≤ length earlier →
    AllByRecursion (λ t. (t.instr ≡ n) × (k ≤ t.place)) ts
timed_places f n earlier from [] [] k timed low = tt
timed_places f n earlier from [] (t ∷ ts) k timed low = absurd timed
timed_places f n earlier from (s ∷ ss) [] k timed low = absurd timed
timed_places f n earlier from (s ∷ ss) (t ∷ ts) k timed low = (
  (timed.0.instr, omega (arith, timed.0.place)),
  timed_places f n (earlier ++ s ∷ []) t.end ss ts k timed.1 (omega (arith, length-append earlier (s ∷ []))),
)

all_map : {X : Type 0} (P Q : X → Type 0) (xs : List X) → ((x : X) → P x → Q x) → AllByRecursion P xs → AllByRecursion Q xs
all_map P Q [] f h = tt
all_map P Q (x ∷ xs) f h = (f x h.0, all_map P Q xs f h.1)

all_append : {X : Type 0} (P : X → Type 0) (xs ys : List X) → AllByRecursion P xs → AllByRecursion P ys → AllByRecursion P (xs ++ ys)
all_append P [] ys one other = other
all_append P (x ∷ xs) ys one other = (one.0, all_append P xs ys one.1 other)

timed_apart : (f : Figures) (n : ℕ) (earlier : List Step) (from : ℕ) (ss : List Step) (ts : List Timed) → AreTimed f n earlier from ss ts → EachLater StandApart ts
timed_apart f n earlier from [] [] timed = tt
timed_apart f n earlier from [] (t ∷ ts) timed = absurd timed
timed_apart f n earlier from (s ∷ ss) [] timed = absurd timed
timed_apart f n earlier from (s ∷ ss) (t ∷ ts) timed =
    let more : length (earlier ++ s ∷ []) ≡ length earlier + 1 = length-append earlier (s ∷ []) in
    let later = timed_places f n (earlier ++ s ∷ []) t.end ss ts (length earlier + 1) timed.1 (omega arith) in
    let place : t.place ≡ length earlier = timed.0.place in (
      all_map (λ (u : Timed). (u.instr ≡ n) × (length earlier + 1 ≤ u.place)) (StandApart t) ts (λ u h same. omega (arith, h.1, same.1)) later,
      timed_apart f n (earlier ++ s ∷ []) t.end ss ts timed.1,
    )

-- steps of later instructions stand in later ones
later_instrs : (f : Figures) (p : ℕ) (program : List Instr) (ts : List Timed) → AreTimedSteps f p program ts → AllByRecursion (λ t. p ≤ t.instr) ts
later_instrs f p [] ts timed = subst (AllByRecursion (λ (t : Timed). p ≤ t.instr)) (sym timed) tt
later_instrs f p (i ∷ is) ts timed =
    let own = timed_places f p [] i.begin (steps_of i.act) timed.0 0 timed.3 (omega arith) in
    let rest = later_instrs f (p + 1) is timed.1 timed.4 in
    subst (AllByRecursion (λ (t : Timed). p ≤ t.instr)) (sym timed.2)
    (all_append (λ (t : Timed). p ≤ t.instr) timed.0 timed.1
    (all_map (λ (t : Timed). (t.instr ≡ p) × (0 ≤ t.place)) (λ t. p ≤ t.instr) timed.0 (λ t h. omega (arith, h.0)) own)
    (all_map (λ (t : Timed). p + 1 ≤ t.instr) (λ t. p ≤ t.instr) timed.1 (λ t h. omega arith) rest))

each_later_append : {X : Type 0} (R : X → X → Type 0) (xs ys : List X) → EachLater R xs → EachLater R ys → AllByRecursion (λ x. AllByRecursion (R x) ys) xs → EachLater R (xs ++ ys)
each_later_append R [] ys one other across = other
each_later_append R (x ∷ xs) ys one other across = (all_append (R x) xs ys one.0 across.0, each_later_append R xs ys one.1 other across.1)

-- the steps of a program stand apart
steps_apart : (f : Figures) (p : ℕ) (program : List Instr) (ts : List Timed) → AreTimedSteps f p program ts → EachLater StandApart ts
steps_apart f p [] ts timed = subst (EachLater StandApart) (sym timed) tt
steps_apart f p (i ∷ is) ts timed =
    let own = timed_places f p [] i.begin (steps_of i.act) timed.0 0 timed.3 (omega arith) in
    let later = later_instrs f (p + 1) is timed.1 timed.4 in
    subst (EachLater StandApart) (sym timed.2)
    (each_later_append StandApart timed.0 timed.1 (timed_apart f p [] i.begin (steps_of i.act) timed.0 timed.3) (steps_apart f (p + 1) is timed.1 timed.4)
    (all_map (λ (t : Timed). (t.instr ≡ p) × (0 ≤ t.place)) (λ t. AllByRecursion (StandApart t) timed.1) timed.0
    (λ t h. all_map (λ (u : Timed). p + 1 ≤ u.instr) (StandApart t) timed.1 (λ u g same. omega (arith, h.0, same.0)) later) own))

-- an order of steps that stand apart has them apart
apart_with_middle : (before : List Timed) (x : Timed) (behind : List Timed) → EachLater StandApart (before ++ behind) → AllByRecursion (StandApart x) (before ++ behind) → EachLater StandApart (before ++ x ∷ behind)
apart_with_middle [] x behind apart from_x = (from_x, apart)
apart_with_middle (y ∷ before) x behind apart from_x =
    (middle before (λ same. from_x.0 (sym same.0, sym same.1)) apart.0, apart_with_middle before x behind apart.1 from_x.1)
  where
    middle : (zs : List Timed) → StandApart y x → AllByRecursion (StandApart y) (zs ++ behind) → AllByRecursion (StandApart y) (zs ++ x ∷ behind)
    middle [] here h = (here, h)
    middle (z ∷ zs) here h = (h.0, middle zs here h.1)

order_apart : (xs order : List Timed) → IsOrderOf xs order → EachLater StandApart xs → EachLater StandApart order
order_apart [] order same apart = subst (EachLater StandApart) (sym same) tt
order_apart (x ∷ xs) order same apart =
    subst (EachLater StandApart) (sym same.2)
    (apart_with_middle same.0 x same.1 (order_apart xs (same.0 ++ same.1) same.3 apart.1)
    (all_of_order (StandApart x) xs (same.0 ++ same.1) same.3 apart.0))

strictly : (x y : Timed) → IsNoLater (slot_of x) (slot_of y) → StandApart x y → IsNamedBefore x y
strictly x y le apart = elim le [
  | inl less ↦ inl less
  | inr same ↦ elim same.1 [
    | inl less ↦ inr (same.0, inl less)
    | inr last ↦ elim (cases_lt x.place y.place) [
      | inl lt ↦ inr (same.0, inr (last.0, lt))
      | inr ge ↦ absurd (apart (last.0, omega (arith, last.1)))
    ]
  ]
]

places-map : (order : List Timed) → map (λ (s : Slot). (s.instr, s.place)) (map slot_of order) ≡ places_in order
places-map [] = refl
places-map (t ∷ order) = ap (λ (l : List (ℕ × ℕ)). (t.instr, t.place) ∷ l) (places-map order)

pub in_named_order : (f : Figures) (program : List Instr) (given sorted : List Slot) (places : List (ℕ × ℕ)) → AreSlotsOf f program given →
    IsPermutation given sorted → AllPairs IsNoLater sorted → places ≡ map (λ (s : Slot). (s.instr, s.place)) sorted → AreInNamedOrder f program places
in_named_order f program given sorted places are permutes rising places_are =
    let timed : List Timed = are.0 in
    let lift = lifted slot_of timed sorted (subst (λ (l : List Slot). IsPermutation l sorted) are.2 permutes) in
    let order : List Timed = lift.order in
    let apart = steps_apart f 0 program timed are.1 in
    let same = order_of timed order apart (λ x h. Contains-permutation timed order x lift.permutes h) (length_permutation timed order lift.permutes) in
    let pairs = AllPairs-from_each_later StandApart order (order_apart timed order same apart) in (
      order,
      record {
        steps = timed;
        timed = are.1;
        same = same;
        named = λ i j d lt j_in.
            let i_in : i < length order = omega arith in
            let le = rising i j (slot_of d) lt (subst (λ (n : ℕ). j < n) (sym (ap length lift.is ∙ length-map order slot_of)) j_in) in
            let at_i : get_or sorted i (slot_of d) ≡ slot_of (get_or order i d) = ap (λ (l : List Slot). get_or l i (slot_of d)) lift.is ∙ get_or-map_default slot_of order i d in
            let at_j : get_or sorted j (slot_of d) ≡ slot_of (get_or order j d) = ap (λ (l : List Slot). get_or l j (slot_of d)) lift.is ∙ get_or-map_default slot_of order j d in
            strictly (get_or order i d) (get_or order j d)
            (subst (λ (s : Slot). IsNoLater s (slot_of (get_or order j d))) at_i (subst (λ (s : Slot). IsNoLater (get_or sorted i (slot_of d)) s) at_j le))
            (pairs i j d lt j_in);
      },
      places_are ∙ ap (map (λ (s : Slot). (s.instr, s.place))) lift.is ∙ places-map order,
    )
