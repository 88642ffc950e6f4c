-- Which sites are free, and the moves of one gate more.
use Rattle.std.proofs.Common.{◌≡◌, ◌==◌, ◌&&◌, ℕ, zero, suc, ◌+◌, ◌<◌, Bool, true, false, cond, not, IsTrue, is_some, List, [], ◌∷◌, ◌++◌, length, map, filter, get_or, take, Option, Some, None, refl, sym, ap, ◌∙◌, arith, append-nil, append_assoc, slice_get}
use Rattle.std.specs.List.{flat_map, list_any, range_with_len}
use Rattle.std.specs.Option.{MatchOption}
use Rattle.std.proofs.lemmas.Bool.{eq-eqb, not_from_true}
use Rattle.std.proofs.lemmas.Grind.{flat_map-append}
use Rattle.std.proofs.lemmas.List.{map-id}
use Rattle.std.proofs.lemmas.List.Elements.{filter-append, filter_more}
use Rattle.std.proofs.lemmas.List.Folds.{list_any-from_Any}
use Rattle.std.proofs.lemmas.List.FromFn.{map-range_with_len_more}
use Rattle.std.proofs.lemmas.Option.{get_or_from_slice_get, slice_get_within}
use Rattle.zac_arch.specs.Architecture.{Architecture, left_trap, right_trap}
use Rattle.zac_arch.specs.declared.place.TrapId.{TrapId}
use Rattle.zac_group.specs.declared.shift.Shift.{Shift}
use Rattle.zac_place.specs.Sites.{left_qubit, right_qubit}
use Rattle.zac_world.specs.Places.{Places, is_empty}
use Rattle.zair_form.specs.declared.step.PairOf.{PairOf}
use Rattle.zac_plan.specs.Plan.{is_free, left, places, right, shift_to, to_sites}
use Rattle.zac_plan.specs.Seats.{rests_in}
use Rattle.zac_plan.proofs.Worlds.{places_of_world}

-- a trap is empty where a look-up finds no atom
pub empty_by_atom : (traps : List ℕ) (t : ℕ) (o : Option ℕ) (b : Bool) → MatchOption o (IsTrue (is_empty traps t)) (λ q. slice_get traps q ≡ Some t) → is_some o ≡ not b → is_empty traps t ≡ b
empty_by_atom traps t None true found e = found
empty_by_atom traps t None false found e = cc
empty_by_atom traps t (Some q) true found e = cc
empty_by_atom traps t (Some q) false found e =
    let taken : list_any (λ (x : ℕ). x == t) traps ≡ true = list_any-from_Any (λ (x : ℕ). x == t) traps (q, t, slice_get_within traps q t found, get_or_from_slice_get traps q t t found, eq-eqb t t refl) in
    not_from_true (list_any (λ (x : ℕ). x == t) traps) taken

-- whether a site is free, by its two traps
pub free_by_traps : (a : Architecture) (world : Places) (site : ℕ) (l r : Bool) → is_empty world.traps (left_trap a site) ≡ l → is_empty world.traps (right_trap a site) ≡ r →
    is_free a (rests_in world) site ≡ l && r
free_by_traps a world site l r at_left at_right =
    let back : map (λ (t : TrapId). t.0) (rests_in world) ≡ world.traps = ap (λ (p : Places). p.traps) (places_of_world world.architecture world refl) in
    ap (λ (traps : List ℕ). is_empty traps (left_trap a site) && is_empty traps (right_trap a site)) back
    ∙ ap (λ (b : Bool). b && is_empty world.traps (right_trap a site)) at_left
    ∙ ap (λ (b : Bool). l && b) at_right

range_push : (n : ℕ) → range_with_len 0 (n + 1) ≡ range_with_len 0 n ++ n ∷ []
range_push n =
    sym (map-id (range_with_len 0 (n + 1)))
    ∙ map-range_with_len_more (λ (k : ℕ). k) 0 n n (omega arith)
    ∙ ap (λ (l : List ℕ). l ++ n ∷ []) (map-id (range_with_len 0 n))

-- what a test keeps of one number more
pub filter_range_more : (p : ℕ → Bool) (n : ℕ) (b : Bool) → p n ≡ b → filter p (range_with_len 0 (n + 1)) ≡ filter p (range_with_len 0 n) ++ cond b (n ∷ []) []
filter_range_more p n b e =
    ap (filter p) (range_push n)
    ∙ filter-append p (range_with_len 0 n) (n ∷ [])
    ∙ ap (λ (c : Bool). filter p (range_with_len 0 n) ++ cond c (n ∷ []) []) e

-- the lists of the items that a test keeps, with one item more
module _ (X Y : Type 0) (f : X → List Y) (p : X → Bool) (xs : List X) (i : ℕ) (x : X) (within : i < length xs) where
  kept_next : flat_map f (filter p (take (i + 1) xs)) ≡ flat_map f (filter p (take i xs)) ++ flat_map f (cond (p (get_or xs i x)) (get_or xs i x ∷ []) [])
  kept_next =
      ap (flat_map f) (filter_more p xs i x within)
      ∙ flat_map-append f (filter p (take i xs)) (cond (p (get_or xs i x)) (get_or xs i x ∷ []) [])

  pub flat_map_kept : p (get_or xs i x) ≡ true → flat_map f (filter p (take (i + 1) xs)) ≡ flat_map f (filter p (take i xs)) ++ f (get_or xs i x)
  flat_map_kept e =
      kept_next
      ∙ ap (λ (b : Bool). flat_map f (filter p (take i xs)) ++ flat_map f (cond b (get_or xs i x ∷ []) [])) e
      ∙ ap (λ (l : List Y). flat_map f (filter p (take i xs)) ++ l) (append-nil (f (get_or xs i x)))

  pub flat_map_dropped : p (get_or xs i x) ≡ false → flat_map f (filter p (take (i + 1) xs)) ≡ flat_map f (filter p (take i xs))
  flat_map_dropped e =
      kept_next
      ∙ ap (λ (b : Bool). flat_map f (filter p (take i xs)) ++ flat_map f (cond b (get_or xs i x ∷ []) [])) e
      ∙ append-nil (flat_map f (filter p (take i xs)))

-- the two moves of a gate to its site
abbrev pub moves_to : Architecture → List TrapId → PairOf → ℕ → List Shift
moves_to a rests p site =
    shift_to rests (left_qubit (places a rests) (p.a, p.b)) (left a site)
    ∷ shift_to rests (right_qubit (places a rests) (p.a, p.b)) (right a site)
    ∷ []

-- the moves of one gate more
pub to_sites_more : (a : Architecture) (rests : List TrapId) (pairs : List PairOf) (sites : List ℕ) (k : ℕ) (p : PairOf) (s : ℕ) → k < length pairs → k < length sites →
    to_sites a rests (take (suc k) pairs) (take (suc k) sites)
    ≡ to_sites a rests (take k pairs) (take k sites) ++ moves_to a rests (get_or pairs k p) (get_or sites k s)
to_sites_more a rests [] sites k p s first second = absurd (omega arith)
to_sites_more a rests (q ∷ qs) [] k p s first second = absurd (omega arith)
to_sites_more a rests (q ∷ qs) (t ∷ ts) zero p s first second = refl
to_sites_more a rests (q ∷ qs) (t ∷ ts) (suc k) p s first second =
    ap (λ (l : List Shift). shift_to rests (left_qubit (places a rests) (q.a, q.b)) (left a t) ∷ shift_to rests (right_qubit (places a rests) (q.a, q.b)) (right a t) ∷ l)
    (to_sites_more a rests qs ts k p s (omega arith) (omega arith))

-- a move is known by its qubit and its target
same_shift : (rests : List TrapId) (q r : ℕ) (t u : TrapId) (m : Shift) → m ≡ shift_to rests q t → q ≡ r → t.0 ≡ u.0 → m ≡ shift_to rests r u
same_shift rests q r t u m is same_q same_t =
    is
    ∙ ap (λ (x : ℕ). shift_to rests x t) same_q
    ∙ ap (λ (n : ℕ). shift_to rests r (record { 0 = n })) same_t

module _ (a : Architecture) (world : Places) (its_card : world.architecture ≡ a) (p : PairOf) (site : ℕ) where
  seen : places a (rests_in world) ≡ world
  seen = places_of_world a world its_card

  -- the two moves, as a world shows them
  pub to_left : (q : ℕ) (t : TrapId) (m : Shift) → m ≡ shift_to (rests_in world) q t → q ≡ left_qubit world (p.a, p.b) → t.0 ≡ left_trap a site →
      m ≡ shift_to (rests_in world) (left_qubit (places a (rests_in world)) (p.a, p.b)) (left a site)
  to_left q t m is same_q same_t =
      same_shift (rests_in world) q (left_qubit (places a (rests_in world)) (p.a, p.b)) t (left a site) m is
      (same_q ∙ ap (λ (w : Places). left_qubit w (p.a, p.b)) (sym seen)) same_t

  pub to_right : (q : ℕ) (t : TrapId) (m : Shift) → m ≡ shift_to (rests_in world) q t → q ≡ right_qubit world (p.a, p.b) → t.0 ≡ right_trap a site →
      m ≡ shift_to (rests_in world) (right_qubit (places a (rests_in world)) (p.a, p.b)) (right a site)
  to_right q t m is same_q same_t =
      same_shift (rests_in world) q (right_qubit (places a (rests_in world)) (p.a, p.b)) t (right a site) m is
      (same_q ∙ ap (λ (w : Places). right_qubit w (p.a, p.b)) (sym seen)) same_t

-- a list behind what was added before and two moves more
pub two_added : (m n : Shift) (now one before old done : List Shift) → now ≡ one ++ n ∷ [] → one ≡ before ++ m ∷ [] → before ≡ old ++ done → now ≡ old ++ (done ++ m ∷ n ∷ [])
two_added m n now one before old done second first is =
    second
    ∙ ap (λ (l : List Shift). l ++ n ∷ []) first
    ∙ append_assoc before (m ∷ []) (n ∷ [])
    ∙ ap (λ (l : List Shift). l ++ m ∷ n ∷ []) is
    ∙ append_assoc old done (m ∷ n ∷ [])
