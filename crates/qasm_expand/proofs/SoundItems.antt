-- Calls on distinct qubits in range, none of which was read before: what they are replaced by is so too.
use Rattle.std.proofs.Common.{◌≡◌, ◌≢◌, ℕ, zero, suc, ◌<◌, ◌⊎◌, List, [], ◌∷◌, ◌++◌, map, length, get_or, Some, refl, ap, sym, ◌∙◌, subst, inl, inr, arith}
use Rattle.std.specs.List.{AllByRecursion, AllPairs, slice_get}
use Rattle.qasm_form.specs.declared.stmt.Node.{Node}
use Rattle.qasm_names.specs.declared.gate.Bound.{Bound}
use Rattle.qasm_names.specs.declared.gate.GateDef.{GateDef}
use Rattle.qasm_names.specs.declared.gate.Target.{Target}
use Rattle.qasm_names.specs.declared.gate.Target.TheVariants as target
use Rattle.qasm_names.specs.Bound.{TargetTakes, AreDistinctFor, IsWellBoundCall, IsWellBound}
use Rattle.std.proofs.lemmas.List.Elements.{recursion_from_All}
use Rattle.qasm_expand.specs.Items.{Item}
use Rattle.qasm_expand.specs.Items.Item.{Applied, Barrier, Measured}
use Rattle.qasm_expand.specs.Replacing.{inner, body_call, body_of, IsPlain, Replaces, Expands}
use Rattle.qasm_expand.specs.Replacing.Expands.{plain, replaces}

-- the number is one of these
abbrev pub Among : ℕ → List ℕ → Type 0
Among q [] = ⊥
Among q (x ∷ xs) = (q ≡ x) ⊎ Among q xs

-- each number comes once
abbrev pub AreDistinct : List ℕ → Type 0
AreDistinct [] = Unit {0}
AreDistinct (x ∷ xs) = AllByRecursion (λ y. x ≢ y) xs × AreDistinct xs

-- the qubits of a call
abbrev pub qubits_of : Item → List ℕ
qubits_of (Applied to angles qubits) = qubits
qubits_of Barrier = []
qubits_of (Measured qubit bit) = qubit ∷ []

-- a gate at this place has so many arguments
abbrev pub TakesQubits : List GateDef → Target → ℕ → Type 0
TakesQubits gates (target.Gate place) args = (g : GateDef) → slice_get gates place ≡ Some g → args ≡ g.args
TakesQubits gates other args = Unit {0}

-- its qubits and bit are in range, its qubits are distinct, and as many as its gate asks for
abbrev pub IsSound : List GateDef → ℕ → ℕ → Item → Type 0
IsSound gates n m (Applied to angles qubits) = AllByRecursion (λ q. q < n) qubits × (AreDistinct qubits × TakesQubits gates to (length qubits))
IsSound gates n m Barrier = Unit {0}
IsSound gates n m (Measured qubit bit) = (qubit < n) × (bit < m)

-- the later call has no qubit that the earlier one reads
abbrev pub Spares : Item → Item → Type 0
Spares (Measured qubit bit) later = Among qubit (qubits_of later) → ⊥
Spares (Applied to angles qubits) later = Unit {0}
Spares Barrier later = Unit {0}

abbrev pub AllSpare : List Item → Type 0
AllSpare [] = Unit {0}
AllSpare (x ∷ xs) = AllByRecursion (Spares x) xs × AllSpare xs

abbrev pub Cross : List Item → List Item → Type 0
Cross xs ys = AllByRecursion (λ x. AllByRecursion (Spares x) ys) xs

pub record AreSound (gates : List GateDef) (n m : ℕ) (items : List Item) : Type 0 where
  pub each : AllByRecursion (IsSound gates n m) items
  pub spare : AllSpare items

-- all of two lists
pub all_join : {X : Type 0} (P : X → Type 0) (xs ys : List X) → AllByRecursion P xs → AllByRecursion P ys → AllByRecursion P (xs ++ ys)
all_join P [] ys h k = k
all_join P (x ∷ xs) ys h k = (h.0, all_join P xs ys h.1 k)

pub all_front : {X : Type 0} (P : X → Type 0) (xs ys : List X) → AllByRecursion P (xs ++ ys) → AllByRecursion P xs
all_front P [] ys h = tt
all_front P (x ∷ xs) ys h = (h.0, all_front P xs ys h.1)

pub all_back : {X : Type 0} (P : X → Type 0) (xs ys : List X) → AllByRecursion P (xs ++ ys) → AllByRecursion P ys
all_back P [] ys h = h
all_back P (x ∷ xs) ys h = all_back P xs ys h.1

pub all_mapped : {X : Type 0} (P Q : X → Type 0) (f : (x : X) → P x → Q x) (xs : List X) → AllByRecursion P xs → AllByRecursion Q xs
all_mapped P Q f [] h = tt
all_mapped P Q f (x ∷ xs) h = (f x h.0, all_mapped P Q f xs h.1)

pub all_of : {X : Type 0} (P : X → Type 0) (f : (x : X) → P x) (xs : List X) → AllByRecursion P xs
all_of P f [] = tt
all_of P f (x ∷ xs) = (f x, all_of P f xs)

pub cross_join : (xs ys zs : List Item) → Cross xs ys → Cross xs zs → Cross xs (ys ++ zs)
cross_join [] ys zs h k = tt
cross_join (x ∷ xs) ys zs h k = (all_join (Spares x) ys zs h.0 k.0, cross_join xs ys zs h.1 k.1)

pub spare_join : (xs ys : List Item) → AllSpare xs → AllSpare ys → Cross xs ys → AllSpare (xs ++ ys)
spare_join [] ys h k c = k
spare_join (x ∷ xs) ys h k c = (all_join (Spares x) xs ys h.0 c.0, spare_join xs ys h.1 k c.1)

pub spare_front : (xs ys : List Item) → AllSpare (xs ++ ys) → AllSpare xs
spare_front [] ys h = tt
spare_front (x ∷ xs) ys h = (all_front (Spares x) xs ys h.0, spare_front xs ys h.1)

pub spare_back : (xs ys : List Item) → AllSpare (xs ++ ys) → AllSpare ys
spare_back [] ys h = h
spare_back (x ∷ xs) ys h = spare_back xs ys h.1

pub spare_cross : (xs ys : List Item) → AllSpare (xs ++ ys) → Cross xs ys
spare_cross [] ys h = tt
spare_cross (x ∷ xs) ys h = (all_back (Spares x) xs ys h.0, spare_cross xs ys h.1)

-- calls of a body on some of the call's qubits, which read nothing
pub record IsInner (gates : List GateDef) (n m : ℕ) (qubits : List ℕ) (item : Item) : Type 0 where
  pub sound : IsSound gates n m item
  pub some : (q : ℕ) → Among q (qubits_of item) → Among q qubits
  pub spares : (later : Item) → Spares item later

among_at : (xs : List ℕ) (i : ℕ) → i < length xs → Among (get_or xs i 0) xs
among_at [] i h = absurd (omega arith)
among_at (x ∷ xs) zero h = inl refl
among_at (x ∷ xs) (suc i) h = inr (among_at xs i (omega arith))

pub all_among : (P : ℕ → Type 0) (xs : List ℕ) → AllByRecursion P xs → (q : ℕ) → Among q xs → P q
all_among P [] h q a = absurd a
all_among P (x ∷ xs) h q (inl e) = subst P (sym e) h.0
all_among P (x ∷ xs) h q (inr a) = all_among P xs h.1 q a

apart_at : (xs : List ℕ) (i j : ℕ) → AreDistinct xs → i < length xs → j < length xs → i ≢ j → get_or xs i 0 ≢ get_or xs j 0
apart_at [] i j h a b ne e = omega arith
apart_at (x ∷ xs) zero zero h a b ne e = ne refl
apart_at (x ∷ xs) zero (suc j) h a b ne e = all_among (λ y. x ≢ y) xs h.0 (get_or xs j 0) (among_at xs j (omega arith)) e
apart_at (x ∷ xs) (suc i) zero h a b ne e = all_among (λ y. x ≢ y) xs h.0 (get_or xs i 0) (among_at xs i (omega arith)) (sym e)
apart_at (x ∷ xs) (suc i) (suc j) h a b ne e = apart_at xs i j h.1 (omega arith) (omega arith) (λ s. ne (ap suc s)) e

-- the numbers at distinct places
chosen_all : (P : ℕ → Type 0) (qubits places : List ℕ) → AllByRecursion P qubits → AllByRecursion (λ i. i < length qubits) places → AllByRecursion P (map (λ i. get_or qubits i 0) places)
chosen_all P qubits [] h below = tt
chosen_all P qubits (i ∷ places) h below = (all_among P qubits h (get_or qubits i 0) (among_at qubits i below.0), chosen_all P qubits places h below.1)

chosen_others : (qubits places : List ℕ) (i : ℕ) → AreDistinct qubits → i < length qubits → AllByRecursion (λ j. j < length qubits) places → AllByRecursion (λ j. i ≢ j) places → AllByRecursion (λ y. get_or qubits i 0 ≢ y) (map (λ j. get_or qubits j 0) places)
chosen_others qubits [] i h a below ne = tt
chosen_others qubits (j ∷ places) i h a below ne = (apart_at qubits i j h a below.0 ne.0, chosen_others qubits places i h a below.1 ne.1)

chosen_apart : (qubits places : List ℕ) → AreDistinct qubits → AllByRecursion (λ i. i < length qubits) places → AreDistinct places → AreDistinct (map (λ i. get_or qubits i 0) places)
chosen_apart qubits [] h below apart = tt
chosen_apart qubits (i ∷ places) h below apart = (chosen_others qubits places i h below.0 below.1 apart.0, chosen_apart qubits places h below.1 apart.1)

chosen_among : (qubits places : List ℕ) → AllByRecursion (λ i. i < length qubits) places → (q : ℕ) → Among q (map (λ i. get_or qubits i 0) places) → Among q qubits
chosen_among qubits [] below q a = absurd a
chosen_among qubits (i ∷ places) below q (inl e) = subst (λ x. Among x qubits) (sym e) (among_at qubits i below.0)
chosen_among qubits (i ∷ places) below q (inr a) = chosen_among qubits places below.1 q a

-- pairs by places are pairs by recursion
all_by_index : (P : ℕ → Type 0) (xs : List ℕ) → ((j : ℕ) (d : ℕ) → j < length xs → P (get_or xs j d)) → AllByRecursion P xs
all_by_index P [] h = tt
all_by_index P (x ∷ xs) h = (h 0 0 (omega arith), all_by_index P xs (λ j d b. h (suc j) d (omega arith)))

pub apart_from_pairs : (xs : List ℕ) → AllPairs (λ a b. a ≢ b) xs → AreDistinct xs
apart_from_pairs [] h = tt
apart_from_pairs (x ∷ xs) h =
    (all_by_index (λ y. x ≢ y) xs (λ j d b. h 0 (suc j) d (omega arith) (omega arith)), apart_from_pairs xs (λ i j d a b. h (suc i) (suc j) d (omega arith) (omega arith)))

length_chosen : (qubits places : List ℕ) → length (map (λ i. get_or qubits i 0) places) ≡ length places
length_chosen qubits [] = refl
length_chosen qubits (i ∷ places) = ap suc (length_chosen qubits places)

pub takes_qubits : (gates : List GateDef) (place params args : ℕ) (t : Target) → TargetTakes gates place params args t → TakesQubits gates t args
takes_qubits gates place params args (target.Gate p) h = λ g at. let same : h.1 ≡ g = cc (h.2, at) in h.4 ∙ ap (λ (x : GateDef). x.args) same
takes_qubits gates place params args target.U h = tt
takes_qubits gates place params args target.Cx h = tt
takes_qubits gates place params args target.Cz h = tt
takes_qubits gates place params args target.Barrier h = tt

inner_applied : (gates : List GateDef) (n m : ℕ) (t : Target) (angles : List (List Node)) (qubits places : List ℕ) → AllByRecursion (λ q. q < n) qubits → AreDistinct qubits → AllByRecursion (λ i. i < length qubits) places → AreDistinct places → TakesQubits gates t (length places) → IsInner gates n m qubits (Applied t angles (map (λ i. get_or qubits i 0) places))
inner_applied gates n m t angles qubits places low apart below distinct takes = record {
  sound = (chosen_all (λ q. q < n) qubits places low below, (chosen_apart qubits places apart below distinct, subst (TakesQubits gates t) (sym (length_chosen qubits places)) takes));
  some = chosen_among qubits places below;
  spares = λ later. tt;
}

inner_is : (gates : List GateDef) (n m : ℕ) (t : Target) (angles : List (List Node)) (qubits places : List ℕ) → AllByRecursion (λ q. q < n) qubits → AreDistinct qubits → AllByRecursion (λ i. i < length qubits) places → AreDistinctFor places t → TakesQubits gates t (length places) → IsInner gates n m qubits (inner t angles (map (λ i. get_or qubits i 0) places))
inner_is gates n m target.Barrier angles qubits places low apart below distinct takes = record { sound = tt; some = λ q a. absurd a; spares = λ later. tt }
inner_is gates n m (target.Gate place) angles qubits places low apart below distinct takes = inner_applied gates n m (target.Gate place) angles qubits places low apart below (apart_from_pairs places distinct) takes
inner_is gates n m target.U angles qubits places low apart below distinct takes = inner_applied gates n m target.U angles qubits places low apart below (apart_from_pairs places distinct) takes
inner_is gates n m target.Cx angles qubits places low apart below distinct takes = inner_applied gates n m target.Cx angles qubits places low apart below (apart_from_pairs places distinct) takes
inner_is gates n m target.Cz angles qubits places low apart below distinct takes = inner_applied gates n m target.Cz angles qubits places low apart below (apart_from_pairs places distinct) takes

-- each call of the body
body_is : (gates : List GateDef) (n m place : ℕ) (g : GateDef) (put : List (List ℕ × List Node)) (qubits : List ℕ) (body : List Bound) → AllByRecursion (λ q. q < n) qubits → AreDistinct qubits → length qubits ≡ g.args → AllByRecursion (IsWellBoundCall gates place g) body → AllByRecursion (IsInner gates n m qubits) (map (body_call put qubits) body)
body_is gates n m place g put qubits [] low apart same h = tt
body_is gates n m place g put qubits (b ∷ body) low apart same h =
    let below : AllByRecursion (λ i. i < length qubits) b.args = subst (λ k. AllByRecursion (λ i. i < k) b.args) (sym same) (recursion_from_All (λ i. i < g.args) b.args h.0.within) in
    (inner_is gates n m b.target _ qubits b.args low apart below h.0.apart (takes_qubits gates place (length b.exprs) (length b.args) b.target h.0.takes), body_is gates n m place g put qubits body low apart same h.1)

-- an earlier call that spares the call spares those of its body
spares_inner : (gates : List GateDef) (n m : ℕ) (t : Target) (angles : List (List Node)) (qubits : List ℕ) (x y : Item) → Spares x (Applied t angles qubits) → IsInner gates n m qubits y → Spares x y
spares_inner gates n m t angles qubits (Measured q bit) y h i = λ a. h (i.some q a)
spares_inner gates n m t angles qubits (Applied u b c) y h i = tt
spares_inner gates n m t angles qubits Barrier y h i = tt

spares_body : (gates : List GateDef) (n m : ℕ) (t : Target) (angles : List (List Node)) (qubits : List ℕ) (xs ys : List Item) → AllByRecursion (λ x. Spares x (Applied t angles qubits)) xs → AllByRecursion (IsInner gates n m qubits) ys → Cross xs ys
spares_body gates n m t angles qubits [] ys h i = tt
spares_body gates n m t angles qubits (x ∷ xs) ys h i =
    (all_mapped (IsInner gates n m qubits) (Spares x) (λ y. spares_inner gates n m t angles qubits x y h.0) ys i, spares_body gates n m t angles qubits xs ys h.1 i)

body_spares : (gates : List GateDef) (n m : ℕ) (qubits : List ℕ) (xs ys : List Item) → AllByRecursion (IsInner gates n m qubits) xs → Cross xs ys
body_spares gates n m qubits [] ys h = tt
body_spares gates n m qubits (x ∷ xs) ys h = (all_of (Spares x) h.0.spares ys, body_spares gates n m qubits xs ys h.1)

body_spare : (gates : List GateDef) (n m : ℕ) (qubits : List ℕ) (xs : List Item) → AllByRecursion (IsInner gates n m qubits) xs → AllSpare xs
body_spare gates n m qubits [] h = tt
body_spare gates n m qubits (x ∷ xs) h = (all_of (Spares x) h.0.spares xs, body_spare gates n m qubits xs h.1)

cross_head : (xs : List Item) (y : Item) (ys : List Item) → Cross xs (y ∷ ys) → AllByRecursion (λ x. Spares x y) xs
cross_head [] y ys h = tt
cross_head (x ∷ xs) y ys h = (h.0.0, cross_head xs y ys h.1)

cross_tail : (xs : List Item) (y : Item) (ys : List Item) → Cross xs (y ∷ ys) → Cross xs ys
cross_tail [] y ys h = tt
cross_tail (x ∷ xs) y ys h = (h.0.1, cross_tail xs y ys h.1)

-- one call is replaced by its body
one_replaced : (gates : List GateDef) (n m : ℕ) (t : Target) (angles : List (List Node)) (qubits : List ℕ) (front body rest : List Item) → AreSound gates n m (front ++ Applied t angles qubits ∷ rest) → AllByRecursion (IsInner gates n m qubits) body → AreSound gates n m (front ++ (body ++ rest))
one_replaced gates n m t angles qubits front body rest h inside =
    let item = Applied t angles qubits in
    let cross = spare_cross front (item ∷ rest) h.spare in
    let behind = spare_back front (item ∷ rest) h.spare in
    record {
      each = all_join (IsSound gates n m) front (body ++ rest) (all_front (IsSound gates n m) front (item ∷ rest) h.each) (all_join (IsSound gates n m) body rest (all_mapped (IsInner gates n m qubits) (IsSound gates n m) (λ y i. i.sound) body inside) (all_back (IsSound gates n m) front (item ∷ rest) h.each).1);
      spare = spare_join front (body ++ rest) (spare_front front (item ∷ rest) h.spare) (spare_join body rest (body_spare gates n m qubits body inside) behind.1 (body_spares gates n m qubits body rest inside)) (cross_join front body rest (spares_body gates n m t angles qubits front body (cross_head front item rest cross) inside) (cross_tail front item rest cross));
    }

replaced_sound : (gates : List GateDef) (n m : ℕ) (old new : List Item) → ((place : ℕ) → IsWellBound gates place) → Replaces gates old new → AreSound gates n m old → AreSound gates n m new
replaced_sound gates n m old new w r h =
    let before : AreSound gates n m (r.front ++ Applied (target.Gate r.place) r.angles r.qubits ∷ r.rest) = subst (AreSound gates n m) r.is h in
    let called = (all_back (IsSound gates n m) r.front (Applied (target.Gate r.place) r.angles r.qubits ∷ r.rest) before.each).0 in
    let inside = body_is gates n m r.place r.gate _ r.qubits r.gate.body called.0 called.1.0 (called.1.1 r.gate r.declared_at) (recursion_from_All (IsWellBoundCall gates r.place r.gate) r.gate.body (w r.place r.gate r.declared_at)) in
    subst (AreSound gates n m) (sym r.becomes) (one_replaced gates n m (target.Gate r.place) r.angles r.qubits r.front (body_of r.gate r.angles r.qubits) r.rest before inside)

-- what calls expand to
pub record ArePlain (gates : List GateDef) (n m : ℕ) (items : List Item) : Type 0 where
  pub plain : AllByRecursion IsPlain items
  pub sound : AreSound gates n m items

pub expanded_sound : (gates : List GateDef) (n m : ℕ) (old items : List Item) → ((place : ℕ) → IsWellBound gates place) → Expands gates old items → AreSound gates n m old → ArePlain gates n m items
expanded_sound gates n m old items w (plain p) h = record { plain = p; sound = h }
expanded_sound gates n m old items w (replaces {new = new} r e) h = expanded_sound gates n m new items w e (replaced_sound gates n m old new w r h)
