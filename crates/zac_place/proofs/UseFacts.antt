-- The qubits in the order of their use.
use Rattle.std.proofs.Common.{ℕ, zero, suc, ◌≡◌, ◌≢◌, ◌==◌, ◌||◌, ◌+◌, ◌<◌, ◌≤◌, ◌⊎◌, inl, inr, Bool, true, false, cond, List, [], ◌∷◌, ◌++◌, length, get_or, replicate, min, max, refl, sym, ap, ◌∙◌, subst, arith}
use Rattle.std.specs.Prelude.{All}
use Rattle.std.specs.List.{AllPairs, Contains}
use Rattle.std.proofs.lemmas.Bool.{cases_eq, cases_lt, eqb-true, eq-eqb}
use Rattle.std.proofs.lemmas.List.{length-set, get_or-set_same, get_or-set_other, get_or-replicate, length-replicate}
use Rattle.std.proofs.lemmas.List.Elements.{All-contains, All-push, All-weaker, Contains-append_left, Contains-push}
use Rattle.std.proofs.lemmas.List.Quantifiers.{all_pairs_push}
use Rattle.std.proofs.lemmas.Option.{slice_get_read}
use Rattle.std.proofs.lemmas.Bool.Decides.{Decides-eqb}
use Rattle.std.proofs.lemmas.Cmp.{nat_eq_equiv}
use Rattle.std.proofs.lemmas.Map.Made.{IsDistinct-from_AllPairs}
use Rattle.std.proofs.lemmas.Map.Steps.{le-length_from_below, length-le_from_distinct_below}
use Rattle.std.proofs.lemmas.Map.Views.{list_any-from_Contains, Contains-from_any}
use Rattle.zac_gates.specs.declared.circuit.Op.{Op}
use Rattle.zac_gates.specs.declared.circuit.Op.TheVariants.{One, Two, Fence, Read}
use Rattle.zac_gates.specs.Waiting.{HasQubitsBelow, gate_qubits}
use Rattle.zac_place.specs.Homes.{is_pair_on, first_pair, IsUsedBefore, IsOrderBelow}
use Rattle.zac_place.specs.Uses.{IsReached, AreUsed, IsVisited}
use Rattle.zac_place.specs.declared.uses.Uses.{Uses}

-- ---- the first pair on a qubit

pub first_pair-most : (ops : List Op) (q : ℕ) → first_pair ops q ≤ length ops
first_pair-most [] q = omega arith
first_pair-most (op ∷ ops) q = by_case (is_pair_on q op) (first_pair-most ops q)
  where
    by_case : (b : Bool) → first_pair ops q ≤ length ops → cond b 0 (first_pair ops q + 1) ≤ length (op ∷ ops)
    by_case true rest = omega arith
    by_case false rest = omega arith

-- a pair on the qubit stands there, if it is a place of the list
pub first_pair-here : (ops : List Op) (i q : ℕ) (d : Op) → i < length ops → first_pair ops q ≡ i → is_pair_on q (get_or ops i d) ≡ true
first_pair-here [] i q d lt is = absurd (omega arith)
first_pair-here (op ∷ ops) zero q d lt is = by_case (is_pair_on q op) refl is
  where
    by_case : (b : Bool) → is_pair_on q op ≡ b → cond b 0 (first_pair ops q + 1) ≡ 0 → is_pair_on q op ≡ true
    by_case true e is = e
    by_case false e is = absurd (omega arith)
first_pair-here (op ∷ ops) (suc i) q d lt is = by_case (is_pair_on q op) is (λ later. first_pair-here ops i q d (omega arith) later)
  where
    by_case : (b : Bool) → cond b 0 (first_pair ops q + 1) ≡ suc i → (first_pair ops q ≡ i → is_pair_on q (get_or ops i d) ≡ true) → is_pair_on q (get_or ops i d) ≡ true
    by_case true is rest = absurd (omega arith)
    by_case false is rest = rest (omega arith)

-- none stands before it
pub first_pair-le : (ops : List Op) (i q : ℕ) (d : Op) → i < length ops → is_pair_on q (get_or ops i d) ≡ true → first_pair ops q ≤ i
first_pair-le [] i q d lt is = absurd (omega arith)
first_pair-le (op ∷ ops) zero q d lt is = let here : cond (is_pair_on q op) 0 (first_pair ops q + 1) ≡ 0 = ap (λ b. cond b 0 (first_pair ops q + 1)) is in omega arith
first_pair-le (op ∷ ops) (suc i) q d lt is = by_case (is_pair_on q op) (first_pair-le ops i q d (omega arith) is)
  where
    by_case : (b : Bool) → first_pair ops q ≤ i → cond b 0 (first_pair ops q + 1) ≤ suc i
    by_case true rest = omega arith
    by_case false rest = omega arith

-- ---- a qubit is come upon

module _ (ops : List Op) (qubits i : ℕ) where
  narrow : (r q p : ℕ) → ((p : ℕ) → r ≤ p → p < q → first_pair ops p ≢ i) → p ≢ q → IsReached ops i (q + 1) p → IsReached ops i r p
  narrow r q p gap apart (inl before) = inl before
  narrow r q p gap apart (inr (here, lt)) =
      elim (cases_lt p r) [
        | inl below ↦ inr (here, below)
        | inr above ↦ absurd (gap p above (omega (arith, apart)) here)
      ]

  widen : (r q p : ℕ) → r ≤ q + 1 → IsReached ops i r p → IsReached ops i (q + 1) p
  widen r q p le (inl before) = inl before
  widen r q p le (inr (here, lt)) = inr (here, omega arith)

  reached : (q : ℕ) → first_pair ops q ≤ i → IsReached ops i (q + 1) q
  reached q le =
      elim (cases_lt (first_pair ops q) i) [
        | inl before ↦ inl before
        | inr here ↦ inr (omega arith, omega arith)
      ]

  -- what is reached is used before what is not
  used_before : (r q p : ℕ) → r ≤ q + 1 → first_pair ops q ≤ i → ¬ IsReached ops i r q → IsReached ops i r p → IsUsedBefore ops p q
  used_before r q p le most unreached (inl before) =
      elim (cases_lt (first_pair ops q) i) [
        | inl earlier ↦ absurd (unreached (inl earlier))
        | inr here ↦ inl (omega arith)
      ]
  used_before r q p le most unreached (inr (here, lt)) =
      elim (cases_lt (first_pair ops q) i) [
        | inl earlier ↦ absurd (unreached (inl earlier))
        | inr later ↦ elim (cases_eq p q) [
          | inl same ↦ absurd (unreached (inr (omega arith, omega arith)))
          | inr apart ↦ inr (omega arith, omega (arith, apart))
        ]
      ]

  module _ (r q : ℕ) (old new : Uses) (used : AreUsed ops qubits i r old) (visited : IsVisited old new q) (q_in : q < qubits) (most : first_pair ops q ≤ i) (le : r ≤ q + 1) (gap : (p : ℕ) → r ≤ p → p < q → first_pair ops p ≢ i) where
    seen_here : get_or new.seen.items q false ≡ true
    seen_here = ap (λ (l : List Bool). get_or l q false) visited.seen ∙ get_or-set_same old.seen.items q true false (omega (arith, used.len))

    seen_there : (p : ℕ) → p ≢ q → get_or new.seen.items p false ≡ get_or old.seen.items p false
    seen_there p apart = ap (λ (l : List Bool). get_or l p false) visited.seen ∙ get_or-set_other old.seen.items q p true false apart

    -- what follows from the new order
    from_order : Contains new.order.items q → ((p : ℕ) → Contains old.order.items p → Contains new.order.items p) → All (λ p. (p < qubits) × IsReached ops i (q + 1) p) new.order.items → AllPairs (IsUsedBefore ops) new.order.items → AreUsed ops qubits i (q + 1) new
    from_order has_it keeps below in_order =
        record {
          len = ap (λ (l : List Bool). length l) visited.seen ∙ length-set old.seen.items q true ∙ used.len;
          seen = λ p p_in is.
              elim (cases_eq p q) [
                | inl same ↦ subst (λ (x : ℕ). IsReached ops i (q + 1) x × Contains new.order.items x) (sym same) (reached q most, has_it)
                | inr apart ↦
                    let before = used.seen p p_in (sym (seen_there p apart) ∙ is) in
                    (widen r q p le before.0, keeps p before.1)
              ];
          unseen = λ p p_in is.
              elim (cases_eq p q) [
                | inl same ↦ absurd (let wrong : true ≡ false = sym seen_here ∙ ap (λ x. get_or new.seen.items x false) (sym same) ∙ is in cc)
                | inr apart ↦ λ here. used.unseen p p_in (sym (seen_there p apart) ∙ is) (narrow r q p gap apart here)
              ];
          below = below;
          in_order = in_order;
        }

    wide_below : All (λ p. (p < qubits) × IsReached ops i (q + 1) p) old.order.items
    wide_below = All-weaker (λ p. (p < qubits) × IsReached ops i r p) (λ p. (p < qubits) × IsReached ops i (q + 1) p) (λ p h. (h.0, widen r q p le h.1)) old.order.items used.below

    by_seen : (b : Bool) → get_or old.seen.items q false ≡ b → new.order.items ≡ cond b old.order.items (old.order.items ++ q ∷ []) → AreUsed ops qubits i (q + 1) new
    by_seen true was same =
        from_order
        (subst (λ (l : List ℕ). Contains l q) (sym same) (used.seen q q_in was).1)
        (λ p has. subst (λ (l : List ℕ). Contains l p) (sym same) has)
        (subst (All (λ p. (p < qubits) × IsReached ops i (q + 1) p)) (sym same) wide_below)
        (subst (AllPairs (IsUsedBefore ops)) (sym same) used.in_order)
    by_seen false was more =
        from_order
        (subst (λ (l : List ℕ). Contains l q) (sym more) (Contains-push old.order.items q))
        (λ p has. subst (λ (l : List ℕ). Contains l p) (sym more) (Contains-append_left old.order.items (q ∷ []) p has))
        (subst (All (λ p. (p < qubits) × IsReached ops i (q + 1) p)) (sym more) (All-push (λ p. (p < qubits) × IsReached ops i (q + 1) p) old.order.items q wide_below (q_in, reached q most)))
        (subst (AllPairs (IsUsedBefore ops)) (sym more) (all_pairs_push (IsUsedBefore ops) old.order.items q used.in_order (λ k d lt. used_before r q (get_or old.order.items k d) le most (used.unseen q q_in was) (used.below k d lt).1)))

    pub AreUsed-visit : AreUsed ops qubits i (q + 1) new
    AreUsed-visit = by_seen (get_or old.seen.items q false) refl visited.order

  -- all whose first pair is at this place were come upon
  pub AreUsed-advance : (r : ℕ) (uses : Uses) → AreUsed ops qubits i r uses → ((p : ℕ) → first_pair ops p ≡ i → p < r) → AreUsed ops qubits (i + 1) 0 uses
  AreUsed-advance r uses used all =
      record {
        len = used.len;
        seen = λ p p_in is. let before = used.seen p p_in is in (inl (on p before.0), before.1);
        unseen = λ p p_in is here. used.unseen p p_in is (back p here);
        below = All-weaker (λ p. (p < qubits) × IsReached ops i r p) (λ p. (p < qubits) × IsReached ops (i + 1) 0 p) (λ p h. (h.0, inl (on p h.1))) uses.order.items used.below;
        in_order = used.in_order;
      }
    where
      on : (p : ℕ) → IsReached ops i r p → first_pair ops p < i + 1
      on p (inl before) = omega arith
      on p (inr (here, lt)) = omega arith

      back : (p : ℕ) → IsReached ops (i + 1) 0 p → IsReached ops i r p
      back p (inl before) =
          elim (cases_lt (first_pair ops p) i) [
            | inl earlier ↦ inl earlier
            | inr later ↦ let here : first_pair ops p ≡ i = omega arith in inr (here, all p here)
          ]
      back p (inr (here, lt)) = absurd (omega arith)

-- none is come upon before the first op
pub AreUsed-start : (ops : List Op) (qubits : ℕ) (uses : Uses) → uses.order.items ≡ [] → uses.seen.items ≡ replicate qubits false → AreUsed ops qubits 0 0 uses
AreUsed-start ops qubits uses none marks =
    record {
      len = ap (λ (l : List Bool). length l) marks ∙ length-replicate qubits false;
      seen = λ p p_in is. absurd (let wrong : true ≡ false = sym is ∙ ap (λ (l : List Bool). get_or l p false) marks ∙ get_or-replicate qubits p false false p_in in cc);
      unseen = λ p p_in is here. unreached p here;
      below = subst (All (λ p. (p < qubits) × IsReached ops 0 0 p)) (sym none) (λ k d lt. absurd (omega arith));
      in_order = subst (AllPairs (IsUsedBefore ops)) (sym none) (λ i j d lt j_in. absurd (omega arith));
    }
  where
    unreached : (p : ℕ) → ¬ IsReached ops 0 0 p
    unreached p (inl before) = omega arith
    unreached p (inr (here, lt)) = omega arith

-- all are come upon in the end
pub IsOrderBelow-used : (ops : List Op) (qubits : ℕ) (uses : Uses) → AreUsed ops qubits (length ops) qubits uses → IsOrderBelow (IsUsedBefore ops) qubits uses.order.items
IsOrderBelow-used ops qubits uses used =
    record {
      all = λ p p_in. by_seen p p_in (get_or uses.seen.items p false) refl;
      below = All-weaker (λ p. (p < qubits) × IsReached ops (length ops) qubits p) (λ p. p < qubits) (λ p h. h.0) uses.order.items used.below;
      in_order = used.in_order;
    }
  where
    by_seen : (p : ℕ) → p < qubits → (b : Bool) → get_or uses.seen.items p false ≡ b → Contains uses.order.items p
    by_seen p p_in true is = (used.seen p p_in is).1
    by_seen p p_in false is =
        absurd (used.unseen p p_in is (elim (cases_lt (first_pair ops p) (length ops)) [
          | inl before ↦ inl before
          | inr later ↦ inr (omega (arith, first_pair-most ops p), p_in)
        ]))

-- ---- the ops one after another

either : (a b q : ℕ) → ((a == q) || (b == q)) ≡ true → (a ≡ q) ⊎ (b ≡ q)
either a b q is = by_case (a == q) refl is
  where
    by_case : (t : Bool) → (a == q) ≡ t → (t || (b == q)) ≡ true → (a ≡ q) ⊎ (b ≡ q)
    by_case true e is = inl (eqb-true a q e)
    by_case false e is = inr (eqb-true b q is)

first_is : (a b : ℕ) → is_pair_on a (Two a b) ≡ true
first_is a b = ap (λ t. t || (b == a)) (eq-eqb a a refl)

second_is : (a b : ℕ) → is_pair_on b (Two a b) ≡ true
second_is a b = by_case (a == b)
  where
    by_case : (t : Bool) → (t || (b == b)) ≡ true
    by_case true = refl
    by_case false = eq-eqb b b refl

module _ (ops : List Op) (qubits i : ℕ) (op : Op) (i_in : i < length ops) (read : op ≡ get_or ops i op) where
  -- the qubits of the pair at this place, the smaller first
  pub AreUsed-pair : (a b : ℕ) (old mid new : Uses) → op ≡ Two a b → a < qubits → b < qubits → AreUsed ops qubits i 0 old → IsVisited old mid (min a b) → IsVisited mid new (max a b) → AreUsed ops qubits (i + 1) 0 new
  AreUsed-pair a b old mid new pair a_in b_in used first second =
      let at : get_or ops i op ≡ Two a b = sym read ∙ pair in
      let on : (q : ℕ) → is_pair_on q (Two a b) ≡ true → first_pair ops q ≤ i = λ q is. first_pair-le ops i q op i_in (ap (is_pair_on q) at ∙ is) in
      let only : (q : ℕ) → first_pair ops q ≡ i → (a ≡ q) ⊎ (b ≡ q) = λ q here. either a b q (sym (ap (is_pair_on q) at) ∙ first_pair-here ops i q op i_in here) in
      let low_on : first_pair ops (min a b) ≤ i = elim (least_cases a b) [
        | inl e ↦ subst (λ (q : ℕ). first_pair ops q ≤ i) (sym e) (on a (first_is a b))
        | inr e ↦ subst (λ (q : ℕ). first_pair ops q ≤ i) (sym e) (on b (second_is a b))
      ] in
      let high_on : first_pair ops (max a b) ≤ i = elim (greatest_cases a b) [
        | inl e ↦ subst (λ (q : ℕ). first_pair ops q ≤ i) (sym e) (on a (first_is a b))
        | inr e ↦ subst (λ (q : ℕ). first_pair ops q ≤ i) (sym e) (on b (second_is a b))
      ] in
      let one = AreUsed-visit ops qubits i 0 (min a b) old mid used first (omega arith) low_on (omega arith) (λ p le lt here. elim (only p here) [
        | inl e ↦ omega arith
        | inr e ↦ omega arith
      ]) in
      let both = AreUsed-visit ops qubits i (min a b + 1) (max a b) mid new one second (omega arith) high_on (omega arith) (λ p le lt here. elim (only p here) [
        | inl e ↦ omega arith
        | inr e ↦ omega arith
      ]) in
      AreUsed-advance ops qubits i (max a b + 1) new both (λ p here. elim (only p here) [
        | inl e ↦ omega arith
        | inr e ↦ omega arith
      ])
    where
      least_cases : (a b : ℕ) → (min a b ≡ a) ⊎ (min a b ≡ b)
      least_cases a b = elim (cases_lt a b) [
        | inl lt ↦ inl (omega arith)
        | inr le ↦ inr (omega arith)
      ]

      greatest_cases : (a b : ℕ) → (max a b ≡ a) ⊎ (max a b ≡ b)
      greatest_cases a b = elim (cases_lt a b) [
        | inl lt ↦ inr (omega arith)
        | inr le ↦ inl (omega arith)
      ]

  pub pair_below : (a b : ℕ) → HasQubitsBelow ops qubits → op ≡ Two a b → (a < qubits) × (b < qubits)
  pair_below a b in_range pair = in_range i op (a, b) (slice_get_read ops (length ops) i op refl i_in read) (ap gate_qubits pair)

  -- another op has none
  pub AreUsed-other : (uses : Uses) → ((a b : ℕ) → op ≢ Two a b) → AreUsed ops qubits i 0 uses → AreUsed ops qubits (i + 1) 0 uses
  AreUsed-other uses other used =
      AreUsed-advance ops qubits i 0 uses used (λ p here. absurd (on_none op other p (ap (is_pair_on p) read ∙ first_pair-here ops i p op i_in here)))
    where
      on_none : (o : Op) → ((a b : ℕ) → o ≢ Two a b) → (q : ℕ) → is_pair_on q o ≢ true
      on_none (One r angles) other q is = cc
      on_none (Two a b) other q is = other a b refl
      on_none Fence other q is = cc
      on_none (Read r bit) other q is = cc

-- a qubit is not used before itself
pub used_apart : (ops : List Op) (p q : ℕ) → IsUsedBefore ops p q → p ≢ q
used_apart ops p q (inl before) same = let e = ap (first_pair ops) same in omega arith
used_apart ops p q (inr (here, lt)) same = omega arith

-- where what comes before is another, an order of all numbers below a count has that many
module _ (Before : ℕ → ℕ → Type 0) (apart : (p q : ℕ) → Before p q → p ≢ q) where
  pub once : (numbers : List ℕ) → AllPairs Before numbers → AllPairs (λ p q. p ≢ q) numbers
  once numbers in_order i j d lt j_in = apart (get_or numbers i d) (get_or numbers j d) (in_order i j d lt j_in)

  pub IsOrderBelow-length : (count : ℕ) (numbers : List ℕ) → IsOrderBelow Before count numbers → length numbers ≡ count
  IsOrderBelow-length count numbers order =
      let least = le-length_from_below numbers count (λ q lt. list_any-from_Contains nat_eq_equiv q numbers (order.all q lt)) in
      let most = length-le_from_distinct_below numbers count (IsDistinct-from_AllPairs Decides-eqb numbers (once numbers order.in_order)) (λ q found.
      let has = Contains-from_any eqb-true q numbers found in
      All-contains (λ n. n < count) numbers q order.below has) in
      omega arith
