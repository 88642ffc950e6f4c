-- The least qubit that breaks a condition on atoms.
use Rattle.std.proofs.Common.{◌≡◌, ◌≢◌, ℕ, ◌<◌, ◌≤◌, ◌⊎◌, inl, inr, Bool, true, false, IsTrue, Option, Some, None, List, [], ◌∷◌, length, refl, map, sym, ap, ◌∙◌, subst, arith, slice_get}
use Rattle.std.specs.List.{All, Any, Contains, flat_map}
use Rattle.std.proofs.lemmas.Bool.{cases_lt, false≢true}
use Rattle.zac_arch.specs.Architecture.{Architecture}
use Rattle.zac_arch.specs.declared.place.Point.{Point}
use Rattle.zair_form.specs.declared.step.Beam.{Beam}
use Rattle.zair_form.specs.declared.step.Caught.{Caught}
use Rattle.zair_form.specs.declared.step.Dropped.{Dropped}
use Rattle.zair_form.specs.declared.step.PairOf.{PairOf}
use Rattle.zair_form.specs.declared.step.Step.{Step}
use Rattle.zair_form.specs.declared.step.Step.TheVariants.{Activate, Deactivate, One, Pulse, Readout}
use Rattle.zair_form.specs.declared.step.OneGate.{OneGate}
use Rattle.zair_form.specs.declared.step.ReadOf.{ReadOf}
use Rattle.zair_state.specs.declared.fault.Axis.TheVariants.{Row, Column}
use Rattle.zair_state.specs.declared.fault.MachineFault.TheVariants.{Unknown}
use Rattle.zair_state.specs.declared.place.Place.TheVariants.{Held}
use Rattle.zair_state.specs.State.{State, IsAt, RestsLit, beams_of}
use Rattle.zair_state.specs.Result.{with_beams}
use Rattle.zair_state.specs.Legal.{Picks, Drops}
use Rattle.zair_state.specs.Faults.{AreSameCatch, IsTwice, IsPickWrong, IsDropWrong, IsLitAlone, IsHeld, IsNotAtRest, IsPairWrong, beams_after}
use Rattle.zair_state.specs.FirstFault.{AreMetBefore}
use Rattle.zair_state.specs.Least.{IsLeastOf, IsLeastPairOf, lesser_of, number_if}
use Rattle.zair_state.proofs.Membership.{contains_none, contains_here, contains_later, contains_cases, contains_map, all_from_contains}
use Rattle.zair_state.proofs.Minima.{Same, least_of_either}
use Rattle.zair_state.proofs.Picking.{NoneBelow}
use Rattle.zair_state.proofs.Pairs.{IsWrongPair}

both_named : (pairs : List PairOf) (p : PairOf) → Contains pairs p → Contains (flat_map (λ (p : PairOf). p.a ∷ p.b ∷ []) pairs) p.a × Contains (flat_map (λ (p : PairOf). p.a ∷ p.b ∷ []) pairs) p.b
both_named [] p h = absurd (contains_none p h)
both_named (x ∷ xs) p h =
    let tail = flat_map (λ (p : PairOf). p.a ∷ p.b ∷ []) xs in
    elim (contains_cases x p xs h) [
      | inl e ↦ (
        subst (λ (y : PairOf). Contains (x.a ∷ x.b ∷ tail) y.a) e (contains_here x.a (x.b ∷ tail)),
        subst (λ (y : PairOf). Contains (x.a ∷ x.b ∷ tail) y.b) e (contains_later x.a x.b (x.b ∷ tail) (contains_here x.b tail)),
      )
      | inr later ↦
          let r = both_named xs p later in
          (contains_later x.a p.a (x.b ∷ tail) (contains_later x.b p.a tail r.0), contains_later x.a p.b (x.b ∷ tail) (contains_later x.b p.b tail r.1))
    ]

module _ (a : Architecture) (s : State) where
  pub known_caught : (aod : ℕ) (rows columns : List Beam) (atoms listed : List Caught) (step : Step) → step ≡ Activate aod rows columns atoms → listed ≡ atoms → AreMetBefore a s step 1 → All (λ (c : Caught). c.q < length s.places) listed
  known_caught aod rows columns atoms listed step e f met =
      let here : AreMetBefore a s (Activate aod rows columns atoms) 1 = subst (λ (x : Step). AreMetBefore a s x 1) e met in
      subst (λ (l : List Caught). All (λ (c : Caught). c.q < length s.places) l) (sym f)
      (all_from_contains (λ (c : Caught). c.q < length s.places) atoms (λ c in_atoms. elim (cases_lt c.q (length s.places)) [
        | inl lt ↦ lt
        | inr ge ↦ absurd (here (Unknown c.q) (omega arith) (inr (inl (contains_map (λ (c : Caught). c.q) atoms c in_atoms, ge))))
      ]))

  pub known_dropped : (aod : ℕ) (rows columns : List ℕ) (atoms listed : List Dropped) (step : Step) → step ≡ Deactivate aod rows columns atoms → listed ≡ atoms → AreMetBefore a s step 1 → All (λ (d : Dropped). d.q < length s.places) listed
  known_dropped aod rows columns atoms listed step e f met =
      let here : AreMetBefore a s (Deactivate aod rows columns atoms) 1 = subst (λ (x : Step). AreMetBefore a s x 1) e met in
      subst (λ (l : List Dropped). All (λ (d : Dropped). d.q < length s.places) l) (sym f)
      (all_from_contains (λ (d : Dropped). d.q < length s.places) atoms (λ d in_atoms. elim (cases_lt d.q (length s.places)) [
        | inl lt ↦ lt
        | inr ge ↦ absurd (here (Unknown d.q) (omega arith) (inr (inl (contains_map (λ (d : Dropped). d.q) atoms d in_atoms, ge))))
      ]))

  pub pick_activate : (aod : ℕ) (rows columns new_rows new_columns after_rows after_columns : List Beam) (atoms listed : List Caught) (step : Step) (o : Option ℕ) → step ≡ Activate aod rows columns atoms → new_rows ≡ rows → new_columns ≡ columns → after_rows ≡ beams_after s step Row → after_columns ≡ beams_after s step Column → listed ≡ atoms
      → IsLeastOf (λ q. (c : Caught) × (i : ℕ) × (slice_get listed i ≡ Some c) × (c.q ≡ q) × (¬ Picks a s aod new_rows new_columns after_rows after_columns c ⊎ ((d : Caught) × (j : ℕ) × (slice_get listed j ≡ Some d) × (i ≢ j) × AreSameCatch c d))) o → IsLeastOf (IsPickWrong a s step) o
  pick_activate aod rows columns new_rows new_columns after_rows after_columns atoms listed step o e f g h i j =
      let up : after_rows ≡ with_beams rows (beams_of s aod).rows = h ∙ ap (λ (x : Step). beams_after s x Row) e in
      let across : after_columns ≡ with_beams columns (beams_of s aod).columns = i ∙ ap (λ (x : Step). beams_after s x Column) e in
      rw (e, f, g, up, across, j) (λ t. t)

  pub drop_deactivate : (aod : ℕ) (rows columns on_rows on_columns : List ℕ) (atoms listed : List Dropped) (step : Step) (left wrong twice inner result : Option ℕ) → step ≡ Deactivate aod rows columns atoms → on_rows ≡ rows → on_columns ≡ columns → listed ≡ atoms → result ≡ lesser_of left inner → inner ≡ lesser_of wrong twice
      → IsLeastOf (λ q. (row : ℕ) × (column : ℕ) × IsAt s q (Held aod row column) × (Contains on_rows row ⊎ Contains on_columns column) × ¬ Any (λ (d : Dropped). d.q ≡ q) listed) left
      → IsLeastOf (λ q. Any (λ (d : Dropped). (d.q ≡ q) × ¬ Drops a s aod on_rows on_columns d) listed) wrong
      → IsLeastOf (IsTwice (map (λ (d : Dropped). d.q) listed)) twice → IsLeastOf (IsDropWrong a s step) result
  drop_deactivate aod rows columns on_rows on_columns atoms listed step left wrong twice inner result e f g h i j =
      rw (e, f, g, h, i, j) (λ x y z.
      let L : ℕ → Type 0 = λ q. (row : ℕ) × (column : ℕ) × IsAt s q (Held aod row column) × (Contains rows row ⊎ Contains columns column) × ¬ Any (λ (d : Dropped). d.q ≡ q) atoms in
      let W : ℕ → Type 0 = λ q. Any (λ (d : Dropped). (d.q ≡ q) × ¬ Drops a s aod rows columns d) atoms in
      let T : ℕ → Type 0 = IsTwice (map (λ (d : Dropped). d.q) atoms) in
      least_of_either L (λ q. W q ⊎ T q) (IsDropWrong a s (Deactivate aod rows columns atoms)) left (lesser_of wrong twice) (λ q k. k) (λ q k. inl k) (λ q k. inr k) x
      (least_of_either W T (λ q. W q ⊎ T q) wrong twice (λ q k. k) (λ q k. inl k) (λ q k. inr k) y z))

  pub alone_pulse : (pairs listed : List PairOf) (step : Step) (o : Option ℕ) → step ≡ Pulse pairs → listed ≡ pairs
      → IsLeastOf (λ q. ((p : Point) × RestsLit a s q p) × ¬ Any (λ (pair : PairOf). (pair.a ≡ q) ⊎ (pair.b ≡ q)) listed) o → IsLeastOf (IsLitAlone a s step) o
  alone_pulse pairs listed step o e f = rw (e, f) (λ t. t)

  pub known_paired : (pairs listed : List PairOf) (step : Step) → step ≡ Pulse pairs → listed ≡ pairs → AreMetBefore a s step 1 → All (λ (p : PairOf). (p.a < length s.places) × (p.b < length s.places)) listed
  known_paired pairs listed step e f met =
      let here : AreMetBefore a s (Pulse pairs) 1 = subst (λ (x : Step). AreMetBefore a s x 1) e met in
      let below : (n : ℕ) → Contains (flat_map (λ (p : PairOf). p.a ∷ p.b ∷ []) pairs) n → n < length s.places = λ n named. elim (cases_lt n (length s.places)) [
        | inl lt ↦ lt
        | inr ge ↦ absurd (here (Unknown n) (omega arith) (inr (inl (named, ge))))
      ] in
      subst (λ (l : List PairOf). All (λ (p : PairOf). (p.a < length s.places) × (p.b < length s.places)) l) (sym f)
      (all_from_contains (λ (p : PairOf). (p.a < length s.places) × (p.b < length s.places)) pairs (λ p in_pairs. let both = both_named pairs p in_pairs in (below p.a both.0, below p.b both.1)))

  pub pairs_pulse : (pairs listed : List PairOf) (step : Step) (o : Option (ℕ × ℕ)) → step ≡ Pulse pairs → listed ≡ pairs → IsLeastPairOf (λ q r. (q ≤ r) × IsWrongPair a s listed q r) o → IsLeastPairOf (IsPairWrong a s step) o
  pairs_pulse pairs listed step o e f = rw (e, f) (λ t. t)

  pub known_gate : (gate : OneGate) (step : Step) → step ≡ One gate → AreMetBefore a s step 1 → gate.q < length s.places
  known_gate gate step e met =
      let here : AreMetBefore a s (One gate) 1 = subst (λ (x : Step). AreMetBefore a s x 1) e met in
      elim (cases_lt gate.q (length s.places)) [
        | inl lt ↦ lt
        | inr ge ↦ absurd (here (Unknown gate.q) (omega arith) (inr (inl (contains_here gate.q [], ge))))
      ]

  pub known_read : (reads listed : List ReadOf) (step : Step) → step ≡ Readout reads → listed ≡ reads → AreMetBefore a s step 1 → All (λ (r : ReadOf). r.q < length s.places) listed
  known_read reads listed step e f met =
      let here : AreMetBefore a s (Readout reads) 1 = subst (λ (x : Step). AreMetBefore a s x 1) e met in
      subst (λ (l : List ReadOf). All (λ (r : ReadOf). r.q < length s.places) l) (sym f)
      (all_from_contains (λ (r : ReadOf). r.q < length s.places) reads (λ r in_reads. elim (cases_lt r.q (length s.places)) [
        | inl lt ↦ lt
        | inr ge ↦ absurd (here (Unknown r.q) (omega arith) (inr (inl (contains_map (λ (r : ReadOf). r.q) reads r in_reads, ge))))
      ]))

  pub rest_gate : (gate : OneGate) (step : Step) (test : Bool) (o : Option ℕ) → step ≡ One gate → o ≡ lesser_of None (number_if test gate.q) → Same (IsTrue test) (IsHeld s gate.q) → IsLeastOf (IsNotAtRest s step) o
  rest_gate gate step test o e f told =
      rw (e, f) (gate_held test told)
    where
      gate_held : (test : Bool) → Same (IsTrue test) (IsHeld s gate.q) → IsLeastOf (IsNotAtRest s (One gate)) (lesser_of None (number_if test gate.q))
      gate_held true told = ((refl, told.0 refl), λ m h. let e = h.0 in omega arith)
      gate_held false told = λ m h. absurd (false≢true (told.1 (subst (IsHeld s) (sym h.0) h.1)))

  pub rest_reads : (reads listed : List ReadOf) (step : Step) (o : Option ℕ) → step ≡ Readout reads → listed ≡ reads → IsLeastOf (λ q. Any (λ (r : ReadOf). r.q ≡ q) listed × IsHeld s q) o → IsLeastOf (IsNotAtRest s step) o
  rest_reads reads listed step o e f = rw (e, f) (λ t. t)

-- the first of two numbers whose pair has the property, by the first number and then by the second
pub first_pair_here : (W : ℕ → ℕ → Type 0) (q r : ℕ) → NoneBelow (λ q. (r : ℕ) × (q ≤ r) × W q r) q → ((q ≤ r) × W q r) × ((m : ℕ) → ((q ≤ m) × W q m) → r ≤ m) → IsLeastPairOf (λ q r. (q ≤ r) × W q r) (Some (q, r))
first_pair_here W q r none here = (
  here.0,
  λ m n h. elim (cases_lt q m) [
    | inl lt ↦ inl lt
    | inr ge ↦ elim (cases_lt m q) [
      | inl less ↦ absurd (none m less (n, h.0, h.1))
      | inr more ↦
          let e : q ≡ m = omega arith in
          inr (e, here.1 n (subst (λ (k : ℕ). (k ≤ n) × W k n) (sym e) h))
    ]
  ],
)

pub no_pair_here : (W : ℕ → ℕ → Type 0) (n most : ℕ) → most ≤ n → ((q r : ℕ) → W q r → q < most) → NoneBelow (λ q. (r : ℕ) × (q ≤ r) × W q r) n → IsLeastPairOf (λ q r. (q ≤ r) × W q r) None
no_pair_here W n most le bound none q r h = none q (let lt = bound q r h.1 in omega arith) (r, h.0, h.1)
