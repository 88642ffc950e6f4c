-- The first beam that breaks a condition.
use Rattle.std.proofs.Common.{◌≡◌, ℕ, ◌+◌, ◌<◌, ◌≤◌, ◌⊎◌, inl, inr, Bool, true, false, cond, Option, Some, None, List, [], ◌∷◌, length, map, subst, arith, count_by, leb, ltb}
use Rattle.std.specs.List.{Any, Contains, flat_map}
use Rattle.zair_form.specs.declared.step.PairOf.{PairOf}
use Rattle.zair_form.specs.declared.step.ReadOf.{ReadOf}
use Rattle.std.proofs.lemmas.List.Sums.{sum_by-cons}
use Rattle.zac_arch.specs.Architecture.{Architecture, trap_count}
use Rattle.zair_form.specs.declared.step.Beam.{Beam}
use Rattle.zair_form.specs.declared.step.Caught.{Caught}
use Rattle.zair_form.specs.declared.step.Dropped.{Dropped}
use Rattle.zair_form.specs.declared.step.Step.{Step}
use Rattle.zair_form.specs.declared.step.Step.TheVariants.{Activate, Move, Deactivate, Pulse, Readout}
use Rattle.zair_state.specs.declared.fault.Axis.{Axis}
use Rattle.zair_state.specs.declared.fault.Axis.TheVariants.{Row, Column}
use Rattle.zair_state.specs.declared.fault.BeamId.{BeamId}
use Rattle.zair_state.specs.State.{State, HasId}
use Rattle.zair_state.specs.Result.{with_beam, with_beams}
use Rattle.zair_state.specs.Faults.{along, active, ids, IsTwice, IsBusy, IsNotActive, IsPastLimit, IsOneTooMany, IsOffField, named_beam, IsUnknown, AreNeighbours, IsOutOfOrder, IsTooNear, beams_after}
use Rattle.zair_state.specs.FirstFault.{ComesBefore, beam_numbers}
use Rattle.zair_state.specs.Least.{IsLeastOf, lesser_of, first_beam_of, IsFirstBeam}
use Rattle.zair_state.proofs.Membership.{contains_none, any_contained, any_from_contained}
use Rattle.zair_state.proofs.BeamLists.{has_id, beam_of_id, contained_in_with_beams, with_beams_new, with_beams_old}
use Rattle.zair_state.proofs.Minima.{Same, least_of_either, least_same}

not_before : (k m n : ℕ) → n ≤ m → ¬ ComesBefore (0 ∷ k ∷ m ∷ []) (0 ∷ k ∷ n ∷ [])
not_before k m n le h = elim h [
  | inl x ↦ absurd (omega arith)
  | inr y ↦ elim y.1 [ inl x ↦ absurd (omega arith) | inr z ↦ elim z.1 [ inl x ↦ absurd (omega arith) | inr w ↦ w.1 ] ]
]

column_not_before : (m n : ℕ) → ¬ ComesBefore (0 ∷ 1 ∷ m ∷ []) (0 ∷ 0 ∷ n ∷ [])
column_not_before m n h = elim h [ inl x ↦ absurd (omega arith) | inr y ↦ elim y.1 [ inl x ↦ absurd (omega arith) | inr z ↦ absurd (omega (arith, z.0)) ] ]

along_axis : (P : BeamId → Type 0) → ((id : ℕ) → P (record { axis = Row; id = id })) → ((id : ℕ) → P (record { axis = Column; id = id })) → (axis : Axis) (id : ℕ) → P (record { axis = axis; id = id })
along_axis P row column Row id = row id
along_axis P row column Column id = column id

pub first_beam_told : (P : BeamId → Type 0) (rows columns : Option ℕ) → IsLeastOf (λ id. P (record { axis = Row; id = id })) rows → IsLeastOf (λ id. P (record { axis = Column; id = id })) columns → IsFirstBeam P (first_beam_of rows columns)
first_beam_told P (Some n) columns h k =
    (h.0, λ c p. along_axis (λ (b : BeamId). P b → ¬ ComesBefore (beam_numbers 0 b) (0 ∷ 0 ∷ n ∷ [])) (λ id p. not_before 0 id n (h.1 id p)) (λ id p. column_not_before id n) c.axis c.id p)
first_beam_told P None (Some n) h k =
    (k.0, λ c p. along_axis (λ (b : BeamId). P b → ¬ ComesBefore (beam_numbers 0 b) (0 ∷ 1 ∷ n ∷ [])) (λ id p. absurd (h id p)) (λ id p. not_before 1 id n (k.1 id p)) c.axis c.id p)
first_beam_told P None None h k = λ b p. along_axis (λ (c : BeamId). P c → ⊥) (λ id p. h id p) (λ id p. k id p) b.axis b.id p

-- a list with others put in has their ids
pub has_either : (new old : List Beam) (id : ℕ) → Same (HasId new id ⊎ HasId old id) (HasId (with_beams new old) id)
has_either new old id = (
  λ h. elim h [
    | inl x ↦ let r = beam_of_id new id x in subst (HasId (with_beams new old)) r.2 (has_id (with_beams new old) r.0 (with_beams_new new old r.0 r.1))
    | inr x ↦ let r = beam_of_id old id x in subst (HasId (with_beams new old)) r.2 (has_id (with_beams new old) r.0 (with_beams_old new old r.0 r.1))
  ],
  λ h.
      let r = beam_of_id (with_beams new old) id h in
      elim (contained_in_with_beams new old r.0 r.1) [ inl x ↦ inl (subst (HasId new) r.2 (has_id new r.0 x)) | inr x ↦ inr (subst (HasId old) r.2 (has_id old r.0 x)) ],
)

pub off_either : (new old : List Beam) (id : ℕ) → Same (IsOffField new id ⊎ IsOffField old id) (IsOffField (with_beams new old) id)
off_either new old id =
    let P : Beam → Type 0 = λ b. (b.id ≡ id) × (1000000 < b.at) in (
      λ h. elim h [
        | inl x ↦ let r = any_contained P new x in any_from_contained P (with_beams new old) r.0 (with_beams_new new old r.0 r.1) r.2
        | inr x ↦ let r = any_contained P old x in any_from_contained P (with_beams new old) r.0 (with_beams_old new old r.0 r.1) r.2
      ],
      λ h.
          let r = any_contained P (with_beams new old) h in
          elim (contained_in_with_beams new old r.0 r.1) [ inl x ↦ inl (any_from_contained P new r.0 x r.2) | inr x ↦ inr (any_from_contained P old r.0 x r.2) ],
    )

count_one : (id : ℕ) (b : Beam) (cs : List Beam) → count_by (λ (x : Beam). leb x.id id) (with_beam b cs) ≡ cond (leb b.id id) 1 0 + count_by (λ (x : Beam). leb x.id id) cs
count_one id b [] = sum_by-cons (λ (x : Beam). cond (leb x.id id) 1 0) b []
count_one id b (c ∷ cs) =
    by_test (λ (l : List Beam). count_by (λ (x : Beam). leb x.id id) l ≡ cond (leb b.id id) 1 0 + count_by (λ (x : Beam). leb x.id id) (c ∷ cs)) (ltb b.id c.id) (b ∷ c ∷ cs) (c ∷ with_beam b cs)
    (sum_by-cons (λ (x : Beam). cond (leb x.id id) 1 0) b (c ∷ cs))
    (omega (arith, sum_by-cons (λ (x : Beam). cond (leb x.id id) 1 0) c (with_beam b cs), sum_by-cons (λ (x : Beam). cond (leb x.id id) 1 0) c cs, count_one id b cs))
  where
    by_test : (P : List Beam → Type 0) (t : Bool) (x y : List Beam) → P x → P y → P (cond t x y)
    by_test P true x y h k = h
    by_test P false x y h k = k

pub count_both : (id : ℕ) (new old : List Beam) → count_by (λ (x : Beam). leb x.id id) (with_beams new old) ≡ count_by (λ (x : Beam). leb x.id id) new + count_by (λ (x : Beam). leb x.id id) old
count_both id [] old = omega arith
count_both id (b ∷ bs) old =
    omega (arith, count_one id b (with_beams bs old), count_both id bs old, sum_by-cons (λ (x : Beam). cond (leb x.id id) 1 0) b bs)

module _ (s : State) (axis : Axis) (aod : ℕ) where
  abbrev beam : ℕ → BeamId
  beam id = record { axis = axis; id = id }

  pub busy_activate : (rows columns : List Beam) (atoms : List Caught) (step : Step) (listed on : List Beam) (twice both result : Option ℕ) → step ≡ Activate aod rows columns atoms → listed ≡ along axis rows columns → on ≡ active s aod axis → result ≡ lesser_of twice both → IsLeastOf (IsTwice (ids listed)) twice → IsLeastOf (λ id. HasId listed id × HasId on id) both → IsLeastOf (λ id. IsBusy s step (record { axis = axis; id = id })) result
  busy_activate rows columns atoms step listed on twice both result e f g h =
      rw (e, f, g, h) (λ t b. least_of_either (IsTwice (ids (along axis rows columns))) (λ id. HasId (along axis rows columns) id × HasId (active s aod axis) id) (λ id. IsBusy s (Activate aod rows columns atoms) (beam id)) twice both (λ n x. x) (λ n x. inl x) (λ n x. inr x) t b)

  pub busy_move : (rows columns : List Beam) (step : Step) (listed : List Beam) (twice : Option ℕ) → step ≡ Move aod rows columns → listed ≡ along axis rows columns → IsLeastOf (IsTwice (ids listed)) twice → IsLeastOf (λ id. IsBusy s step (record { axis = axis; id = id })) twice
  busy_move rows columns step listed twice e f = rw (e, f) (λ t. t)

  pub busy_deactivate : (rows columns : List ℕ) (atoms : List Dropped) (step : Step) (listed : List ℕ) (twice : Option ℕ) → step ≡ Deactivate aod rows columns atoms → listed ≡ along axis rows columns → IsLeastOf (IsTwice listed) twice → IsLeastOf (λ id. IsBusy s step (record { axis = axis; id = id })) twice
  busy_deactivate rows columns atoms step listed twice e f = rw (e, f) (λ t. t)

  pub inactive_activate : (rows columns : List Beam) (atoms : List Caught) (step : Step) (listed on : List Beam) (named : List Caught) (result : Option ℕ) → step ≡ Activate aod rows columns atoms → listed ≡ along axis rows columns → on ≡ active s aod axis → named ≡ atoms → IsLeastOf (λ id. Any (λ (c : Caught). named_beam axis c ≡ id) named × ¬ (HasId listed id ⊎ HasId on id)) result → IsLeastOf (λ id. IsNotActive s step (record { axis = axis; id = id })) result
  inactive_activate rows columns atoms step listed on named result e f g h =
      rw (e, f, g, h) (λ t. least_same (λ id. Any (λ (c : Caught). named_beam axis c ≡ id) atoms × ¬ (HasId (along axis rows columns) id ⊎ HasId (active s aod axis) id)) (λ id. IsNotActive s (Activate aod rows columns atoms) (beam id)) result
      (λ id. let same = has_either (along axis rows columns) (active s aod axis) id in (λ x. (x.0, λ y. x.1 (same.1 y)), λ x. (x.0, λ y. x.1 (same.0 y)))) t)

  pub inactive_move : (rows columns : List Beam) (step : Step) (listed on : List Beam) (strange missing result : Option ℕ) → step ≡ Move aod rows columns → listed ≡ along axis rows columns → on ≡ active s aod axis → result ≡ lesser_of strange missing → IsLeastOf (λ id. HasId listed id × ¬ HasId on id) strange → IsLeastOf (λ id. HasId on id × ¬ HasId listed id) missing → IsLeastOf (λ id. IsNotActive s step (record { axis = axis; id = id })) result
  inactive_move rows columns step listed on strange missing result e f g h =
      rw (e, f, g, h) (λ t b. least_of_either (λ id. HasId (along axis rows columns) id × ¬ HasId (active s aod axis) id) (λ id. HasId (active s aod axis) id × ¬ HasId (along axis rows columns) id) (λ id. IsNotActive s (Move aod rows columns) (beam id)) strange missing (λ n x. x) (λ n x. inl x) (λ n x. inr x) t b)

  pub inactive_deactivate : (rows columns : List ℕ) (atoms : List Dropped) (step : Step) (listed : List ℕ) (on : List Beam) (result : Option ℕ) → step ≡ Deactivate aod rows columns atoms → listed ≡ along axis rows columns → on ≡ active s aod axis → IsLeastOf (λ id. Contains listed id × ¬ HasId on id) result → IsLeastOf (λ id. IsNotActive s step (record { axis = axis; id = id })) result
  inactive_deactivate rows columns atoms step listed on result e f g = rw (e, f, g) (λ t. t)

  pub limit_move : (a : Architecture) (rows columns : List Beam) (step : Step) (listed : List Beam) (result : Option ℕ) → step ≡ Move aod rows columns → listed ≡ along axis rows columns → IsLeastOf (IsOffField listed) result → IsLeastOf (λ id. IsPastLimit a s step (record { axis = axis; id = id })) result
  limit_move a rows columns step listed result e f =
      rw (e, f) (λ t. least_same (IsOffField (along axis rows columns)) (λ id. IsPastLimit a s (Move aod rows columns) (beam id)) result (λ id.
      let both = off_either (along axis rows columns) [] id in
      (λ x. both.0 (inl x), λ x. elim (both.1 x) [ inl y ↦ y | inr y ↦ absurd (contains_none (any_contained (λ (b : Beam). (b.id ≡ id) × (1000000 < b.at)) [] y).0 (any_contained (λ (b : Beam). (b.id ≡ id) × (1000000 < b.at)) [] y).1) ])) t)

  abbrev TooMany : ℕ → List Beam → List Beam → ℕ → Type 0
  TooMany most beams others id = HasId beams id × (most < count_by (λ (x : Beam). leb x.id id) beams + count_by (λ (x : Beam). leb x.id id) others)

  pub limit_activate : (a : Architecture) (most : ℕ) (rows columns : List Beam) (atoms : List Caught) (step : Step) (listed on : List Beam) (new old many off_new off_old off result : Option ℕ) → step ≡ Activate aod rows columns atoms → listed ≡ along axis rows columns → on ≡ active s aod axis → most ≡ along axis a.figures.rows a.figures.columns → many ≡ lesser_of new old → off ≡ lesser_of off_new off_old → result ≡ lesser_of many off
      → IsLeastOf (λ id. HasId listed id × (most < count_by (λ (x : Beam). leb x.id id) listed + count_by (λ (x : Beam). leb x.id id) on)) new
      → IsLeastOf (λ id. HasId on id × (most < count_by (λ (x : Beam). leb x.id id) on + count_by (λ (x : Beam). leb x.id id) listed)) old
      → IsLeastOf (IsOffField listed) off_new → IsLeastOf (IsOffField on) off_old → IsLeastOf (λ id. IsPastLimit a s step (record { axis = axis; id = id })) result
  limit_activate a most rows columns atoms step listed on new old many off_new off_old off result e f g m h i j =
      rw (e, f, g, m, j, h, i) (λ x y z w.
      let l = along axis rows columns in
      let o = active s aod axis in
      let k = along axis a.figures.rows a.figures.columns in
      let t = with_beams l o in
      least_of_either (λ id. IsOneTooMany k t id) (λ id. IsOffField t id) (λ id. IsPastLimit a s (Activate aod rows columns atoms) (beam id)) (lesser_of new old) (lesser_of off_new off_old) (λ n p. p) (λ n p. inl p) (λ n p. inr p)
      (least_of_either (TooMany k l o) (TooMany k o l) (λ id. IsOneTooMany k t id) new old
      (λ n p. let c = count_both n l o in elim ((has_either l o n).1 p.0) [ inl q ↦ inl (q, omega (arith, c, p.1)) | inr q ↦ inr (q, omega (arith, c, p.1)) ])
      (λ n p. let c = count_both n l o in ((has_either l o n).0 (inl p.0), omega (arith, c, p.1)))
      (λ n p. let c = count_both n l o in ((has_either l o n).0 (inr p.0), omega (arith, c, p.1))) x y)
      (least_of_either (IsOffField l) (IsOffField o) (λ id. IsOffField t id) off_new off_old (λ n p. (off_either l o n).1 p) (λ n p. (off_either l o n).0 (inl p)) (λ n p. (off_either l o n).0 (inr p)) z w))

  abbrev Next : (Beam → Beam → Type 0) → List Beam → ℕ → Type 0
  Next Q beams id = (lower : Beam) × (upper : Beam) × AreNeighbours beams id lower upper × Q lower upper

  pub order_told : (step : Step) (beams : List Beam) (result : Option ℕ) → beams ≡ beams_after s step axis → IsLeastOf (λ id. (lower : Beam) × (upper : Beam) × AreNeighbours beams id lower upper × (upper.at ≤ lower.at)) result → IsLeastOf (λ id. IsOutOfOrder s step (record { axis = axis; id = id })) result
  order_told step beams result e = rw e (λ t. t)

  pub gap_told : (a : Architecture) (step : Step) (beams : List Beam) (result : Option ℕ) → beams ≡ beams_after s step axis → IsLeastOf (λ id. (lower : Beam) × (upper : Beam) × AreNeighbours beams id lower upper × ((lower.at < upper.at) × (upper.at < lower.at + a.figures.gap))) result → IsLeastOf (λ id. IsTooNear a s step (record { axis = axis; id = id })) result
  gap_told a step beams result e =
      rw e (λ t. least_same (λ id. Next (λ lower upper. (lower.at < upper.at) × (upper.at < lower.at + a.figures.gap)) (beams_after s step axis) id) (λ id. IsTooNear a s step (beam id)) result
      (λ id. (λ h. (h.0, h.1, h.2, h.3.0, h.3.1), λ h. (h.0, h.1, h.2, (h.3, h.4)))) t)

-- numbers that a step names and the machine doesn't have
module _ (a : Architecture) (s : State) where
  abbrev NotBelow : ℕ → List ℕ → ℕ → Type 0
  NotBelow bound ns n = Contains ns n × (bound ≤ n)

  pub unknown_activate : (aod : ℕ) (rows columns : List Beam) (atoms listed : List Caught) (step : Step) (qubits : ℕ) (x y result : Option ℕ) → step ≡ Activate aod rows columns atoms → listed ≡ atoms → qubits ≡ length s.places → result ≡ lesser_of x y → IsLeastOf (NotBelow (length s.aods) (aod ∷ [])) x → IsLeastOf (NotBelow qubits (map (λ (c : Caught). c.q) listed)) y → IsLeastOf (IsUnknown a s step) result
  unknown_activate aod rows columns atoms listed step qubits x y result e f g h =
      rw (e, f, g, h) (λ t u. least_of_either (NotBelow (length s.aods) (aod ∷ [])) (NotBelow (length s.places) (map (λ (c : Caught). c.q) atoms)) (IsUnknown a s (Activate aod rows columns atoms)) x y
      (λ n k. elim k [ inl p ↦ inl p | inr q ↦ elim q [ inl p ↦ inr p | inr p ↦ absurd (contains_none n p.0) ] ]) (λ n p. inl p) (λ n p. inr (inl p)) t u)

  pub unknown_move : (aod : ℕ) (rows columns : List Beam) (step : Step) (x : Option ℕ) → step ≡ Move aod rows columns → IsLeastOf (NotBelow (length s.aods) (aod ∷ [])) x → IsLeastOf (IsUnknown a s step) x
  unknown_move aod rows columns step x e =
      rw e (λ t. least_same (NotBelow (length s.aods) (aod ∷ [])) (IsUnknown a s (Move aod rows columns)) x
      (λ n. (λ p. inl p, λ k. elim k [ inl p ↦ p | inr q ↦ elim q [ inl p ↦ absurd (contains_none n p.0) | inr p ↦ absurd (contains_none n p.0) ] ])) t)

  pub unknown_deactivate : (aod : ℕ) (rows columns : List ℕ) (atoms listed : List Dropped) (step : Step) (qubits traps : ℕ) (x y z named result : Option ℕ) → step ≡ Deactivate aod rows columns atoms → listed ≡ atoms → qubits ≡ length s.places → traps ≡ trap_count a → result ≡ lesser_of x named → named ≡ lesser_of y z → IsLeastOf (NotBelow (length s.aods) (aod ∷ [])) x → IsLeastOf (NotBelow qubits (map (λ (d : Dropped). d.q) listed)) y → IsLeastOf (NotBelow traps (map (λ (d : Dropped). d.trap.0) listed)) z → IsLeastOf (IsUnknown a s step) result
  unknown_deactivate aod rows columns atoms listed step qubits traps x y z named result e f g h i j =
      rw (e, f, g, h, i, j) (λ t u v. least_of_either (NotBelow (length s.aods) (aod ∷ [])) (λ n. NotBelow (length s.places) (map (λ (d : Dropped). d.q) atoms) n ⊎ NotBelow (trap_count a) (map (λ (d : Dropped). d.trap.0) atoms) n) (IsUnknown a s (Deactivate aod rows columns atoms)) x (lesser_of y z)
      (λ n k. k) (λ n p. inl p) (λ n p. inr p) t
      (least_of_either (NotBelow (length s.places) (map (λ (d : Dropped). d.q) atoms)) (NotBelow (trap_count a) (map (λ (d : Dropped). d.trap.0) atoms)) (λ n. NotBelow (length s.places) (map (λ (d : Dropped). d.q) atoms) n ⊎ NotBelow (trap_count a) (map (λ (d : Dropped). d.trap.0) atoms) n) y z (λ n k. k) (λ n p. inl p) (λ n p. inr p) u v))

  pub unknown_pulse : (pairs listed : List PairOf) (step : Step) (qubits : ℕ) (x : Option ℕ) → step ≡ Pulse pairs → listed ≡ pairs → qubits ≡ length s.places → IsLeastOf (NotBelow qubits (flat_map (λ (p : PairOf). p.a ∷ p.b ∷ []) listed)) x → IsLeastOf (IsUnknown a s step) x
  unknown_pulse pairs listed step qubits x e f g =
      rw (e, f, g) (λ t. least_same (NotBelow (length s.places) (flat_map (λ (p : PairOf). p.a ∷ p.b ∷ []) pairs)) (IsUnknown a s (Pulse pairs)) x
      (λ n. (λ p. inr (inl p), λ k. elim k [ inl p ↦ absurd (contains_none n p.0) | inr q ↦ elim q [ inl p ↦ p | inr p ↦ absurd (contains_none n p.0) ] ])) t)

  pub unknown_readout : (reads listed : List ReadOf) (step : Step) (qubits : ℕ) (x : Option ℕ) → step ≡ Readout reads → listed ≡ reads → qubits ≡ length s.places → IsLeastOf (NotBelow qubits (map (λ (r : ReadOf). r.q) listed)) x → IsLeastOf (IsUnknown a s step) x
  unknown_readout reads listed step qubits x e f g =
      rw (e, f, g) (λ t. least_same (NotBelow (length s.places) (map (λ (r : ReadOf). r.q) reads)) (IsUnknown a s (Readout reads)) x
      (λ n. (λ p. inr (inl p), λ k. elim k [ inl p ↦ absurd (contains_none n p.0) | inr q ↦ elim q [ inl p ↦ p | inr p ↦ absurd (contains_none n p.0) ] ])) t)
