-- Beams put in by rising id, in an array.
use Rattle.std.proofs.Common.{◌≡◌, ℕ, zero, suc, ◌+◌, ◌-◌, ◌<◌, ◌≤◌, inl, inr, Bool, true, false, cond, ltb, le-ltb, lt-ltb, List, [], ◌∷◌, length, get_or, drop, refl, sym, ap, ◌∙◌, subst, arith, insert, drop-cons, length-drop}
use Rattle.std.proofs.lemmas.List.{get_or_default, drop_all}
use Rattle.std.proofs.lemmas.Bool.{cases_lt}
use Rattle.zac_arch.specs.Architecture.{Architecture}
use Rattle.zair_form.specs.declared.step.Beam.{Beam}
use Rattle.zair_form.specs.declared.step.Caught.{Caught}
use Rattle.zair_form.specs.declared.step.Step.{Step}
use Rattle.zair_form.specs.declared.step.Step.TheVariants.{Activate, Move}
use Rattle.zair_state.specs.declared.fault.Axis.{Axis}
use Rattle.zair_state.specs.declared.fault.MachineFault.TheVariants.{Busy, NotActive, Limit}
use Rattle.zair_state.specs.State.{State}
use Rattle.zair_state.specs.Result.{with_beam, with_beams}
use Rattle.zair_state.specs.Invariant.{IsSound, AreInOrder}
use Rattle.zair_state.specs.Faults.{along, active, ids}
use Rattle.zair_state.specs.FirstFault.{AreMetBefore}
use Rattle.zair_state.proofs.Membership.{contains_none, pairs_none}
use Rattle.zair_state.proofs.BeamLists.{Rising, length_with_beam, rising_with_beams, same_ids_same_length, has_id}
use Rattle.zair_state.proofs.NothingBroken.{each_axis}
use Rattle.zair_state.proofs.MadeLegal.{few_from, once_from, sure, told_id}
use Rattle.zair_machine.proofs.BeamFaults.{has_either}

-- no beam up to the k-th has a greater id
abbrev pub NoneGreater : ℕ → List Beam → ℕ → Type 0
NoneGreater id beams k = (i : ℕ) (d : Beam) → i < k → i < length beams → ¬ (id < (get_or beams i d).id)

pub placed_at : (b : Beam) (cs : List Beam) (k : ℕ) (d : Beam) → k < length cs → NoneGreater b.id cs k → b.id < (get_or cs k d).id → with_beam b cs ≡ insert cs k b
placed_at b [] k d lt none here = absurd (omega arith)
placed_at b (c ∷ cs) zero d lt none here =
    let t : ltb b.id c.id ≡ true = lt-ltb b.id c.id here in
    ap (λ (x : Bool). cond x (b ∷ c ∷ cs) (c ∷ with_beam b cs)) t
placed_at b (c ∷ cs) (suc k) d lt none here =
    let t : ltb b.id c.id ≡ false = le-ltb b.id c.id (let no = none 0 d (omega arith) (omega arith) in omega arith) in
    ap (λ (x : Bool). cond x (b ∷ c ∷ cs) (c ∷ with_beam b cs)) t ∙ ap (λ (l : List Beam). c ∷ l) (placed_at b cs k d (omega arith) (λ i e before within. none (suc i) e (omega arith) (omega arith)) here)

pub placed_last : (b : Beam) (cs : List Beam) (k : ℕ) → length cs ≤ k → NoneGreater b.id cs k → with_beam b cs ≡ insert cs (length cs) b
placed_last b [] k le none = refl
placed_last b (c ∷ cs) zero le none = absurd (omega arith)
placed_last b (c ∷ cs) (suc k) le none =
    let t : ltb b.id c.id ≡ false = le-ltb b.id c.id (let no = none 0 c (omega arith) (omega arith) in omega arith) in
    ap (λ (x : Bool). cond x (b ∷ c ∷ cs) (c ∷ with_beam b cs)) t ∙ ap (λ (l : List Beam). c ∷ l) (placed_last b cs k (omega arith) (λ i e before within. none (suc i) e (omega arith) (omega arith)))

pub none_greater_more : (id : ℕ) (beams : List Beam) (k : ℕ) (d : Beam) → NoneGreater id beams k → ¬ (id < (get_or beams k d).id) → k < length beams → NoneGreater id beams (k + 1)
none_greater_more id beams k d none here lt i e before within =
    elim (cases_lt i k) as (λ _. ¬ (id < (get_or beams i e).id)) [
      | inl less ↦ none i e less within
      | inr le ↦
          let same : i ≡ k = omega arith in
          let one : get_or beams i e ≡ get_or beams k d = ap (λ (j : ℕ). get_or beams j e) same ∙ get_or_default beams k e d lt in
          subst (λ (b : Beam). ¬ (id < b.id)) (sym one) here
    ]

-- the listed beams from the last one on
pub put_one_more : (listed on : List Beam) (k : ℕ) (d : Beam) → k < length listed → with_beams (drop (length listed - (k + 1)) listed) on ≡ with_beam (get_or listed (length listed - 1 - k) d) (with_beams (drop (length listed - k) listed) on)
put_one_more listed on k d lt =
    let i = length listed - (k + 1) in
    let e : length listed - 1 - k ≡ i = omega arith in
    let f : length listed - k ≡ suc i = omega arith in
    let within : i < length listed = omega arith in
    ap (λ (l : List Beam). with_beams l on) (drop-cons listed i d within) ∙ ap (λ (j : ℕ). with_beam (get_or listed j d) (with_beams (drop (suc i) listed) on)) (sym e) ∙ ap (λ (j : ℕ). with_beam (get_or listed (length listed - 1 - k) d) (with_beams (drop j listed) on)) (sym f)

pub length_with_beams : (listed on : List Beam) → length (with_beams listed on) ≡ length listed + length on
length_with_beams [] on = omega arith
length_with_beams (b ∷ bs) on = omega (arith, length_with_beam b (with_beams bs on), length_with_beams bs on)

pub none_put : (listed on : List Beam) → with_beams (drop (length listed - 0) listed) on ≡ on
none_put listed on = ap (λ (l : List Beam). with_beams l on) (drop_all (length listed - 0) listed (omega arith))

pub all_put : (listed on : List Beam) (k : ℕ) → length listed ≤ k → with_beams (drop (length listed - k) listed) on ≡ with_beams listed on
all_put listed on k le = let e : length listed - k ≡ 0 = omega arith in ap (λ (j : ℕ). with_beams (drop j listed) on) e

pub length_put : (listed on : List Beam) (k : ℕ) → k ≤ length listed → length (with_beams (drop (length listed - k) listed) on) ≡ k + length on
length_put listed on k le = omega (arith, length_with_beams (drop (length listed - k) listed) on, length-drop (length listed - k) listed)

-- what the conditions on beams say of the beams after the step
module _ (a : Architecture) (s : State) (sound : IsSound a s) (rows_most : a.figures.rows ≤ 64) (columns_most : a.figures.columns ≤ 64) (step : Step) (met : AreMetBefore a s step 4) (axis : Axis) (aod : ℕ) (rows columns : List Beam) where
  active_in_order : (k : Axis) → AreInOrder a.figures.gap (along k a.figures.rows a.figures.columns) (active s aod k)
  active_in_order = each_axis (λ k. AreInOrder a.figures.gap (along k a.figures.rows a.figures.columns) (active s aod k)) (sound.rows aod) (sound.columns aod)

  most_along : (k : Axis) → along k a.figures.rows a.figures.columns ≤ 64
  most_along = each_axis (λ k. along k a.figures.rows a.figures.columns ≤ 64) rows_most columns_most

  pub few_activated : (atoms : List Caught) → step ≡ Activate aod rows columns atoms → length (along axis rows columns) + length (active s aod axis) ≤ 64
  few_activated atoms e =
      let here : AreMetBefore a s (Activate aod rows columns atoms) 4 = subst (λ (x : Step). AreMetBefore a s x 4) e met in
      let few = few_from (along axis a.figures.rows a.figures.columns) (with_beams (along axis rows columns) (active s aod axis)) (λ id h. here (Limit (record { axis = axis; id = id })) (omega arith) (inl h)) in
      omega (arith, few, most_along axis, length_with_beams (along axis rows columns) (active s aod axis))

  pub rising_activated : (atoms : List Caught) → step ≡ Activate aod rows columns atoms → Rising (with_beams (along axis rows columns) (active s aod axis))
  rising_activated atoms e =
      let here : AreMetBefore a s (Activate aod rows columns atoms) 4 = subst (λ (x : Step). AreMetBefore a s x 4) e met in
      rising_with_beams (along axis rows columns) (active s aod axis) (once_from (ids (along axis rows columns)) (λ n h. here (Busy (record { axis = axis; id = n })) (omega arith) (inl h)))
      (λ b listed h. here (Busy (record { axis = axis; id = b.id })) (omega arith) (inr (has_id (along axis rows columns) b listed, h))) (active_in_order axis).rising

  pub rising_moved : step ≡ Move aod rows columns → Rising (with_beams (along axis rows columns) [])
  rising_moved e =
      let here : AreMetBefore a s (Move aod rows columns) 4 = subst (λ (x : Step). AreMetBefore a s x 4) e met in
      rising_with_beams (along axis rows columns) [] (once_from (ids (along axis rows columns)) (λ n h. here (Busy (record { axis = axis; id = n })) (omega arith) h)) (λ b listed h. contains_none b.id h) (pairs_none (λ (b c : Beam). b.id < c.id))

  pub few_moved : step ≡ Move aod rows columns → length (along axis rows columns) + 0 ≤ 64
  few_moved e =
      let here : AreMetBefore a s (Move aod rows columns) 4 = subst (λ (x : Step). AreMetBefore a s x 4) e met in
      let l = along axis rows columns in
      let o = active s aod axis in
      let moved = with_beams l [] in
      let same = same_ids_same_length moved o (rising_moved e) (active_in_order axis).rising
      (λ id h. elim ((has_either l [] id).1 h) [
        | inl x ↦ sure (told_id o id) (λ none. here (NotActive (record { axis = axis; id = id })) (omega arith) (inl (x, none)))
        | inr x ↦ absurd (contains_none id x)
      ])
      (λ id h. (has_either l [] id).0 (inl (sure (told_id l id) (λ none. here (NotActive (record { axis = axis; id = id })) (omega arith) (inr (h, none)))))) in
      omega (arith, same, length_with_beams l [], (active_in_order axis).few, most_along axis)
