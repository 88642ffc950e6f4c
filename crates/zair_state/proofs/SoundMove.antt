-- A legal move keeps a state sound, and keeps order and gap all the way.
use Rattle.std.proofs.Common.{◌≡◌, ◌≢◌, ℕ, ◌+◌, ◌-◌, ◌*◌, ◌<◌, ◌≤◌, inl, inr, List, [], length, get_or, refl, sym, ap, ◌∙◌, subst, arith, length-set}
use Rattle.std.specs.List.{Contains}
use Rattle.std.proofs.lemmas.Bool.{cases_eq, cases_lt}
use Rattle.std.proofs.lemmas.List.{get_or_default}
use Rattle.std.proofs.lemmas.List.Elements.{All-contains}
use Rattle.zac_arch.specs.Architecture.{Architecture}
use Rattle.zair_form.specs.declared.step.Beam.{Beam}
use Rattle.zair_form.specs.declared.step.Step.TheVariants.{Move}
use Rattle.zair_state.specs.declared.place.Place.TheVariants.{Held}
use Rattle.zair_state.specs.State.{State, Beams, beams_of, IsAt, HasId, crossing, EachCrossing, IsFreeOfOthers, ArePlaced}
use Rattle.zair_state.specs.Legal.{IsLegal, ListsActive, CarriesOverEmptyTrap}
use Rattle.zair_state.specs.Result.{after, with_beams}
use Rattle.zair_state.specs.Invariant.{IsSound, IsOutOfReach, IsActive, AreInOrder, KeepsGap, on_the_way}
use Rattle.zair_state.proofs.Membership.{contains_none, pairs_none}
use Rattle.zair_state.proofs.BeamLists.{Rising, contained_in_with_beams, with_beams_new, rising_with_beams, has_id, beam_of_id, same_ids_same_length, spaced_pairs}
use Rattle.zair_state.proofs.Changing.{Changes, changes_of, each_aod, stays_free, stays_clear, others_stay_free}

-- the beams that a move lists, by rising id
abbrev moved : List Beam → List Beam
moved listed = with_beams listed []

rises : (listed active : List Beam) → ListsActive listed active → Rising (moved listed)
rises listed active h =
    rising_with_beams listed [] h.once (λ b in_list in_none. contains_none b.id in_none) (pairs_none (λ (b c : Beam). b.id < c.id))

id_was_active : (listed active : List Beam) (id : ℕ) → ListsActive listed active → HasId (moved listed) id → HasId active id
id_was_active listed active id h in_moved =
    let r = beam_of_id (moved listed) id in_moved in
    elim (contained_in_with_beams listed [] r.0 r.1) [
      | inl in_list ↦ subst (HasId active) r.2 (All-contains (λ (b : Beam). HasId active b.id) listed r.0 h.only in_list)
      | inr in_none ↦ absurd (contains_none r.0 in_none)
    ]

id_stays_active : (listed active : List Beam) (id : ℕ) → ListsActive listed active → HasId active id → HasId (moved listed) id
id_stays_active listed active id h in_active =
    let r = beam_of_id active id in_active in
    let listed_id = All-contains (λ (b : Beam). HasId listed b.id) active r.0 h.all r.1 in
    let l = beam_of_id listed r.0.id listed_id in
    subst (HasId (moved listed)) (l.2 ∙ r.2) (has_id (moved listed) l.0 (with_beams_new listed [] l.0 l.1))

in_order : (gap most : ℕ) (listed active : List Beam) → ListsActive listed active → AreInOrder gap most active → ArePlaced gap (moved listed) → AreInOrder gap most (moved listed)
in_order gap most listed active h old placed = record {
  few =
      let same = same_ids_same_length (moved listed) active (rises listed active h) old.rising (λ id. id_was_active listed active id h) (λ id. id_stays_active listed active id h) in
      let few = old.few in
      omega arith;
  rising = rises listed active h;
  placed = placed;
}

module _ (a : Architecture) (s : State) (aod : ℕ) (rows columns : List Beam) (sound : IsSound a s) (legal : IsLegal a s (Move aod rows columns)) where
  abbrev target : Beams
  target = record { rows = moved rows; columns = moved columns }

  abbrev next : State
  next = after s (Move aod rows columns)

  change : Changes s next aod target
  change = changes_of s next aod target legal.known refl

  stays_held : (q k row column : ℕ) → IsAt s q (Held k row column) → IsActive next k row column
  stays_held q k row column h =
      let active = sound.held q k row column h in
      elim (cases_eq k aod) [
        | inl e ↦
            let now : beams_of next k ≡ target = ap (λ (n : ℕ). beams_of next n) e ∙ change.there in
            let was : IsActive s aod row column = subst (λ (n : ℕ). IsActive s n row column) e active in
            subst (λ (b : Beams). HasId b.rows row × HasId b.columns column) (sym now)
            (id_stays_active rows (beams_of s aod).rows row legal.rows_listed was.0, id_stays_active columns (beams_of s aod).columns column legal.columns_listed was.1)
        | inr ne ↦ subst (λ (b : Beams). HasId b.rows row × HasId b.columns column) (sym (change.elsewhere k ne)) active
      ]

  carries_still : (k : ℕ) (row column : Beam) → IsFreeOfOthers a next k (crossing row column) → CarriesOverEmptyTrap a s k row column → CarriesOverEmptyTrap a next k row column
  carries_still k row column free h = record { q = h.q; holds = h.holds; trap = h.trap; exact = h.exact; empty = h.empty; free = free }

  free_here : EachCrossing (moved rows) (moved columns) (λ row column. IsFreeOfOthers a s aod (crossing row column))
  free_here row column in_rows in_columns = elim (legal.crossings row column in_rows in_columns) [ inl clear ↦ clear.free | inr carries ↦ carries.free ]

  reached_here : EachCrossing (moved rows) (moved columns) (IsOutOfReach a next aod)
  reached_here row column in_rows in_columns = elim (legal.crossings row column in_rows in_columns) [
    | inl clear ↦ inl (stays_clear a s next aod target (crossing row column) change clear)
    | inr carries ↦ inr (carries_still aod row column (stays_free a s next aod target (crossing row column) change carries.free) carries)
  ]

  reached_there : (k : ℕ) → k ≢ aod → EachCrossing (beams_of s k).rows (beams_of s k).columns (IsOutOfReach a next k)
  reached_there k ne row column in_rows in_columns =
      let still = others_stay_free a s next aod target change free_here k ne row column in_rows in_columns in
      elim (sound.crossings k row column in_rows in_columns) [
        | inl clear ↦ inl (record { free = still clear.free; off_traps = clear.off_traps })
        | inr carries ↦ inr (carries_still k row column (still carries.free) carries)
      ]

  reached : (k : ℕ) → EachCrossing (beams_of next k).rows (beams_of next k).columns (IsOutOfReach a next k)
  reached k = elim (cases_eq k aod) [
    | inl e ↦
        let now : beams_of next k ≡ target = ap (λ (n : ℕ). beams_of next n) e ∙ change.there in
        subst (λ (b : Beams). EachCrossing b.rows b.columns (IsOutOfReach a next k)) (sym now)
        (subst (λ (n : ℕ). EachCrossing (moved rows) (moved columns) (IsOutOfReach a next n)) (sym e) reached_here)
    | inr ne ↦ subst (λ (b : Beams). EachCrossing b.rows b.columns (IsOutOfReach a next k)) (sym (change.elsewhere k ne)) (reached_there k ne)
  ]

  pub move_sound : IsSound a next
  move_sound = record {
    all_aods = length-set s.aods aod target ∙ sound.all_aods;
    in_traps = sound.in_traps;
    apart = sound.apart;
    held = stays_held;
    rows = each_aod s next aod target (λ (b : Beams). AreInOrder a.figures.gap a.figures.rows b.rows) change
        (in_order a.figures.gap a.figures.rows rows (beams_of s aod).rows legal.rows_listed (sound.rows aod) legal.rows_placed) sound.rows;
    columns = each_aod s next aod target (λ (b : Beams). AreInOrder a.figures.gap a.figures.columns b.columns) change
        (in_order a.figures.gap a.figures.columns columns (beams_of s aod).columns legal.columns_listed (sound.columns aod) legal.columns_placed) sound.columns;
    crossings = reached;
  }

times_le : (m x y : ℕ) → x ≤ y → m * x ≤ m * y
times_le m x y h = grind arith

gap_sum : (rest k gap p1 p2 r1 r2 : ℕ) → p1 + gap ≤ p2 → r1 + gap ≤ r2 → (rest + k) * gap + (rest * p1 + k * r1) ≤ rest * p2 + k * r2
gap_sum rest k gap p1 p2 r1 r2 old new =
    let first : rest * (p1 + gap) ≤ rest * p2 = times_le rest (p1 + gap) p2 old in
    let second : k * (r1 + gap) ≤ k * r2 = times_le k (r1 + gap) r2 new in
    omega arith

-- n gaps fit between two sums of n positions, of which n - k are the old ones and k the new ones
gap_between : (n k gap p1 p2 r1 r2 : ℕ) → k ≤ n → p1 + gap ≤ p2 → r1 + gap ≤ r2 → n * gap + on_the_way n k p1 r1 ≤ on_the_way n k p2 r2
gap_between n k gap p1 p2 r1 r2 le old new =
    let sum : (n - k) + k ≡ n = omega arith in
    subst (λ (m : ℕ). m * gap + ((n - k) * p1 + k * r1) ≤ (n - k) * p2 + k * r2) sum (gap_sum (n - k) k gap p1 p2 r1 r2 old new)

order : (gap : ℕ) (beams : List Beam) (d : Beam) → Rising beams → ArePlaced gap beams → (i j : ℕ) → i < length beams → j < length beams →
    (get_or beams i d).id < (get_or beams j d).id → (get_or beams i d).at + gap ≤ (get_or beams j d).at
order gap beams d rises placed i j in_i in_j lt = elim (cases_lt i j) [
  | inl before ↦ spaced_pairs gap beams placed i j d before in_j
  | inr behind ↦ elim (cases_eq i j) [
    | inl same ↦ let e : (get_or beams i d).id ≡ (get_or beams j d).id = ap (λ (n : ℕ). (get_or beams n d).id) same in absurd (omega arith)
    | inr ne ↦ let down = rises j i d (omega arith) in_i in absurd (omega arith)
  ]
]

-- of two beams by rising id the one of lower id stands at least gap below
far_apart : (gap : ℕ) (beams : List Beam) → Rising beams → ArePlaced gap beams → (x y : Beam) → Contains beams x → Contains beams y → x.id < y.id → x.at + gap ≤ y.at
far_apart gap beams rises placed x y in_x in_y lt =
    let ex : get_or beams in_x.0 x ≡ x = in_x.2 in
    let ey : get_or beams in_y.0 x ≡ y = get_or_default beams in_y.0 x y in_y.1 ∙ in_y.2 in
    let r = order gap beams x rises placed in_x.0 in_y.0 in_x.1 in_y.1
    (subst (λ (z : Beam). z.id < (get_or beams in_y.0 x).id) (sym ex) (subst (λ (z : Beam). x.id < z.id) (sym ey) lt)) in
    subst (λ (z : Beam). z.at + gap ≤ y.at) ex (subst (λ (z : Beam). (get_or beams in_x.0 x).at + gap ≤ z.at) ey r)

-- between two lists by rising id, each with the gap
keeps_gap : (gap : ℕ) (old new : List Beam) → Rising old → Rising new → ArePlaced gap old → ArePlaced gap new → KeepsGap gap old new
keeps_gap gap old new old_rises new_rises old_placed new_placed n k b c b' c' le lt in_b in_c in_b' in_c' same_b same_c =
    gap_between n k gap b.at c.at b'.at c'.at le (far_apart gap old old_rises old_placed b c in_b in_c lt)
    (far_apart gap new new_rises new_placed b' c' in_b' in_c' (omega arith))

pub rows_keep_gap : (a : Architecture) (s : State) (aod : ℕ) (rows columns : List Beam) → IsSound a s → IsLegal a s (Move aod rows columns) →
    KeepsGap a.figures.gap (beams_of s aod).rows (beams_of (after s (Move aod rows columns)) aod).rows
rows_keep_gap a s aod rows columns sound legal =
    let now = changes_of s (after s (Move aod rows columns)) aod (record { rows = moved rows; columns = moved columns }) legal.known refl in
    subst (λ (b : Beams). KeepsGap a.figures.gap (beams_of s aod).rows b.rows) (sym now.there)
    (keeps_gap a.figures.gap (beams_of s aod).rows (moved rows) (sound.rows aod).rising (rises rows (beams_of s aod).rows legal.rows_listed) (sound.rows aod).placed legal.rows_placed)

pub columns_keep_gap : (a : Architecture) (s : State) (aod : ℕ) (rows columns : List Beam) → IsSound a s → IsLegal a s (Move aod rows columns) →
    KeepsGap a.figures.gap (beams_of s aod).columns (beams_of (after s (Move aod rows columns)) aod).columns
columns_keep_gap a s aod rows columns sound legal =
    let now = changes_of s (after s (Move aod rows columns)) aod (record { rows = moved rows; columns = moved columns }) legal.known refl in
    subst (λ (b : Beams). KeepsGap a.figures.gap (beams_of s aod).columns b.columns) (sym now.there)
    (keeps_gap a.figures.gap (beams_of s aod).columns (moved columns) (sound.columns aod).rising (rises columns (beams_of s aod).columns legal.columns_listed) (sound.columns aod).placed legal.columns_placed)
