-- Beams over lines.
use Rattle.std.proofs.Common.{◌≡◌, ℕ, ◌+◌, ◌<◌, ◌≤◌, inl, inr, Bool, true, false, cond, not, ◌&&◌, ◌||◌, List, [], ◌∷◌, length, map, refl, sym, ap, ◌∙◌, subst, arith}
use Rattle.std.specs.List.{All, AllPairs, Contains}
use Rattle.std.proofs.lemmas.Bool.{both_ways, false_from_ne_true, or_cases, or_left, or_right, and_parts, and_from, not-true, not_from_false, lt-ltb}
use Rattle.std.proofs.lemmas.List.Elements.{All-contains}
use Rattle.std.proofs.lemmas.List.Kept.{AllPairs-filter}
use Rattle.zair_form.specs.declared.step.Beam.{Beam}
use Rattle.zair_state.specs.Legal.{AreOnce}
use Rattle.zair_state.specs.Result.{with_beam, with_beams, without_beams}
use Rattle.zair_state.specs.State.{ArePlaced, HasId}
use Rattle.zair_state.proofs.BeamLists.{Rising, rising_ids, rising_with_beams, contained_in_with_beams, with_beams_new, with_beams_old, has_id, beam_of_id, contained_in_without, contains_without, stays, placed_from_pairs}
use Rattle.zair_state.proofs.Membership.{contains_none, contains_here, contains_later, contains_cases, all_from_contains, pairs_head, pairs_tail}
use Rattle.zac_aod.specs.Lines.{number_of}
use Rattle.zac_aod.specs.declared.line.Line.{Line}
use Rattle.zac_aod.specs.Stages.{beams_over}
use Rattle.zac_aod.proofs.LineFacts.{Rise}
use Rattle.zac_aod.proofs.Numbers.{line_of_number}
use Rattle.zac_aod.proofs.OverLines.{beam_from, behind, has_beam_from, rising_from, few_from, stands_over, apart_over}

-- the beam of a line: its id is the number of the line
abbrev pub beam_of : List Line → (Line → ℕ) → Line → Beam
beam_of lines at l = record { id = number_of lines l.from; at = at l }

-- the line of a beam
pub record FromLine (active : Line → Bool) (at : Line → ℕ) (lines : List Line) (b : Beam) : Type 0 where
  pub line : Line
  pub among : Contains lines line
  pub is_active : active line ≡ true
  pub is : b ≡ beam_of lines at line

from_none : (lines : List Line) (at : Line → ℕ) (l : Line) → beam_from 0 lines at l ≡ beam_of lines at l
from_none lines at l =
    let e : 0 + number_of lines l.from ≡ number_of lines l.from = omega arith in
    λ i. record { id = e i; at = at l }

pub from_line : (active : Line → Bool) (at : Line → ℕ) (lines : List Line) → Rise lines → (b : Beam) → Contains (beams_over active at 0 lines) b → FromLine active at lines b
from_line active at lines rise b c =
    let r = behind active at 0 lines rise b c in
    record { line = r.line; among = r.among; is_active = r.is_active; is = r.is ∙ from_none lines at r.line }

pub has_beam : (active : Line → Bool) (at : Line → ℕ) (lines : List Line) → Rise lines → (l : Line) → Contains lines l → active l ≡ true → Contains (beams_over active at 0 lines) (beam_of lines at l)
has_beam active at lines rise l c e =
    subst (λ (b : Beam). Contains (beams_over active at 0 lines) b) (from_none lines at l) (has_beam_from active at 0 lines rise l c e)

pub one_line : (lines : List Line) → Rise lines → (l m : Line) → Contains lines l → Contains lines m → number_of lines l.from ≡ number_of lines m.from → l ≡ m
one_line lines rise l m c d e = line_of_number lines rise l m c d e

pub rising_over : (active : Line → Bool) (at : Line → ℕ) (id : ℕ) (lines : List Line) → Rising (beams_over active at id lines)
rising_over active at id lines = rising_from active at id lines

pub few_over : (active : Line → Bool) (at : Line → ℕ) (id : ℕ) (lines : List Line) → length (beams_over active at id lines) ≤ length lines
few_over active at id lines = few_from active at id lines

pub placed_over : (gap : ℕ) (active : Line → Bool) (at : Line → ℕ) (id : ℕ) (lines : List Line)
    → ((l : Line) → Contains lines l → active l ≡ true → at l ≤ 1000000)
    → AllPairs (λ (l m : Line). active l ≡ true → active m ≡ true → at l + gap ≤ at m) lines
    → ArePlaced gap (beams_over active at id lines)
placed_over gap active at id lines inside apart =
    placed_from_pairs gap (beams_over active at id lines)
    (all_from_contains (λ (b : Beam). b.at ≤ 1000000) (beams_over active at id lines) (λ b c.
    let r = stands_over active at id lines b c in
    let le = inside r.line r.among r.is_active in
    let e = r.stands in
    omega arith))
    (apart_over gap active at id lines apart)

-- lists of beams by rising id that have the same beams are the same
pub same_beams : (xs ys : List Beam) → Rising xs → Rising ys → ((b : Beam) → Contains xs b → Contains ys b) → ((b : Beam) → Contains ys b → Contains xs b) → xs ≡ ys
same_beams [] [] rx ry there back = refl
same_beams [] (y ∷ ys) rx ry there back = absurd (contains_none y (back y (contains_here y ys)))
same_beams (x ∷ xs) [] rx ry there back = absurd (contains_none x (there x (contains_here x xs)))
same_beams (x ∷ xs) (y ∷ ys) rx ry there back =
    let above_x : All (λ (b : Beam). x.id < b.id) xs = pairs_head (λ (b c : Beam). b.id < c.id) x xs rx in
    let above_y : All (λ (b : Beam). y.id < b.id) ys = pairs_head (λ (b c : Beam). b.id < c.id) y ys ry in
    let first : x ≡ y = elim (contains_cases y x ys (there x (contains_here x xs))) [
      | inl e ↦ sym e
      | inr in_ys ↦ elim (contains_cases x y xs (back y (contains_here y ys))) [
        | inl e ↦ e
        | inr in_xs ↦
            let lt = All-contains (λ (b : Beam). x.id < b.id) xs y above_x in_xs in
            let gt = All-contains (λ (b : Beam). y.id < b.id) ys x above_y in_ys in
            absurd (omega arith)
      ]
    ] in
    let same : x.id ≡ y.id = ap (λ (b : Beam). b.id) first in
    let rest_there : (b : Beam) → Contains xs b → Contains ys b = λ b in_xs. elim (contains_cases y b ys (there b (contains_later x b xs in_xs))) [
      | inl e ↦
          let lt = All-contains (λ (b : Beam). x.id < b.id) xs b above_x in_xs in
          let other : y.id ≡ b.id = ap (λ (b : Beam). b.id) e in
          absurd (omega arith)
      | inr in_ys ↦ in_ys
    ] in
    let rest_back : (b : Beam) → Contains ys b → Contains xs b = λ b in_ys. elim (contains_cases x b xs (back b (contains_later y b ys in_ys))) [
      | inl e ↦
          let lt = All-contains (λ (b : Beam). y.id < b.id) ys b above_y in_ys in
          let other : x.id ≡ b.id = ap (λ (b : Beam). b.id) e in
          absurd (omega arith)
      | inr in_xs ↦ in_xs
    ] in
    let rest : xs ≡ ys = same_beams xs ys (pairs_tail (λ (b c : Beam). b.id < c.id) x xs rx) (pairs_tail (λ (b c : Beam). b.id < c.id) y ys ry) rest_there rest_back in
    λ i. first i ∷ rest i

goes_first : (b : Beam) (bs : List Beam) → All (λ (c : Beam). b.id < c.id) bs → with_beam b bs ≡ b ∷ bs
goes_first b [] above = refl
goes_first b (c ∷ cs) above =
    let lt = All-contains (λ (c : Beam). b.id < c.id) (c ∷ cs) c above (contains_here c cs) in
    ap (λ t. cond t (b ∷ c ∷ cs) (c ∷ with_beam b cs)) (lt-ltb b.id c.id lt)

-- a move lists beams that stand by rising id already
pub listed_anew : (beams : List Beam) → Rising beams → with_beams beams [] ≡ beams
listed_anew [] rising = refl
listed_anew (b ∷ bs) rising =
    ap (with_beam b) (listed_anew bs (pairs_tail (λ (b c : Beam). b.id < c.id) b bs rising))
    ∙ goes_first b bs (pairs_head (λ (b c : Beam). b.id < c.id) b bs rising)

ids_once : (beams : List Beam) → Rising beams → AreOnce (map (λ (b : Beam). b.id) beams)
ids_once beams rising i j d before within =
    let lt = rising_ids beams rising i j d before within in
    λ e. omega arith

-- a beam that is that of a line, where another list has one at the same place
beam_stays : (active : Line → Bool) (at_other at : Line → ℕ) (lines : List Line) → Rise lines → (b : Beam) (l : Line) → Contains lines l → active l ≡ true
    → b ≡ beam_of lines at_other l → at_other l ≡ at l → Contains (beams_over active at 0 lines) b
beam_stays active at_other at lines rise b l c e is same =
    let moved : beam_of lines at_other l ≡ beam_of lines at l = λ i. record { id = number_of lines l.from; at = same i } in
    subst (λ (x : Beam). Contains (beams_over active at 0 lines) x) (sym (is ∙ moved)) (has_beam active at lines rise l c e)

-- beams of some lines put in beside those of other lines
pub joined_over : (new old both : Line → Bool) (at_new at_old at : Line → ℕ) (lines : List Line) → Rise lines
    → ((l : Line) → Contains lines l → both l ≡ (new l || old l))
    → ((l : Line) → Contains lines l → new l ≡ true → old l ≡ false)
    → ((l : Line) → Contains lines l → new l ≡ true → at_new l ≡ at l)
    → ((l : Line) → Contains lines l → old l ≡ true → at_old l ≡ at l)
    → with_beams (beams_over new at_new 0 lines) (beams_over old at_old 0 lines) ≡ beams_over both at 0 lines
joined_over new old both at_new at_old at lines rise either apart here there =
    let news = beams_over new at_new 0 lines in
    let olds = beams_over old at_old 0 lines in
    let all = beams_over both at 0 lines in
    let once : AreOnce (map (λ (b : Beam). b.id) news) = ids_once news (rising_over new at_new 0 lines) in
    let fresh : (b : Beam) → Contains news b → ¬ HasId olds b.id =
    λ b c has.
    let o = beam_of_id olds b.id has in
    let n = from_line new at_new lines rise b c in
    let m = from_line old at_old lines rise o.0 o.1 in
    let same : number_of lines n.line.from ≡ number_of lines m.line.from = ap (λ (x : Beam). x.id) (sym n.is) ∙ sym o.2 ∙ ap (λ (x : Beam). x.id) m.is in
    let one : n.line ≡ m.line = one_line lines rise n.line m.line n.among m.among same in
    let is : old n.line ≡ true = ap old one ∙ m.is_active in
    both_ways (old n.line) (apart n.line n.among n.is_active) is in
    let rising : Rising (with_beams news olds) = rising_with_beams news olds once fresh (rising_over old at_old 0 lines) in
    same_beams (with_beams news olds) all rising (rising_over both at 0 lines)
    (λ b c. elim (contained_in_with_beams news olds b c) [
      | inl d ↦
          let n = from_line new at_new lines rise b d in
          beam_stays both at_new at lines rise b n.line n.among (either n.line n.among ∙ or_left (new n.line) (old n.line) n.is_active) n.is (here n.line n.among n.is_active)
      | inr d ↦
          let m = from_line old at_old lines rise b d in
          beam_stays both at_old at lines rise b m.line m.among (either m.line m.among ∙ or_right (new m.line) (old m.line) m.is_active) m.is (there m.line m.among m.is_active)
    ])
    (λ b c.
    let l = from_line both at lines rise b c in
    elim (or_cases (new l.line) (old l.line) (sym (either l.line l.among) ∙ l.is_active)) [
      | inl e ↦ with_beams_new news olds b (beam_stays new at at_new lines rise b l.line l.among e l.is (sym (here l.line l.among e)))
      | inr e ↦ with_beams_old news olds b (beam_stays old at at_old lines rise b l.line l.among e l.is (sym (there l.line l.among e)))
    ])

-- beams of some lines taken out
pub left_over : (gone active left : Line → Bool) (at_gone at_active at : Line → ℕ) (lines : List Line) → Rise lines
    → ((l : Line) → Contains lines l → left l ≡ (active l && not (gone l)))
    → ((l : Line) → Contains lines l → active l ≡ true → at_active l ≡ at l)
    → without_beams (map (λ (b : Beam). b.id) (beams_over gone at_gone 0 lines)) (beams_over active at_active 0 lines) ≡ beams_over left at 0 lines
left_over gone active left at_gone at_active at lines rise which same =
    let out = beams_over gone at_gone 0 lines in
    let ids = map (λ (b : Beam). b.id) out in
    let beams = beams_over active at_active 0 lines in
    same_beams (without_beams ids beams) (beams_over left at 0 lines)
    (AllPairs-filter (λ (b c : Beam). b.id < c.id) (stays ids) beams (rising_over active at_active 0 lines))
    (rising_over left at 0 lines)
    (λ b c.
    let kept = contained_in_without ids beams b c in
    let l = from_line active at_active lines rise b kept.0 in
    let not_gone : gone l.line ≡ false = false_from_ne_true (gone l.line) (λ g.
    kept.1 (subst (λ (n : ℕ). Contains ids n) (ap (λ (x : Beam). x.id) (sym l.is)) (has_id out (beam_of lines at_gone l.line) (has_beam gone at_gone lines rise l.line l.among g)))) in
    beam_stays left at_active at lines rise b l.line l.among
    (which l.line l.among ∙ and_from (active l.line) (not (gone l.line)) l.is_active (not_from_false (gone l.line) not_gone)) l.is (same l.line l.among l.is_active))
    (λ b c.
    let l = from_line left at lines rise b c in
    let parts = and_parts (active l.line) (not (gone l.line)) (sym (which l.line l.among) ∙ l.is_active) in
    let stayed = beam_stays active at at_active lines rise b l.line l.among parts.0 l.is (sym (same l.line l.among parts.0)) in
    contains_without ids beams b stayed (λ listed.
    let g = beam_of_id out b.id listed in
    let m = from_line gone at_gone lines rise g.0 g.1 in
    let e : number_of lines l.line.from ≡ number_of lines m.line.from = ap (λ (x : Beam). x.id) (sym l.is) ∙ sym g.2 ∙ ap (λ (x : Beam). x.id) m.is in
    let one : l.line ≡ m.line = one_line lines rise l.line m.line l.among m.among e in
    both_ways (gone l.line) (not-true (gone l.line) parts.1) (ap gone one ∙ m.is_active)))
