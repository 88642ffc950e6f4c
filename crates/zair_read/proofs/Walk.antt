-- What a reader of lines knows, line by line.
use Rattle.std.proofs.Common.{◌≡◌, ◌≢◌, ℕ, ◌+◌, ◌≤◌, true, false, not, ◌⊎◌, List, [], ◌∷◌, ◌++◌, length, Contains, Result, Ok, Err, IfOk, IfErr, IsTrue, refl, sym, ap, ◌∙◌, subst, inl, inr, arith, append_assoc, length-append, true≢false}
use Rattle.std.proofs.lemmas.Bool.{and_from, and_parts}
use Rattle.std.specs.List.{list_all}
use Rattle.serde_json.specs.Data.{Data}
use Rattle.zair_form.specs.Steps.{is_init, may_follow, has_own_steps}
use Rattle.zair_form.specs.declared.program.Instr.{Instr}
use Rattle.zair_text.specs.Tally.{totals_of}
use Rattle.zair_text.specs.Values.{instr_value, header_value, end_value}
use Rattle.zair_text.specs.declared.counts.Totals.{Totals}
use Rattle.zair_read.specs.declared.fault.ProgramFault.{ProgramFault}
use Rattle.zair_read.specs.declared.fault.ProgramFault.TheVariants.{Line, Memory}
use Rattle.zair_read.specs.declared.line.Kind.TheVariants.{Neither}
use Rattle.zair_read.specs.Texts.{IsTextOf, IsInstrText, lines_of, IsLineOf, IsInstrLine, IsStart, IsOpen, IsWhole, IsProgramText, IsWrongNext, IsFirstWrong, none_yet, may_go_on, all_told, TotalsFit}
use Rattle.zair_read.specs.Causes.{IsCauseOf}
use Rattle.zair_read.specs.Kinds.{IsKind, may_stand, IsTallied, IsEndFault}
use Rattle.zair_read.proofs.Lines.{lines_cut, Uncut, no_line, one_line, uncut, some_line, all_front, one_value, one_instr, same_front, no_end, length_snoc, no_snoc, nothing_whole, open_not_whole, behind_whole, first_right, header_right, instr_right, end_right, right_feed, start_first, start_more, RightNext, an_instr, the_end, next_right}
use Rattle.zair_read.proofs.Telling.{totals_fit, totals_same}

-- ---- what may stand behind lines that may go on

pub may_stand_start : (is : List Instr) (i : Instr) → IsStart is → IsTrue (has_own_steps i.act) → may_stand is i ≡ true → IsStart (is ++ i ∷ [])
may_stand_start [] i start own e = start_first i e
may_stand_start (j ∷ is) i start own e = start_more j is i start (and_from (not (is_init i.act)) (has_own_steps i.act) e own)

pub start_may_stand : (is : List Instr) (i : Instr) → IsStart (is ++ i ∷ []) → may_stand is i ≡ true
start_may_stand is i (inl e) = absurd (no_snoc is i e)
start_may_stand [] i (inr h) = (and_parts (is_init i.act) true h).0
start_may_stand (j ∷ is) i (inr h) =
    let later = (and_parts (is_init j.act) (list_all may_follow (is ++ i ∷ [])) h).1 in
    (and_parts (not (is_init i.act)) (has_own_steps i.act) (all_front may_follow is i later).1).0

-- ---- a line that is not right behind these instructions

module _ (line bytes : List ℕ) (is : List Instr) (ended : line ≡ bytes ++ 10 ∷ []) where
  pub instr_line : (i : Instr) → IsInstrText bytes i → IsInstrLine line i
  instr_line i h = record { bytes = bytes; ended = ended; text = h }

  pub text_of : (v : Data) → IsLineOf v line → IsTextOf v bytes
  text_of v h = subst (IsTextOf v) (same_front line h.bytes bytes h.ended ended) h.text

  instr_text : (i : Instr) → IsInstrLine line i → IsInstrText bytes i
  instr_text i h = let P : List ℕ → Type 0 = λ s. IsInstrText s i in subst P (same_front line h.bytes bytes h.ended ended) h.text

  pub line_of : (v : Data) → IsTextOf v bytes → IsLineOf v line
  line_of v h = record { bytes = bytes; ended = ended; text = h }

  -- an instruction that may not stand there
  pub misplaced : (i : Instr) → IsInstrText bytes i → may_stand is i ≡ false → RightNext line is → ⊥
  misplaced i h never (an_instr j k start) =
      let same : i ≡ j = one_instr bytes i j h (instr_text j k) in
      true≢false (sym (subst (λ x. may_stand is x ≡ true) (sym same) (start_may_stand is j start)) ∙ never)
  misplaced i h never (the_end program end) = no_end i (totals_of is) (one_value (instr_value i) (end_value (totals_of is)) bytes h.text (text_of (end_value (totals_of is)) end))

  -- the line of other totals, or behind what is no program
  pub untallied : (t : Totals) → IsTextOf (end_value t) bytes → (IsTallied is t → ⊥) → RightNext line is → ⊥
  untallied t h never (an_instr j k start) = no_end j t (one_value (instr_value j) (end_value t) bytes (instr_text j k).text h)
  untallied t h never (the_end program end) =
      never (program, totals_same (totals_of is) t (one_value (end_value (totals_of is)) (end_value t) bytes (text_of (end_value (totals_of is)) end) h))

  -- what is neither
  pub unknown : ((i : Instr) → IsInstrText bytes i → ⊥) → ((t : Totals) → TotalsFit t → IsTextOf (end_value t) bytes → ⊥) → TotalsFit (totals_of is) → RightNext line is → ⊥
  unknown none none' fit (an_instr j k start) = none j (instr_text j k)
  unknown none none' fit (the_end program end) = none' (totals_of is) fit (text_of (end_value (totals_of is)) end)

-- ---- how far a text was read

-- the lines up to this one were read, and are those of these instructions; this stands behind them
pub record IsReadTo (bytes rest : List ℕ) (is : List Instr) (line : ℕ) : Type 0 where
  pub front : List (List ℕ)
  pub split : lines_of bytes ≡ front ++ lines_of rest
  pub place : line ≡ length front
  pub are_open : IsOpen front is
  pub few : line + length rest ≤ length bytes

-- the first line is the header's
pub begun : (bytes text rest : List ℕ) → bytes ≡ text ++ 10 ∷ rest → ¬ Contains text 10 → IsTextOf header_value text → IsReadTo bytes rest [] 1
begun bytes text rest e none h = record {
  front = (text ++ 10 ∷ []) ∷ [];
  split = ap lines_of e ∙ lines_cut text rest none;
  place = refl;
  are_open = header_right (text ++ 10 ∷ []) (record { bytes = text; ended = refl; text = h });
  few = omega (arith, ap length e, length-append text (10 ∷ rest));
}

-- behind these lines, what has no line feed is wrong
wrong_uncut : (front : List (List ℕ)) (s : List ℕ) → ((is : List Instr) → IsWhole front is → ⊥) → Uncut s → IsWrongNext front (lines_of s)
wrong_uncut front s h (no_line e) = let P : List (List ℕ) → Type 0 = λ ls. IsWrongNext front ls in subst P (sym e) h
wrong_uncut front s h (one_line l e none) =
    let P : List (List ℕ) → Type 0 = λ ls. IsWrongNext front ls in
    subst P (sym e) (λ right. none (right_feed front l right))

-- a text without a line feed
pub no_feed : (bytes : List ℕ) → ¬ Contains bytes 10 → IsFirstWrong bytes 1
no_feed bytes none = record {
  right = [];
  rest = lines_of bytes;
  split = refl;
  place = refl;
  are_right = none_yet refl;
  wrong = wrong_uncut [] bytes nothing_whole (uncut bytes none);
}

-- another first line
pub no_header : (bytes text rest : List ℕ) → bytes ≡ text ++ 10 ∷ rest → ¬ Contains text 10 → ¬ IsTextOf header_value text → IsFirstWrong bytes 1
no_header bytes text rest e none h = record {
  right = [];
  rest = (text ++ 10 ∷ []) ∷ lines_of rest;
  split = ap lines_of e ∙ lines_cut text rest none;
  place = refl;
  are_right = none_yet refl;
  wrong = λ right. h (text_of (text ++ 10 ∷ []) text [] refl header_value (first_right (text ++ 10 ∷ []) right));
}

module _ (bytes rest : List ℕ) (is : List Instr) (line : ℕ) (h : IsReadTo bytes rest is line) where
  -- no line is left
  pub no_more : ¬ Contains rest 10 → IsFirstWrong bytes (line + 1)
  no_more none = record {
    right = h.front;
    rest = lines_of rest;
    split = h.split;
    place = ap (λ n. n + 1) h.place;
    are_right = may_go_on is h.are_open;
    wrong = wrong_uncut h.front rest (open_not_whole h.front is h.are_open) (uncut rest none);
  }

  module _ (text later : List ℕ) (cut : rest ≡ text ++ 10 ∷ later) (none : ¬ Contains text 10) where
    new_line : List ℕ
    new_line = text ++ 10 ∷ []

    split_here : lines_of bytes ≡ h.front ++ new_line ∷ lines_of later
    unfolding new_line
    split_here = h.split ∙ ap (λ ls. h.front ++ ls) (ap lines_of cut ∙ lines_cut text later none)

    split_behind : lines_of bytes ≡ (h.front ++ new_line ∷ []) ++ lines_of later
    split_behind = split_here ∙ sym (append_assoc h.front (new_line ∷ []) (lines_of later))

    place_behind : line + 1 ≡ length (h.front ++ new_line ∷ [])
    place_behind = omega (arith, h.place, length_snoc h.front new_line)

    pub room : line + 1 + length later ≤ length bytes
    room = omega (arith, h.few, ap length cut, length-append text (10 ∷ later))

    -- the next line is wrong
    pub wrong_line : (RightNext (text ++ 10 ∷ []) is → ⊥) → IsFirstWrong bytes (line + 1)
    unfolding new_line
    wrong_line never = record {
      right = h.front;
      rest = new_line ∷ lines_of later;
      split = split_here;
      place = ap (λ n. n + 1) h.place;
      are_right = may_go_on is h.are_open;
      wrong = λ right. never (next_right h.front new_line is h.are_open right);
    }

    -- it is an instruction's
    pub one_more : (i : Instr) → IsInstrText text i → may_stand is i ≡ true → IsReadTo bytes later (is ++ i ∷ []) (line + 1)
    unfolding new_line
    one_more i k may = record {
      front = h.front ++ new_line ∷ [];
      split = split_behind;
      place = place_behind;
      are_open = instr_right h.front new_line is i h.are_open (instr_line new_line text is refl i k) (may_stand_start is i h.are_open.start k.own may);
      few = room;
    }

    pub wrong_instr : (i : Instr) → IsInstrText text i → may_stand is i ≡ false → IsFirstWrong bytes (line + 1)
    wrong_instr i k never = wrong_line (misplaced (text ++ 10 ∷ []) text is refl i k never)

    pub wrong_kind : IsKind text Neither → IsFirstWrong bytes (line + 1)
    wrong_kind k = wrong_line (unknown (text ++ 10 ∷ []) text is refl k.0 k.1 (totals_fit h.are_open.later is h.are_open.instr_lines))

    whole_here : (t : Totals) → IsTextOf (end_value t) text → IsTallied is t → IsWhole (h.front ++ new_line ∷ []) is
    unfolding new_line
    whole_here t k tallied =
        end_right h.front new_line is h.are_open tallied.0
        (record { bytes = text; ended = refl; text = subst (λ u. IsTextOf (end_value u) text) (sym tallied.1) k })

    -- it is that of the tally, and the last one
    pub last_line : (t : Totals) → IsTextOf (end_value t) text → IsTallied is t → later ≡ [] → IsProgramText bytes is
    last_line t k tallied e =
        let lines : lines_of bytes ≡ h.front ++ new_line ∷ [] = split_here ∙ ap (λ s. h.front ++ new_line ∷ lines_of s) e in
        subst (λ ls. IsWhole ls is) (sym lines) (whole_here t k tallied)

    wrong_behind : (s : List ℕ) → s ≢ [] → IsWhole (h.front ++ new_line ∷ []) is → IsWrongNext (h.front ++ new_line ∷ []) (lines_of s)
    wrong_behind [] some k = absurd (some refl)
    wrong_behind (b ∷ s) some k =
        let p = some_line b s in
        let P : List (List ℕ) → Type 0 = λ ls. IsWrongNext (h.front ++ new_line ∷ []) ls in
        subst P (sym p.2) (behind_whole (h.front ++ new_line ∷ []) p.0 is k)

    -- it is that of the tally, and not the last one
    one_too_many : (t : Totals) → IsTextOf (end_value t) text → IsTallied is t → later ≢ [] → IsFirstWrong bytes (line + 1 + 1)
    one_too_many t k tallied some =
        let whole = whole_here t k tallied in
        record {
          right = h.front ++ new_line ∷ [];
          rest = lines_of later;
          split = split_behind;
          place = ap (λ n. n + 1) place_behind;
          are_right = all_told is whole;
          wrong = wrong_behind later some whole;
        }

    at_end : (t : Totals) (n : ℕ) → IsTextOf (end_value t) text → ((n ≡ line + 1) × (IsTallied is t → ⊥)) ⊎ ((n ≡ line + 1 + 1) × IsTallied is t × (later ≢ [])) → IsFirstWrong bytes n
    at_end t n k (inl p) = subst (λ m. IsFirstWrong bytes m) (sym p.0) (wrong_line (untallied (text ++ 10 ∷ []) text is refl t k p.1))
    at_end t n k (inr p) = subst (λ m. IsFirstWrong bytes m) (sym p.0) (one_too_many t k p.1 p.2)

    -- why a text is refused at the line of an end
    pub end_cause : (t : Totals) (e : ProgramFault) → IsTextOf (end_value t) text → IsEndFault is t later (line + 1) e → IsCauseOf bytes e
    end_cause t (Line n) k fault = at_end t n k fault
    end_cause t Memory k fault = tt

    -- what is answered at the line of an end
    pub ended_well : (t : Totals) → IsTextOf (end_value t) text → (r : Result (List Instr) ProgramFault) → IfOk r (λ p. (p ≡ is) × IsTallied is t × (later ≡ [])) → IfOk r (IsProgramText bytes)
    ended_well t k (Ok p) told = subst (IsProgramText bytes) (sym told.0) (last_line t k told.1 told.2)
    ended_well t k (Err e) told = tt

    pub ended_ill : (t : Totals) → IsTextOf (end_value t) text → (r : Result (List Instr) ProgramFault) → IfErr r (IsEndFault is t later (line + 1)) → IfErr r (IsCauseOf bytes)
    ended_ill t k (Ok p) told = tt
    ended_ill t k (Err e) told = end_cause t e k told
