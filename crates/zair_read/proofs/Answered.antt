-- Each text is that of a program, or has a first wrong line.
use Rattle.std.proofs.Common.{◌≡◌, ◌≢◌, ℕ, ◌+◌, Bool, true, false, ◌⊎◌, List, [], ◌∷◌, ◌++◌, length, bytes_eq, refl, sym, ap, ◌∙◌, subst, inl, inr, append_assoc, append-nil, true≢false}
use Rattle.std.proofs.lemmas.Bool.Decides.{eqb_tells}
use Rattle.std.proofs.lemmas.Slice.Eq.{bytes_eq-Decides}
use Rattle.zair_form.specs.Steps.{is_program}
use Rattle.zair_form.specs.declared.program.Instr.{Instr}
use Rattle.zair_text.specs.Tally.{totals_of}
use Rattle.zair_text.specs.Values.{header_value, end_value}
use Rattle.zair_text.specs.declared.counts.Totals.{Totals}
use Rattle.zair_read.specs.declared.line.Kind.{Kind}
use Rattle.zair_read.specs.declared.line.Kind.TheVariants.{End, Neither}
use Rattle.zair_read.specs.declared.line.Kind.TheVariants as kind
use Rattle.zair_read.specs.Texts.{IsTextOf, IsInstrText, IsLineOf, IsStart, IsOpen, IsWhole, IsFirstWrongLine, IsWrongNext, TotalsFit, none_yet, may_go_on, all_told}
use Rattle.zair_read.specs.Kinds.{IsKind, may_stand}
use Rattle.zair_read.proofs.Lines.{no_snoc, nothing_whole, open_not_whole, behind_whole, first_right, header_right, instr_right, end_right, RightNext, an_instr, the_end, next_right}
use Rattle.zair_read.proofs.Telling.{some_kind, header_or_not, totals_fit, numbers_in, from_numbers}
use Rattle.zair_read.proofs.Walk.{may_stand_start, instr_line, text_of, line_of, misplaced, untallied, unknown}

abbrev pub Answer : List (List ℕ) → Type 0
Answer lines = ((is : List Instr) × IsWhole lines is) ⊎ ((n : ℕ) × IsFirstWrongLine lines n)

-- ---- where a line ends

-- the line is a text and a line feed, or is not
Cut : List ℕ → Type 0
Cut line = ((bytes : List ℕ) × (line ≡ bytes ++ 10 ∷ [])) ⊎ ((bytes : List ℕ) → line ≡ bytes ++ 10 ∷ [] → ⊥)

nothing_cut : (bytes : List ℕ) → [] ≡ bytes ++ 10 ∷ [] → ⊥
nothing_cut bytes e = no_snoc bytes 10 (sym e)

only_feed : (b : ℕ) → b ≢ 10 → (bytes : List ℕ) → b ∷ [] ≡ bytes ++ 10 ∷ [] → ⊥
only_feed b h [] e = let same : b ≡ 10 = cc in h same
only_feed b h (x ∷ bytes) e = let rest : [] ≡ bytes ++ 10 ∷ [] = cc in nothing_cut bytes rest

not_longer : (b c : ℕ) (line : List ℕ) → ((bytes : List ℕ) → c ∷ line ≡ bytes ++ 10 ∷ [] → ⊥) → (bytes : List ℕ) → b ∷ c ∷ line ≡ bytes ++ 10 ∷ [] → ⊥
not_longer b c line h [] e = cc
not_longer b c line h (x ∷ bytes) e = let rest : c ∷ line ≡ bytes ++ 10 ∷ [] = cc in h bytes rest

one_longer : (b c : ℕ) (line : List ℕ) → Cut (c ∷ line) → Cut (b ∷ c ∷ line)
unfolding Cut
one_longer b c line (inl p) = inl (b ∷ p.0, ap (λ l. b ∷ l) p.1)
one_longer b c line (inr h) = inr (not_longer b c line h)

one_byte : (b : ℕ) → Cut (b ∷ [])
unfolding Cut
one_byte b = elim (eqb_tells b 10) [
  | inl p ↦ inl ([], ap (λ x. x ∷ []) p.1)
  | inr p ↦ inr (only_feed b p.1)
]

cut : (line : List ℕ) → Cut line
unfolding Cut
cut [] = inr nothing_cut
cut (b ∷ []) = one_byte b
cut (b ∷ c ∷ line) = one_longer b c line (cut (c ∷ line))

-- ---- whether two totals are one

are_same : Totals → Totals → Bool
are_same t u = bytes_eq (numbers_in t) (numbers_in u)

same_totals : (t u : Totals) → are_same t u ≡ true → t ≡ u
unfolding are_same
same_totals t u e = from_numbers t u ((bytes_eq-Decides (numbers_in t) (numbers_in u)).0 e)

totals_are_same : (t u : Totals) → t ≡ u → are_same t u ≡ true
unfolding are_same
totals_are_same t u e = (bytes_eq-Decides (numbers_in t) (numbers_in u)).1 (ap numbers_in e)

-- ---- the next line

module _ (line bytes : List ℕ) (is : List Instr) (ended : line ≡ bytes ++ 10 ∷ []) (start : IsStart is) (fit : TotalsFit (totals_of is)) where
  next_instr : (i : Instr) → IsInstrText bytes i → (b : Bool) → may_stand is i ≡ b → RightNext line is ⊎ (RightNext line is → ⊥)
  next_instr i h true e = inl (an_instr i (instr_line line bytes is ended i h) (may_stand_start is i start h.own e))
  next_instr i h false e = inr (misplaced line bytes is ended i h e)

  next_end : (t : Totals) → IsTextOf (end_value t) bytes → (b : Bool) → is_program is ≡ b → (c : Bool) → are_same t (totals_of is) ≡ c → RightNext line is ⊎ (RightNext line is → ⊥)
  next_end t h true e true f =
      let same : totals_of is ≡ t = sym (same_totals t (totals_of is) f) in
      inl (the_end e (subst (λ u. IsLineOf (end_value u) line) (sym same) (line_of line bytes is ended (end_value t) h)))
  next_end t h true e false f = inr (untallied line bytes is ended t h (λ tallied. true≢false (sym (totals_are_same t (totals_of is) (sym tallied.1)) ∙ f)))
  next_end t h false e c f = inr (untallied line bytes is ended t h (λ tallied. true≢false (sym tallied.0 ∙ e)))

  next_kind : (k : Kind) → IsKind bytes k → RightNext line is ⊎ (RightNext line is → ⊥)
  next_kind (kind.Instr i) h = next_instr i h (may_stand is i) refl
  next_kind (End t) h = next_end t h (is_program is) refl (are_same t (totals_of is)) refl
  next_kind Neither h = inr (unknown line bytes is ended h.0 h.1 fit)

-- a line that does not end is not right
never_cut : (line : List ℕ) (is : List Instr) → ((bytes : List ℕ) → line ≡ bytes ++ 10 ∷ [] → ⊥) → RightNext line is → ⊥
never_cut line is h (an_instr i k start) = h k.bytes k.ended
never_cut line is h (the_end program end) = h end.bytes end.ended

next : (line : List ℕ) (is : List Instr) → IsStart is → TotalsFit (totals_of is) → Cut line → RightNext line is ⊎ (RightNext line is → ⊥)
unfolding Cut
next line is start fit (inl p) = let k = some_kind p.0 in next_kind line p.0 is p.1 start fit k.0 k.1
next line is start fit (inr h) = inr (λ right. never_cut line is h right)

-- ---- the lines, one after another

behind_all : (lines : List (List ℕ)) (rest : List (List ℕ)) (is : List Instr) → IsWhole lines is → Answer (lines ++ rest)
behind_all lines [] is h = inl (is, subst (λ ls. IsWhole ls is) (sym (append-nil lines)) h)
behind_all lines (l ∷ rest) is h = inr (
  length lines + 1,
  record {
    right = lines;
    rest = l ∷ rest;
    split = refl;
    place = refl;
    are_right = all_told is h;
    wrong = behind_whole lines l is h;
  },
)

along : (lines : List (List ℕ)) (l : List ℕ) (rest : List (List ℕ)) → Answer ((lines ++ l ∷ []) ++ rest) → Answer (lines ++ l ∷ rest)
along lines l rest a = subst Answer (append_assoc lines (l ∷ []) rest) a

by_next : (lines : List (List ℕ)) (l : List ℕ) (rest : List (List ℕ)) (is : List Instr) → IsOpen lines is
    → ((ls : List (List ℕ)) (js : List Instr) → IsOpen ls js → Answer (ls ++ rest)) → RightNext l is ⊎ (RightNext l is → ⊥) → Answer (lines ++ l ∷ rest)
by_next lines l rest is h on (inl (an_instr i line start)) = along lines l rest (on (lines ++ l ∷ []) (is ++ i ∷ []) (instr_right lines l is i h line start))
by_next lines l rest is h on (inl (the_end program end)) = along lines l rest (behind_all (lines ++ l ∷ []) rest is (end_right lines l is h program end))
by_next lines l rest is h on (inr none) = inr (
  length lines + 1,
  record {
    right = lines;
    rest = l ∷ rest;
    split = refl;
    place = refl;
    are_right = may_go_on is h;
    wrong = λ right. none (next_right lines l is h right);
  },
)

behind_open : (rest lines : List (List ℕ)) (is : List Instr) → IsOpen lines is → Answer (lines ++ rest)
behind_open [] lines is h = inr (
  length lines + 1,
  record {
    right = lines;
    rest = [];
    split = refl;
    place = refl;
    are_right = may_go_on is h;
    wrong = open_not_whole lines is h;
  },
)
behind_open (l ∷ rest) lines is h = by_next lines l rest is h (behind_open rest) (next l is h.start (totals_fit h.later is h.instr_lines) (cut l))

wrong_first : (lines : List (List ℕ)) → IsWrongNext [] lines → Answer lines
wrong_first lines h = inr (1, record { right = []; rest = lines; split = refl; place = refl; are_right = none_yet refl; wrong = h })

by_header : (l bytes : List ℕ) (rest : List (List ℕ)) → l ≡ bytes ++ 10 ∷ [] → IsTextOf header_value bytes ⊎ (IsTextOf header_value bytes → ⊥) → Answer (l ∷ rest)
by_header l bytes rest e (inl h) = behind_open rest (l ∷ []) [] (header_right l (line_of l bytes [] e header_value h))
by_header l bytes rest e (inr none) = wrong_first (l ∷ rest) (λ right. none (text_of l bytes [] e header_value (first_right l right)))

first : (l : List ℕ) (rest : List (List ℕ)) → Cut l → Answer (l ∷ rest)
unfolding Cut
first l rest (inl p) = by_header l p.0 rest p.1 (header_or_not p.0)
first l rest (inr h) = wrong_first (l ∷ rest) (λ right. let line = first_right l right in h line.bytes line.ended)

-- lines are those of a whole text, or one of them is the first wrong one
pub some_answer : (lines : List (List ℕ)) → Answer lines
some_answer [] = wrong_first [] nothing_whole
some_answer (l ∷ rest) = first l rest (cut l)
