-- The lines of a text, and which of them are right in their places.
use Rattle.std.proofs.Common.{◌≡◌, ◌≢◌, ℕ, zero, suc, ◌+◌, ◌<◌, Bool, true, if◌then◌else◌, List, [], ◌∷◌, ◌++◌, length, Contains, IsTrue, refl, sym, ap, ap₂, ◌∙◌, subst, inl, inr, arith, append_assoc, append-nil}
use Rattle.std.proofs.lemmas.Bool.{and_parts, and_from}
use Rattle.std.proofs.lemmas.Bool.Decides.{eqb_tells}
use Rattle.std.proofs.lemmas.List.{append_cancel_right}
use Rattle.std.proofs.lemmas.Option.{same_Some}
use Rattle.std.specs.List.{list_all}
use Rattle.serde_json.specs.Data.{Data, object, no_members, member}
use Rattle.zair_form.specs.Steps.{is_init, may_follow, is_program}
use Rattle.zair_form.specs.declared.program.Act.{Act}
use Rattle.zair_form.specs.declared.program.Act.TheVariants.{Init, Gates, Rydberg, Job, Readout}
use Rattle.zair_form.specs.declared.program.Instr.{Instr}
use Rattle.zair_text.specs.Tally.{totals_of}
use Rattle.zair_text.specs.Values.{act_value, instr_value, header_value, end_value}
use Rattle.zair_text.specs.declared.counts.Totals.{Totals}
use Rattle.zair_text.proofs.Distinct.{instr_same}
use Rattle.zair_read.specs.Texts.{IsTextOf, IsInstrText, before, lines_of, IsLineOf, IsInstrLine, AreInstrLines, IsStart, IsOpen, IsWhole, AreRight, IsWrongNext, IsFirstWrongLine, none_yet, may_go_on, all_told}

-- ---- lists

-- the last of two lists that are one
snoc_same : {A : Type 0} (xs ys : List A) (x y : A) → xs ++ x ∷ [] ≡ ys ++ y ∷ [] → (xs ≡ ys) × (x ≡ y)
snoc_same [] [] x y e = (refl, cc)
snoc_same [] (z ∷ []) x y e = cc
snoc_same [] (z ∷ w ∷ ys) x y e = cc
snoc_same (z ∷ []) [] x y e = cc
snoc_same (z ∷ w ∷ xs) [] x y e = cc
snoc_same (z ∷ xs) (w ∷ ys) x y e =
    let head : z ≡ w = cc in
    let tail : xs ++ x ∷ [] ≡ ys ++ y ∷ [] = cc in
    let rest = snoc_same xs ys x y tail in
    (ap₂ (λ a as'. a ∷ as') head rest.0, rest.1)

pub no_snoc : {A : Type 0} (xs : List A) (x : A) → xs ++ x ∷ [] ≡ [] → ⊥
no_snoc [] x e = cc
no_snoc (y ∷ xs) x e = cc

pub length_snoc : {A : Type 0} (xs : List A) (x : A) → length (xs ++ x ∷ []) ≡ length xs + 1
length_snoc [] x = refl
length_snoc (y ∷ xs) x = omega (arith, length_snoc xs x)

-- ---- lines

later_too : (x y : ℕ) (s : List ℕ) → Contains s y → Contains (x ∷ s) y
later_too x y s (k, below, is) = (suc k, omega (arith, below), is)

-- a byte other than a line feed is before the first line
ahead : (b : ℕ) (s : List ℕ) → b ≢ 10 → lines_of (b ∷ s) ≡ before b (lines_of s)
ahead b s h = elim (eqb_tells b 10) [
  | inl p ↦ absurd (h p.1)
  | inr p ↦ ap (λ t. if t then (10 ∷ []) ∷ lines_of s else before b (lines_of s)) p.0
]

-- the first line of a text, and the lines behind it
pub lines_cut : (s rest : List ℕ) → ¬ Contains s 10 → lines_of (s ++ 10 ∷ rest) ≡ (s ++ 10 ∷ []) ∷ lines_of rest
lines_cut [] rest none = refl
lines_cut (b ∷ s) rest none =
    ahead b (s ++ 10 ∷ rest) (λ e. none (0, omega arith, e)) ∙ ap (before b) (lines_cut s rest (λ h. none (later_too b 10 s h)))

-- what has no line feed is no line, or one
pub data Uncut (s : List ℕ) : Type 0 where
  no_line : lines_of s ≡ [] → Uncut s
  one_line : (line : List ℕ) → lines_of s ≡ line ∷ [] → ¬ Contains line 10 → Uncut s

single : (b : ℕ) → b ≢ 10 → ¬ Contains (b ∷ []) 10
single b h (zero, below, is) = h is
single b h (suc k, below, is) = omega (arith, below)

both_lack : (b : ℕ) (line : List ℕ) → b ≢ 10 → ¬ Contains line 10 → ¬ Contains (b ∷ line) 10
both_lack b line h none (zero, below, is) = h is
both_lack b line h none (suc k, below, is) = none (k, omega (arith, below), is)

uncut_more : (b : ℕ) (s : List ℕ) → b ≢ 10 → Uncut s → Uncut (b ∷ s)
uncut_more b s h (no_line e) = one_line (b ∷ []) (ahead b s h ∙ ap (before b) e) (single b h)
uncut_more b s h (one_line line e none) = one_line (b ∷ line) (ahead b s h ∙ ap (before b) e) (both_lack b line h none)

pub uncut : (s : List ℕ) → ¬ Contains s 10 → Uncut s
uncut [] none = no_line refl
uncut (b ∷ s) none = uncut_more b s (λ e. none (0, omega arith, e)) (uncut s (λ h. none (later_too b 10 s h)))

first_of_before : (b : ℕ) (ls : List (List ℕ)) → (line : List ℕ) × (lines : List (List ℕ)) × (before b ls ≡ line ∷ lines)
first_of_before b [] = (b ∷ [], [], refl)
first_of_before b (l ∷ ls) = (b ∷ l, ls, refl)

-- a text that is not empty has a line
pub some_line : (b : ℕ) (s : List ℕ) → (line : List ℕ) × (lines : List (List ℕ)) × (lines_of (b ∷ s) ≡ line ∷ lines)
some_line b s = elim (eqb_tells b 10) [
  | inl p ↦ (10 ∷ [], lines_of s, ap (λ t. if t then (10 ∷ []) ∷ lines_of s else before b (lines_of s)) p.0)
  | inr p ↦ let q = first_of_before b (lines_of s) in (q.0, q.1, ahead b s p.1 ∙ q.2)
]

has_feed : (bytes : List ℕ) → Contains (bytes ++ 10 ∷ []) 10
has_feed [] = (0, omega arith, refl)
has_feed (b ∷ bytes) = later_too b 10 (bytes ++ 10 ∷ []) (has_feed bytes)

-- ---- one value, one instruction

pub one_value : (v w : Data) (bytes : List ℕ) → IsTextOf v bytes → IsTextOf w bytes → v ≡ w
one_value v w bytes h k = same_Some v w (sym h.value_read ∙ k.value_read)

pub same_front : (line s t : List ℕ) → line ≡ s ++ 10 ∷ [] → line ≡ t ++ 10 ∷ [] → s ≡ t
same_front line s t e f = append_cancel_right s t (10 ∷ []) (sym e ∙ f)

pub one_instr : (bytes : List ℕ) (i j : Instr) → IsInstrText bytes i → IsInstrText bytes j → i ≡ j
one_instr bytes i j h k = instr_same i j h.own k.own (one_value (instr_value i) (instr_value j) bytes h.text k.text)

pub line_instr : (line : List ℕ) (i j : Instr) → IsInstrLine line i → IsInstrLine line j → i ≡ j
line_instr line i j h k =
    let P : List ℕ → Type 0 = λ s. IsInstrText s j in
    one_instr h.bytes i j h.text (subst P (same_front line k.bytes h.bytes k.ended h.ended) k.text)

pub instrs_same : (ls : List (List ℕ)) (is js : List Instr) → AreInstrLines ls is → AreInstrLines ls js → is ≡ js
instrs_same [] [] [] h k = refl
instrs_same [] [] (j ∷ js) h k = absurd k
instrs_same [] (i ∷ is) js h k = absurd h
instrs_same (l ∷ ls) [] js h k = absurd h
instrs_same (l ∷ ls) (i ∷ is) [] h k = absurd k
instrs_same (l ∷ ls) (i ∷ is) (j ∷ js) h k = ap₂ (λ a as'. a ∷ as') (line_instr l i j h.0 k.0) (instrs_same ls is js h.1 k.1)

-- the first byte of the first key tells the value of a tally from those of instructions, and that of the header from both
first_byte : List ℕ → ℕ
first_byte [] = 0
first_byte (b ∷ bs) = b

first_key : Data → ℕ
first_key (object no_members) = 0
first_key (object (member k d ms)) = first_byte k
first_key d = 0

act_key : (m n : ℕ) (a : Act) → first_key (act_value m n a) ≢ 103
unfolding first_key first_byte
act_key m n (Init homes) = λ e. let f : ◌≡◌ {A = ℕ} 98 103 = e in absurd (omega (arith, f))
act_key m n (Gates ones) = λ e. let f : ◌≡◌ {A = ℕ} 98 103 = e in absurd (omega (arith, f))
act_key m n (Rydberg pairs) = λ e. let f : ◌≡◌ {A = ℕ} 98 103 = e in absurd (omega (arith, f))
act_key m n (Job aod steps) = λ e. let f : ◌≡◌ {A = ℕ} 97 103 = e in absurd (omega (arith, f))
act_key m n (Readout reads) = λ e. let f : ◌≡◌ {A = ℕ} 98 103 = e in absurd (omega (arith, f))

end_key : (t : Totals) → first_key (end_value t) ≡ 103
unfolding first_key first_byte
end_key t = refl

header_key : first_key header_value ≡ 116
unfolding first_key first_byte
header_key = refl

pub no_end : (i : Instr) (t : Totals) → instr_value i ≡ end_value t → ⊥
no_end i t e = act_key i.begin i.end i.act (ap first_key e ∙ end_key t)

header_no_end : (t : Totals) → header_value ≡ end_value t → ⊥
header_no_end t e = let f : ◌≡◌ {A = ℕ} 116 103 = sym header_key ∙ ap first_key e ∙ end_key t in absurd (omega (arith, f))

pub line_value : (v w : Data) (line : List ℕ) → IsLineOf v line → IsLineOf w line → v ≡ w
line_value v w line h k =
    let P : List ℕ → Type 0 = λ s. IsTextOf w s in
    one_value v w h.bytes h.text (subst P (same_front line k.bytes h.bytes k.ended h.ended) k.text)

pub as_line : (line : List ℕ) (i : Instr) → IsInstrLine line i → IsLineOf (instr_value i) line
as_line line i h = record { bytes = h.bytes; ended = h.ended; text = h.text.text }

-- ---- the last of the lines of instructions

abbrev EndsWith : List (List ℕ) → List ℕ → List Instr → Type 0
EndsWith ls l is = (front : List Instr) × (i : Instr) × (is ≡ front ++ i ∷ []) × AreInstrLines ls front × IsInstrLine l i

split_last : (ls : List (List ℕ)) (l : List ℕ) (is : List Instr) → AreInstrLines (ls ++ l ∷ []) is → EndsWith ls l is
split_last [] l [] h = absurd h
split_last [] l (i ∷ []) h = ([], i, refl, tt, h.0)
split_last [] l (i ∷ j ∷ is) h = absurd h.1
split_last (k ∷ ls) l [] h = absurd h
split_last (k ∷ ls) l (i ∷ is) h =
    let p = split_last ls l is h.1 in
    (i ∷ p.0, p.1, ap (λ js. i ∷ js) p.2, (h.0, p.3), p.4)

pub and_last : (ls : List (List ℕ)) (l : List ℕ) (is : List Instr) (i : Instr) → AreInstrLines ls is → IsInstrLine l i → AreInstrLines (ls ++ l ∷ []) (is ++ i ∷ [])
and_last [] l [] i h k = (k, tt)
and_last [] l (j ∷ is) i h k = absurd h
and_last (m ∷ ls) l [] i h k = absurd h
and_last (m ∷ ls) l (j ∷ is) i h k = (h.0, and_last ls l is i h.1 k)

-- ---- instructions with which a program starts

pub all_front : {A : Type 0} (p : A → Bool) (xs : List A) (x : A) → list_all p (xs ++ x ∷ []) ≡ true → (list_all p xs ≡ true) × (p x ≡ true)
all_front p [] x h = (refl, (and_parts (p x) true h).0)
all_front p (y ∷ xs) x h =
    let q = and_parts (p y) (list_all p (xs ++ x ∷ [])) h in
    let r = all_front p xs x q.1 in
    (and_from (p y) (list_all p xs) q.0 r.0, r.1)

all_more : {A : Type 0} (p : A → Bool) (xs : List A) (x : A) → list_all p xs ≡ true → p x ≡ true → list_all p (xs ++ x ∷ []) ≡ true
all_more p [] x h k = and_from (p x) true k refl
all_more p (y ∷ xs) x h k =
    let q = and_parts (p y) (list_all p xs) h in
    and_from (p y) (list_all p (xs ++ x ∷ [])) q.0 (all_more p xs x q.1 k)

start_front : (is : List Instr) (i : Instr) → IsStart (is ++ i ∷ []) → IsStart is
start_front [] i h = inl refl
start_front (j ∷ is) i (inl e) = cc
start_front (j ∷ is) i (inr h) =
    let q = and_parts (is_init j.act) (list_all may_follow (is ++ i ∷ [])) h in
    inr (and_from (is_init j.act) (list_all may_follow is) q.0 (all_front may_follow is i q.1).0)

-- an `init` where there is none yet
pub start_first : (i : Instr) → is_init i.act ≡ true → IsStart ([] ++ i ∷ [])
start_first i h = inr (and_from (is_init i.act) true h refl)

-- another one behind a program
pub start_more : (j : Instr) (is : List Instr) (i : Instr) → IsStart (j ∷ is) → may_follow i ≡ true → IsStart ((j ∷ is) ++ i ∷ [])
start_more j is i (inl e) k = cc
start_more j is i (inr h) k =
    let q = and_parts (is_init j.act) (list_all may_follow is) h in
    inr (and_from (is_init j.act) (list_all may_follow (is ++ i ∷ [])) q.0 (all_more may_follow is i q.1 k))

-- ---- right lines

no_instrs : (is : List Instr) → AreInstrLines [] is → is ≡ []
no_instrs [] h = refl
no_instrs (i ∷ is) h = absurd h

-- what the last of lines that may go on is
data OpenLast (ls : List (List ℕ)) (l : List ℕ) (is : List Instr) : Type 0 where
  header_only : ls ≡ [] → IsLineOf header_value l → is ≡ [] → OpenLast ls l is
  instr_last : (front : List Instr) (i : Instr) → is ≡ front ++ i ∷ [] → IsOpen ls front → IsInstrLine l i → OpenLast ls l is

open_last : (ls : List (List ℕ)) (l : List ℕ) (is : List Instr) → IsOpen (ls ++ l ∷ []) is → OpenLast ls l is
open_last [] l is h =
    let e : l ∷ [] ≡ h.header ∷ h.later = h.is_front in
    let head : h.header ≡ l = cc in
    let tail : h.later ≡ [] = cc in
    header_only refl (subst (IsLineOf header_value) head h.header_line) (no_instrs is (subst (λ ks. AreInstrLines ks is) tail h.instr_lines))
open_last (k ∷ ls) l is h =
    let e : k ∷ (ls ++ l ∷ []) ≡ h.header ∷ h.later = h.is_front in
    let head : h.header ≡ k = cc in
    let tail : h.later ≡ ls ++ l ∷ [] = cc in
    let p = split_last ls l is (subst (λ ks. AreInstrLines ks is) tail h.instr_lines) in
    instr_last p.0 p.1 p.2
    (record {
      header = k;
      later = ls;
      is_front = refl;
      header_line = subst (IsLineOf header_value) head h.header_line;
      instr_lines = p.3;
      start = start_front p.0 p.1 (subst IsStart p.2 h.start);
    })
    p.4

open_right : (ls : List (List ℕ)) (l : List ℕ) (is : List Instr) → OpenLast ls l is → AreRight ls
open_right ls l is (header_only e line empty) = none_yet e
open_right ls l is (instr_last front i e h line) = may_go_on front h

-- a whole text's lines but the last may go on
whole_front : (ls : List (List ℕ)) (l : List ℕ) (is : List Instr) → IsWhole (ls ++ l ∷ []) is → IsOpen ls is × IsTrue (is_program is) × IsLineOf (end_value (totals_of is)) l
whole_front ls l is h =
    let same = snoc_same ls h.front l h.last h.ended in
    (subst (λ ks. IsOpen ks is) (sym same.0) h.open_front, h.program, subst (IsLineOf (end_value (totals_of is))) (sym same.1) h.end_line)

-- lines that are right are so without the last one
pub right_front : (ls : List (List ℕ)) (l : List ℕ) → AreRight (ls ++ l ∷ []) → AreRight ls
right_front ls l (none_yet e) = absurd (no_snoc ls l e)
right_front ls l (may_go_on is h) = open_right ls l is (open_last ls l is h)
right_front ls l (all_told is h) = may_go_on is (whole_front ls l is h).0

pub right_before : (ls ks : List (List ℕ)) → AreRight (ls ++ ks) → AreRight ls
right_before ls [] h = subst AreRight (append-nil ls) h
right_before ls (k ∷ ks) h =
    right_front ls k (right_before (ls ++ k ∷ []) ks (subst AreRight (sym (append_assoc ls (k ∷ []) ks)) h))

-- ---- a text that is whole does not go on

open_same : (ls : List (List ℕ)) (is js : List Instr) → IsOpen ls is → IsOpen ls js → is ≡ js
open_same ls is js h k =
    let e : h.header ∷ h.later ≡ k.header ∷ k.later = sym h.is_front ∙ k.is_front in
    let tail : k.later ≡ h.later = cc in
    instrs_same h.later is js h.instr_lines (subst (λ ls. AreInstrLines ls js) tail k.instr_lines)

pub whole_same : (ls : List (List ℕ)) (is js : List Instr) → IsWhole ls is → IsWhole ls js → is ≡ js
whole_same ls is js h k =
    let same = snoc_same h.front k.front h.last k.last (sym h.ended ∙ k.ended) in
    open_same h.front is js h.open_front (subst (λ ls. IsOpen ls js) (sym same.0) k.open_front)

last_no_end : (ls : List (List ℕ)) (l : List ℕ) (is : List Instr) (t : Totals) → OpenLast ls l is → IsLineOf (end_value t) l → ⊥
last_no_end ls l is t (header_only e line empty) end = header_no_end t (line_value header_value (end_value t) l line end)
last_no_end ls l is t (instr_last front i e h line) end = no_end i t (line_value (instr_value i) (end_value t) l (as_line l i line) end)

open_or_whole : (ls : List (List ℕ)) (is js : List Instr) → IsOpen ls is → IsWhole ls js → ⊥
open_or_whole ls is js h k =
    last_no_end k.front k.last is (totals_of js) (open_last k.front k.last is (subst (λ ks. IsOpen ks is) k.ended h)) k.end_line

pub nothing_whole : (is : List Instr) → IsWhole [] is → ⊥
nothing_whole is h = no_snoc h.front h.last (sym h.ended)

nothing_open : (is : List Instr) → IsOpen [] is → ⊥
nothing_open is h = let e : [] ≡ h.header ∷ h.later = h.is_front in cc

-- lines that may go on are no whole text
pub open_not_whole : (ls : List (List ℕ)) (is : List Instr) → IsOpen ls is → (js : List Instr) → ¬ IsWhole ls js
open_not_whole ls is h js k = open_or_whole ls is js h k

behind_open : (ls : List (List ℕ)) (l : List ℕ) (is js : List Instr) → IsWhole ls is → OpenLast ls l js → ⊥
behind_open ls l is js h (header_only e line empty) = nothing_whole is (subst (λ ks. IsWhole ks is) e h)
behind_open ls l is js h (instr_last front i e k line) = open_or_whole ls front is k h

-- nothing is right behind a whole text
pub behind_whole : (ls : List (List ℕ)) (l : List ℕ) (is : List Instr) → IsWhole ls is → ¬ AreRight (ls ++ l ∷ [])
behind_whole ls l is h (none_yet e) = no_snoc ls l e
behind_whole ls l is h (may_go_on js k) = behind_open ls l is js h (open_last ls l js k)
behind_whole ls l is h (all_told js k) = open_or_whole ls js is (whole_front ls l js k).0 h

-- ---- the first line

-- the header's line may go on
pub header_right : (l : List ℕ) → IsLineOf header_value l → IsOpen (l ∷ []) []
header_right l h = record {
  header = l;
  later = [];
  is_front = refl;
  header_line = h;
  instr_lines = tt;
  start = inl refl;
}

first_open : (l : List ℕ) (is : List Instr) → OpenLast [] l is → IsLineOf header_value l
first_open l is (header_only e line empty) = line
first_open l is (instr_last front i e h line) = absurd (nothing_open front h)

-- no other line is right as the first one
pub first_right : (l : List ℕ) → AreRight ([] ++ l ∷ []) → IsLineOf header_value l
first_right l (none_yet e) = cc
first_right l (may_go_on is h) = first_open l is (open_last [] l is h)
first_right l (all_told is h) = absurd (nothing_open is (whole_front [] l is h).0)

-- ---- the next line

-- an instruction's line behind lines that may go on
pub instr_right : (ls : List (List ℕ)) (l : List ℕ) (is : List Instr) (i : Instr) → IsOpen ls is → IsInstrLine l i → IsStart (is ++ i ∷ []) → IsOpen (ls ++ l ∷ []) (is ++ i ∷ [])
instr_right ls l is i h line start = record {
  header = h.header;
  later = h.later ++ l ∷ [];
  is_front = ap (λ ks. ks ++ l ∷ []) h.is_front;
  header_line = h.header_line;
  instr_lines = and_last h.later l is i h.instr_lines line;
  start = start;
}

-- the line of the tally
pub end_right : (ls : List (List ℕ)) (l : List ℕ) (is : List Instr) → IsOpen ls is → IsTrue (is_program is) → IsLineOf (end_value (totals_of is)) l → IsWhole (ls ++ l ∷ []) is
end_right ls l is h program end = record { front = ls; last = l; ended = refl; open_front = h; program = program; end_line = end }

-- what is right behind lines that may go on
pub data RightNext (l : List ℕ) (is : List Instr) : Type 0 where
  an_instr : (i : Instr) → IsInstrLine l i → IsStart (is ++ i ∷ []) → RightNext l is
  the_end : IsTrue (is_program is) → IsLineOf (end_value (totals_of is)) l → RightNext l is

next_of_open : (ls : List (List ℕ)) (l : List ℕ) (is js : List Instr) → IsOpen ls is → IsStart js → OpenLast ls l js → RightNext l is
next_of_open ls l is js h start (header_only e line empty) = absurd (nothing_open is (subst (λ ks. IsOpen ks is) e h))
next_of_open ls l is js h start (instr_last front i e k line) =
    an_instr i line (subst (λ f. IsStart (f ++ i ∷ [])) (open_same ls front is k h) (subst IsStart e start))

pub next_right : (ls : List (List ℕ)) (l : List ℕ) (is : List Instr) → IsOpen ls is → AreRight (ls ++ l ∷ []) → RightNext l is
next_right ls l is h (none_yet e) = absurd (no_snoc ls l e)
next_right ls l is h (may_go_on js k) = next_of_open ls l is js h k.start (open_last ls l js k)
next_right ls l is h (all_told js k) =
    let p = whole_front ls l js k in
    let same = open_same ls js is p.0 h in
    the_end (subst (λ x. IsTrue (is_program x)) same p.1) (subst (λ x. IsLineOf (end_value (totals_of x)) l) same p.2)

-- ---- a line without a line feed is not right

line_feed : (v : Data) (l : List ℕ) → IsLineOf v l → Contains l 10
line_feed v l h = subst (λ s. Contains s 10) (sym h.ended) (has_feed h.bytes)

last_feed : (ls : List (List ℕ)) (l : List ℕ) (is : List Instr) → OpenLast ls l is → Contains l 10
last_feed ls l is (header_only e line empty) = line_feed header_value l line
last_feed ls l is (instr_last front i e h line) = line_feed (instr_value i) l (as_line l i line)

pub right_feed : (ls : List (List ℕ)) (l : List ℕ) → AreRight (ls ++ l ∷ []) → Contains l 10
right_feed ls l (none_yet e) = absurd (no_snoc ls l e)
right_feed ls l (may_go_on is h) = last_feed ls l is (open_last ls l is h)
right_feed ls l (all_told is h) = line_feed (end_value (totals_of is)) l (whole_front ls l is h).2

-- ---- one answer

-- where two fronts of a list differ in length, the shorter goes on in the other
longer : {A : Type 0} (xs ys us vs : List A) → xs ++ ys ≡ us ++ vs → length xs < length us → (y : A) × (rest : List A) × (more : List A) × (ys ≡ y ∷ rest) × (us ≡ (xs ++ y ∷ []) ++ more)
longer [] [] [] vs e h = absurd (omega arith)
longer [] [] (u ∷ us) vs e h = cc
longer [] (y ∷ ys) [] vs e h = absurd (omega arith)
longer [] (y ∷ ys) (u ∷ us) vs e h = let head : u ≡ y = cc in (y, ys, us, refl, ap (λ x. x ∷ us) head)
longer (x ∷ xs) ys [] vs e h = absurd (omega arith)
longer (x ∷ xs) ys (u ∷ us) vs e h =
    let head : u ≡ x = cc in
    let tail : xs ++ ys ≡ us ++ vs = cc in
    let p = longer xs ys us vs tail (omega arith) in
    (p.0, p.1, p.2, p.3, ap₂ (λ a l. a ∷ l) head p.4)

wrong_before : (right rest : List (List ℕ)) (y : List ℕ) (ys : List (List ℕ)) → rest ≡ y ∷ ys → IsWrongNext right rest → ¬ AreRight (right ++ y ∷ [])
wrong_before right rest y ys e h = let P : List (List ℕ) → Type 0 = λ r. IsWrongNext right r in subst P e h

-- right lines end no later than the first wrong one
no_later : (lines right rest : List (List ℕ)) (m : ℕ) (h : IsFirstWrongLine lines m) → lines ≡ right ++ rest → AreRight right → length h.right < length right → ⊥
no_later lines right rest m h e ok less =
    let p = longer h.right h.rest right rest (sym h.split ∙ e) less in
    wrong_before h.right h.rest p.0 p.1 p.3 h.wrong (right_before (h.right ++ p.0 ∷ []) p.2 (subst AreRight p.4 ok))

pub one_wrong : (lines : List (List ℕ)) (m n : ℕ) → IsFirstWrongLine lines m → IsFirstWrongLine lines n → m ≡ n
one_wrong lines m n h k =
    let below : length h.right < length k.right → ⊥ = no_later lines k.right k.rest m h k.split k.are_right in
    let above : length k.right < length h.right → ⊥ = no_later lines h.right h.rest n k h.split h.are_right in
    omega (arith, below, above, h.place, k.place)

whole_no_wrong : (lines right rest : List (List ℕ)) (is : List Instr) → lines ≡ right ++ rest → IsWrongNext right rest → IsWhole lines is → ⊥
whole_no_wrong lines right [] is e wrong h = wrong is (subst (λ ls. IsWhole ls is) (e ∙ append-nil right) h)
whole_no_wrong lines right (y ∷ ys) is e wrong h =
    wrong (right_before (right ++ y ∷ []) ys (subst AreRight (e ∙ sym (append_assoc right (y ∷ []) ys)) (all_told is h)))

pub whole_or_wrong : (lines : List (List ℕ)) (is : List Instr) (n : ℕ) → IsWhole lines is → ¬ IsFirstWrongLine lines n
whole_or_wrong lines is n h k = whole_no_wrong lines k.right k.rest is k.split k.wrong h
