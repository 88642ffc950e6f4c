-- What a line is by the value that its text reads as.
use Rattle.std.proofs.Common.{◌≡◌, ℕ, ◌<◌, ◌≤◌, ◌^◌, Bool, max, true, false, List, [], ◌∷◌, map, fold, get_or, Option, Some, None, Ok, ◌⊎◌, inl, inr, IsUtf8, codes, refl, sym, ap, ap₂, ◌∙◌, subst, arith, true≢false}
use Rattle.std.specs.Str.{is_utf8}
use Rattle.std.proofs.lemmas.Option.{none-some, same_Some}
use Rattle.std.proofs.lemmas.Str.{IsUtf8-from_is_utf8, is_utf8-from_IsUtf8}
use Rattle.serde_json.specs.Data.{Data, object, Members, member}
use Rattle.serde_json.specs.Read.{read}
use Rattle.zair_form.specs.declared.program.Instr.{Instr}
use Rattle.zair_text.specs.Tally.{told, totals_of}
use Rattle.zair_text.specs.Values.{number_value, instr_value, header_value, end_value}
use Rattle.zair_text.specs.declared.counts.Totals.{Totals}
use Rattle.zair_read.specs.declared.line.Kind.{Kind}
use Rattle.zair_read.specs.declared.line.Kind.TheVariants.{End, Neither}
use Rattle.zair_read.specs.declared.line.Kind.TheVariants as kind
use Rattle.zair_read.specs.Told.{told_instr, told_totals, header_parts}
use Rattle.zair_read.specs.Texts.{IsTextOf, AreInstrLines, TotalsFit}
use Rattle.zair_read.specs.Kinds.{IsKind, IsKindIn}
use Rattle.zair_read.proofs.Answering.{kind_answered}
use Rattle.zair_read.proofs.Complete.{header_told}
use Rattle.zair_read.proofs.Sound.{header_sound}

-- ---- each text is something

-- a text of no value is neither
kind_unread : (bytes : List ℕ) → ((d : Data) → IsTextOf d bytes → ⊥) → IsKind bytes Neither
kind_unread bytes h = (λ i k. h (instr_value i) k.text, λ t fit k. h (end_value t) k)

value_of_read : (bytes : List ℕ) → IsUtf8 bytes → (o : Option Data) → read bytes ≡ o → ((d : Data) × IsTextOf d bytes) ⊎ ((d : Data) → IsTextOf d bytes → ⊥)
value_of_read bytes utf8 None e = inr (λ d h. none-some d (sym e ∙ h.value_read))
value_of_read bytes utf8 (Some d) e = inl (d, record { utf8 = utf8; value_read = e })

value_of_bytes : (bytes : List ℕ) (b : Bool) → is_utf8 bytes ≡ b → ((d : Data) × IsTextOf d bytes) ⊎ ((d : Data) → IsTextOf d bytes → ⊥)
value_of_bytes bytes false e = inr (λ d h. true≢false (sym (is_utf8-from_IsUtf8 bytes h.utf8) ∙ e))
value_of_bytes bytes true e = value_of_read bytes (IsUtf8-from_is_utf8 bytes e) (read bytes) refl

kind_of_totals : (d : Data) → told_instr d ≡ None → (o : Option Totals) → told_totals d ≡ o → (k : Kind) × IsKindIn d k
kind_of_totals d none None e = (Neither, (none, e))
kind_of_totals d none (Some t) e = (End t, e)

kind_of_told : (d : Data) (o : Option Instr) → told_instr d ≡ o → (k : Kind) × IsKindIn d k
kind_of_told d None e = kind_of_totals d e (told_totals d) refl
kind_of_told d (Some i) e = (kind.Instr i, e)

kind_of_value : (bytes : List ℕ) → ((d : Data) × IsTextOf d bytes) ⊎ ((d : Data) → IsTextOf d bytes → ⊥) → (k : Kind) × IsKind bytes k
kind_of_value bytes (inl p) = let k = kind_of_told p.0 (told_instr p.0) refl in (k.0, kind_answered bytes p.0 (Ok k.0) p.1 k.1)
kind_of_value bytes (inr h) = (Neither, kind_unread bytes h)

-- each text has a kind
pub some_kind : (bytes : List ℕ) → (k : Kind) × IsKind bytes k
some_kind bytes = kind_of_value bytes (value_of_bytes bytes (is_utf8 bytes) refl)

header_of_parts : (bytes : List ℕ) (d : Data) → IsTextOf d bytes → (o : Option ℕ) → header_parts d ≡ o → IsTextOf header_value bytes ⊎ (IsTextOf header_value bytes → ⊥)
header_of_parts bytes d h None e =
    inr (λ k. none-some 1 (sym e ∙ ap header_parts (same_Some d header_value (sym h.value_read ∙ k.value_read)) ∙ header_told))
header_of_parts bytes d h (Some n) e = inl (subst (λ v. IsTextOf v bytes) (header_sound d n e) h)

header_of_value : (bytes : List ℕ) → ((d : Data) × IsTextOf d bytes) ⊎ ((d : Data) → IsTextOf d bytes → ⊥) → IsTextOf header_value bytes ⊎ (IsTextOf header_value bytes → ⊥)
header_of_value bytes (inl p) = header_of_parts bytes p.0 p.1 (header_parts p.0) refl
header_of_value bytes (inr h) = inr (h header_value)

-- each text is that of the header, or not
pub header_or_not : (bytes : List ℕ) → IsTextOf header_value bytes ⊎ (IsTextOf header_value bytes → ⊥)
header_or_not bytes = header_of_value bytes (value_of_bytes bytes (is_utf8 bytes) refl)

-- ---- the totals of instructions in range are in range

told_fits : (n : ℕ) → told n < 2 ^ 32
told_fits n = omega arith

latest_fits : (lines : List (List ℕ)) (is : List Instr) (most : ℕ) → most ≤ 4000000000000000000 → AreInstrLines lines is → fold max most (map (λ i. i.end) is) ≤ 4000000000000000000
latest_fits [] [] most h k = h
latest_fits [] (i ∷ is) most h k = absurd k
latest_fits (l ∷ lines) [] most h k = absurd k
latest_fits (l ∷ lines) (i ∷ is) most h k = latest_fits lines is (max most i.end) (omega (arith, h, k.0.text.fits.ends)) k.1

pub totals_fit : (lines : List (List ℕ)) (is : List Instr) → AreInstrLines lines is → TotalsFit (totals_of is)
unfolding totals_of
totals_fit lines is h = record {
  gates = told_fits _;
  jobs = told_fits _;
  kept = told_fits _;
  moved = told_fits _;
  pairs = told_fits _;
  pulses = told_fits _;
  qubits = told_fits _;
  reads = told_fits _;
  time = latest_fits lines is 0 (omega arith) h;
}

-- ---- totals of one value are the same

made : List ℕ → Totals
made ns = record {
  gates = get_or ns 0 0;
  jobs = get_or ns 1 0;
  kept = get_or ns 2 0;
  moved = get_or ns 3 0;
  pairs = get_or ns 4 0;
  pulses = get_or ns 5 0;
  qubits = get_or ns 6 0;
  reads = get_or ns 7 0;
  time = get_or ns 8 0;
}

pub numbers_in : Totals → List ℕ
numbers_in t = t.gates ∷ t.jobs ∷ t.kept ∷ t.moved ∷ t.pairs ∷ t.pulses ∷ t.qubits ∷ t.reads ∷ t.time ∷ []

-- members of which the first ones are numbers under one key
count_same : (k : List ℕ) (m n : ℕ) (ms ns : Members) → member k (number_value m) ms ≡ member k (number_value n) ns → (m ≡ n) × (ms ≡ ns)
count_same k m n ms ns e = (cc, cc)

object_same : (ms ns : Members) → object ms ≡ object ns → ms ≡ ns
object_same ms ns e = cc

cons_same : (m n : ℕ) (ms ns : List ℕ) → m ≡ n → ms ≡ ns → m ∷ ms ≡ n ∷ ns
cons_same m n ms ns e f = ap₂ (λ x xs. x ∷ xs) e f

-- totals with these numbers
pub from_numbers : (t u : Totals) → numbers_in t ≡ numbers_in u → t ≡ u
unfolding made numbers_in
from_numbers t u e = ap made e

pub totals_same : (t u : Totals) → end_value t ≡ end_value u → t ≡ u
unfolding numbers_in
totals_same t u e =
    let gates = count_same (codes "gates") t.gates u.gates _ _ (object_same _ _ e) in
    let jobs = count_same (codes "jobs") t.jobs u.jobs _ _ gates.1 in
    let kept = count_same (codes "kept") t.kept u.kept _ _ jobs.1 in
    let moved = count_same (codes "moved") t.moved u.moved _ _ kept.1 in
    let pairs = count_same (codes "pairs") t.pairs u.pairs _ _ moved.1 in
    let pulses = count_same (codes "pulses") t.pulses u.pulses _ _ pairs.1 in
    let qubits = count_same (codes "qubits") t.qubits u.qubits _ _ pulses.1 in
    let reads = count_same (codes "reads") t.reads u.reads _ _ qubits.1 in
    let time = count_same (codes "time") t.time u.time _ _ reads.1 in
    let same : numbers_in t ≡ numbers_in u =
    cons_same _ _ _ _ gates.0 (cons_same _ _ _ _ jobs.0 (cons_same _ _ _ _ kept.0 (cons_same _ _ _ _ moved.0 (cons_same _ _ _ _ pairs.0
    (cons_same _ _ _ _ pulses.0 (cons_same _ _ _ _ qubits.0 (cons_same _ _ _ _ reads.0 (cons_same _ _ _ _ time.0 refl)))))))) in
    from_numbers t u same
