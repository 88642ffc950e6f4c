-- From what the value of a text tells to what the text is.
use Rattle.std.proofs.Common.{◌≡◌, ℕ, Bool, List, Option, Some, None, is_some, Result, Ok, Err, IfOk, IsErrOf, MatchBool, refl, sym, ap, ◌∙◌, subst}
use Rattle.std.proofs.lemmas.Option.{none-some, same_Some}
use Rattle.serde_json.specs.Data.{Data}
use Rattle.zair_form.specs.declared.program.Instr.{Instr}
use Rattle.zair_text.specs.Values.{instr_value, header_value, end_value}
use Rattle.zair_text.specs.declared.counts.Totals.{Totals}
use Rattle.zac_memory.specs.declared.Memory.{Memory as NoMemory}
use Rattle.zair_read.specs.declared.fault.TextFault.{TextFault}
use Rattle.zair_read.specs.declared.fault.TextFault.TheVariants.{Refused}
use Rattle.zair_read.specs.declared.line.Kind.{Kind}
use Rattle.zair_read.specs.declared.line.Kind.TheVariants.{End, Neither}
use Rattle.zair_read.specs.declared.line.Kind.TheVariants as kind
use Rattle.zair_read.specs.Kinds.{IsKind, IsKindIn}
use Rattle.zair_read.specs.Texts.{IsTextOf, IsInstrText, TotalsFit}
use Rattle.zair_read.specs.Told.{Tells, told_instr, header_parts, is_header, told_totals}
use Rattle.zair_read.proofs.Complete.{instr_told, header_told, totals_told}
use Rattle.zair_read.proofs.Sound.{instr_sound, header_sound, totals_sound}

-- what the bytes of the value read as is that value
one_value : (bytes : List ℕ) (d e : Data) → IsTextOf d bytes → IsTextOf e bytes → d ≡ e
one_value bytes d e h k = same_Some d e (sym h.value_read ∙ k.value_read)

-- ---- instructions

instr_from : (bytes : List ℕ) (d : Data) (i : Instr) → IsTextOf d bytes → told_instr d ≡ Some i → IsInstrText bytes i
instr_from bytes d i h e =
    let p = instr_sound d i e in
    record { text = subst (λ v. IsTextOf v bytes) p.0 h; own = p.1; fits = p.2 }

no_instr_from : (bytes : List ℕ) (d : Data) → IsTextOf d bytes → told_instr d ≡ None → (i : Instr) → ¬ IsInstrText bytes i
no_instr_from bytes d h e i k =
    none-some i (sym e ∙ ap told_instr (one_value bytes d (instr_value i) h k.text) ∙ instr_told i k.own k.fits)

-- an instruction that is answered is that of the text
pub answered : (bytes : List ℕ) (d : Data) (r : Result Instr TextFault) → IsTextOf d bytes → Tells r (told_instr d) → IfOk r (IsInstrText bytes)
answered bytes d (Ok i) h e = instr_from bytes d i h e
answered bytes d (Err f) h e = tt

-- a text that is refused is that of no instruction
pub refused : (bytes : List ℕ) (d : Data) (r : Result Instr TextFault) → IsTextOf d bytes → Tells r (told_instr d) → IsErrOf r Refused → (i : Instr) → ¬ IsInstrText bytes i
refused bytes d r h e is i k =
    let P : Result Instr TextFault → Type 0 = λ r. Tells r (told_instr d) in
    no_instr_from bytes d h (subst P is e) i k

-- ---- the first line

header_tested : (bytes : List ℕ) (d : Data) (o : Option ℕ) → IsTextOf d bytes → header_parts d ≡ o → MatchBool (is_some o) (IsTextOf header_value bytes) (¬ IsTextOf header_value bytes)
header_tested bytes d (Some n) h e = subst (λ v. IsTextOf v bytes) (header_sound d n e) h
header_tested bytes d None h e = λ k. none-some 1 (sym e ∙ ap header_parts (one_value bytes d header_value h k) ∙ header_told)

-- the test of the value is that of the text
pub header_answered : (bytes : List ℕ) (d : Data) (b : Bool) → IsTextOf d bytes → b ≡ is_header d → MatchBool b (IsTextOf header_value bytes) (¬ IsTextOf header_value bytes)
header_answered bytes d b h e =
    subst (λ c. MatchBool c (IsTextOf header_value bytes) (¬ IsTextOf header_value bytes)) (sym e) (header_tested bytes d (header_parts d) h refl)

-- ---- kinds of lines

no_totals_from : (bytes : List ℕ) (d : Data) → IsTextOf d bytes → told_totals d ≡ None → (t : Totals) → TotalsFit t → ¬ IsTextOf (end_value t) bytes
no_totals_from bytes d h e t fits k =
    none-some t (sym e ∙ ap told_totals (one_value bytes d (end_value t) h k) ∙ totals_told t fits)

kind_from : (bytes : List ℕ) (d : Data) (k : Kind) → IsTextOf d bytes → IsKindIn d k → IsKind bytes k
kind_from bytes d (kind.Instr i) h e = instr_from bytes d i h e
kind_from bytes d (End t) h e = subst (λ v. IsTextOf v bytes) (totals_sound d t e) h
kind_from bytes d Neither h e = (no_instr_from bytes d h e.0, no_totals_from bytes d h e.1)

-- the kind of the value is that of the text
pub kind_answered : (bytes : List ℕ) (d : Data) (r : Result Kind NoMemory) → IsTextOf d bytes → IfOk r (IsKindIn d) → IfOk r (IsKind bytes)
kind_answered bytes d (Ok k) h e = kind_from bytes d k h e
kind_answered bytes d (Err m) h e = tt
