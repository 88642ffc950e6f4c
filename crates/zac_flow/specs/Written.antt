-- Inside: what a text that was made, or the fault that kept it from being made, leaves in out.
use Rattle.std.specs.Prelude.{◌≡◌, ℕ, List, Option, Result, Ok, Err}
use Rattle.zac_io.specs.Outside.{Appends, AppendsPrefix}
use Rattle.zac_fault.specs.declared.status.Fault.{Fault}
use Rattle.zac_fault.specs.declared.status.Fault.TheVariants.{Write}

-- The text was written whole; or a prefix of it was, and the fault is `Write`.
abbrev pub IsWhole : List ℕ → Result Unit Fault → Option (List ℕ) → Option (List ℕ) → Type 0
IsWhole text (Ok x) old new = Appends old new text
IsWhole text (Err f) old new = (f ≡ Write) × AppendsPrefix old new text

-- What was made, a text of these bytes, is written so; a fault in making it is the answer, and nothing was written.
abbrev pub IsWritten : {V : Type 0} → Result V Fault → (V → List ℕ) → Result Unit Fault → Option (List ℕ) → Option (List ℕ) → Type 0
IsWritten (Ok text) bytes result old new = IsWhole (bytes text) result old new
IsWritten (Err f) bytes result old new = (result ≡ Err f) × (new ≡ old)
