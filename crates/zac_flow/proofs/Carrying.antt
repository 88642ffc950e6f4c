-- What a command does whose text was made first, and then written.
use Rattle.std.proofs.Common.{◌≡◌, ◌≢◌, ℕ, inr, List, Option, None, Some, Result, Ok, Err, inl, refl, sym, ◌∙◌, subst}
use Rattle.std.specs.Prelude.{IfOk, IfErr, OnOk}
use Rattle.zac_io.specs.Outside.{NamedFiles, Appends}
use Rattle.zac_flow.specs.Answers.{LeavesPanel, StraysRise}
use Rattle.zac_flow.specs.Due.{IsDue, two_files}
use Rattle.zac_fault.specs.Statuses.{outcome, status_of}
use Rattle.zac_flow.specs.Faults.{Leaves}
use Rattle.zac_flow.specs.Panel.{Reading, MayBeShownPart}
use Rattle.zac_flow.specs.Words.{Command, Compile, Report, Replay, Make, Drill}
use Rattle.zac_flow.specs.Written.{IsWritten}
use Rattle.zac_fault.specs.declared.status.Fault.{Fault}
use Rattle.zac_fault.specs.declared.status.Fault.TheVariants.{Usage, Read, Long, Card, Source, Limit, Qubits, Zair, NotTheCircuit, Write, Memory}

-- a fault other than in writing may leave out as it was
unchanged : (files : Option NamedFiles) (command : Command) (old new : Option (List ℕ)) (panel panel' : List Reading) (f : Fault) → f ≢ Write → new ≡ old →
    Leaves files (Some command) old new panel panel' f
unchanged files command old new panel panel' Write not same = absurd (not refl)
unchanged files (Compile card source) old new panel panel' Memory not same = inr same
unchanged files (Report card source) old new panel panel' Memory not same = same
unchanged files (Replay card source zair) old new panel panel' Memory not same = same
unchanged files (Make n k) old new panel panel' Memory not same = same
unchanged files (Drill n k) old new panel panel' Memory not same = same
unchanged files command old new panel panel' Usage not same = same
unchanged files command old new panel panel' (Read which) not same = same
unchanged files command old new panel panel' (Long which) not same = same
unchanged files command old new panel panel' (Card f) not same = same
unchanged files command old new panel panel' (Source k at) not same = same
unchanged files command old new panel panel' (Limit k n) not same = same
unchanged files command old new panel panel' (Qubits n s) not same = same
unchanged files command old new panel panel' (Zair line) not same = same
unchanged files command old new panel panel' (NotTheCircuit f) not same = same

module _ (files : Option NamedFiles) (command : Command) (panel panel' : List Reading) where
  -- a text that is due was written whole
  pub carried_done : {V : Type 0} (made : Result V Fault) (bytes : V → List ℕ) (result : Result Unit Fault) (old new : Option (List ℕ)) → IsWritten made bytes result old new →
      IfOk made (λ text. IsDue files command panel panel' (bytes text)) → OnOk result ((text : List ℕ) × IsDue files command panel panel' text × Appends old new text)
  carried_done (Ok text) bytes (Ok x) old new written due = (bytes text, due, written)
  carried_done (Ok text) bytes (Err f) old new written due = tt
  carried_done (Err f) bytes (Ok x) old new written due = let e : Ok x ≡ Err f = written.0 in absurd (cc)
  carried_done (Err f) bytes (Err g) old new written due = tt

  -- what a fault leaves in out, that of the making or one in writing
  pub carried_leaves : {V : Type 0} (made : Result V Fault) (bytes : V → List ℕ) (result : Result Unit Fault) (old new : Option (List ℕ)) → IsWritten made bytes result old new →
      IfOk made (λ text. IsDue files command panel panel' (bytes text)) → IfErr made (λ f. f ≢ Write) → IfErr result (Leaves files (Some command) old new panel panel')
  carried_leaves (Ok text) bytes (Ok x) old new written due not = tt
  carried_leaves (Ok text) bytes (Err f) old new written due not =
      subst (λ (x : Fault). Leaves files (Some command) old new panel panel' x) (sym written.0) (bytes text, due, written.1)
  carried_leaves (Err f) bytes (Ok x) old new written due not = tt
  carried_leaves (Err f) bytes (Err g) old new written due not =
      let same : f ≡ g = let e : Err g ≡ Err f = written.0 in cc in
      subst (λ (x : Fault). Leaves files (Some command) old new panel panel' x) same (unchanged files command old new panel panel' f not written.1)

-- want of memory is no fault in writing
pub memory_not_write : {V : Type 0} (made : Result V Fault) → IfErr made (λ f. f ≡ Memory) → IfErr made (λ f. f ≢ Write)
memory_not_write (Ok text) h = tt
memory_not_write (Err f) h = λ e. let same : Memory ≡ Write = sym h ∙ e in absurd (cc)

-- no command without files misses one
pub no_strays : (files : Option NamedFiles) (n : ℕ) → StraysRise files None n n
no_strays files n = record { rise = λ w e lacks. absurd (cc); stay = λ none. refl; either = inl refl }

-- the panel of a report
module _ (files : Option NamedFiles) (card source : List ℕ) (panel panel' : List Reading) where
  part_at : (f : Fault) → (f ≡ Memory → MayBeShownPart files (two_files card source) panel panel') → LeavesPanel files (Some (Report card source)) (status_of f) panel panel'
  part_at Usage h = tt
  part_at (Read which) h = tt
  part_at (Long which) h = tt
  part_at (Card f) h = tt
  part_at (Source k at) h = tt
  part_at (Limit k n) h = tt
  part_at (Qubits n s) h = tt
  part_at (Zair line) h = tt
  part_at (NotTheCircuit f) h = tt
  part_at Write h = tt
  part_at Memory h = h refl

  -- what it was shown where there was no memory
  pub report_part : {V : Type 0} (made : Result V Fault) (bytes : V → List ℕ) (result : Result Unit Fault) (old new : Option (List ℕ)) → IsWritten made bytes result old new →
      IfErr made (λ f. f ≡ Memory → MayBeShownPart files (two_files card source) panel panel') → LeavesPanel files (Some (Report card source)) (outcome result) panel panel'
  report_part (Ok text) bytes (Ok x) old new written part = tt
  report_part (Ok text) bytes (Err f) old new written part =
      subst (λ (x : Fault). LeavesPanel files (Some (Report card source)) (status_of x) panel panel') (sym written.0) tt
  report_part (Err f) bytes (Ok x) old new written part = tt
  report_part (Err f) bytes (Err g) old new written part =
      let same : f ≡ g = let e : Err g ≡ Err f = written.0 in cc in
      subst (λ (x : Fault). LeavesPanel files (Some (Report card source)) (status_of x) panel panel') same (part_at f part)
