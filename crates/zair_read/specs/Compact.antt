-- Bytes in the layout that texts are written in. Only the crate's private clauses cite these.
use Rattle.std.specs.Prelude.{◌≡◌, ℕ, List, [], ◌∷◌, ◌++◌, map, decimal, codes, IsTrue}
use Rattle.std.specs.List.{AllByRecursion}
use Rattle.serde_json.specs.Data.{Data}
use Rattle.serde_json.specs.Written.{compact_text}
use Rattle.zair_form.specs.Ranges.{StepFits, ActFits}
use Rattle.zair_form.specs.Steps.{is_step_of, has_own_steps}
use Rattle.zair_form.specs.declared.program.Act.{Act}
use Rattle.zair_form.specs.declared.step.Step.{Step}
use Rattle.zair_text.specs.Values.{array_of, step_value, act_value}

-- The bytes are the compact text of the value, and then the rest.
abbrev pub BeginsWith : Data → List ℕ → List ℕ → Type 0
BeginsWith value bytes rest = bytes ≡ compact_text value ++ rest

-- They begin with the array of the items' values, and each item is in range.
abbrev pub BeginsWithAll : {X : Type 0} → (X → Data) → (X → Type 0) → List X → List ℕ → List ℕ → Type 0
BeginsWithAll value Fits items bytes rest = BeginsWith (array_of (map value items)) bytes rest × AllByRecursion Fits items

-- The step is in range, and one of this AOD.
abbrev pub IsOwnStep : ℕ → Step → Type 0
IsOwnStep aod s = StepFits s × IsTrue (is_step_of aod s)

-- They begin with such a step.
abbrev pub BeginsWithStep : ℕ → Step → List ℕ → List ℕ → Type 0
BeginsWithStep aod s bytes rest = BeginsWith (step_value s) bytes rest × IsOwnStep aod s

-- They begin with these atoms of a step.
abbrev pub BeginsWithAtoms : Data → List ℕ → List ℕ → Type 0
BeginsWithAtoms atoms bytes rest = bytes ≡ codes "\"atoms\":" ++ (compact_text atoms ++ 44 ∷ rest)

-- They begin with these columns and rows of a step.
abbrev pub BeginsWithBeams : Data → Data → List ℕ → List ℕ → Type 0
BeginsWithBeams columns rows bytes rest =
    bytes ≡ codes "\"columns\":" ++ (compact_text columns ++ (codes ",\"rows\":" ++ (compact_text rows ++ (codes ",\"step\":\"" ++ rest))))

-- Times, and then the rest of an instruction.
abbrev pub behind_times : ℕ → ℕ → List ℕ → List ℕ
behind_times begin end rest = codes "\"begin\":" ++ (decimal begin ++ (codes ",\"end\":" ++ (decimal end ++ 44 ∷ rest)))

-- The bytes are what stands behind the times of an instruction that does this, which is in range, and no job.
abbrev pub IsBehindTimes : Act → List ℕ → Type 0
IsBehindTimes act bytes =
    ActFits act × IsTrue (has_own_steps act) × ((begin end : ℕ) → 123 ∷ behind_times begin end bytes ≡ compact_text (act_value begin end act))
