-- What a map from names to what was read of their registers says.
use Rattle.std.specs.Prelude.{ℕ, Bool, false, List, Option, Some, None}
use Rattle.std.specs.BTreeSet.{contains}
use Rattle.std.specs.Map.{lookup}
use Rattle.std.specs.Ordering.{nat_cmp}
use Rattle.std.specs.Str.{bytes_eq}
use Rattle.qasm_names.specs.Reads.{ReadPlaces}
use Rattle.qasm_names.specs.declared.reads.RegisterReads.{RegisterReads}

-- The register was read whole.
abbrev pub is_whole : Option RegisterReads → Bool
is_whole None = false
is_whole (Some register) = register.whole

-- This place of the register was read by itself.
abbrev pub is_single : Option RegisterReads → ℕ → Bool
is_single None index = false
is_single (Some register) index = contains nat_cmp register.places index

-- What a map from names to the reads of their registers says was read.
abbrev pub reads_of : List (List ℕ × RegisterReads) → ReadPlaces
reads_of registers = record {
  whole = λ name. is_whole (lookup (bytes_eq name) registers);
  single = λ name k. is_single (lookup (bytes_eq name) registers) k;
}
