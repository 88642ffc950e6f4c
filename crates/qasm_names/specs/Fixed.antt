-- The fixed names, as tests.
use Rattle.std.specs.Prelude.{ℕ, Bool, List}
use Rattle.std.specs.List.{list_any}
use Rattle.std.specs.Str.{bytes_eq}
use Rattle.qasm_names.specs.Header.{fixed_names}

-- The name is one of the fixed names, as a test.
abbrev pub is_fixed : List ℕ → Bool
is_fixed name = list_any (bytes_eq name) fixed_names
