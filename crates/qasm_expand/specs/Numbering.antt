-- Inside: the numbers of the places of registers.
use Rattle.std.specs.Prelude.{ℕ, ◌+◌, List, [], ◌∷◌, Option}
use Rattle.std.specs.Map.{lookup}
use Rattle.std.specs.Str.{bytes_eq}
use Rattle.std.specs.HashMap.{HashMap, get_by}
use Rattle.std.specs.Borrow.{Bor}
use Rattle.std.specs.declared.hash.FoldHasher.{FoldHasher}
use Rattle.std.specs.declared.hash.BuildHasherDefault.{BuildHasherDefault}
use Rattle.qasm_form.specs.declared.stmt.Stmt.{Stmt}
use Rattle.qasm_expand.specs.declared.extent.Extent.{Extent}
use Rattle.qasm_expand.specs.declared.kind.RegisterKind.{RegisterKind}
use Rattle.qasm_expand.specs.RegisterKinds.{registers_of}

-- The first number and the size of each register, where the first begins at this number.
abbrev pub extents_from : ℕ → List (List ℕ × ℕ) → List (List ℕ × Extent)
extents_from start [] = []
extents_from start (r ∷ rs) = (r.0, record { start = start; size = r.1 }) ∷ extents_from (start + r.1) rs

-- those of a register of this name, of the first where there are several
abbrev pub extent_of : RegisterKind → List Stmt → List ℕ → Option Extent
extent_of kind statements name = lookup (bytes_eq name) (extents_from 0 (registers_of kind statements))

-- A map from names to such numbers.
abbrev pub Extents : Type 0
Extents = HashMap (Bor (List ℕ)) Extent (BuildHasherDefault FoldHasher)

-- What the map says of a name.
abbrev pub extent_in : Extents → List ℕ → Option Extent
extent_in extents name = get_by (λ k. bytes_eq name k.now) extents
