-- Maps by bytes, as lists.
use Rattle.std.specs.Prelude.{ℕ, List, map}
use Rattle.std.specs.Global.{Vec}

-- The entries of a map with the bytes of their names.
abbrev pub named_by_bytes : {X : Type 0} → List (Vec ℕ × X) → List (List ℕ × X)
named_by_bytes entries = map (λ e. (e.0.items, e.1)) entries
