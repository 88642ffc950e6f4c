-- A shelf over memory: what it has, what was asked of it, and its counts.
use Rattle.std.specs.Prelude.{ℕ, List}
use Rattle.zac_io.specs.declared.calls.Calls.{Calls}
use Rattle.zac_io.specs.declared.mem_shelf.MemShelf.{MemShelf}
use Rattle.zac_io.specs.Files.{Pairs, left_behind}

-- the files that it has, each a name and its bytes
abbrev pub pairs_of : MemShelf → Pairs
pairs_of shelf = shelf.files

-- What is left of its picked file.
abbrev pub left_of : MemShelf → List ℕ
left_of shelf = left_behind shelf.files shelf.picked shelf.at

-- Its calls: how many were made, and which fail.
abbrev pub shelf_calls : MemShelf → Calls
shelf_calls shelf = shelf.calls

-- How often a call on it failed.
abbrev pub shelf_faults : MemShelf → ℕ
shelf_faults shelf = shelf.faults

-- How often a name was picked that it doesn't have.
abbrev pub shelf_strays : MemShelf → ℕ
shelf_strays shelf = shelf.strays
