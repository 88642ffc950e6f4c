-- What a call that writes lines to a sink leaves there, and what its answers tell.
use Rattle.std.specs.Prelude.{◌≡◌, ℕ, List, ◌∷◌, ◌++◌, Option, Result, Ok, Err}
use Rattle.zac_io.specs.Outside.{Appends, Rose}
use Rattle.zair_text.specs.declared.write.WriteFault.{WriteFault}
use Rattle.zair_text.specs.declared.write.WriteFault.TheVariants.{Memory, Failed}
use Rattle.zair_text.specs.Lines.{joined}

-- What the sink has, where it tells that, has grown by the first of the lines, each whole, and not by all of them.
pub record AppendsLines (old new : Option (List ℕ)) (lines : List (List ℕ)) : Type 0 where
  pub whole : List (List ℕ)
  pub next : List ℕ
  pub rest : List (List ℕ)
  pub is_front : whole ++ next ∷ rest ≡ lines
  pub grown : Appends old new (joined whole)

-- After `Failed` the sink's count of faults has risen; after every other answer it is as it was.
abbrev pub HasWriteCause : Result Unit WriteFault → ℕ → ℕ → Type 0
HasWriteCause (Ok written) before now = now ≡ before
HasWriteCause (Err Memory) before now = now ≡ before
HasWriteCause (Err Failed) before now = Rose before now
