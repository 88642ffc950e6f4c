-- Groups of moves while they are made.
use Rattle.std.specs.Prelude.{◌≡◌, ◌≢◌, ℕ, ◌+◌, ◌<◌, List, [], ◌∷◌, ◌++◌, length, map, All, slice_index}
use Rattle.std.specs.List.{slice_index_or}
use Rattle.zac_arch.specs.Architecture.{Architecture}
use Rattle.zac_group.specs.declared.members.Members.{Members}
use Rattle.zac_group.specs.declared.shift.Shift.{Shift}
use Rattle.zac_group.specs.FirstFit.{IsFirstFit, members}
use Rattle.zac_group.specs.Members.{IsMembers, moves}

-- the moves of the group of this number, and none past the last group
abbrev pub shifts_at : List Members → ℕ → List Shift
shifts_at groups n = slice_index_or (map (λ (m : Members). moves m.routes.items) groups) n []

-- one group, which may be a new one, has one more move at its end
pub record AddsTo (old new : List Members) (number : ℕ) (s : Shift) : Type 0 where
  pub here : shifts_at new number ≡ shifts_at old number ++ s ∷ []
  pub others : (n : ℕ) → n ≢ number → shifts_at new n ≡ shifts_at old n
  pub kept : number < length old → length new ≡ length old
  pub longer : number ≡ length old → length new ≡ length old + 1

-- these moves have the numbers of first fit, and the groups have the moves of their numbers
pub record IsFitting (a : Architecture) (ordered : List Shift) (groups : List Members) : Type 0 where
  pub numbers : List ℕ
  pub first_fit : IsFirstFit a ordered numbers
  pub counted : All (IsMembers a) groups
  pub groups_are : (n : ℕ) → shifts_at groups n ≡ members ordered numbers n
  pub below : (k : ℕ) → k < length numbers → slice_index numbers k < length groups
  pub used : (n : ℕ) → n < length groups → (k : ℕ) × (k < length numbers) × (slice_index numbers k ≡ n)
