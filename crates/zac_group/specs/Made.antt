-- Groups that are made of the moves of groups.
use Rattle.std.specs.Prelude.{◌≡◌, ℕ, Some, List, length}
use Rattle.std.specs.List.{All, slice_get}
use Rattle.std.specs.List.Sorted.{IsPermutation}
use Rattle.zac_arch.specs.Architecture.{Architecture}
use Rattle.zac_group.specs.declared.members.Members.{Members}
use Rattle.zac_group.specs.Fitting.{shifts_at}
use Rattle.zac_group.specs.Groups.{IsGroup, MoveGroup}

-- as many groups as these, on the card, each with the moves of the group of its number
pub record AreMadeOf (a : Architecture) (fitted : List Members) (number : ℕ) (groups : List MoveGroup) : Type 0 where
  pub long : length groups ≡ number
  pub cards : All (λ (g : MoveGroup). g.card ≡ a) groups
  pub shifts_are : (n : ℕ) (g : MoveGroup) → slice_get groups n ≡ Some g → IsPermutation (shifts_at fitted n) g.shifts
  pub kept : All IsGroup groups
