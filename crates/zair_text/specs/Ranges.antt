-- Numbers that a line carries.
use Rattle.std.specs.Prelude.{◌≡◌, ◌<◌, ◌^◌, true, List}
use Rattle.std.specs.List.{AllByRecursion}
use Rattle.serde_json.specs.Data.{Num, unsigned, negative, float, Data, null, boolean, number, string, array, object, Items, no_items, item, Members, no_members, member}
use Rattle.zair_form.specs.Steps.{has_own_steps}
use Rattle.zair_form.specs.declared.program.Instr.{Instr}
use Rattle.zair_text.specs.Values.{instr_value}

-- The number is whole, not negative, and less than 2⁶⁴.
abbrev pub IsSmallNumber : Num → Type 0
IsSmallNumber (unsigned n) = n < 2 ^ 64
IsSmallNumber (negative z) = ⊥
IsSmallNumber (float x) = ⊥

abbrev mutual
  -- each number in a value is such
  pub HasSmallNumbers : Data → Type 0
  HasSmallNumbers null = Unit {0}
  HasSmallNumbers (boolean b) = Unit {0}
  HasSmallNumbers (number n) = IsSmallNumber n
  HasSmallNumbers (string s) = Unit {0}
  HasSmallNumbers (array ds) = ItemsHaveSmallNumbers ds
  HasSmallNumbers (object ms) = MembersHaveSmallNumbers ms

  -- each number in the items of an array
  pub ItemsHaveSmallNumbers : Items → Type 0
  ItemsHaveSmallNumbers no_items = Unit {0}
  ItemsHaveSmallNumbers (item d ds) = HasSmallNumbers d × ItemsHaveSmallNumbers ds

  -- each number in the members of an object
  pub MembersHaveSmallNumbers : Members → Type 0
  MembersHaveSmallNumbers no_members = Unit {0}
  MembersHaveSmallNumbers (member k d ms) = HasSmallNumbers d × MembersHaveSmallNumbers ms

-- If the instruction is a job, its steps are those of its own AOD; and the numbers of its value are small, as all
-- numbers of its types are.
pub record IsWritable (i : Instr) : Type 0 where
  pub own : has_own_steps i.act ≡ true
  pub small : HasSmallNumbers (instr_value i)

-- Each instruction of the list is writable.
abbrev pub AreWritable : List Instr → Type 0
AreWritable instrs = AllByRecursion IsWritable instrs
