-- Inside: flags as the bits of words.
use Rattle.std.specs.Prelude.{◌≡◌, ◌==◌, ℕ, ◌+◌, ◌*◌, ◌/◌, ◌%◌, ◌<◌, ◌≤◌, Bool, true, false, List, length, map}
use Rattle.std.specs.Int.{bit_at}
use Rattle.std.specs.List.{range_with_len, slice_index_or}

-- the bit of this number is set
abbrev pub has_bit : ℕ → ℕ → Bool
has_bit word i = bit_at word i == 1

-- the 64 bits of a word are these flags
abbrev pub AreBits : ℕ → (ℕ → Bool) → Type 0
AreBits word flag = (i : ℕ) → i < 64 → has_bit word i ≡ flag i

-- it is the lowest bit of a word that is set
pub record IsLowest (word k : ℕ) : Type 0 where
  pub within : k < 64
  pub is_set : has_bit word k ≡ true
  pub none_below : (i : ℕ) → i < k → has_bit word i ≡ false

-- it is the highest one
pub record IsHighest (word k : ℕ) : Type 0 where
  pub within : k < 64
  pub is_set : has_bit word k ≡ true
  pub none_above : (i : ℕ) → k < i → i < 64 → has_bit word i ≡ false

-- the flag of a place: 64 flags are in each word
abbrev pub flag_at : List ℕ → ℕ → Bool
flag_at words place = has_bit (slice_index_or words (place / 64) 0) (place % 64)

-- the first so many flags
abbrev pub flags_of : List ℕ → ℕ → List Bool
flags_of words count = map (flag_at words) (range_with_len 0 count)

-- there are words for so many flags, and no flag past them is set
pub record IsKept (words : List ℕ) (count : ℕ) : Type 0 where
  pub enough : count ≤ length words * 64
  pub none_past : (place : ℕ) → count ≤ place → flag_at words place ≡ false
