-- Places at which neither of two lists of flags has its flag set.
use Rattle.std.specs.Prelude.{◌≡◌, ℕ, ◌<◌, ◌≤◌, ◌&&◌, Bool, true, false, not, nat_le, nat_lt, List}
use Rattle.std.specs.List.{slice_index_or}

-- Neither list has the flag of the place set. Past its end a list has none set.
abbrev pub is_unset : List Bool → List Bool → ℕ → Bool
is_unset flags others place = not (slice_index_or flags place false) && not (slice_index_or others place false)

-- the place is from begin to before end too
abbrev pub is_unset_within : List Bool → List Bool → ℕ → ℕ → ℕ → Bool
is_unset_within flags others begin end place =
    (nat_le begin place && nat_lt place end) && is_unset flags others place

-- At each place from begin to before end the one list or the other has its flag set.
abbrev pub AreSet : List Bool → List Bool → ℕ → ℕ → Type 0
AreSet flags others begin end = (p : ℕ) → begin ≤ p → p < end → is_unset flags others p ≡ false

-- It is the first place from begin to before end at which neither list has its flag set.
pub record IsFirstUnset (flags others : List Bool) (begin end place : ℕ) : Type 0 where
  pub from_begin : begin ≤ place
  pub before_end : place < end
  pub unset : is_unset flags others place ≡ true
  pub first : (p : ℕ) → begin ≤ p → p < place → is_unset flags others p ≡ false

-- It is the last place from begin to before end at which neither list has its flag set.
pub record IsLastUnset (flags others : List Bool) (begin end place : ℕ) : Type 0 where
  pub from_begin : begin ≤ place
  pub before_end : place < end
  pub unset : is_unset flags others place ≡ true
  pub last : (p : ℕ) → place < p → p < end → is_unset flags others p ≡ false
