-- What is added to bytes for a JSON value.
use Rattle.std.specs.Prelude.{◌≡◌, ◌<◌, ◌^◌, ◌∷◌, ℕ, List, ◌++◌, decimal, codes}
use Rattle.std.specs.List.{flat_map}
use Rattle.serde_json.specs.Data.{Data}
use Rattle.serde_json.specs.View.{items_of}
use Rattle.serde_json.specs.Written.{compact_text}
use Rattle.zair_text.specs.Ranges.{HasSmallNumbers, ItemsHaveSmallNumbers}

-- A head and the compact text of the value came to the bytes, and the value's numbers are small.
pub record IsAdded (head : List ℕ) (value : Data) (old new : List ℕ) : Type 0 where
  pub text : new ≡ old ++ (head ++ compact_text value)
  pub small : HasSmallNumbers value

-- For each of these values a comma and its compact text came to the bytes, and their numbers are small.
pub record AreLaterAdded (values : List Data) (old new : List ℕ) : Type 0 where
  pub text : new ≡ old ++ flat_map (λ value. 44 ∷ compact_text value) values
  pub small : ItemsHaveSmallNumbers (items_of values)

-- The times as the first two members of an object, a head, the compact text of the value and a tail came to the bytes,
-- and all numbers are small.
pub record IsTimedAdded (begin end : ℕ) (head : List ℕ) (value : Data) (tail old new : List ℕ) : Type 0 where
  pub text : new ≡ old ++ ((codes "{\"begin\":" ++ decimal begin) ++ ((codes ",\"end\":" ++ decimal end) ++ ((head ++ compact_text value) ++ tail)))
  pub first : begin < 2 ^ 64
  pub second : end < 2 ^ 64
  pub small : HasSmallNumbers value
