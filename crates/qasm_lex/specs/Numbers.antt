-- Inside: the parts of a number, as the longest that stand at the front of some bytes.
use Rattle.std.specs.Prelude.{◌≡◌, ◌==◌, if◌then◌else◌, ℕ, ◌+◌, ◌<◌, ◌≤◌, Bool, true, false, List, ◌++◌, length, take}
use Rattle.std.specs.Char.{is_ascii_digit}
use Rattle.std.specs.List.{prefix_len}
use Rattle.qasm_lex.specs.Bytes.{is_numeric, AllPass, NoneFirst}
use Rattle.qasm_lex.specs.Forms.{IsDigits, IsPointed, IsExponent}

-- The length of a part together with its digits, or 0 where there are none.
abbrev pub length_with : ℕ → ℕ → ℕ
length_with before digits = if digits == 0 then 0 else before + digits

-- The longest exponent at the front has so many bytes; 0 where there is none.
pub record IsExponentLength (bytes : List ℕ) (n : ℕ) : Type 0 where
  pub within : n ≤ length bytes
  pub is_exponent : 0 < n → IsExponent (take n bytes)
  pub bound : (front rest : List ℕ) → front ++ rest ≡ bytes → IsExponent front → length front ≤ n

-- The longest front that is digits, or digits with one point, has so many bytes, and this is whether it has a point.
pub record IsMantissa (bytes : List ℕ) (n : ℕ) (pointed : Bool) : Type 0 where
  pub within : n ≤ length bytes
  pub is_pointed : pointed ≡ true → IsPointed (take n bytes)
  pub is_run : pointed ≡ false → n ≡ prefix_len is_ascii_digit bytes
  pub pointed_bound : (front rest : List ℕ) → front ++ rest ≡ bytes → IsPointed front → (pointed ≡ true) × (length front ≤ n)
  pub pointed_exact : (front rest : List ℕ) → front ++ rest ≡ bytes → IsPointed front → NoneFirst is_ascii_digit rest → length front ≡ n
  pub digits_bound : (front rest : List ℕ) → front ++ rest ≡ bytes → AllPass is_ascii_digit front → length front ≤ n
  pub digits_exact : (front rest : List ℕ) → front ++ rest ≡ bytes → IsDigits front → NoneFirst is_numeric rest → (pointed ≡ false) × (length front ≡ n)
