-- The text of an angle is UTF-8.
use Rattle.std.proofs.Common.{◌≡◌, ℕ, zero, suc, ◌<◌, true, List, [], ◌∷◌, arith, IsTrue}
use Rattle.std.specs.List.{list_all}
use Rattle.std.specs.Str.{IsAscii, IsUtf8}
use Rattle.std.proofs.lemmas.Str.{IsUtf8-from_ascii}
use Rattle.std.proofs.lemmas.Bool.{and_parts}
use Rattle.std.proofs.lemmas.Bool.Decides.{nat_tests}
use Rattle.zac_gates.specs.Angle.{is_angle, is_angle_byte}

below_128 : (b : ℕ) → is_angle_byte b ≡ true → b < 128
below_128 b h = grind (arith, nat_tests)

IsAscii-angle_bytes : (bs : List ℕ) → list_all is_angle_byte bs ≡ true → IsAscii bs
IsAscii-angle_bytes [] h i = omega arith
IsAscii-angle_bytes (b ∷ bs) h zero = below_128 b (and_parts _ _ h).0
IsAscii-angle_bytes (b ∷ bs) h (suc i) = IsAscii-angle_bytes bs (and_parts _ _ h).1 i

pub IsUtf8-angle : (bs : List ℕ) → IsTrue (is_angle bs) → IsUtf8 bs
IsUtf8-angle bs h = IsUtf8-from_ascii bs (IsAscii-angle_bytes bs (and_parts _ _ h).1)
