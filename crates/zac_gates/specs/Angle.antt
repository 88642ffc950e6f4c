-- The text of an angle.
use Rattle.std.specs.Prelude.{ℕ, Bool, not, ◌&&◌, ◌==◌, nat_le, List, length}
use Rattle.std.specs.List.{list_all}

-- The byte is from 33 to 126, and neither a quotation mark nor a backslash.
abbrev pub is_angle_byte : ℕ → Bool
is_angle_byte b = nat_le 33 b && nat_le b 126 && not (b == 34) && not (b == 92)

-- There are 1 to 16,384 bytes, each of them an angle byte. It is the invariant of an `Angle`.
abbrev pub is_angle : List ℕ → Bool
is_angle bytes = nat_le 1 (length bytes) && nat_le (length bytes) 16384 && list_all is_angle_byte bytes
