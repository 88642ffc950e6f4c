-- A time is a move's time where it is enough and one less isn't.
use Rattle.std.proofs.Common.{ℕ, ◌*◌, ◌≤◌, ◌⊎◌, inl, inr, arith, suc, le_trans, mul-le-mul, mul-le-mul_left}
use Rattle.zac_arch.specs.Distances.{IsMoveTime, IsTimeEnough}

which : (m n : ℕ) → (suc m ≤ n) ⊎ (n ≤ m)
which m n = grind arith

longer : (accel dx dy s t : ℕ) → s ≤ t → IsTimeEnough accel dx dy s → IsTimeEnough accel dx dy t
longer accel dx dy s t h e =
    let square : s * s ≤ t * t = mul-le-mul h h in
    let fourth : s * s * (s * s) ≤ t * t * (t * t) = mul-le-mul square square in
    le_trans e (mul-le-mul_left (accel * accel) fourth)

pub move_time : (accel dx dy last : ℕ) → IsTimeEnough accel dx dy (suc last) → ¬ IsTimeEnough accel dx dy last → IsMoveTime accel dx dy (suc last)
move_time accel dx dy last enough short = record {
  enough = enough;
  least = λ s e. elim (which last s) [ inl far ↦ far | inr near ↦ absurd (short (longer accel dx dy s last near e)) ];
}
