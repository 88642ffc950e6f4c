-- A quotient rounded up, and the least time of a move.
use Rattle.std.proofs.Common.{◌≡◌, ℕ, zero, suc, ◌+◌, ◌*◌, ◌/◌, ◌%◌, ◌^◌, ◌<◌, ◌≤◌, inl, inr, min, arith}
use Rattle.std.proofs.lemmas.Bool.{cases_lt}
use Rattle.std.proofs.lemmas.Nat.{mod_below, div-add-mod', mul-le}
use Rattle.std.specs.Int.{div_ceil}
use Rattle.zac_arch.specs.Distances.{IsMoveTime}

-- the quotient rounded up is at most what is enough
ceil_most : (q r y v : ℕ) → r < y → q * y + r ≤ y * v → q + min 1 r ≤ v
ceil_most q r y v lt h =
    elim (cases_lt v q) as (λ _. q + min 1 r ≤ v) [
      | inl less ↦ absurd (omega (arith, mul-le (v + 1) y q y (omega arith) (omega arith)))
      | inr le ↦
          elim (cases_lt q v) as (λ _. q + min 1 r ≤ v) [
            | inl more ↦ omega arith
            | inr le' ↦
                let same : q ≡ v = omega arith in
                let product : q * y ≡ y * v = rw same (omega arith) in
                omega arith
          ]
    ]

-- and is enough itself
ceil_enough : (q r y v : ℕ) → r < y → q + min 1 r ≤ v → q * y + r ≤ y * v
ceil_enough q zero y v lt h = omega (arith, mul-le q y v y (omega arith) (omega arith))
ceil_enough q (suc r) y v lt h = omega (arith, mul-le (q + 1) y v y (omega arith) (omega arith))

pub div_ceil_most : (x y v : ℕ) → 0 < y → x ≤ y * v → div_ceil x y ≤ v
div_ceil_most x y v pos h = ceil_most (x / y) (x % y) y v (mod_below x y pos) (omega (arith, div-add-mod' x y))

pub div_ceil_enough : (x y v : ℕ) → 0 < y → div_ceil x y ≤ v → x ≤ y * v
div_ceil_enough x y v pos h =
    omega (arith, div-add-mod' x y, ceil_enough (x / y) (x % y) y v (mod_below x y pos) h)

pub least_root : (accel dx dy wanted low : ℕ) → 0 < accel * accel → wanted ≡ div_ceil ((dx * dx + dy * dy) * 10 ^ 22) (accel * accel) → wanted ≤ low * low * (low * low) → ((s : ℕ) → s < low → s * s * (s * s) < wanted) → IsMoveTime accel dx dy low
least_root accel dx dy wanted low pos is high short =
    record {
      enough = div_ceil_enough ((dx * dx + dy * dy) * 10 ^ 22) (accel * accel) (low * low * (low * low)) pos (omega (arith, is, high));
      least = λ s e. elim (cases_lt s low) as (λ _. low ≤ s) [
        | inl lt ↦ absurd (omega (arith, is, short s lt, div_ceil_most ((dx * dx + dy * dy) * 10 ^ 22) (accel * accel) (s * s * (s * s)) pos e))
        | inr le ↦ le
      ];
    }
