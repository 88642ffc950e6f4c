use Rattle.std.proofs.Common.{ℕ, ◌*◌, ◌<◌, ◌≤◌, ◌⊎◌, inl, inr, refl, arith, lit≤, mul-le-mul}
use Rattle.zac_arch.specs.Distances.{IsMoveTime, IsTimeEnough}
use Rattle.zair_state.proofs.examples.carrying_takes.Goals as goal

short : (s : ℕ) → s ≤ 60452 → 7562500 * (s * s * (s * s)) < 101000000000000000000000000
short s h =
    let square : s * s ≤ 60452 * 60452 = mul-le-mul h h in
    let fourth : s * s * (s * s) ≤ 60452 * 60452 * (60452 * 60452) = mul-le-mul square square in
    omega arith

which : (s : ℕ) → (60453 ≤ s) ⊎ (s ≤ 60452)
which s = grind arith

least : (s : ℕ) → IsTimeEnough 2750 10 100 s → 60453 ≤ s
least s h = elim (which s) [ inl far ↦ far | inr near ↦ let e = short s near in absurd (omega arith) ]

time : IsMoveTime 2750 10 100 60453
time = record { enough = lit≤ tt; least = least }

pub returns-clause-time : goal.returns-clause-time
returns-clause-time c = time

pub returns-clause-job : goal.returns-clause-job
returns-clause-job c = (90453, refl, (15000, 75453, refl, refl, (60453, 15000, refl, time, (15000, 0, refl, refl, refl))))
