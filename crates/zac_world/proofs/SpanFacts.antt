-- Numbers a step apart: the nearest one, and those within reach.
use Rattle.std.proofs.Common.{◌≡◌, ℕ, ◌+◌, ◌-◌, ◌*◌, ◌/◌, ◌%◌, ◌<◌, ◌≤◌, inl, inr, min, arith}
use Rattle.std.proofs.lemmas.Bool.{cases_lt}
use Rattle.std.proofs.lemmas.Grind.{div_ceil_times}
use Rattle.std.proofs.lemmas.Nat.{div-add-mod', mod_below, mul-le}
use Rattle.zac_arch.specs.Distances.{difference}

-- one of the numbers is this far from n
abbrev pub Reached : ℕ → ℕ → ℕ → ℕ → ℕ → Type 0
Reached first step count n d = (i : ℕ) × (i < count) × (d ≡ difference n (first + i * step))

-- and none is nearer
abbrev pub Least : ℕ → ℕ → ℕ → ℕ → ℕ → Type 0
Least first step count n d = (i : ℕ) → i < count → d ≤ difference n (first + i * step)

below_by_product : (a b step : ℕ) → a * step < b * step → a < b
below_by_product a b step lt =
    elim (cases_lt a b) as (λ _. a < b) [ inl less ↦ less | inr le ↦ absurd (omega (arith, lt, mul-le b step a step le (omega arith))) ]

pub reached_between : (first step count n d : ℕ) → 1 ≤ step → first < n → n < first + (count - 1) * step → d ≡ min ((n - first) % step) (step - (n - first) % step) → Reached first step count n d
reached_between first step count n d rises above below is =
    let place = (n - first) / step in
    let past = (n - first) % step in
    let split : place * step + past ≡ n - first = div-add-mod' (n - first) step in
    let small : past < step = mod_below (n - first) step rises in
    let in_count : place < count - 1 = below_by_product place (count - 1) step (omega (arith, split)) in
    elim (cases_lt past (step - past)) as (λ _. Reached first step count n d) [
      | inl less ↦ (place, omega (arith, in_count), omega (arith, split, is))
      | inr le ↦ (place + 1, omega (arith, in_count), omega (arith, split, is, small))
    ]

pub least_between : (first step count n d : ℕ) → 1 ≤ step → first < n → n < first + (count - 1) * step → d ≡ min ((n - first) % step) (step - (n - first) % step) → Least first step count n d
least_between first step count n d rises above below is i lt =
    let place = (n - first) / step in
    let past = (n - first) % step in
    let split : place * step + past ≡ n - first = div-add-mod' (n - first) step in
    let small : past < step = mod_below (n - first) step rises in
    elim (cases_lt i (place + 1)) as (λ _. d ≤ difference n (first + i * step)) [
      | inl less ↦ omega (arith, split, is, mul-le i step place step (omega arith) (omega arith))
      | inr le ↦ omega (arith, split, is, small, mul-le (place + 1) step i step le (omega arith))
    ]

-- beyond the last number the last one is the nearest
pub least_beyond : (first step count n d : ℕ) → first + (count - 1) * step ≤ n → d ≡ n - (first + (count - 1) * step) → Least first step count n d
least_beyond first step count n d beyond is i lt =
    omega (arith, is, mul-le i step (count - 1) step (omega arith) (omega arith))

-- which numbers aren't too low: those from a quotient on, rounded up
from_quotient : (m step i begin : ℕ) → 1 ≤ step → begin ≡ m / step + min 1 (m % step) → (m ≤ i * step → begin ≤ i) × (begin ≤ i → m ≤ i * step)
from_quotient m step i begin rises is =
    let times = div_ceil_times m step rises in (
      λ enough. elim (cases_lt i begin) as (λ _. begin ≤ i) [
        | inl less ↦ absurd (omega (arith, times.1, is, mul-le (i + 1) step (m / step + min 1 (m % step)) step (omega arith) (omega arith)))
        | inr le ↦ le
      ],
      λ le. omega (arith, times.0, mul-le (m / step + min 1 (m % step)) step i step (omega arith) (omega arith)),
    )

-- which aren't too high: those up to a quotient
to_quotient : (m step i : ℕ) → 1 ≤ step → (i * step ≤ m → i < m / step + 1) × (i < m / step + 1 → i * step ≤ m)
to_quotient m step i rises =
    let split : m / step * step + m % step ≡ m = div-add-mod' m step in
    let small : m % step < step = mod_below m step rises in (
      λ enough. elim (cases_lt i (m / step + 1)) as (λ _. i < m / step + 1) [
        | inl less ↦ less
        | inr le ↦ absurd (omega (arith, split, small, mul-le (m / step + 1) step i step le (omega arith)))
      ],
      λ lt. omega (arith, split, mul-le i step (m / step) step (omega arith) (omega arith)),
    )

pub within : (first step count n reach i quotient begin end : ℕ) → 1 ≤ step → first ≤ n + reach →
    end ≡ min ((n + reach - first) / step + 1) count →
    quotient ≡ (n - reach - first) / step + min 1 ((n - reach - first) % step) → begin ≡ min quotient end → i < count →
    (difference n (first + i * step) ≤ reach → (begin ≤ i) × (i < end)) × ((begin ≤ i) × (i < end) → difference n (first + i * step) ≤ reach)
within first step count n reach i quotient begin end rises near end_is quotient_is begin_is lt =
    let low = from_quotient (n - reach - first) step i quotient rises quotient_is in
    let high = to_quotient (n + reach - first) step i rises in (
      λ d. (omega (arith, low.0 (omega (arith, d))), omega (arith, high.0 (omega (arith, d)))),
      λ inside. let a = inside.0 in let b = inside.1 in
          omega (arith, low.1 (omega arith), high.1 (omega arith)),
    )
