-- A trap is in one zone.
use Rattle.std.proofs.Common.{◌≡◌, ℕ, zero, suc, ◌+◌, ◌<◌, ◌≤◌, inl, inr, List, [], ◌∷◌, length, take, arith, length-append}
use Rattle.std.specs.List.{flat_map}
use Rattle.std.proofs.lemmas.Bool.{cases_order}
use Rattle.zac_arch.specs.Architecture.{Architecture, IsInZone, zone_traps}
use Rattle.zac_arch.specs.declared.card.Zone.{Zone}

-- how many traps these zones have
abbrev count : List Zone → ℕ
count zs = length (flat_map zone_traps zs)

count-cons : (z : Zone) (zs : List Zone) → count (z ∷ zs) ≡ length (zone_traps z) + count zs
count-cons z zs = length-append (zone_traps z) (flat_map zone_traps zs)

count_rises : (zs : List Zone) (m n : ℕ) → m ≤ n → count (take m zs) ≤ count (take n zs)
count_rises zs zero n le = omega arith
count_rises [] (suc m) n le = omega arith
count_rises (z ∷ zs) (suc m) zero le = absurd (omega arith)
count_rises (z ∷ zs) (suc m) (suc n) le =
    let rest = count_rises zs m n (omega arith) in
    omega (arith, count-cons z (take m zs), count-cons z (take n zs))

not_in_two : (a : Architecture) (t m n : ℕ) → m < n → IsInZone a t m → ¬ IsInZone a t n
not_in_two a t m n lt i j =
    let rises = count_rises a.zones (m + 1) n (omega arith) in
    let below = i.below in
    let from = j.from in
    omega arith

pub one_zone : (a : Architecture) (t m n : ℕ) → IsInZone a t m → IsInZone a t n → m ≡ n
one_zone a t m n i j =
    elim (cases_order m n) [
      | inl e ↦ e
      | inr w ↦ elim w [ inl lt ↦ absurd (not_in_two a t m n lt i j) | inr gt ↦ absurd (not_in_two a t n m gt j i) ]
    ]
