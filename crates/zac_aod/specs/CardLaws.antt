-- Inside: what the proofs of this crate take from the laws of a card.
use Rattle.std.specs.Prelude.{◌≡◌, ◌≢◌, ℕ, ◌+◌, ◌<◌, ◌≤◌, List}
use Rattle.zac_arch.specs.Architecture.{Architecture, StandsAt, IsInZone, storage_count, trap_count}
use Rattle.zac_arch.specs.Distances.{IsFarther}
use Rattle.zac_arch.specs.Parking.{IsCorner, IsParkedBeside}
use Rattle.zac_arch.specs.declared.place.Point.{Point}
use Rattle.zac_group.specs.Groups.{IsGroup}
use Rattle.zac_group.specs.declared.shift.Shift.{Shift}

-- the laws of a card that jobs rest on: of its traps, of parking, and of its zones
pub record CardLaws (a : Architecture) : Type 0 where
  pub one_trap : (t u : ℕ) (p : Point) → StandsAt a t p → StandsAt a u p → t ≡ u
  pub on_the_field : (t : ℕ) (p : Point) → StandsAt a t p → (p.x + a.figures.park ≤ 1000000) × (p.y + a.figures.park ≤ 1000000)
  pub corners_apart : (t u : ℕ) (p q r s : Point) → t ≢ u → StandsAt a t p → StandsAt a u q
      → IsCorner a.figures.park p r → IsCorner a.figures.park q s → IsFarther a.figures.reach r s
  pub parked_apart : (t u : ℕ) (p q r : Point) → StandsAt a t p → StandsAt a u q
      → IsParkedBeside a.figures.park p r → IsFarther a.figures.reach r q
  pub one_zone : (t m n : ℕ) → IsInZone a t m → IsInZone a t n → m ≡ n
  pub one_kind : (zone t u : ℕ) (p q : Point) → IsInZone a t zone → IsInZone a u zone → StandsAt a t p → StandsAt a u q
      → t < storage_count a → u < storage_count a
  pub grid : (zone t u : ℕ) (p q : Point) → IsInZone a t zone → IsInZone a u zone → StandsAt a t p → StandsAt a u q
      → (v : ℕ) × IsInZone a v zone × StandsAt a v (record { x = p.x; y = q.y })
  pub columns : (zone t u : ℕ) (p q : Point) → IsInZone a t zone → IsInZone a u zone → StandsAt a t p → StandsAt a u q
      → p.x < q.x → p.x + a.figures.park + a.figures.gap ≤ q.x
  pub rows : (zone t u : ℕ) (p q : Point) → IsInZone a t zone → IsInZone a u zone → StandsAt a t p → StandsAt a u q
      → p.y < q.y → p.y + a.figures.park + a.figures.gap ≤ q.y
  pub counts : storage_count a ≤ trap_count a
  pub park_least : 1 ≤ a.figures.park

-- the moves are a group on the card
abbrev pub Grouped : Architecture → List Shift → Type 0
Grouped a shifts = IsGroup (record { card = a; shifts = shifts })
