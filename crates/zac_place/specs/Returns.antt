-- Which empty storage trap each leaving atom goes to.
use Rattle.std.specs.Prelude.{ℕ, ◌+◌, ◌<◌, ◌≤◌, List, length, slice_index}
use Rattle.std.specs.List.{All, Any}
use Rattle.zac_arch.specs.Architecture.{storage_count, trap_count}
use Rattle.zac_world.specs.Places.{Places}
use Rattle.zac_world.specs.Nearest.{trap_distance, IsAmongNearest}

-- The trap that a qubit rests in.
abbrev pub trap_in : Places → ℕ → ℕ
trap_in p q = slice_index p.traps q

-- The qubit exists, and rests in a trap of an entangling zone.
pub record IsEntangling (p : Places) (q : ℕ) : Type 0 where
  pub exists : q < length p.traps
  pub from : storage_count p.architecture ≤ trap_in p q
  pub below : trap_in p q < trap_count p.architecture

-- How far the leaving qubit at this place of the list is from a trap.
abbrev pub return_cost : Places → List ℕ → ℕ → ℕ → ℕ
return_cost p leaving row trap = trap_distance p.architecture (trap_in p (slice_index leaving row)) trap

-- Each target is among the nearest empty storage traps of some leaving qubit, of which there are one more than leaving
-- qubits.
abbrev pub AreNear : Places → List ℕ → List ℕ → Type 0
AreNear p leaving targets =
    All (λ t. Any (λ q. IsAmongNearest p (trap_in p q) (length leaving + 1) t) leaving) targets
