-- Which site each new gate takes.
use Rattle.std.specs.Prelude.{ℕ, ◌+◌, ◌<◌, ◌==◌, ◌&&◌, ◌||◌, Bool, nat_lt, List, length, slice_index_or, if◌then◌else◌}
use Rattle.zac_arch.specs.Architecture.{Architecture, storage_count, left_trap, right_trap}
use Rattle.zac_world.specs.Places.{Places}
use Rattle.zac_world.specs.Nearest.{point_of, trap_distance}
use Rattle.zac_place.specs.Returns.{trap_in}

-- The first trap stands at a smaller x than the second one, or at the same x and has the smaller number.
abbrev pub comes_before : Architecture → ℕ → ℕ → Bool
comes_before a t u = nat_lt (point_of a t).x (point_of a u).x || ((point_of a t).x == (point_of a u).x && nat_lt t u)

-- Of a gate's two qubits, the one whose trap comes before that of the other.
abbrev pub left_qubit : Places → ℕ × ℕ → ℕ
left_qubit p gate = if comes_before p.architecture (trap_in p gate.0) (trap_in p gate.1) then gate.0 else gate.1

-- The other one.
abbrev pub right_qubit : Places → ℕ × ℕ → ℕ
right_qubit p gate = if comes_before p.architecture (trap_in p gate.0) (trap_in p gate.1) then gate.1 else gate.0

-- How far two traps are from those of a site, added: the first from the left trap, the second from the right one.
abbrev pub site_distance : Architecture → ℕ → ℕ → ℕ → ℕ
site_distance a first second site = trap_distance a first (left_trap a site) + trap_distance a second (right_trap a site)

-- How far a gate's qubits are from a site, the left qubit from the left trap and the right one from the right trap.
abbrev pub gate_distance : Places → ℕ × ℕ → ℕ → ℕ
gate_distance p gate site =
    site_distance p.architecture (trap_in p (left_qubit p gate)) (trap_in p (right_qubit p gate)) site

-- What the gate at this place of the list pays at a site.
abbrev pub site_cost : Places → List (ℕ × ℕ) → ℕ → ℕ → ℕ
site_cost p gates row site = gate_distance p (slice_index_or gates row (0, 0)) site

-- The qubit exists, and rests in a storage trap.
pub record IsStored (p : Places) (q : ℕ) : Type 0 where
  pub exists : q < length p.traps
  pub below : trap_in p q < storage_count p.architecture

-- Both qubits of a gate exist, and rest in storage traps.
abbrev pub AreStored : Places → ℕ × ℕ → Type 0
AreStored p gate = IsStored p gate.0 × IsStored p gate.1
