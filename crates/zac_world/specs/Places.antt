-- Which trap each qubit rests in.
use Rattle.std.specs.Prelude.{◌≡◌, ◌==◌, ℕ, ◌<◌, Bool, not, IsSome, List, length, map, filter, Option, unwrap_or}
use Rattle.std.specs.List.{list_any, range_with_len}
use Rattle.zac_arch.specs.Architecture.{Architecture, trap_count, storage_count}
use Rattle.zac_pairing.specs.Pairing.{mate}

-- An architecture, and for each qubit the number of the trap in which its atom rests. It is the model of a `World`.
pub record Places : Type 0 where
  pub architecture : Architecture
  pub traps : List ℕ

-- No atom rests in the trap of this number.
abbrev pub is_empty : List ℕ → ℕ → Bool
is_empty traps t = not (list_any (λ x. x == t) traps)

-- The numbers of the storage traps in which no atom rests, rising.
abbrev pub empty_storage : Places → List ℕ
empty_storage p = filter (is_empty p.traps) (range_with_len 0 (storage_count p.architecture))

-- the traps of the left ends of a pairing, where each has one
abbrev pub traps_of : List (Option ℕ) → List ℕ
traps_of left = map (λ o. unwrap_or o 0) left

-- each qubit has a trap, and there is a place for each trap of the card
pub record ArePlaced (a : Architecture) (left right : List (Option ℕ)) : Type 0 where
  pub placed : (q : ℕ) → q < length left → IsSome (mate left q)
  pub all_traps : length right ≡ trap_count a
