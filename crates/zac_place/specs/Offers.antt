-- Inside: which storage traps are offered to leaving atoms, and the prices of all of them.
use Rattle.std.specs.Prelude.{ℕ, ◌≡◌, ◌==◌, ◌+◌, List, [], ◌∷◌, length, min, ℤ, pos, if◌then◌else◌}
use Rattle.std.specs.List.{All, Contains}
use Rattle.zac_place.specs.Returns.{AreNear, trap_in}
use Rattle.zac_world.specs.Places.{Places, empty_storage}
use Rattle.zac_world.specs.Nearest.{AreNearest}

-- all that are nearest to a leaving qubit are offered, one more than leaving qubits or as many as there are
pub record HasNearest (p : Places) (leaving offered : List ℕ) (q : ℕ) : Type 0 where
  pub nearest : List ℕ
  pub are : AreNearest p (trap_in p q) (length leaving + 1) nearest
  pub many : length nearest ≡ min (length leaving + 1) (length (empty_storage p))
  pub offers : All (Contains offered) nearest

-- just those that are nearest to some leaving qubit are offered
pub record AreOffered (p : Places) (leaving offered : List ℕ) : Type 0 where
  pub near : AreNear p leaving offered
  pub complete : All (HasNearest p leaving offered) leaving

-- the price of a place among those that are offered, and 0 where it isn't offered
abbrev pub price_of : List ℕ → List ℤ → ℕ → ℤ
price_of [] prices place = pos 0
price_of (o ∷ os) [] place = pos 0
price_of (o ∷ os) (p ∷ ps) place = if o == place then p else price_of os ps place
