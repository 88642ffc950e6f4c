-- Inside: which atoms rest at which site, and which listed pairs are wrong, found by site.
use Rattle.std.specs.Prelude.{◌≡◌, ◌≢◌, ℕ, ◌+◌, ◌*◌, ◌<◌, ◌≤◌, ◌⊎◌, Bool, false, Option, Some, None, IsTrue, List, take, slice_get, slice_index_or, min, max}
use Rattle.std.specs.List.{Any}
use Rattle.zac_arch.specs.Architecture.{Architecture, StandsAt, IsLit, IsTrapOf, left_trap, right_trap, storage_count, site_count, trap_count}
use Rattle.zac_arch.specs.Distances.{IsWithin}
use Rattle.zac_arch.specs.declared.place.Point.{Point}
use Rattle.zac_arch.specs.declared.place.TrapId.{TrapId}
use Rattle.zair_form.specs.declared.step.PairOf.{PairOf}
use Rattle.zair_state.specs.Least.{IsNoLater}
use Rattle.zair_state.specs.declared.place.Place.TheVariants.{Trap}
use Rattle.zair_state.specs.State.{State, IsAt}

-- Behind the storage traps come two for each site; a pulse lights just these, and two of them are within the blockade
-- radius exactly where they are of one site.
pub record HasSiteLaws (a : Architecture) : Type 0 where
  pub counts : trap_count a ≡ storage_count a + 2 * site_count a
  pub dark : (t : ℕ) → (p : Point) → t < storage_count a → StandsAt a t p → ¬ IsLit a p
  pub lit : (t : ℕ) → (p : Point) → storage_count a ≤ t → StandsAt a t p → IsLit a p
  pub within : (site : ℕ) → (p q : Point) → site < site_count a → StandsAt a (left_trap a site) p
      → StandsAt a (right_trap a site) q → IsWithin a.figures.radius p q
  pub one : (site other t u : ℕ) → (p q : Point) → IsTrapOf a site t → IsTrapOf a other u → StandsAt a t p → StandsAt a u q
      → IsWithin a.figures.radius p q → site ≡ other

-- The qubit rests in one of the two traps of this site.
abbrev pub RestsAtSite : Architecture → State → ℕ → ℕ → Type 0
RestsAtSite a s site q = (t : TrapId) × IsAt s q (Trap t) × IsTrapOf a site t.0

-- Two different qubits rest in the traps of this site.
abbrev pub AreTogether : Architecture → State → ℕ → ℕ → ℕ → Type 0
AreTogether a s site q r = (q ≢ r) × RestsAtSite a s site q × RestsAtSite a s site r

-- The site is marked.
abbrev pub IsMarked : List Bool → ℕ → Type 0
IsMarked marks site = IsTrue (slice_index_or marks site false)

-- The pair has these qubits, the smaller first.
abbrev pub IsInOrder : PairOf → ℕ → ℕ → Type 0
IsInOrder p q r = (min p.a p.b ≡ q) × (max p.a p.b ≡ r)

-- The qubits of the pair at this place rest at no common site, or at one at which an earlier pair's qubits rest together.
abbrev pub IsMisplaced : Architecture → State → List PairOf → ℕ → PairOf → Type 0
IsMisplaced a s pairs k p =
    ((site : ℕ) → ¬ AreTogether a s site p.a p.b)
    ⊎ ((site : ℕ) × AreTogether a s site p.a p.b × Any (λ (p' : PairOf). AreTogether a s site p'.a p'.b) (take k pairs))

-- A pair with these qubits, the smaller first, stands in the list and is misplaced there.
abbrev pub IsListedWrong : Architecture → State → List PairOf → ℕ → ℕ → Type 0
IsListedWrong a s pairs q r =
    (p : PairOf) × (k : ℕ) × (slice_get pairs k ≡ Some p) × IsInOrder p q r × IsMisplaced a s pairs k p

-- The qubits, the smaller first, rest together at a site that isn't marked.
abbrev pub IsUnlisted : Architecture → State → List Bool → ℕ → ℕ → Type 0
IsUnlisted a s marks q r = (q ≤ r) × ((site : ℕ) × AreTogether a s site q r × ¬ IsMarked marks site)

-- The qubit rests at a site, and no other one rests there.
abbrev pub IsAloneAtSite : Architecture → State → ℕ → Type 0
IsAloneAtSite a s q = (site : ℕ) × RestsAtSite a s site q × ((r : ℕ) → ¬ AreTogether a s site q r)

-- Of two pairs of numbers, either of which may be missing, the one that comes first.
abbrev pub IsEarlierOf : Option (ℕ × ℕ) → Option (ℕ × ℕ) → Option (ℕ × ℕ) → Type 0
IsEarlierOf None None o = o ≡ None
IsEarlierOf None (Some q) o = o ≡ Some q
IsEarlierOf (Some p) None o = o ≡ Some p
IsEarlierOf (Some p) (Some q) o = ((o ≡ Some p) × IsNoLater p q) ⊎ ((o ≡ Some q) × IsNoLater q p)
