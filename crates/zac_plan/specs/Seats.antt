-- Inside: where the atoms of a pulse rest, and what moves them there.
use Rattle.std.specs.Prelude.{◌≡◌, ◌≢◌, ℕ, ◌<◌, ◌≤◌, ◌⊎◌, Some, List, length, map, slice_get}
use Rattle.std.specs.List.{All, AllPairs, Contains}
use Rattle.zac_arch.specs.Architecture.{Architecture, IsTrapOf, site_count, storage_count, trap_count}
use Rattle.zac_arch.specs.declared.place.TrapId.{TrapId}
use Rattle.zac_gates.specs.declared.circuit.Op.{Op}
use Rattle.zac_group.specs.Groups.{IsPhase}
use Rattle.zac_group.specs.declared.shift.Shift.{Shift}
use Rattle.zac_place.specs.Placing.{IsPlacing}
use Rattle.zac_place.specs.Returns.{IsEntangling}
use Rattle.zac_place.specs.Sites.{AreStored}
use Rattle.zac_world.specs.Places.{Places, empty_storage}
use Rattle.zair_form.specs.declared.step.PairOf.{PairOf}
use Rattle.zac_plan.specs.Plan.{arrivals, ends_of, free_sites, left, leaving, new_gates, places, right, shifts_to}

-- The traps in which the qubits of a world rest.
abbrev pub rests_in : Places → List TrapId
rests_in world = map (λ n. record { 0 = n }) world.traps

-- No two atoms rest in one trap.
abbrev pub RestApart : List TrapId → Type 0
RestApart rests = (q r : ℕ) (t : TrapId) → slice_get rests q ≡ Some t → slice_get rests r ≡ Some t → q ≡ r

-- Each of n qubits rests in a trap of its own.
pub record RestWell (a : Architecture) (n : ℕ) (rests : List TrapId) : Type 0 where
  pub long : length rests ≡ n
  pub in_card : (q : ℕ) (t : TrapId) → slice_get rests q ≡ Some t → t.0 < trap_count a
  pub apart : RestApart rests

-- A move can be made: its atom rests where it begins, and no atom where it ends.
pub record CanShift (traps : List TrapId) (s : Shift) : Type 0 where
  pub rests : slice_get traps s.q ≡ Some s.from
  pub empty : (q : ℕ) → slice_get traps q ≢ Some s.to

-- Moves can be made together: each of them can, no atom is moved twice, and no two go to one trap.
pub record CanMake (rests : List TrapId) (shifts : List Shift) : Type 0 where
  pub each : (s : Shift) → Contains shifts s → CanShift rests s
  pub atoms : AllPairs (λ (s t : Shift). s.q ≢ t.q) shifts
  pub targets : AllPairs (λ (s t : Shift). s.to ≢ t.to) shifts

-- Two pairs share no qubit.
pub record AreApart (p q : PairOf) : Type 0 where
  pub aa : p.a ≢ q.a
  pub ab : p.a ≢ q.b
  pub ba : p.b ≢ q.a
  pub bb : p.b ≢ q.b

-- A pulse that fits: at most as many pairs as there are sites, each of two qubits below n, no two with a common qubit.
pub record IsPulse (a : Architecture) (n : ℕ) (pairs : List PairOf) : Type 0 where
  pub few : length pairs ≤ site_count a
  pub each : (p : PairOf) → Contains pairs p → (p.a < n) × (p.b < n) × (p.a ≢ p.b)
  pub apart : AllPairs AreApart pairs

-- The qubits of a pair are below n.
abbrev pub HasQubitsBelow : ℕ → PairOf → Type 0
HasQubitsBelow n p = (p.a < n) × (p.b < n)

-- One of the pairs is on the qubit.
abbrev pub IsInPair : List PairOf → ℕ → Type 0
IsInPair pairs q = (p : PairOf) × Contains pairs p × ((p.a ≡ q) ⊎ (p.b ≡ q))

-- The atoms of a pair rest in the two traps of this site.
abbrev pub IsSeated : Architecture → List TrapId → ℕ → PairOf → Type 0
IsSeated a rests site p =
    ((slice_get rests p.a ≡ Some (left a site)) × (slice_get rests p.b ≡ Some (right a site)))
    ⊎ ((slice_get rests p.a ≡ Some (right a site)) × (slice_get rests p.b ≡ Some (left a site)))

-- Each pair rests at a site, and each atom of no pair in storage. So the qubits rest in a pulse with these pairs, and
-- before the first pulse where there are none.
pub record AreSeated (a : Architecture) (n : ℕ) (rests : List TrapId) (pairs : List PairOf) : Type 0 where
  pub well : RestWell a n rests
  pub seated : (p : PairOf) → Contains pairs p → (site : ℕ) × (site < site_count a) × IsSeated a rests site p
  pub others : (q : ℕ) (t : TrapId) → slice_get rests q ≡ Some t → IsInPair pairs q ⊎ (t.0 < storage_count a)

-- Between the returns and the arrivals: each atom at a site is of one of the pairs that come; two atoms at one site are
-- of one pair; and where both atoms of a pair are at sites, they are at one site.
pub record AreCleared (a : Architecture) (n : ℕ) (rests : List TrapId) (pairs : List PairOf) : Type 0 where
  pub well : RestWell a n rests
  pub of_pairs : (q : ℕ) (t : TrapId) → slice_get rests q ≡ Some t → storage_count a ≤ t.0 → IsInPair pairs q
  pub together : (q r site : ℕ) (t u : TrapId) → slice_get rests q ≡ Some t → slice_get rests r ≡ Some u →
      IsTrapOf a site t.0 → IsTrapOf a site u.0 →
      (p : PairOf) × Contains pairs p × ((p.a ≡ q) ⊎ (p.b ≡ q)) × ((p.a ≡ r) ⊎ (p.b ≡ r))
  pub whole : (p : PairOf) (t u : TrapId) → Contains pairs p → slice_get rests p.a ≡ Some t → slice_get rests p.b ≡ Some u →
      storage_count a ≤ t.0 → storage_count a ≤ u.0 → (site : ℕ) × IsSeated a rests site p

-- What `returns` and the moves home ask for.
pub record CanReturn (a : Architecture) (ops : List Op) (rests : List TrapId) (before : List PairOf) (kept : List (ℕ × ℕ)) : Type 0 where
  pub at_sites : All (IsEntangling (places a rests)) (leaving ops before kept)
  pub few : length (leaving ops before kept) ≤ length (empty_storage (places a rests))
  pub make : (traps : List ℕ) → IsPlacing (empty_storage (places a rests)) (length (leaving ops before kept)) traps →
      CanMake rests (shifts_to rests (leaving ops before kept) traps)
  pub phase : (traps : List ℕ) → IsPlacing (empty_storage (places a rests)) (length (leaving ops before kept)) traps →
      IsPhase a (shifts_to rests (leaving ops before kept) traps)

-- What `gate_sites` and the moves to the sites ask for.
pub record CanArrive (a : Architecture) (rests : List TrapId) (pairs : List PairOf) : Type 0 where
  pub below : All (HasQubitsBelow (length rests)) pairs
  pub in_storage : All (AreStored (places a rests)) (ends_of (new_gates a rests pairs))
  pub few : length (new_gates a rests pairs) ≤ length (free_sites a rests)
  pub make : (sites : List ℕ) → IsPlacing (free_sites a rests) (length (new_gates a rests pairs)) sites →
      CanMake rests (arrivals a rests pairs sites)
  pub phase : (sites : List ℕ) → IsPlacing (free_sites a rests) (length (new_gates a rests pairs)) sites →
      IsPhase a (arrivals a rests pairs sites)
