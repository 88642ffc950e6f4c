-- Where qubits rest, and where they rest after moves.
use Rattle.std.proofs.Common.{◌≡◌, ◌≢◌, ℕ, zero, suc, ◌<◌, ◌⊎◌, inl, inr, List, [], ◌∷◌, Some, length, get_or, set, map, refl, sym, ap, ◌∙◌, subst, arith, slice_get, length-set}
use Rattle.std.specs.List.{All, AllPairs, Contains}
use Rattle.std.specs.Option.{option_map}
use Rattle.std.proofs.lemmas.List.Elements.{Contains-get_or}
use Rattle.std.proofs.lemmas.Option.{get_or_from_slice_get, same_Some, slice_get-get_or, slice_get-map}
use Rattle.zac_arch.specs.Architecture.{Architecture, trap_count}
use Rattle.zac_arch.specs.declared.place.TrapId.{TrapId}
use Rattle.zac_group.specs.Groups.{IsPhase}
use Rattle.zac_group.specs.Moves.{IsBetweenKinds}
use Rattle.zac_group.specs.declared.shift.Shift.{Shift}
use Rattle.zac_place.specs.Returns.{trap_in}
use Rattle.zac_plan.specs.Plan.{after_shifts, places, trap_of}
use Rattle.zac_plan.specs.Seats.{CanMake, RestApart, RestWell}
use Rattle.zac_plan.proofs.Distinct.{one_by_key}
use Rattle.zac_plan.proofs.Phases.{after_shifts-other, after_shifts-there, named_or_not}

-- a trap is its number
pub same_trap : (t u : TrapId) → t.0 ≡ u.0 → t ≡ u
same_trap t u e = λ i. record { 0 = e i }

-- two traps in which one qubit rests
pub same_number : (t u : TrapId) → Some t ≡ Some u → t.0 ≡ u.0
same_number t u e = ap (λ (x : TrapId). x.0) (same_Some t u e)

-- the trap of a qubit that rests there
pub trap_is : (rests : List TrapId) (q : ℕ) (t : TrapId) → slice_get rests q ≡ Some t → trap_of rests q ≡ t
trap_is rests q t at = get_or_from_slice_get rests q t (record { 0 = 0 }) at

-- a qubit that exists rests in its trap
pub rests_there : (rests : List TrapId) (q : ℕ) → q < length rests → slice_get rests q ≡ Some (trap_of rests q)
rests_there rests q within = slice_get-get_or rests q (record { 0 = 0 }) within

-- a world shows the same trap
pub trap_in_is : (a : Architecture) (rests : List TrapId) (q : ℕ) → trap_in (places a rests) q ≡ (trap_of rests q).0
trap_in_is a [] q = refl
trap_in_is a (t ∷ ts) zero = refl
trap_in_is a (t ∷ ts) (suc q) = trap_in_is a ts q

pub shown_at : (rests : List TrapId) (q : ℕ) (t : TrapId) → slice_get rests q ≡ Some t → slice_get (map (λ (u : TrapId). u.0) rests) q ≡ Some t.0
shown_at rests q t at = slice_get-map (λ (u : TrapId). u.0) rests q ∙ ap (option_map (λ (u : TrapId). u.0)) at

-- moves leave as many qubits
pub length-after_shifts : (rests : List TrapId) (shifts : List Shift) → length (after_shifts rests shifts) ≡ length rests
length-after_shifts rests [] = refl
length-after_shifts rests (s ∷ ss) = length-after_shifts (set rests s.q s.to) ss ∙ length-set rests s.q s.to

-- no move names the qubit
abbrev pub IsUnmoved : List Shift → ℕ → Type 0
IsUnmoved shifts q = (s : Shift) → Contains shifts s → s.q ≢ q

module _ (rests : List TrapId) (shifts : List Shift) (can_make : CanMake rests shifts) where
  -- where a qubit rests after moves: in the target of its move, or where it has rested
  pub moved_or_not : (q : ℕ) (t : TrapId) → slice_get (after_shifts rests shifts) q ≡ Some t →
      ((s : Shift) × Contains shifts s × (s.q ≡ q) × (s.to ≡ t)) ⊎ (IsUnmoved shifts q × (slice_get rests q ≡ Some t))
  moved_or_not q t at = elim (named_or_not shifts q) [
    | inl found ↦
        let s = found.0 in
        let there = after_shifts-there rests shifts s s.from can_make.atoms found.1 (can_make.each s found.1).rests in
        inl (s, found.1, found.2, same_Some s.to t (sym there ∙ ap (slice_get (after_shifts rests shifts)) found.2 ∙ at))
    | inr none ↦ inr (none, sym (after_shifts-other rests shifts q none) ∙ at)
  ]

  -- each move's source is a trap of its own
  pub sources_differ : RestApart rests → AllPairs (λ (s t : Shift). s.from ≢ t.from) shifts
  sources_differ apart i j d before within e =
      let s = get_or shifts i d in
      let t = get_or shifts j d in
      let first = (can_make.each s (Contains-get_or shifts i d (omega arith))).rests in
      let second = (can_make.each t (Contains-get_or shifts j d within)).rests in
      can_make.atoms i j d before within (apart s.q t.q s.from first (second ∙ ap (λ (x : TrapId). Some x) (sym e)))

  -- moves that can be made together are of one phase
  pub phase_of : (a : Architecture) → RestApart rests → All (IsBetweenKinds a) shifts → IsPhase a shifts
  phase_of a apart between = record {
    qubits = can_make.atoms;
    sources = sources_differ apart;
    targets = can_make.targets;
    between = between;
  }

  -- two qubits that rest in one trap after them are one
  pub apart_after : RestApart rests → RestApart (after_shifts rests shifts)
  apart_after apart q r t at_q at_r = elim (moved_or_not q t at_q) [
    | inl moved ↦ elim (moved_or_not r t at_r) [
      | inl other ↦
          let one = one_by_key (λ (s : Shift). s.to) shifts can_make.targets moved.0 other.0 moved.1 other.1 (moved.3 ∙ sym other.3) in
          sym moved.2 ∙ ap (λ (s : Shift). s.q) one ∙ other.2
      | inr stays ↦ absurd ((can_make.each moved.0 moved.1).empty r (stays.1 ∙ ap (λ (x : TrapId). Some x) (sym moved.3)))
    ]
    | inr stays ↦ elim (moved_or_not r t at_r) [
      | inl other ↦ absurd ((can_make.each other.0 other.1).empty q (stays.1 ∙ ap (λ (x : TrapId). Some x) (sym other.3)))
      | inr both ↦ apart q r t stays.1 both.1
    ]
  ]

  -- qubits that rest well do so after moves to traps of the card
  pub well_after : (a : Architecture) (n : ℕ) → RestWell a n rests → ((s : Shift) → Contains shifts s → s.to.0 < trap_count a) → RestWell a n (after_shifts rests shifts)
  well_after a n well within = record {
    long = length-after_shifts rests shifts ∙ well.long;
    in_card = λ q t at. elim (moved_or_not q t at) [
      | inl moved ↦ subst (λ (x : TrapId). x.0 < trap_count a) moved.3 (within moved.0 moved.1)
      | inr stays ↦ well.in_card q t stays.1
    ];
    apart = apart_after well.apart;
  }
