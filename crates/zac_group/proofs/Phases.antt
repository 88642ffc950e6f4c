-- Phases in other orders, and parts of them.
use Rattle.std.proofs.Common.{◌≡◌, ◌≢◌, ℕ, zero, suc, ◌≤◌, ◌==◌, Bool, true, false, cond, inl, inr, List, [], ◌∷◌, length, map, sym, subst, arith, All}
use Rattle.std.specs.List.{AllPairs}
use Rattle.std.specs.List.Sorted.{IsPermutation}
use Rattle.std.proofs.lemmas.List.Elements.{All-cons, All-head, All-nil, All-tail}
use Rattle.std.proofs.lemmas.List.Sorted.{All-permutation, IsPermutation-map, length_permutation}
use Rattle.zac_arch.specs.Architecture.{Architecture, StandsAt, storage_count, trap_count}
use Rattle.zac_arch.specs.declared.place.Point.{Point}
use Rattle.zac_group.specs.declared.members.Members.{Members}
use Rattle.zac_group.specs.declared.route.Route.{Route}
use Rattle.zac_group.specs.declared.shift.Shift.{Shift}
use Rattle.zac_group.specs.FirstFit.{members}
use Rattle.zac_group.specs.Groups.{IsGroup, IsPhase, IsWithinLimits}
use Rattle.zac_group.specs.Members.{IsMembers, IsRoute, moves}
use Rattle.zac_group.specs.Moves.{HasTraps, IsBetweenKinds, IsCompatible, source_x, source_y}
use Rattle.zac_group.specs.Turns.{IsBySource}
use Rattle.zac_group.proofs.Distinct.{count_permutes}
use Rattle.zac_group.proofs.MemberFacts.{compatible_back}
use Rattle.zac_group.proofs.Orders.{pairs_cons, pairs_permute, pairs_tail}
use Rattle.zac_group.proofs.Turning.{starts_in_order}

pub phase_permutes : (a : Architecture) (ss ts : List Shift) → IsPermutation ss ts → IsPhase a ss → IsPhase a ts
phase_permutes a ss ts permutes h = record {
  qubits = pairs_permute Shift (λ (s t : Shift). s.q ≢ t.q) (λ s t ne e. ne (sym e)) ss ts permutes h.qubits;
  sources = pairs_permute Shift (λ (s t : Shift). s.from ≢ t.from) (λ s t ne e. ne (sym e)) ss ts permutes h.sources;
  targets = pairs_permute Shift (λ (s t : Shift). s.to ≢ t.to) (λ s t ne e. ne (sym e)) ss ts permutes h.targets;
  between = All-permutation (IsBetweenKinds a) ss ts permutes h.between;
}

-- what holds of each move, or of each and the later ones, holds of those of one group
one_more : (P : List Shift → Type 0) (b : Bool) (s : Shift) (ss : List Shift) → P (s ∷ ss) → P ss → P (cond b (s ∷ ss) ss)
one_more P true s ss both rest = both
one_more P false s ss both rest = rest

pub all_members : (P : Shift → Type 0) (ss : List Shift) (ns : List ℕ) (g : ℕ) → All P ss → All P (members ss ns g)
all_members P [] ns g h = All-nil P
all_members P (s ∷ ss) [] g h = All-nil P
all_members P (s ∷ ss) (n ∷ ns) g h =
    let rest = all_members P ss ns g (All-tail P s ss h) in
    one_more (All P) (n == g) s (members ss ns g) (All-cons P s (members ss ns g) (All-head P s ss h) rest) rest

pub pairs_members : (R : Shift → Shift → Type 0) (ss : List Shift) (ns : List ℕ) (g : ℕ) → AllPairs R ss → AllPairs R (members ss ns g)
pairs_members R [] ns g h = λ i j d lt j_in. absurd (omega arith)
pairs_members R (s ∷ ss) [] g h = λ i j d lt j_in. absurd (omega arith)
pairs_members R (s ∷ ss) (n ∷ ns) g h =
    let rest = pairs_members R ss ns g (pairs_tail R s ss h) in
    let later : All (R s) (members ss ns g) = all_members (R s) ss ns g (λ k d lt. h zero (suc k) d (omega arith) (omega arith)) in
    one_more (AllPairs R) (n == g) s (members ss ns g) (pairs_cons R s (members ss ns g) later rest) rest

pub phase_members : (a : Architecture) (ss : List Shift) (ns : List ℕ) (g : ℕ) → IsPhase a ss → IsPhase a (members ss ns g)
phase_members a ss ns g h = record {
  qubits = pairs_members (λ (s t : Shift). s.q ≢ t.q) ss ns g h.qubits;
  sources = pairs_members (λ (s t : Shift). s.from ≢ t.from) ss ns g h.sources;
  targets = pairs_members (λ (s t : Shift). s.to ≢ t.to) ss ns g h.targets;
  between = all_members (IsBetweenKinds a) ss ns g h.between;
}

-- a move of a phase is between traps of the card
pub phase_traps : (a : Architecture) (ss : List Shift) → storage_count a ≤ trap_count a → IsPhase a ss → All (HasTraps a) ss
phase_traps a ss few h = λ k d lt.
    elim (h.between k d lt) [
      | inl w ↦ let from = w.0 in let to = w.1.1 in record { from_in = omega arith; to_in = to }
      | inr w ↦ let from = w.0.1 in let to = w.1 in record { from_in = from; to_in = omega arith }
    ]

within_permutes : (a : Architecture) (ss ts : List Shift) → IsPermutation ss ts → IsWithinLimits a ss → IsWithinLimits a ts
within_permutes a ss ts permutes h =
    let rows = h.rows in
    let columns = h.columns in
    let same_rows = count_permutes (map (source_y a) ss) (map (source_y a) ts) (IsPermutation-map (source_y a) ss ts permutes) in
    let same_columns = count_permutes (map (source_x a) ss) (map (source_x a) ts) (IsPermutation-map (source_x a) ss ts permutes) in
    record { rows = omega arith; columns = omega arith }

pub moves_permute : (rs qs : List Route) → IsPermutation rs qs → IsPermutation (moves rs) (moves qs)
moves_permute rs qs permutes = IsPermutation-map (λ (r : Route). r.shift) rs qs permutes

-- the moves of a group by source
pub group_made : (a : Architecture) (m : Members) (qs : List Route) (ts : List Shift) → ((t u : ℕ) (p : Point) → StandsAt a t p → StandsAt a u p → t ≡ u) →
    IsMembers a m → IsPhase a (moves m.routes.items) → IsPermutation m.routes.items qs → AllPairs IsBySource qs → ts ≡ moves qs →
    IsGroup (record { card = a; shifts = ts })
group_made a m qs ts one_trap h phase permutes by is =
    let ss = moves m.routes.items in
    let moved : IsPermutation ss (moves qs) = moves_permute m.routes.items qs permutes in
    let some = h.some in
    let phase_too = phase_permutes a ss (moves qs) moved phase in
    subst (λ (l : List Shift). IsGroup (record { card = a; shifts = l })) (sym is)
    (record {
      some = omega (arith, length_permutation ss (moves qs) moved, some_moves m.routes.items some);
      phase = phase_too;
      compatible = pairs_permute Shift (IsCompatible a) (compatible_back a) ss (moves qs) moved h.compatible;
      within = within_permutes a ss (moves qs) moved h.within;
      in_order = starts_in_order a qs one_trap (All-permutation (IsRoute a) m.routes.items qs permutes h.routes) phase_too.sources by;
    })
  where
    some_moves : (rs : List Route) → 1 ≤ length rs → 1 ≤ length (moves rs)
    some_moves [] some = absurd (omega arith)
    some_moves (r ∷ rs) some = omega arith
