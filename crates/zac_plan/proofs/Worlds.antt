-- Where the qubits of a world rest, and the world of such a list.
use Rattle.std.proofs.Common.{◌≡◌, ◌≢◌, ℕ, zero, suc, ◌==◌, not, false, IsTrue, Some, List, [], ◌∷◌, length, map, refl, sym, ap, ◌∙◌, slice_get}
use Rattle.std.specs.Prelude.{slice_index}
use Rattle.std.specs.List.{list_any}
use Rattle.std.proofs.lemmas.Bool.{ne_eqb, or_from}
use Rattle.std.proofs.lemmas.List.{length-map}
use Rattle.zac_arch.specs.Architecture.{Architecture}
use Rattle.zac_arch.specs.declared.place.TrapId.{TrapId}
use Rattle.zac_world.specs.Places.{Places, is_empty}
use Rattle.zac_plan.specs.Plan.{places, trap_of}
use Rattle.zac_plan.specs.Seats.{rests_in}

-- the trap of a number
abbrev trap : ℕ → TrapId
trap n = record { 0 = n }

numbers_of_traps : (ns : List ℕ) → map (λ (t : TrapId). t.0) (map trap ns) ≡ ns
numbers_of_traps [] = refl
numbers_of_traps (n ∷ ns) = ap (λ (l : List ℕ). n ∷ l) (numbers_of_traps ns)

traps_of_numbers : (ts : List TrapId) → map trap (map (λ (t : TrapId). t.0) ts) ≡ ts
traps_of_numbers [] = refl
traps_of_numbers (t ∷ ts) = ap (λ (l : List TrapId). t ∷ l) (traps_of_numbers ts)

-- a world is the places of where its qubits rest
pub places_of_world : (a : Architecture) (p : Places) → p.architecture ≡ a → places a (rests_in p) ≡ p
places_of_world a p its_card =
    ap (λ (b : Architecture). places b (rests_in p)) (sym its_card)
    ∙ ap (λ (l : List ℕ). record { architecture = p.architecture; traps = l }) (numbers_of_traps p.traps)

-- in the places of a list the qubits rest as in the list
pub rests_of_places : (a : Architecture) (rests : List TrapId) → rests_in (places a rests) ≡ rests
rests_of_places a rests = traps_of_numbers rests

trap_at : (ns : List ℕ) (q : ℕ) → (trap_of (map trap ns) q).0 ≡ slice_index ns q
trap_at [] zero = refl
trap_at [] (suc q) = refl
trap_at (n ∷ ns) zero = refl
trap_at (n ∷ ns) (suc q) = trap_at ns q

-- a qubit rests in the trap of its number
pub trap_of_world : (p : Places) (q : ℕ) → (trap_of (rests_in p) q).0 ≡ slice_index p.traps q
trap_of_world p q = trap_at p.traps q

rests_at : (ns : List ℕ) (q n : ℕ) → slice_get ns q ≡ Some n → slice_get (map trap ns) q ≡ Some (trap n)
rests_at [] zero n h = cc
rests_at [] (suc q) n h = cc
rests_at (m ∷ ms) zero n h = let same : m ≡ n = cc in ap (λ (k : ℕ). Some (trap k)) same
rests_at (m ∷ ms) (suc q) n h = rests_at ms q n h

rests_only_at : (ns : List ℕ) (q n : ℕ) → slice_get (map trap ns) q ≡ Some (trap n) → slice_get ns q ≡ Some n
rests_only_at [] zero n h = cc
rests_only_at [] (suc q) n h = cc
rests_only_at (m ∷ ms) zero n h =
    let traps : trap m ≡ trap n = cc in
    ap (λ (t : TrapId). Some t.0) traps
rests_only_at (m ∷ ms) (suc q) n h = rests_only_at ms q n h

-- a qubit rests in a trap exactly if the world has it there
pub rests_in_world : (p : Places) (q n : ℕ) → slice_get p.traps q ≡ Some n → slice_get (rests_in p) q ≡ Some (trap n)
rests_in_world p q n h = rests_at p.traps q n h

pub world_rests_in : (p : Places) (q n : ℕ) → slice_get (rests_in p) q ≡ Some (trap n) → slice_get p.traps q ≡ Some n
world_rests_in p q n h = rests_only_at p.traps q n h

trap_of_at : (rests : List TrapId) (q : ℕ) (t : TrapId) → slice_get rests q ≡ Some t → trap_of rests q ≡ t
trap_of_at [] zero t h = cc
trap_of_at [] (suc q) t h = cc
trap_of_at (u ∷ us) zero t h = cc
trap_of_at (u ∷ us) (suc q) t h = trap_of_at us q t h

-- what a world says of the trap of a qubit
pub trap_of_qubit : (p : Places) (q n : ℕ) → slice_get p.traps q ≡ Some n → trap_of (rests_in p) q ≡ trap n
trap_of_qubit p q n h = trap_of_at (rests_in p) q (trap n) (rests_in_world p q n h)

-- there are as many of both
pub length-rests_in : (p : Places) → length (rests_in p) ≡ length p.traps
length-rests_in p = length-map p.traps trap

none_rests : (rests : List TrapId) (t : TrapId) → ((q : ℕ) → slice_get rests q ≢ Some t) → list_any (λ n. n == t.0) (map (λ (u : TrapId). u.0) rests) ≡ false
none_rests [] t none = refl
none_rests (u ∷ us) t none =
    or_from (u.0 == t.0) (list_any (λ n. n == t.0) (map (λ (v : TrapId). v.0) us))
    (ne_eqb u.0 t.0 (λ e. none 0 (ap (λ n. Some (trap n)) e)))
    (none_rests us t (λ q. none (suc q)))

-- a trap in which no atom of a list rests is empty
pub is_empty_from_none : (rests : List TrapId) (t : TrapId) → ((q : ℕ) → slice_get rests q ≢ Some t) → IsTrue (is_empty (map (λ (u : TrapId). u.0) rests) t.0)
is_empty_from_none rests t none = ap not (none_rests rests t none)
