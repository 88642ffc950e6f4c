-- The two gates of a kept pair share a qubit, which stays; and which gates are held.
use Rattle.std.proofs.Common.{◌≡◌, ◌≢◌, ℕ, ◌≤◌, inl, inr, ◌==◌, ◌&&◌, true, not, IsTrue, List, [], ◌∷◌, Some, get_or, refl, sym, ap, ◌∙◌, subst, arith, slice_get}
use Rattle.std.specs.Prelude.{nat_lt}
use Rattle.std.specs.List.{AllPairs, Contains}
use Rattle.std.proofs.lemmas.Bool.{and_from, both_ways, eq-eqb, le-ltb, ltb-false, not-true, not_from_false, or_cases, or_left, or_right}
use Rattle.std.proofs.lemmas.List.Elements.{All-contains, Contains-get_or}
use Rattle.std.proofs.lemmas.List.Folds.{list_any-from_Any}
use Rattle.zac_arch.specs.Architecture.{Architecture, storage_count}
use Rattle.zac_arch.specs.declared.place.TrapId.{TrapId}
use Rattle.zac_gates.specs.Ops.{Names}
use Rattle.zac_gates.specs.declared.circuit.Op.{Op}
use Rattle.zac_gates.specs.declared.circuit.Op.TheVariants.{One, Two, Fence, Read}
use Rattle.zac_reuse.specs.Keeping.{IsKeeping, MayKeep}
use Rattle.zac_stage.specs.Numbers.{is_pair}
use Rattle.zair_form.specs.declared.step.PairOf.{PairOf}
use Rattle.zac_plan.specs.Plan.{has_qubit, is_at_site, is_held, is_on, leaving, pairs_at, qubits_of, stays, trap_of}
use Rattle.zac_plan.specs.Seats.{IsPulse}
use Rattle.zac_plan.proofs.Lists.{any_from_contained, contained_in_filter, contains_one}
use Rattle.zac_plan.proofs.Resting.{trap_is}
use Rattle.zac_plan.proofs.Staged.{pair_at}
use Rattle.zac_plan.proofs.Staying.{IsGateOn, IsOn, one_of_number, pair_listed}

-- the ops of these numbers are pairs
abbrev pub ArePairNumbers : List Op → List ℕ → Type 0
ArePairNumbers ops numbers = (n : ℕ) → Contains numbers n → IsTrue (is_pair (slice_get ops n))

-- a pair that names a qubit is on it
names_on : (ops : List Op) (numbers : List ℕ) (n q : ℕ) (what : Op) → Contains numbers n → slice_get ops n ≡ Some what → IsTrue (is_pair (Some what)) → Names what q → IsGateOn ops numbers n q
names_on ops numbers n q (One r angles) listed at pair names = cc
names_on ops numbers n q (Two r s) listed at pair names =
    let p : PairOf = record { op = n; a = r; b = s } in
    record { pair = p; listed = pair_listed ops numbers p listed at; number = refl; on = names }
names_on ops numbers n q Fence listed at pair names = cc
names_on ops numbers n q (Read r bit) listed at pair names = cc

has_from : (p : PairOf) (q : ℕ) → IsOn p q → has_qubit q p ≡ true
has_from p q (inl e) = or_left (p.a == q) (p.b == q) (eq-eqb p.a q e)
has_from p q (inr e) = or_right (p.a == q) (p.b == q) (eq-eqb p.b q e)

is_on_from : (ops : List Op) (numbers : List ℕ) (n q : ℕ) → IsGateOn ops numbers n q → is_on ops q n ≡ true
is_on_from ops numbers n q on =
    let p = on.pair in
    let number = on.number in
    let alone : Contains (pairs_at ops (n ∷ [])) p =
    pair_listed ops (n ∷ []) p (subst (λ m. Contains (m ∷ []) p.op) number (contains_one p.op)) (pair_at ops numbers p on.listed).at in
    list_any-from_Any (has_qubit q) (pairs_at ops (n ∷ []))
    (any_from_contained (λ (r : PairOf). has_qubit q r ≡ true) (pairs_at ops (n ∷ [])) p alone (has_from p q on.on))

-- a kept pair's gates share a qubit
pub record IsShared (ops : List Op) (before pulse : List ℕ) (gates : ℕ × ℕ) : Type 0 where
  pub qubit : ℕ
  pub old : IsGateOn ops before gates.0 qubit
  pub new : IsGateOn ops pulse gates.1 qubit

module _ (ops : List Op) (before pulse : List ℕ) (kept : List (ℕ × ℕ)) where
  pub is_shared : IsKeeping ops before pulse kept → ArePairNumbers ops before → ArePairNumbers ops pulse → (gates : ℕ × ℕ) → Contains kept gates → IsShared ops before pulse gates
  is_shared keeping olds news gates listed =
      let may = All-contains (MayKeep ops before pulse) kept gates keeping.each listed in
      let s = may.shared in
      record {
        qubit = s.qubit;
        old = names_on ops before gates.0 s.qubit s.a may.old s.a_is (ap is_pair (sym s.a_is) ∙ olds gates.0 may.old) s.a_names;
        new = names_on ops pulse gates.1 s.qubit s.b may.new s.b_is (ap is_pair (sym s.b_is) ∙ news gates.1 may.new) s.b_names;
      }

  -- so that qubit does not leave
  pub shared_stays : (gates : ℕ × ℕ) → Contains kept gates → (shared : IsShared ops before pulse gates) → ¬ Contains (leaving ops (pairs_at ops before) kept) shared.qubit
  shared_stays gates listed shared leaves =
      let q = shared.qubit in
      let stay : stays ops kept q ≡ true =
      list_any-from_Any (λ (k : ℕ × ℕ). is_on ops q k.0 && is_on ops q k.1) kept
      (any_from_contained (λ (k : ℕ × ℕ). (is_on ops q k.0 && is_on ops q k.1) ≡ true) kept gates listed
      (and_from (is_on ops q gates.0) (is_on ops q gates.1) (is_on_from ops before gates.0 q shared.old) (is_on_from ops pulse gates.1 q shared.new))) in
      let not_so = (contained_in_filter (λ r. not (stays ops kept r)) (qubits_of (pairs_at ops before)) q leaves).1 in
      both_ways (stays ops kept q) (not-true (stays ops kept q) not_so) stay

-- pairs of a pulse have different numbers
pub numbers_differ : (a : Architecture) (n : ℕ) (ops : List Op) (numbers : List ℕ) → IsPulse a n (pairs_at ops numbers) → AllPairs (λ (p r : PairOf). p.op ≢ r.op) (pairs_at ops numbers)
numbers_differ a n ops numbers pulse i j d before within e =
    let pairs : List PairOf = pairs_at ops numbers in
    let p : PairOf = get_or pairs i d in
    let r : PairOf = get_or pairs j d in
    let one = one_of_number ops numbers numbers p r (Contains-get_or pairs i d (omega arith)) (Contains-get_or pairs j d within) e in
    (pulse.apart i j d before within).aa (ap (λ (x : PairOf). x.a) one)

-- a gate is held where a qubit of it rests at a site, and only there
pub held_at : (a : Architecture) (rests : List TrapId) (p : PairOf) (q : ℕ) (t : TrapId) → IsOn p q → slice_get rests q ≡ Some t → storage_count a ≤ t.0 → is_held a rests p ≡ true
held_at a rests p q t on at above =
    let is : trap_of rests q ≡ t = trap_is rests q t at in
    let number : (trap_of rests q).0 ≡ t.0 = ap (λ (x : TrapId). x.0) is in
    let there : is_at_site a rests q ≡ true = not_from_false (nat_lt (trap_of rests q).0 (storage_count a)) (le-ltb (trap_of rests q).0 (storage_count a) (omega arith)) in
    elim on [
      | inl e ↦ or_left (is_at_site a rests p.a) (is_at_site a rests p.b) (ap (is_at_site a rests) e ∙ there)
      | inr e ↦ or_right (is_at_site a rests p.a) (is_at_site a rests p.b) (ap (is_at_site a rests) e ∙ there)
    ]

-- a qubit of the pair rests at a site
pub record HasQubitAtSite (a : Architecture) (rests : List TrapId) (p : PairOf) : Type 0 where
  pub qubit : ℕ
  pub on : IsOn p qubit
  pub above : storage_count a ≤ (trap_of rests qubit).0

at_site : (a : Architecture) (rests : List TrapId) (q : ℕ) → is_at_site a rests q ≡ true → storage_count a ≤ (trap_of rests q).0
at_site a rests q is = ltb-false (trap_of rests q).0 (storage_count a) (not-true (nat_lt (trap_of rests q).0 (storage_count a)) is)

pub held_qubit : (a : Architecture) (rests : List TrapId) (p : PairOf) → is_held a rests p ≡ true → HasQubitAtSite a rests p
held_qubit a rests p held = elim (or_cases (is_at_site a rests p.a) (is_at_site a rests p.b) held) [
  | inl is ↦ record { qubit = p.a; on = inl refl; above = at_site a rests p.a is }
  | inr is ↦ record { qubit = p.b; on = inr refl; above = at_site a rests p.b is }
]
