-- The order by begins exists, and the times allow it.
use Rattle.std.proofs.Common.{◌≡◌, ℕ, ◌<◌, ◌≤◌, ◌⊎◌, List, [], ◌∷◌, ◌++◌, refl, ap, subst, inl, inr, arith}
use Rattle.std.specs.List.{AllByRecursion}
use Rattle.zac_arch.specs.declared.card.Figures.{Figures}
use Rattle.zair_form.specs.declared.program.Instr.{Instr}
use Rattle.zair_form.specs.Times.{Timed, AreTimedSteps}
use Rattle.zair_state.specs.Orders.{IsOrderOf, IsAllowed, IsNamedBefore, IsNamedOrder}
use Rattle.zac_sched.proofs.AllowedOrders.{all_of_order, MayPrecede}
use Rattle.zac_sched.proofs.Later.{EachLater, AllPairs-from_later, all_from_two, all_with_middle, later_from_all}
use Rattle.zac_sched.proofs.Timing.{IsListedBefore}

which : (m n : ℕ) → (m ≤ n) ⊎ (n < m)
which m n = grind arith

below_or_same : (m n : ℕ) → m ≤ n → (m < n) ⊎ (m ≡ n)
below_or_same m n h = grind arith

-- a step that is listed first, and begins no later, is named first
named_before : (x y : Timed) → x.begin ≤ y.begin → IsListedBefore x y → IsNamedBefore x y
named_before x y early listed = elim (below_or_same x.begin y.begin early) [ inl below ↦ inl below | inr same ↦ inr (same, listed) ]

begins_no_later : (x y : Timed) → IsNamedBefore x y → x.begin ≤ y.begin
begins_no_later x y (inl below) = omega arith
begins_no_later x y (inr same) = let e : x.begin ≡ y.begin = same.0 in omega arith

-- where a step may be put among others, so that each is named before every later one
record HasPlaceFor (x : Timed) (ys : List Timed) : Type 0 where
  before : List Timed
  behind : List Timed
  split : ys ≡ before ++ behind
  named : EachLater IsNamedBefore (before ++ x ∷ behind)

-- it is put before the first of those, all listed after it, that begin no earlier
place_for : (x : Timed) (ys : List Timed) → AllByRecursion (IsListedBefore x) ys → EachLater IsNamedBefore ys → HasPlaceFor x ys
place_for x [] listed named = record { before = []; behind = []; split = refl; named = (tt, tt) }
place_for x (y ∷ ys) listed named = elim (which x.begin y.begin) [
  | inl early ↦ first_of_these x y ys early listed named
  | inr late ↦ behind_first x y ys late named.0 (place_for x ys listed.1 named.1)
]
  where
    first_of_these : (x y : Timed) (ys : List Timed) → x.begin ≤ y.begin → AllByRecursion (IsListedBefore x) (y ∷ ys) →
        EachLater IsNamedBefore (y ∷ ys) → HasPlaceFor x (y ∷ ys)
    first_of_these x y ys early listed named =
        let others = all_from_two (IsListedBefore x) (IsNamedBefore y) (IsNamedBefore x) ys
        (λ z h k. let later = begins_no_later y z k in named_before x z (omega arith) h) listed.1 named.0 in
        record { before = []; behind = y ∷ ys; split = refl; named = ((named_before x y early listed.0, others), named) }

    behind_first : (x y : Timed) (ys : List Timed) → y.begin < x.begin → AllByRecursion (IsNamedBefore y) ys →
        HasPlaceFor x ys → HasPlaceFor x (y ∷ ys)
    behind_first x y ys late named rest =
        let others = all_with_middle (IsNamedBefore y) rest.before x rest.behind (inl late)
        (subst (AllByRecursion (IsNamedBefore y)) rest.split named) in
        record {
          before = y ∷ rest.before;
          behind = rest.behind;
          split = ap (λ (zs : List Timed). y ∷ zs) rest.split;
          named = (others, rest.named);
        }

-- so the steps of a list in which each is listed before every later one have an order by begins
by_begins : (xs : List Timed) → EachLater IsListedBefore xs → (order : List Timed) × IsOrderOf xs order × EachLater IsNamedBefore order
by_begins [] listed = ([], refl, tt)
by_begins (x ∷ xs) listed =
    let rest = by_begins xs listed.1 in
    let there = place_for x rest.0 (all_of_order (IsListedBefore x) xs rest.0 rest.1 listed.0) rest.2 in (
      there.before ++ x ∷ there.behind,
      (there.before, there.behind, refl, subst (IsOrderOf xs) there.split rest.1),
      there.named,
    )

-- a step may stand before each that begins no earlier and takes some time
may_precede : (x y : Timed) → y.begin < y.end → IsNamedBefore x y → MayPrecede x y
may_precede x y takes named = let early = begins_no_later x y named in omega arith

-- where each step takes time, the times allow the order by begins
pub named_and_allowed : (f : Figures) (program : List Instr) (steps : List Timed) → AreTimedSteps f 0 program steps →
    EachLater IsListedBefore steps → AllByRecursion (λ t. t.begin < t.end) steps →
    (order : List Timed) × IsAllowed f program order × IsNamedOrder f program order
named_and_allowed f program steps timed listed takes =
    let there = by_begins steps listed in
    let order = there.0 in
    let long = all_of_order (λ t. t.begin < t.end) steps order there.1 takes in
    let precede = later_from_all (λ (t : Timed). t.begin < t.end) IsNamedBefore MayPrecede order
    (λ x y p q named. may_precede x y q named) long there.2 in
    let allowed : IsAllowed f program order = record {
      steps = steps;
      timed = timed;
      same = there.1;
      allowed = AllPairs-from_later MayPrecede order precede;
    } in
    let named : IsNamedOrder f program order = record {
      steps = steps;
      timed = timed;
      same = there.1;
      named = AllPairs-from_later IsNamedBefore order there.2;
    } in
    (order, allowed, named)
