-- Sorted routes, from neighbour to neighbour.
use Rattle.std.proofs.Common.{◌≡◌, ◌≢◌, ℕ, ◌+◌, ◌<◌, ◌≤◌, ◌⊎◌, false, inl, inr, List, length, get_or, sym, subst, arith, All}
use Rattle.std.specs.List.{AllPairs}
use Rattle.std.specs.Ordering.{is_lt, nat_cmp, ordering_then}
use Rattle.std.proofs.lemmas.List.{get_or-map, length-map}
use Rattle.std.proofs.lemmas.Option.{slice_get-get_or}
use Rattle.zac_arch.specs.Architecture.{Architecture, StandsAt, trap_count, trap_points}
use Rattle.zac_arch.specs.declared.place.Point.{Point}
use Rattle.zac_arch.specs.declared.place.TrapId.{TrapId}
use Rattle.zac_group.specs.declared.route.Route.{Route}
use Rattle.zac_group.specs.declared.shift.Shift.{Shift}
use Rattle.zac_group.specs.FirstFit.{IsTakenBefore}
use Rattle.zac_group.specs.Groups.{StartsBefore}
use Rattle.zac_group.specs.Members.{IsRoute, moves}
use Rattle.zac_group.specs.Moves.{distance, point_at, source_x, source_y}
use Rattle.zac_group.specs.Turns.{IsBySource, IsInTurn, length_of}
use Rattle.zac_group.proofs.Orders.{all_from_near, lesser_first}

-- in turn, and by source, goes on from one to the next
goes_on : (a b c m n o : ℕ) → (b < a) ⊎ ((a ≡ b) × (m ≤ n)) → (c < b) ⊎ ((b ≡ c) × (n ≤ o)) → (c < a) ⊎ ((a ≡ c) × (m ≤ o))
goes_on a b c m n o (inl h) (inl k) = inl (omega arith)
goes_on a b c m n o (inl h) (inr k) = inl (omega arith)
goes_on a b c m n o (inr h) (inl k) = inl (omega arith)
goes_on a b c m n o (inr h) (inr k) = inr (omega arith, omega arith)

goes_up : (a b c m n o : ℕ) → (a < b) ⊎ ((a ≡ b) × (m ≤ n)) → (b < c) ⊎ ((b ≡ c) × (n ≤ o)) → (a < c) ⊎ ((a ≡ c) × (m ≤ o))
goes_up a b c m n o (inl h) (inl k) = inl (omega arith)
goes_up a b c m n o (inl h) (inr k) = inl (omega arith)
goes_up a b c m n o (inr h) (inl k) = inl (omega arith)
goes_up a b c m n o (inr h) (inr k) = inr (omega arith, omega arith)

pub in_turn_all : (rs : List Route) →
    ((k : ℕ) (d : Route) → k + 1 < length rs →
    is_lt (ordering_then (nat_cmp (length_of (get_or rs k d)) (length_of (get_or rs (k + 1) d))) (nat_cmp (get_or rs (k + 1) d).shift.q (get_or rs k d).shift.q)) ≡ false) →
    AllPairs IsInTurn rs
in_turn_all rs near =
    all_from_near Route IsInTurn
    (λ r s t h k. goes_on (length_of r) (length_of s) (length_of t) r.shift.q s.shift.q t.shift.q h k) rs
    (λ k d lt. lesser_first (length_of (get_or rs k d)) (length_of (get_or rs (k + 1) d)) (get_or rs (k + 1) d).shift.q (get_or rs k d).shift.q (near k d lt))

turned : (a b m n : ℕ) → (b < a) ⊎ ((a ≡ b) × (n ≤ m)) → (b < a) ⊎ ((b ≡ a) × (n ≤ m))
turned a b m n (inl h) = inl h
turned a b m n (inr h) = inr (sym h.0, h.1)

pub by_source_all : (rs : List Route) →
    ((k : ℕ) (d : Route) → k + 1 < length rs →
    is_lt (ordering_then (nat_cmp (get_or rs (k + 1) d).from.y (get_or rs k d).from.y) (nat_cmp (get_or rs (k + 1) d).from.x (get_or rs k d).from.x)) ≡ false) →
    AllPairs IsBySource rs
by_source_all rs near =
    all_from_near Route IsBySource
    (λ r s t h k. goes_up r.from.y s.from.y t.from.y r.from.x s.from.x t.from.x h k) rs
    (λ k d lt.
    let r = get_or rs k d in
    let s = get_or rs (k + 1) d in
    turned s.from.y r.from.y s.from.x r.from.x (lesser_first s.from.y r.from.y s.from.x r.from.x (near k d lt)))

-- some route
nowhere : Route
nowhere = record {
  shift = record { q = 0; from = record { 0 = 0 }; to = record { 0 = 0 } };
  from = record { x = 0; y = 0 };
  to = record { x = 0; y = 0 };
  zones = record { from = 0; to = 0 };
}

-- a relation between moves, from the same between routes
pairs_of_moves : (R : Shift → Shift → Type 0) (rs : List Route) → ((i j : ℕ) → i < j → j < length rs → R (get_or rs i nowhere).shift (get_or rs j nowhere).shift) → AllPairs R (moves rs)
pairs_of_moves R rs h i j d lt j_in =
    let j_low : j < length rs = omega (arith, length-map rs (λ (r : Route). r.shift)) in
    subst (λ (s : Shift). R s (get_or (moves rs) j d)) (sym (get_or-map (λ (r : Route). r.shift) rs i nowhere d (omega arith)))
    (subst (λ (s : Shift). R (get_or rs i nowhere).shift s) (sym (get_or-map (λ (r : Route). r.shift) rs j nowhere d j_low)) (h i j lt j_low))

at_pair : (R : Shift → Shift → Type 0) (rs : List Route) → AllPairs R (moves rs) → (i j : ℕ) → i < j → j < length rs → R (get_or rs i nowhere).shift (get_or rs j nowhere).shift
at_pair R rs h i j lt j_in =
    subst (λ (s : Shift). R s (get_or rs j nowhere).shift) (get_or-map (λ (r : Route). r.shift) rs i nowhere nowhere.shift (omega arith))
    (subst (λ (s : Shift). R (get_or (moves rs) i nowhere.shift) s) (get_or-map (λ (r : Route). r.shift) rs j nowhere nowhere.shift j_in)
    (h i j nowhere.shift lt (omega (arith, length-map rs (λ (r : Route). r.shift)))))

length_is : (a : Architecture) (r : Route) → IsRoute a r → length_of r ≡ distance a r.shift
length_is a r h = λ i. length_of (record { shift = r.shift; from = h.from i; to = h.to i; zones = r.zones })

taken : (m n q p : ℕ) → (n < m) ⊎ ((m ≡ n) × (q ≤ p)) → q ≢ p → (n < m) ⊎ ((m ≡ n) × (q < p))
taken m n q p (inl h) ne = inl h
taken m n q p (inr h) ne = inr (h.0, let le = h.1 in omega arith)

pub taken_in_order : (a : Architecture) (rs : List Route) → All (IsRoute a) rs → AllPairs (λ (s t : Shift). s.q ≢ t.q) (moves rs) → AllPairs IsInTurn rs → AllPairs (IsTakenBefore a) (moves rs)
taken_in_order a rs routes apart turn =
    pairs_of_moves (IsTakenBefore a) rs
    (λ i j lt j_in.
    let r = get_or rs i nowhere in
    let s = get_or rs j nowhere in
    let ne : r.shift.q ≢ s.shift.q = at_pair (λ (x y : Shift). x.q ≢ y.q) rs apart i j lt j_in in
    subst (λ (m : ℕ). (distance a s.shift < m) ⊎ ((m ≡ distance a s.shift) × (r.shift.q < s.shift.q))) (length_is a r (routes i nowhere (omega arith)))
    (subst (λ (n : ℕ). (n < length_of r) ⊎ ((length_of r ≡ n) × (r.shift.q < s.shift.q))) (length_is a s (routes j nowhere j_in))
    (taken (length_of r) (length_of s) r.shift.q s.shift.q (turn i j nowhere lt j_in) ne)))

stands : (a : Architecture) (t : TrapId) → t.0 < trap_count a → StandsAt a t.0 (point_at a t)
stands a t lt = slice_get-get_or (trap_points a) t.0 (record { x = 0; y = 0 }) lt

starts : (a b m n : ℕ) → (a < b) ⊎ ((a ≡ b) × (m ≤ n)) → (a ≡ b → m ≡ n → ⊥) → (a < b) ⊎ ((a ≡ b) × (m < n))
starts a b m n (inl h) ne = inl h
starts a b m n (inr h) ne = inr (h.0, let le = h.1 in let apart : m ≢ n = ne h.0 in omega arith)

pub starts_in_order : (a : Architecture) (rs : List Route) → ((t u : ℕ) (p : Point) → StandsAt a t p → StandsAt a u p → t ≡ u) →
    All (IsRoute a) rs → AllPairs (λ (s t : Shift). s.from ≢ t.from) (moves rs) → AllPairs IsBySource rs → AllPairs (StartsBefore a) (moves rs)
starts_in_order a rs one_trap routes apart by =
    pairs_of_moves (StartsBefore a) rs
    (λ i j lt j_in.
    let r = get_or rs i nowhere in
    let s = get_or rs j nowhere in
    let r_is = routes i nowhere (omega arith) in
    let s_is = routes j nowhere j_in in
    let ne : r.shift.from ≢ s.shift.from = at_pair (λ (x y : Shift). x.from ≢ y.from) rs apart i j lt j_in in
    let points : (source_y a r.shift < source_y a s.shift) ⊎ ((source_y a r.shift ≡ source_y a s.shift) × (source_x a r.shift ≤ source_x a s.shift)) =
    subst (λ (p : Point). (p.y < source_y a s.shift) ⊎ ((p.y ≡ source_y a s.shift) × (p.x ≤ source_x a s.shift))) r_is.from
    (subst (λ (p : Point). (r.from.y < p.y) ⊎ ((r.from.y ≡ p.y) × (r.from.x ≤ p.x))) s_is.from (by i j nowhere lt j_in)) in
    starts (source_y a r.shift) (source_y a s.shift) (source_x a r.shift) (source_x a s.shift) points
    (λ same_y same_x.
    let one_point : point_at a r.shift.from ≡ point_at a s.shift.from = λ k. record { x = same_x k; y = same_y k } in
    let same : r.shift.from.0 ≡ s.shift.from.0 =
    one_trap r.shift.from.0 s.shift.from.0 (point_at a s.shift.from)
    (subst (λ (p : Point). StandsAt a r.shift.from.0 p) one_point (stands a r.shift.from r_is.traps.from_in)) (stands a s.shift.from s_is.traps.from_in) in
    ne (λ k. record { 0 = same k })))
