-- The ops of a plan are performed by rising keys, and so its log realises the circuit.
use Rattle.std.proofs.Common.{◌≡◌, ◌≢◌, ℕ, zero, suc, ◌+◌, ◌*◌, ◌<◌, ◌≤◌, ◌⊎◌, inl, inr, ◌==◌, true, false, List, [], ◌∷◌, ◌++◌, Option, Some, None, IsTrue, length, get_or, map, refl, sym, ap, ◌∙◌, subst, arith, slice_get}
use Rattle.std.specs.Prelude.{slice_index}
use Rattle.std.specs.List.{AllByRecursion, AllPairs, Contains, cons_option, range_with_len}
use Rattle.std.specs.Option.{option_map}
use Rattle.std.proofs.lemmas.Bool.{and_from, and_parts, cases_eq, cases_lt, eq-eqb, eqb-true}
use Rattle.std.proofs.lemmas.List.Elements.{Contains-append_cases, Contains-append_left, Contains-append_right, recursion_from_All}
use Rattle.std.proofs.lemmas.List.Kept.{AllPairs-filter}
use Rattle.std.proofs.lemmas.Option.{slice_get_within}
use Rattle.zac_gates.specs.Ops.{IsGate, IsRead, MustFollow}
use Rattle.zac_gates.specs.Log.{Entry, Realises}
use Rattle.zac_gates.specs.declared.circuit.Op.{Op}
use Rattle.zac_gates.specs.declared.circuit.Op.TheVariants.{One, Two, Fence, Read}
use Rattle.zac_stage.specs.Numbers.{is_one, is_pair, is_one_of, is_pair_of, ones_of, pairs_of, NumbersFollow}
use Rattle.zac_stage.specs.Staging.{Staging, IsStaging}
use Rattle.zac_plan.proofs.Lists.{all_from_contains, contained_in_filter, contained_in_none, contains_cases, contains_filter, contains_here, contains_later, contains_range, pairs_append, pairs_cons, pairs_head, pairs_none, pairs_tail, range_rises}
use Rattle.zac_plan.proofs.Logs.{AreOnes, ArePairs, entries_at, entry, in_turn, is_read_op, performed, reads_among}

-- the entries at some numbers have these numbers and the ops there
record IsEntryOf (ops : List Op) (numbers : List ℕ) (e : Entry) : Type 0 where
  number : Contains numbers e.op
  what : slice_get ops e.op ≡ Some e.what

entry_cases : (ops : List Op) (n : ℕ) (ns : List ℕ) (o : Option Op) (e : Entry) → slice_get ops n ≡ o → ((d : Entry) → Contains (entries_at ops ns) d → IsEntryOf ops ns d) →
    Contains (cons_option (option_map (entry n) o) (entries_at ops ns)) e → IsEntryOf ops (n ∷ ns) e
entry_cases ops n ns None e at later listed =
    let rest = later e listed in
    record { number = contains_later n e.op ns rest.number; what = rest.what }
entry_cases ops n ns (Some what) e at later listed = elim (contains_cases (entry n what) e (entries_at ops ns) listed) [
  | inl same ↦ subst (IsEntryOf ops (n ∷ ns)) same (record { number = contains_here n ns; what = at })
  | inr more ↦
      let rest = later e more in
      record { number = contains_later n e.op ns rest.number; what = rest.what }
]

entry_of : (ops : List Op) (numbers : List ℕ) (e : Entry) → Contains (entries_at ops numbers) e → IsEntryOf ops numbers e
entry_of ops [] e listed = absurd (contained_in_none e listed)
entry_of ops (n ∷ ns) e listed = entry_cases ops n ns (slice_get ops n) e refl (entry_of ops ns) listed

-- each number of an op has its entry
entry_there : (ops : List Op) (n : ℕ) (ns : List ℕ) (o : Option Op) (e : Entry) → Contains (entries_at ops ns) e → Contains (cons_option (option_map (entry n) o) (entries_at ops ns)) e
entry_there ops n ns None e listed = listed
entry_there ops n ns (Some what) e listed = contains_later (entry n what) e (entries_at ops ns) listed

has_entry : (ops : List Op) (numbers : List ℕ) (n : ℕ) (what : Op) → slice_get ops n ≡ Some what → Contains numbers n → Contains (entries_at ops numbers) (entry n what)
has_entry ops [] n what at listed = absurd (contained_in_none n listed)
has_entry ops (m ∷ ms) n what at listed = elim (contains_cases m n ms listed) [
  | inl same ↦
      let here : slice_get ops m ≡ Some what = ap (slice_get ops) same ∙ at in
      subst (λ (o : Option Op). Contains (cons_option (option_map (entry m) o) (entries_at ops ms)) (entry n what)) (sym here)
      (subst (λ k. Contains (entry m what ∷ entries_at ops ms) (entry k what)) same (contains_here (entry m what) (entries_at ops ms)))
  | inr later ↦ entry_there ops m ms (slice_get ops m) (entry n what) (has_entry ops ms n what at later)
]

-- pairs of numbers give pairs of entries
module _ (R : ℕ → ℕ → Type 0) (ops : List Op) where
  entry_pairs_cons : (n : ℕ) (ns : List ℕ) (o : Option Op) → ((m : ℕ) → Contains ns m → R n m) → AllPairs (λ (d e : Entry). R d.op e.op) (entries_at ops ns) →
      AllPairs (λ (d e : Entry). R d.op e.op) (cons_option (option_map (entry n) o) (entries_at ops ns))
  entry_pairs_cons n ns None first rest = rest
  entry_pairs_cons n ns (Some what) first rest =
      pairs_cons (λ (d e : Entry). R d.op e.op) (entry n what) (entries_at ops ns) (λ e listed. first e.op (entry_of ops ns e listed).number) rest

  entry_pairs : (numbers : List ℕ) → AllPairs R numbers → AllPairs (λ (d e : Entry). R d.op e.op) (entries_at ops numbers)
  entry_pairs [] h = pairs_none (λ (d e : Entry). R d.op e.op)
  entry_pairs (n ∷ ns) h = entry_pairs_cons n ns (slice_get ops n) (pairs_head R n ns h) (entry_pairs ns (pairs_tail R n ns h))

-- Each op has a key. The first op comes first: it has a smaller key, or the same key and a smaller number.
abbrev pub ComesFirst : (ℕ → ℕ) → ℕ → ℕ → Type 0
ComesFirst key m n = (key m < key n) ⊎ ((key m ≡ key n) × (m < n))

first_differs : (key : ℕ → ℕ) (m n : ℕ) → ComesFirst key m n → m ≢ n
first_differs key m n (inl h) e = let same : key m ≡ key n = ap key e in absurd (omega arith)
first_differs key m n (inr h) e = absurd (omega (arith, h.1))

one_way : (key : ℕ → ℕ) (m n : ℕ) → ComesFirst key m n → ComesFirst key n m → ⊥
one_way key m n (inl h) (inl k) = absurd (omega arith)
one_way key m n (inl h) (inr k) = absurd (omega (arith, k.0))
one_way key m n (inr h) (inl k) = absurd (omega (arith, h.0))
one_way key m n (inr h) (inr k) = absurd (omega (arith, h.1, k.1))

-- A log by keys realises the ops, where what must follow another comes after it by its key.
realised_by_keys : (key : ℕ → ℕ) (ops : List Op) (numbers : List ℕ) → ((m n : ℕ) → MustFollow ops m n → ComesFirst key m n) →
    AllPairs (ComesFirst key) numbers → ((n : ℕ) → Contains numbers n → slice_get ops n ≢ Some Fence) →
    ((n : ℕ) (what : Op) → slice_get ops n ≡ Some what → what ≢ Fence → Contains numbers n) → Realises ops (entries_at ops numbers)
realised_by_keys key ops numbers follows sorted no_fence whole =
    let pairs = entry_pairs (ComesFirst key) ops numbers sorted in
    record {
      listed = all_from_contains (λ (e : Entry). (slice_get ops e.op ≡ Some e.what) × (e.what ≢ Fence)) (entries_at ops numbers)
          (λ e listed.
          let is = entry_of ops numbers e listed in
          (is.what, λ fence. no_fence e.op is.number (is.what ∙ ap (λ (o : Op). Some o) fence)));
      whole = λ n what at fence. has_entry ops numbers n what at (whole n what at fence);
      once = λ i j d before within. first_differs key (get_or (entries_at ops numbers) i d).op (get_or (entries_at ops numbers) j d).op (pairs i j d before within);
      in_order = λ i j d before within must.
          one_way key (get_or (entries_at ops numbers) i d).op (get_or (entries_at ops numbers) j d).op (pairs i j d before within)
          (follows (get_or (entries_at ops numbers) j d).op (get_or (entries_at ops numbers) i d).op must);
    }

-- The key of an op: a one-qubit gate comes in its slot, a pair in its pulse behind it, and a read last.
key_of : ℕ → ℕ → Option Op → ℕ
key_of last t None = 0
key_of last t (Some (One q angles)) = 2 * t
key_of last t (Some (Two a b)) = 2 * t + 1
key_of last t (Some Fence) = 0
key_of last t (Some (Read q bit)) = last

one_key : (last t : ℕ) (o : Option Op) → IsTrue (is_one o) → key_of last t o ≡ 2 * t
unfolding key_of
one_key last t None h = cc
one_key last t (Some (One q angles)) h = refl
one_key last t (Some (Two a b)) h = cc
one_key last t (Some Fence) h = cc
one_key last t (Some (Read q bit)) h = cc

pair_key : (last t : ℕ) (o : Option Op) → IsTrue (is_pair o) → key_of last t o ≡ 2 * t + 1
unfolding key_of
pair_key last t None h = cc
pair_key last t (Some (One q angles)) h = cc
pair_key last t (Some (Two a b)) h = refl
pair_key last t (Some Fence) h = cc
pair_key last t (Some (Read q bit)) h = cc

read_key : (last t : ℕ) (o : Option Op) → IsTrue (is_read_op o) → key_of last t o ≡ last
unfolding key_of
read_key last t None h = cc
read_key last t (Some (One q angles)) h = cc
read_key last t (Some (Two a b)) h = cc
read_key last t (Some Fence) h = cc
read_key last t (Some (Read q bit)) h = refl

-- what must follow another comes after it
abbrev Waits : ℕ → ℕ → Op → Op → Type 0
Waits m n a b = (IsGate a × IsGate b × (m < n)) ⊎ (IsRead b × (IsGate a ⊎ (IsRead a × (m < n))))

later_key : (last t u m n : ℕ) (a b : Op) → Waits m n a b → (IsGate b → t ≤ u) → (IsGate b → IsTrue (is_pair (Some a)) → t < u) →
    (IsGate a → key_of last t (Some a) < last) → (key_of last t (Some a) < key_of last u (Some b)) ⊎ ((key_of last t (Some a) ≡ key_of last u (Some b)) × (m < n))
unfolding key_of
later_key last t u m n (One q angles) (One r angles') (inl h) up over below =
    let at_least = up tt in
    elim (cases_lt t u) [
      | inl lt ↦ inl (omega arith)
      | inr le ↦ inr (omega arith, h.2)
    ]
later_key last t u m n (One q angles) (Two c d) (inl h) up over below = let at_least = up tt in inl (omega arith)
later_key last t u m n (Two a b) (One q angles) (inl h) up over below = let above = over tt refl in inl (omega arith)
later_key last t u m n (Two a b) (Two c d) (inl h) up over below = let above = over tt refl in inl (omega arith)
later_key last t u m n Fence b (inl h) up over below = absurd h.0
later_key last t u m n (Read q bit) b (inl h) up over below = absurd h.0
later_key last t u m n (One q angles) Fence (inl h) up over below = absurd h.1
later_key last t u m n (Two a b) Fence (inl h) up over below = absurd h.1
later_key last t u m n (One q angles) (Read r bit) (inl h) up over below = absurd h.1
later_key last t u m n (Two a b) (Read r bit) (inl h) up over below = absurd h.1
later_key last t u m n a (One q angles) (inr h) up over below = absurd h.0
later_key last t u m n a (Two c d) (inr h) up over below = absurd h.0
later_key last t u m n a Fence (inr h) up over below = absurd h.0
later_key last t u m n a (Read q bit) (inr (read, inl gate)) up over below = inl (below gate)
later_key last t u m n (Read r bit') (Read q bit) (inr (read, inr both)) up over below = inr (refl, both.1)
later_key last t u m n (One r angles) (Read q bit) (inr (read, inr both)) up over below = absurd both.0
later_key last t u m n (Two a b) (Read q bit) (inr (read, inr both)) up over below = absurd both.0
later_key last t u m n Fence (Read q bit) (inr (read, inr both)) up over below = absurd both.0

waits_from : (ops : List Op) (m n : ℕ) (must : MustFollow ops m n) → Waits m n must.a must.b
waits_from ops m n must = elim must.reason [
  | inl h ↦ inl (h.0, h.1, h.2)
  | inr h ↦ inr (h.0, h.1)
]

no_true : false ≡ true → ⊥
no_true e = cc

-- each item of a map
pub all_mapped : {X Y : Type 0} (P : Y → Type 0) (f : X → Y) (xs : List X) → ((x : X) → P (f x)) → AllByRecursion P (map f xs)
all_mapped P f [] h = tt
all_mapped P f (x ∷ xs) h = (h x, all_mapped P f xs h)

-- an op of a slot, and of a pulse
pub record IsInSlot (s : Staging) (t n : ℕ) : Type 0 where
  pub one : IsTrue (is_one (slice_get s.circuit.ops n))
  pub here : slice_index s.numbers n ≡ t

pub record IsInPulse (s : Staging) (t n : ℕ) : Type 0 where
  pub pair : IsTrue (is_pair (slice_get s.circuit.ops n))
  pub here : slice_index s.numbers n ≡ t

abbrev pub slot : Staging → ℕ → List ℕ
slot s t = ones_of s.circuit.ops s.numbers t

abbrev pub pulse : Staging → ℕ → List ℕ
pulse s t = pairs_of s.circuit.ops s.numbers t

pub in_slot : (s : Staging) (t n : ℕ) → Contains (slot s t) n → IsInSlot s t n
in_slot s t n listed =
    let kept = contained_in_filter (is_one_of s.circuit.ops s.numbers t) (range_with_len 0 (length s.circuit.ops)) n listed in
    let parts = and_parts (is_one (slice_get s.circuit.ops n)) (slice_index s.numbers n == t) kept.1 in
    record { one = parts.0; here = eqb-true (slice_index s.numbers n) t parts.1 }

pub in_pulse : (s : Staging) (t n : ℕ) → Contains (pulse s t) n → IsInPulse s t n
in_pulse s t n listed =
    let kept = contained_in_filter (is_pair_of s.circuit.ops s.numbers t) (range_with_len 0 (length s.circuit.ops)) n listed in
    let parts = and_parts (is_pair (slice_get s.circuit.ops n)) (slice_index s.numbers n == t) kept.1 in
    record { pair = parts.0; here = eqb-true (slice_index s.numbers n) t parts.1 }

slot_has : (s : Staging) (n : ℕ) (what : Op) → slice_get s.circuit.ops n ≡ Some what → IsTrue (is_one (Some what)) → Contains (slot s (slice_index s.numbers n)) n
slot_has s n what at one =
    let within = slice_get_within s.circuit.ops n what at in
    contains_filter (is_one_of s.circuit.ops s.numbers (slice_index s.numbers n)) (range_with_len 0 (length s.circuit.ops)) n (contains_range 0 (length s.circuit.ops) n (omega arith) (omega arith))
    (and_from (is_one (slice_get s.circuit.ops n)) (slice_index s.numbers n == slice_index s.numbers n) (ap is_one at ∙ one) (eq-eqb (slice_index s.numbers n) (slice_index s.numbers n) refl))

pulse_has : (s : Staging) (n : ℕ) (what : Op) → slice_get s.circuit.ops n ≡ Some what → IsTrue (is_pair (Some what)) → Contains (pulse s (slice_index s.numbers n)) n
pulse_has s n what at pair =
    let within = slice_get_within s.circuit.ops n what at in
    contains_filter (is_pair_of s.circuit.ops s.numbers (slice_index s.numbers n)) (range_with_len 0 (length s.circuit.ops)) n (contains_range 0 (length s.circuit.ops) n (omega arith) (omega arith))
    (and_from (is_pair (slice_get s.circuit.ops n)) (slice_index s.numbers n == slice_index s.numbers n) (ap is_pair at ∙ pair) (eq-eqb (slice_index s.numbers n) (slice_index s.numbers n) refl))

pub slot_rises : (s : Staging) (t : ℕ) → AllPairs (λ i j. i < j) (slot s t)
slot_rises s t = AllPairs-filter (λ i j. i < j) (is_one_of s.circuit.ops s.numbers t) (range_with_len 0 (length s.circuit.ops)) (range_rises 0 (length s.circuit.ops))

pub pulse_rises : (s : Staging) (t : ℕ) → AllPairs (λ i j. i < j) (pulse s t)
pulse_rises s t = AllPairs-filter (λ i j. i < j) (is_pair_of s.circuit.ops s.numbers t) (range_with_len 0 (length s.circuit.ops)) (range_rises 0 (length s.circuit.ops))

-- behind all gates
abbrev last : Staging → ℕ
last s = 2 * length s.pairs + 1

key : Staging → ℕ → ℕ
key s n = key_of (last s) (slice_index s.numbers n) (slice_get s.circuit.ops n)

slot_key : (s : Staging) (t n : ℕ) → Contains (slot s t) n → key s n ≡ 2 * t
unfolding key
slot_key s t n listed =
    let is = in_slot s t n listed in
    one_key (last s) (slice_index s.numbers n) (slice_get s.circuit.ops n) is.one ∙ ap (λ m. 2 * m) is.here

pulse_key : (s : Staging) (t n : ℕ) → Contains (pulse s t) n → key s n ≡ 2 * t + 1
unfolding key
pulse_key s t n listed =
    let is = in_pulse s t n listed in
    pair_key (last s) (slice_index s.numbers n) (slice_get s.circuit.ops n) is.pair ∙ ap (λ m. 2 * m + 1) is.here

-- numbers that rise and have one key
rising_keys : (s : Staging) (k : ℕ) (numbers : List ℕ) → ((n : ℕ) → Contains numbers n → key s n ≡ k) → AllPairs (λ i j. i < j) numbers → AllPairs (ComesFirst (key s)) numbers
rising_keys s k [] same rises = pairs_none (ComesFirst (key s))
rising_keys s k (n ∷ ns) same rises =
    pairs_cons (ComesFirst (key s)) n ns
    (λ m listed. inr (same n (contains_here n ns) ∙ sym (same m (contains_later n m ns listed)), pairs_head (λ i j. i < j) n ns rises m listed))
    (rising_keys s k ns (λ m listed. same m (contains_later n m ns listed)) (pairs_tail (λ i j. i < j) n ns rises))

-- the ops of so many pulses from pulse t on, and of the slots between them
abbrev turns : Staging → ℕ → ℕ → List ℕ
turns s t m = in_turn (map (slot s) (range_with_len t (suc m))) (map (pulse s) (range_with_len t m))

turns_keys : (s : Staging) (t m n : ℕ) → Contains (turns s t m) n → (2 * t ≤ key s n) × (key s n ≤ 2 * (t + m))
turns_keys s t zero n listed =
    elim (Contains-append_cases (slot s t) [] n listed) [
      | inl in_first ↦ let at = slot_key s t n in_first in (omega arith, omega arith)
      | inr none ↦ absurd (contained_in_none n none)
    ]
turns_keys s t (suc m) n listed =
    elim (Contains-append_cases (slot s t) (pulse s t ++ turns s (t + 1) m) n listed) [
      | inl in_first ↦ let at = slot_key s t n in_first in (omega arith, omega arith)
      | inr more ↦ elim (Contains-append_cases (pulse s t) (turns s (t + 1) m) n more) [
        | inl in_second ↦ let at = pulse_key s t n in_second in (omega arith, omega arith)
        | inr later ↦ let rest = turns_keys s (t + 1) m n later in (omega (arith, rest.0), omega (arith, rest.1))
      ]
    ]

turns_sorted : (s : Staging) (t m : ℕ) → AllPairs (ComesFirst (key s)) (turns s t m)
turns_sorted s t zero =
    pairs_append (ComesFirst (key s)) (slot s t) [] (rising_keys s (2 * t) (slot s t) (slot_key s t) (slot_rises s t)) (pairs_none (ComesFirst (key s)))
    (λ x y in_first none. absurd (contained_in_none y none))
turns_sorted s t (suc m) =
    let rest = turns_sorted s (t + 1) m in
    let from_pulse =
    pairs_append (ComesFirst (key s)) (pulse s t) (turns s (t + 1) m) (rising_keys s (2 * t + 1) (pulse s t) (pulse_key s t) (pulse_rises s t)) rest
    (λ x y in_first in_rest.
    let at = pulse_key s t x in_first in
    let later = turns_keys s (t + 1) m y in_rest in
    inl (omega (arith, later.0))) in
    pairs_append (ComesFirst (key s)) (slot s t) (pulse s t ++ turns s (t + 1) m) (rising_keys s (2 * t) (slot s t) (slot_key s t) (slot_rises s t)) from_pulse
    (λ x y in_first in_rest.
    let at = slot_key s t x in_first in
    elim (Contains-append_cases (pulse s t) (turns s (t + 1) m) y in_rest) as (λ _. ComesFirst (key s) x y) [
      | inl in_pulse ↦ let there = pulse_key s t y in_pulse in inl (omega arith)
      | inr later ↦ let keys = turns_keys s (t + 1) m y later in inl (omega (arith, keys.0))
    ])

turns_slot : (s : Staging) (t m k n : ℕ) → t ≤ k → k ≤ t + m → Contains (slot s k) n → Contains (turns s t m) n
turns_slot s t zero k n low high listed =
    let here : k ≡ t = omega arith in
    Contains-append_left (slot s t) [] n (subst (λ j. Contains (slot s j) n) here listed)
turns_slot s t (suc m) k n low high listed = elim (cases_eq k t) [
  | inl here ↦ Contains-append_left (slot s t) (pulse s t ++ turns s (t + 1) m) n (subst (λ j. Contains (slot s j) n) here listed)
  | inr later ↦
      Contains-append_right (slot s t) (pulse s t ++ turns s (t + 1) m) n
      (Contains-append_right (pulse s t) (turns s (t + 1) m) n (turns_slot s (t + 1) m k n (omega arith) (omega arith) listed))
]

turns_pulse : (s : Staging) (t m k n : ℕ) → t ≤ k → k < t + m → Contains (pulse s k) n → Contains (turns s t m) n
turns_pulse s t zero k n low high listed = absurd (omega arith)
turns_pulse s t (suc m) k n low high listed = elim (cases_eq k t) [
  | inl here ↦
      Contains-append_right (slot s t) (pulse s t ++ turns s (t + 1) m) n
      (Contains-append_left (pulse s t) (turns s (t + 1) m) n (subst (λ j. Contains (pulse s j) n) here listed))
  | inr later ↦
      Contains-append_right (slot s t) (pulse s t ++ turns s (t + 1) m) n
      (Contains-append_right (pulse s t) (turns s (t + 1) m) n (turns_pulse s (t + 1) m k n (omega arith) (omega arith) listed))
]

-- no fence is among them
one_no_fence : (o : Option Op) → IsTrue (is_one o) → o ≢ Some Fence
one_no_fence None h e = cc
one_no_fence (Some (One q angles)) h e = cc
one_no_fence (Some (Two a b)) h e = cc
one_no_fence (Some Fence) h e = absurd (no_true h)
one_no_fence (Some (Read q bit)) h e = cc

pair_no_fence : (o : Option Op) → IsTrue (is_pair o) → o ≢ Some Fence
pair_no_fence None h e = cc
pair_no_fence (Some (One q angles)) h e = cc
pair_no_fence (Some (Two a b)) h e = cc
pair_no_fence (Some Fence) h e = absurd (no_true h)
pair_no_fence (Some (Read q bit)) h e = cc

read_no_fence : (o : Option Op) → IsTrue (is_read_op o) → o ≢ Some Fence
read_no_fence None h e = cc
read_no_fence (Some (One q angles)) h e = cc
read_no_fence (Some (Two a b)) h e = cc
read_no_fence (Some Fence) h e = absurd (no_true h)
read_no_fence (Some (Read q bit)) h e = cc

turns_no_fence : (s : Staging) (t m n : ℕ) → Contains (turns s t m) n → slice_get s.circuit.ops n ≢ Some Fence
turns_no_fence s t zero n listed =
    elim (Contains-append_cases (slot s t) [] n listed) as (λ _. slice_get s.circuit.ops n ≢ Some Fence) [
      | inl in_first ↦ one_no_fence (slice_get s.circuit.ops n) (in_slot s t n in_first).one
      | inr none ↦ absurd (contained_in_none n none)
    ]
turns_no_fence s t (suc m) n listed =
    elim (Contains-append_cases (slot s t) (pulse s t ++ turns s (t + 1) m) n listed) as (λ _. slice_get s.circuit.ops n ≢ Some Fence) [
      | inl in_first ↦ one_no_fence (slice_get s.circuit.ops n) (in_slot s t n in_first).one
      | inr more ↦ elim (Contains-append_cases (pulse s t) (turns s (t + 1) m) n more) as (λ _. slice_get s.circuit.ops n ≢ Some Fence) [
        | inl in_second ↦ pair_no_fence (slice_get s.circuit.ops n) (in_pulse s t n in_second).pair
        | inr later ↦ turns_no_fence s (t + 1) m n later
      ]
    ]

-- the reads come last
abbrev reads : Staging → List ℕ
reads s = reads_among s.circuit.ops (range_with_len 0 (length s.circuit.ops))

read_among : (s : Staging) (n : ℕ) → Contains (reads s) n → IsTrue (is_read_op (slice_get s.circuit.ops n))
read_among s n listed = (contained_in_filter (λ m. is_read_op (slice_get s.circuit.ops m)) (range_with_len 0 (length s.circuit.ops)) n listed).1

reads_key : (s : Staging) (n : ℕ) → Contains (reads s) n → key s n ≡ last s
unfolding key
reads_key s n listed = read_key (last s) (slice_index s.numbers n) (slice_get s.circuit.ops n) (read_among s n listed)

reads_rise : (s : Staging) → AllPairs (λ i j. i < j) (reads s)
reads_rise s = AllPairs-filter (λ i j. i < j) (λ m. is_read_op (slice_get s.circuit.ops m)) (range_with_len 0 (length s.circuit.ops)) (range_rises 0 (length s.circuit.ops))

reads_have : (s : Staging) (n : ℕ) (what : Op) → slice_get s.circuit.ops n ≡ Some what → IsTrue (is_read_op (Some what)) → Contains (reads s) n
reads_have s n what at read =
    let within = slice_get_within s.circuit.ops n what at in
    contains_filter (λ m. is_read_op (slice_get s.circuit.ops m)) (range_with_len 0 (length s.circuit.ops)) n (contains_range 0 (length s.circuit.ops) n (omega arith) (omega arith))
    (ap is_read_op at ∙ read)

-- all of them
abbrev all_turns : Staging → List ℕ
all_turns s = turns s 0 (length s.pairs) ++ reads s

all_sorted : (s : Staging) → AllPairs (ComesFirst (key s)) (all_turns s)
all_sorted s =
    pairs_append (ComesFirst (key s)) (turns s 0 (length s.pairs)) (reads s) (turns_sorted s 0 (length s.pairs)) (rising_keys s (last s) (reads s) (reads_key s) (reads_rise s))
    (λ x y in_turns in_reads.
    let keys = turns_keys s 0 (length s.pairs) x in_turns in
    let at = reads_key s y in_reads in
    inl (omega (arith, keys.1)))

all_no_fence : (s : Staging) (n : ℕ) → Contains (all_turns s) n → slice_get s.circuit.ops n ≢ Some Fence
all_no_fence s n listed = elim (Contains-append_cases (turns s 0 (length s.pairs)) (reads s) n listed) as (λ _. slice_get s.circuit.ops n ≢ Some Fence) [
  | inl in_turns ↦ turns_no_fence s 0 (length s.pairs) n in_turns
  | inr in_reads ↦ read_no_fence (slice_get s.circuit.ops n) (read_among s n in_reads)
]

module _ (s : Staging) (right : IsStaging s) where
  -- a pair's pulse, and a gate's slot, are among those of the stages
  pair_most : (n : ℕ) → IsTrue (is_pair (slice_get s.circuit.ops n)) → slice_index s.numbers n < length s.pairs
  pair_most n pair = right.counted.above n pair

  one_most : (n : ℕ) → IsTrue (is_one (slice_get s.circuit.ops n)) → slice_index s.numbers n ≤ length s.pairs
  one_most n one = elim (right.numbered.ones n one).reached as (λ _. slice_index s.numbers n ≤ length s.pairs) [
    | inl none ↦ omega arith
    | inr some ↦ omega (arith, some.3, pair_most some.0 some.1)
  ]

  all_whole : (n : ℕ) (what : Op) → slice_get s.circuit.ops n ≡ Some what → what ≢ Fence → Contains (all_turns s) n
  all_whole n (One q angles) at fence =
      let most = one_most n (ap is_one at) in
      Contains-append_left (turns s 0 (length s.pairs)) (reads s) n
      (turns_slot s 0 (length s.pairs) (slice_index s.numbers n) n (omega arith) (omega arith) (slot_has s n (One q angles) at refl))
  all_whole n (Two a b) at fence =
      let most = pair_most n (ap is_pair at) in
      Contains-append_left (turns s 0 (length s.pairs)) (reads s) n
      (turns_pulse s 0 (length s.pairs) (slice_index s.numbers n) n (omega arith) (omega arith) (pulse_has s n (Two a b) at refl))
  all_whole n Fence at fence = absurd (fence refl)
  all_whole n (Read q bit) at fence = Contains-append_right (turns s 0 (length s.pairs)) (reads s) n (reads_have s n (Read q bit) at refl)

  -- a gate's key is below that of the reads
  gate_key : (n : ℕ) (what : Op) → slice_get s.circuit.ops n ≡ Some what → IsGate what → key_of (last s) (slice_index s.numbers n) (Some what) < last s
  unfolding key_of
  gate_key n (One q angles) at gate = omega (arith, one_most n (ap is_one at))
  gate_key n (Two a b) at gate = omega (arith, pair_most n (ap is_pair at))
  gate_key n Fence at gate = absurd gate
  gate_key n (Read q bit) at gate = absurd gate

  module _ (follow : NumbersFollow s.circuit.ops s.numbers) where
    all_follow : (m n : ℕ) → MustFollow s.circuit.ops m n → ComesFirst (key s) m n
    unfolding key
    all_follow m n must =
        let up : IsGate must.b → slice_index s.numbers m ≤ slice_index s.numbers n = λ gate. (follow m n must.b must must.b_is gate).0 in
        let over : IsGate must.b → IsTrue (is_pair (Some must.a)) → slice_index s.numbers m < slice_index s.numbers n =
        λ gate pair. (follow m n must.b must must.b_is gate).1 (ap is_pair must.a_is ∙ pair) in
        let later = later_key (last s) (slice_index s.numbers m) (slice_index s.numbers n) m n must.a must.b (waits_from s.circuit.ops m n must) up over (gate_key m must.a must.a_is) in
        let at_m = ap (key_of (last s) (slice_index s.numbers m)) must.a_is in
        let at_n = ap (key_of (last s) (slice_index s.numbers n)) must.b_is in
        let P : ℕ → ℕ → Type 0 = λ i j. (i < j) ⊎ ((i ≡ j) × (m < n)) in
        subst (λ i. P i (key_of (last s) (slice_index s.numbers n) (slice_get s.circuit.ops n))) (sym at_m)
        (subst (λ j. P (key_of (last s) (slice_index s.numbers m) (Some must.a)) j) (sym at_n) later)

    turns_realise : Realises s.circuit.ops (entries_at s.circuit.ops (all_turns s))
    turns_realise = realised_by_keys (key s) s.circuit.ops (all_turns s) all_follow (all_sorted s) (all_no_fence s) all_whole

    -- so they are those of the stages
    turns_are : performed s.circuit.ops s.gates s.pairs ≡ all_turns s
    turns_are =
        let count : length s.pairs + 1 ≡ suc (length s.pairs) = omega arith in
        let gates : s.gates ≡ map (slot s) (range_with_len 0 (suc (length s.pairs))) = right.gates_are ∙ ap (λ k. map (slot s) (range_with_len 0 k)) count in
        ap (λ (l : List (List ℕ)). in_turn l s.pairs ++ reads s) gates
        ∙ ap (λ (l : List (List ℕ)). in_turn (map (slot s) (range_with_len 0 (suc (length s.pairs)))) l ++ reads s) right.pairs_are

    -- A log by the stages of a circuit realises it.
    pub stages_realise : Realises s.circuit.ops (entries_at s.circuit.ops (performed s.circuit.ops s.gates s.pairs))
    stages_realise = subst (λ (l : List ℕ). Realises s.circuit.ops (entries_at s.circuit.ops l)) (sym turns_are) turns_realise

  -- the slots have one-qubit gates, and the pulses pairs
  ones_listed : (t : ℕ) → AreOnes s.circuit.ops (slot s t)
  ones_listed t = recursion_from_All (λ n. IsTrue (is_one (slice_get s.circuit.ops n))) (slot s t) (all_from_contains (λ n. IsTrue (is_one (slice_get s.circuit.ops n))) (slot s t) (λ n listed. (in_slot s t n listed).one))

  pairs_listed : (t : ℕ) → ArePairs s.circuit.ops (pulse s t)
  pairs_listed t = recursion_from_All (λ n. IsTrue (is_pair (slice_get s.circuit.ops n))) (pulse s t) (all_from_contains (λ n. IsTrue (is_pair (slice_get s.circuit.ops n))) (pulse s t) (λ n listed. (in_pulse s t n listed).pair))

  pub slots_are_ones : AllByRecursion (AreOnes s.circuit.ops) s.gates
  slots_are_ones = subst (AllByRecursion (AreOnes s.circuit.ops)) (sym right.gates_are) (all_mapped (AreOnes s.circuit.ops) (slot s) (range_with_len 0 (length s.pairs + 1)) ones_listed)

  pub pulses_are_pairs : AllByRecursion (ArePairs s.circuit.ops) s.pairs
  pulses_are_pairs = subst (AllByRecursion (ArePairs s.circuit.ops)) (sym right.pairs_are) (all_mapped (ArePairs s.circuit.ops) (pulse s) (range_with_len 0 (length s.pairs)) pairs_listed)
