-- Chosen edges between the places of two pulses are kept pairs of their gates, and the other way round.
use Rattle.std.proofs.Common.{◌≡◌, ◌≢◌, ◌==◌, ℕ, zero, suc, ◌<◌, ◌≤◌, ◌^◌, ⊎_elim, Bool, true, false, cond, List, [], ◌∷◌, length, get_or, map, IsTrue, Some, sym, ap, ◌∙◌, subst, arith}
use Rattle.std.specs.List.{All, AllPairs, Contains, slice_get, range_with_len}
use Rattle.std.proofs.lemmas.Bool.{cases_eq, cases_order, cases_Bool, and_parts, eqb-true, eq-eqb}
use Rattle.std.proofs.lemmas.List.{get_or-map, length-map}
use Rattle.std.proofs.lemmas.List.Elements.{filter_passes, All-map, All-contains, Contains-get_or}
use Rattle.std.proofs.lemmas.List.FromFn.{length-range_with_len, get_or-range_with_len, get_or-map-range_with_len}
use Rattle.std.proofs.lemmas.List.Kept.{AllPairs-filter}
use Rattle.std.proofs.lemmas.List.Sums.{length-filter, count_by-le-length}
use Rattle.std.proofs.lemmas.Option.{slice_get_within, get_or_from_slice_get}
use Rattle.zac_gates.specs.declared.circuit.Op.{Op}
use Rattle.zac_gates.specs.Ops.{NativeCircuit, Names}
use Rattle.zac_match.specs.Choice.{IsChoice, NoEndTwice, EndsBelow}
use Rattle.zac_match.specs.Choice as matched
use Rattle.zac_stage.specs.Numbers.{is_pair, is_pair_of, pairs_of}
use Rattle.zac_stage.specs.Staging.{Staging, IsStaging}
use Rattle.zac_reuse.specs.Keeping.{MayKeep, IsKeeping, IsGreatest}
use Rattle.zac_reuse.specs.Sharing.{IsOn, IsPulse, IsShared, AreShared, in_numbers}

-- ---- what a pulse of right stages has

pulse_is : (s : Staging) (t : ℕ) (pulse : List ℕ) → IsStaging s → slice_get s.pairs t ≡ Some pulse → pulse ≡ pairs_of s.circuit.ops s.numbers t
pulse_is s t pulse staging is =
    let within = slice_get_within s.pairs t pulse is in
    sym (get_or_from_slice_get s.pairs t pulse [] is) ∙ ap (λ (l : List (List ℕ)). get_or l t []) staging.pairs_are
    ∙ get_or-map-range_with_len (pairs_of s.circuit.ops s.numbers) 0 (length s.pairs) t t [] within (omega arith)

-- no number comes twice in a range
range_once : (n : ℕ) → AllPairs (λ a b. a ≢ b) (range_with_len 0 n)
range_once n = λ i j d lt within e.
    let size = length-range_with_len 0 n in
    let at_i = get_or-range_with_len 0 n i d (omega arith) in
    let at_j = get_or-range_with_len 0 n j d (omega arith) in
    absurd (omega (arith, at_i, at_j, e))

-- no two gates of a pulse share a qubit, by op numbers
abbrev pub SharesNone : Staging → Type 0
SharesNone s = (t i j q : ℕ) (pulse : List ℕ) (a b : Op) → slice_get s.pairs t ≡ Some pulse → Contains pulse i → Contains pulse j → i ≢ j → slice_get s.circuit.ops i ≡ Some a → slice_get s.circuit.ops j ≡ Some b → Names a q → ¬ Names b q

-- a pulse has at most as many gates as there are ops
pulse_few : (s : Staging) (t : ℕ) (pulse : List ℕ) → IsStaging s → slice_get s.pairs t ≡ Some pulse → length pulse ≤ length s.circuit.ops
pulse_few s t pulse staging is =
    let test = is_pair_of s.circuit.ops s.numbers t in
    let all = range_with_len 0 (length s.circuit.ops) in
    omega (arith, ap (λ (l : List ℕ). length l) (pulse_is s t pulse staging is), length-filter test all, count_by-le-length test all, length-range_with_len 0 (length s.circuit.ops))

pulse_once : (s : Staging) (t : ℕ) (pulse : List ℕ) → IsStaging s → slice_get s.pairs t ≡ Some pulse → AllPairs (λ a b. a ≢ b) pulse
pulse_once s t pulse staging is =
    subst (λ (l : List ℕ). AllPairs (λ a b. a ≢ b) l) (sym (pulse_is s t pulse staging is))
    (AllPairs-filter (λ a b. a ≢ b) (is_pair_of s.circuit.ops s.numbers t) (range_with_len 0 (length s.circuit.ops)) (range_once (length s.circuit.ops)))

pulse_pairs : (s : Staging) (t : ℕ) (pulse : List ℕ) → IsStaging s → slice_get s.pairs t ≡ Some pulse → All (λ n. IsTrue (is_pair (slice_get s.circuit.ops n))) pulse
pulse_pairs s t pulse staging is =
    let mine = pairs_of s.circuit.ops s.numbers t in
    subst (λ (l : List ℕ). All (λ n. IsTrue (is_pair (slice_get s.circuit.ops n))) l) (sym (pulse_is s t pulse staging is))
    (λ k d lt. (and_parts (is_pair (slice_get s.circuit.ops (get_or mine k d))) (get_or s.numbers (get_or mine k d) 0 == t) (filter_passes (is_pair_of s.circuit.ops s.numbers t) (range_with_len 0 (length s.circuit.ops)) k d lt)).0)

-- equal numbers of a list stand at one place, where none comes twice
place : (pulse : List ℕ) → AllPairs (λ a b. a ≢ b) pulse → (i j : ℕ) → i < length pulse → j < length pulse → get_or pulse i 0 ≡ get_or pulse j 0 → i ≡ j
place pulse once i j i_in j_in e =
    ⊎_elim
    (λ (at : i ≡ j). at)
    (λ way. ⊎_elim (λ (lt : i < j). absurd (once i j 0 lt j_in e)) (λ (lt : j < i). absurd (once j i 0 lt i_in (sym e))) way)
    (cases_order i j)

pulse_apart : (s : Staging) (t : ℕ) (pulse : List ℕ) → IsStaging s → SharesNone s → slice_get s.pairs t ≡ Some pulse → (q i j : ℕ) → IsOn s.circuit.ops pulse q i → IsOn s.circuit.ops pulse q j → i ≡ j
pulse_apart s t pulse staging none is q i j on_i on_j =
    ⊎_elim
    (λ (e : get_or pulse i 0 ≡ get_or pulse j 0). place pulse (pulse_once s t pulse staging is) i j on_i.within on_j.within e)
    (λ d. absurd (none t (get_or pulse i 0) (get_or pulse j 0) q pulse on_i.op on_j.op is (Contains-get_or pulse i 0 on_i.within) (Contains-get_or pulse j 0 on_j.within) d on_i.op_is on_j.op_is on_i.names on_j.names))
    (cases_eq (get_or pulse i 0) (get_or pulse j 0))

-- each pulse of the stages of a circuit is right
pub pulse_right : (s : Staging) (circuit : NativeCircuit) (ops : List Op) (t : ℕ) (pulse : List ℕ) → IsStaging s → SharesNone s → s.circuit ≡ circuit → ops ≡ circuit.ops → length circuit.ops < 2 ^ 32 → slice_get s.pairs t ≡ Some pulse → IsPulse ops pulse
pulse_right s circuit ops t pulse staging none circuit_is ops_are few is =
    subst (λ (o : List Op). IsPulse o pulse) (ap (λ (c : NativeCircuit). c.ops) circuit_is ∙ sym ops_are)
    (record {
      few = omega (arith, pulse_few s t pulse staging is, few, ap (λ (c : NativeCircuit). length c.ops) circuit_is);
      pairs = pulse_pairs s t pulse staging is;
      once = pulse_once s t pulse staging is;
      apart = pulse_apart s t pulse staging none is;
    })

-- ---- edges lead between places of the pulses

pub ends_below : (ops : List Op) (first second : List ℕ) (edges : List (ℕ × ℕ)) (n : ℕ) → AreShared ops first second edges n → EndsBelow (length first) (length second) edges
ends_below ops first second edges n shared = record { each = λ k d lt. let s = (shared.sound k d lt).0 in (s.1.within, s.2.within) }

pub chosen_below : (left right : ℕ) (edges chosen : List (ℕ × ℕ)) → EndsBelow left right edges → IsChoice edges chosen → EndsBelow left right chosen
chosen_below left right edges chosen below choice =
    record { each = λ k d lt. All-contains (λ e. (e.0 < left) × (e.1 < right)) edges (get_or chosen k d) below.each (choice.given_edges k d lt) }

-- ---- from edges to gates

module _ (ops : List Op) (first second : List ℕ) (edges chosen : List (ℕ × ℕ)) (n : ℕ) (one : IsPulse ops first) (two : IsPulse ops second) (shared : AreShared ops first second edges n) (choice : IsChoice edges chosen) where
  number : ℕ × ℕ → ℕ × ℕ
  number e = (get_or first e.0 0, get_or second e.1 0)

  at : (k : ℕ) (d e : ℕ × ℕ) → k < length chosen → get_or (map number chosen) k e ≡ number (get_or chosen k d)
  at k d e lt = get_or-map number chosen k d e lt

  share : (e : ℕ × ℕ) → IsShared ops first second e.0 e.1 → MayKeep ops first second (number e)
  unfolding number
  share e s =
      record {
        old = Contains-get_or first e.0 0 s.1.within;
        new = Contains-get_or second e.1 0 s.2.within;
        shared = record { a = s.1.op; b = s.2.op; qubit = s.0; a_is = s.1.op_is; b_is = s.2.op_is; a_names = s.1.names; b_names = s.2.names };
      }

  each : All (MayKeep ops first second) (map number chosen)
  each = All-map (MayKeep ops first second) number chosen
      (λ k d lt. share (get_or chosen k d) (All-contains (λ e. IsShared ops first second e.0 e.1 × (e.1 < n)) edges (get_or chosen k d) shared.sound (choice.given_edges k d lt)).0)

  below : EndsBelow (length first) (length second) chosen
  below = chosen_below (length first) (length second) edges chosen (ends_below ops first second edges n shared) choice

  apart : NoEndTwice (map number chosen)
  unfolding number
  apart = λ i j d lt within.
      let size = length-map chosen number in
      let e = get_or chosen i (0, 0) in
      let f = get_or chosen j (0, 0) in
      let e_in = below.each i (0, 0) (omega (arith, size)) in
      let f_in = below.each j (0, 0) (omega (arith, size)) in
      let differ = choice.no_end_twice i j (0, 0) lt (omega (arith, size)) in
      let at_i : get_or (map number chosen) i d ≡ number e = at i (0, 0) d (omega (arith, size)) in
      let at_j : get_or (map number chosen) j d ≡ number f = at j (0, 0) d (omega (arith, size)) in (
        λ same. differ.0 (place first one.once e.0 f.0 e_in.0 f_in.0 (sym (ap (λ (p : ℕ × ℕ). p.0) at_i) ∙ same ∙ ap (λ (p : ℕ × ℕ). p.0) at_j)),
        λ same. differ.1 (place second two.once e.1 f.1 e_in.1 f_in.1 (sym (ap (λ (p : ℕ × ℕ). p.1) at_i) ∙ same ∙ ap (λ (p : ℕ × ℕ). p.1) at_j)),
      )

  -- chosen edges are kept pairs
  pub keeping : IsKeeping ops first second (in_numbers first second chosen)
  unfolding number
  keeping = record { each = each; no_gate_twice = apart }

-- ---- from gates to edges

-- the first place of a number
pub index_of : List ℕ → ℕ → ℕ
index_of [] x = 0
index_of (y ∷ ys) x = cond (y == x) 0 (suc (index_of ys x))

index_at : (xs : List ℕ) (x : ℕ) → Contains xs x → (index_of xs x < length xs) × (get_or xs (index_of xs x) 0 ≡ x)
unfolding index_of
index_at [] x c = absurd (omega (arith, c.1))
index_at (y ∷ ys) x c =
    ⊎_elim
    (λ (t : (y == x) ≡ true).
    let P : Bool → Type 0 = λ b. (cond b 0 (suc (index_of ys x)) < length (y ∷ ys)) × (get_or (y ∷ ys) (cond b 0 (suc (index_of ys x))) 0 ≡ x) in
    subst P (sym t) (omega arith, eqb-true y x t))
    (λ (f : (y == x) ≡ false).
    let P : Bool → Type 0 = λ b. (cond b 0 (suc (index_of ys x)) < length (y ∷ ys)) × (get_or (y ∷ ys) (cond b 0 (suc (index_of ys x))) 0 ≡ x) in
    let rest = index_at ys x (later c f) in
    subst P (sym f) (omega (arith, rest.0), rest.1))
    (cases_Bool (y == x))
  where
    later : Contains (y ∷ ys) x → (y == x) ≡ false → Contains ys x
    later (zero, lt, at) f = absurd (let e = eq-eqb y x at in let g : true ≡ false = sym e ∙ f in cc)
    later (suc k, lt, at) f = (k, omega arith, at)

module _ (ops : List Op) (first second : List ℕ) (edges others : List (ℕ × ℕ)) (shared : AreShared ops first second edges (length second)) (kept : IsKeeping ops first second others) where
  pub index : ℕ × ℕ → ℕ × ℕ
  index p = (index_of first p.0, index_of second p.1)

  on : (pulse : List ℕ) (x q : ℕ) (op : Op) → Contains pulse x → slice_get ops x ≡ Some op → Names op q → IsOn ops pulse q (index_of pulse x)
  on pulse x q op c is names =
      let i = index_at pulse x c in
      record { within = i.0; op = op; op_is = ap (slice_get ops) i.1 ∙ is; names = names }

  edge : (p : ℕ × ℕ) → MayKeep ops first second p → Contains edges (index p)
  unfolding index
  edge p m =
      let s = m.shared in
      shared.complete (index_of first p.0) (index_of second p.1)
      (s.qubit, on first p.0 s.qubit s.a m.old s.a_is s.a_names, on second p.1 s.qubit s.b m.new s.b_is s.b_names)
      (index_at second p.1 m.new).0

  apart' : NoEndTwice (map index others)
  unfolding index
  apart' = λ i j d lt within.
      let size = length-map others index in
      let p = get_or others i (0, 0) in
      let r = get_or others j (0, 0) in
      let p_may = kept.each i (0, 0) (omega (arith, size)) in
      let r_may = kept.each j (0, 0) (omega (arith, size)) in
      let differ = kept.no_gate_twice i j (0, 0) lt (omega (arith, size)) in
      let at_i : get_or (map index others) i d ≡ index p = get_or-map index others i (0, 0) d (omega (arith, size)) in
      let at_j : get_or (map index others) j d ≡ index r = get_or-map index others j (0, 0) d (omega (arith, size)) in (
        λ same. differ.0 (sym (index_at first p.0 p_may.old).1 ∙ ap (λ (k : ℕ). get_or first k 0) (sym (ap (λ (e : ℕ × ℕ). e.0) at_i) ∙ same ∙ ap (λ (e : ℕ × ℕ). e.0) at_j) ∙ (index_at first r.0 r_may.old).1),
        λ same. differ.1 (sym (index_at second p.1 p_may.new).1 ∙ ap (λ (k : ℕ). get_or second k 0) (sym (ap (λ (e : ℕ × ℕ). e.1) at_i) ∙ same ∙ ap (λ (e : ℕ × ℕ). e.1) at_j) ∙ (index_at second r.1 r_may.new).1),
      )

  -- kept pairs are a choice of the edges
  pub chosen_of : IsChoice edges (map index others)
  chosen_of = record { given_edges = All-map (Contains edges) index others (λ k d lt. edge (get_or others k d) (kept.each k d lt)); no_end_twice = apart' }

  pub chosen_size : length (map index others) ≡ length others
  chosen_size = length-map others index

-- as many pairs are kept as can be
pub greatest : (ops : List Op) (first second : List ℕ) (edges chosen : List (ℕ × ℕ)) → AreShared ops first second edges (length second) → matched.IsGreatest edges chosen → IsGreatest ops first second (in_numbers first second chosen)
greatest ops first second edges chosen shared most = λ others kept.
    let size : length (in_numbers first second chosen) ≡ length chosen = length-map chosen _ in
    omega (arith, size, chosen_size ops first second edges others shared kept, most _ (chosen_of ops first second edges others shared kept))

-- what is answered is kept, and as many as can be
pub kept : (ops ops' : List Op) (first first' second second' : List ℕ) (edges edges' chosen chosen' pairs : List (ℕ × ℕ)) → ops ≡ ops' → first ≡ first' → second ≡ second' → edges' ≡ edges → chosen' ≡ chosen → pairs ≡ in_numbers first second chosen' →
    IsPulse ops first → IsPulse ops second → AreShared ops first second edges (length second) → IsChoice edges' chosen → matched.IsGreatest edges' chosen →
    IsKeeping ops' first' second' pairs × IsGreatest ops' first' second' pairs
kept ops ops' first first' second second' edges edges' chosen chosen' pairs ops_are first_is second_is edges_are chosen_are pairs_are one two shared choice most =
    let Both : List Op → List ℕ → List ℕ → List (ℕ × ℕ) → Type 0 = λ o f g p. IsKeeping o f g p × IsGreatest o f g p in
    let choice' : IsChoice edges chosen = subst (λ (l : List (ℕ × ℕ)). IsChoice l chosen) edges_are choice in
    let most' : matched.IsGreatest edges chosen = subst (λ (l : List (ℕ × ℕ)). matched.IsGreatest l chosen) edges_are most in
    let here : Both ops first second (in_numbers first second chosen) = (keeping ops first second edges chosen (length second) one two shared choice', greatest ops first second edges chosen shared most') in
    let named : Both ops first second pairs = subst (λ (l : List (ℕ × ℕ)). Both ops first second l) (sym (pairs_are ∙ ap (in_numbers first second) chosen_are)) here in
    subst (λ (o : List Op). Both o first' second' pairs) ops_are
    (subst (λ (f : List ℕ). Both ops f second' pairs) first_is
    (subst (λ (g : List ℕ). Both ops first g pairs) second_is named))
