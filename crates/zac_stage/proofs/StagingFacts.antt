-- What follows of stages that are those of their circuit.
use Rattle.std.proofs.Common.{◌≡◌, ◌≢◌, ◌==◌, ℕ, ◌+◌, ◌<◌, ◌≤◌, ◌^◌, true, List, [], Vec, Some, length, map, get_or, refl, sym, ap, ◌∙◌, subst, ⊎_elim, arith}
use Rattle.std.specs.List.{slice_get, range_with_len, Contains}
use Rattle.std.proofs.lemmas.Bool.{cases_order, and_parts, eqb-true}
use Rattle.std.proofs.lemmas.List.Elements.{filter_passes}
use Rattle.std.proofs.lemmas.List.FromFn.{length-map-range_with_len, get_or-map-range_with_len}
use Rattle.std.proofs.lemmas.List.Sums.{length-filter}
use Rattle.std.proofs.lemmas.Option.{slice_get-map, slice_get_read, slice_get_within, get_or_from_slice_get}
use Rattle.std.specs.Option.{option_map}
use Rattle.std.specs.Global.{Global}
use Rattle.zac_gates.specs.declared.circuit.Op.{Op}
use Rattle.zac_gates.specs.Ops.{NativeCircuit, Names}
use Rattle.zac_stage.specs.Numbers.{is_pair, is_pair_of, pairs_before, pairs_of, ones_of, IsNumbering, IsPulseCount}
use Rattle.zac_stage.specs.Staging.{Staging, IsStaging}
use Rattle.zac_stage.proofs.NumbersFacts.{Found, pair_stands, no_gap, at_most_sites, counted_found, rises}

-- there is one slot more than there are pulses
pub slots : (s : Staging) → IsStaging s → length s.gates ≡ length s.pairs + 1
slots s staging =
    ap length staging.gates_are ∙ length-map-range_with_len (ones_of s.circuit.ops s.numbers) 0 (length s.pairs + 1)

-- a row that was read is the row of the lists
pub row_read : (rows : List (Vec ℕ Global)) (t : ℕ) (row : Vec ℕ Global) (out : List ℕ) → t < length rows → row ≡ get_or rows t row → out ≡ row.items → slice_get (map (λ (v : Vec ℕ Global). v.items) rows) t ≡ Some out
row_read rows t row out within is read =
    slice_get-map (λ (v : Vec ℕ Global). v.items) rows t
    ∙ ap (option_map (λ (v : Vec ℕ Global). v.items)) (slice_get_read rows (length rows) t row refl within is)
    ∙ ap (λ (l : List ℕ). Some l) (sym read)

-- a pulse is the pairs of its number
pub pulse_is : (s : Staging) (t : ℕ) (pulse : List ℕ) → IsStaging s → slice_get s.pairs t ≡ Some pulse → pulse ≡ pairs_of s.circuit.ops s.numbers t
pulse_is s t pulse staging is =
    let within = slice_get_within s.pairs t pulse is in
    sym (get_or_from_slice_get s.pairs t pulse [] is) ∙ ap (λ (l : List (List ℕ)). get_or l t []) staging.pairs_are
    ∙ get_or-map-range_with_len (pairs_of s.circuit.ops s.numbers) 0 (length s.pairs) t t [] within (omega arith)

-- each pulse has a pair, and at most as many as sites
pub filled : (s : Staging) (t : ℕ) (pulse : List ℕ) → 1 ≤ s.sites → IsStaging s → slice_get s.pairs t ≡ Some pulse → (1 ≤ length pulse) × (length pulse ≤ s.sites)
filled s t pulse some staging is =
    let ops = s.circuit.ops in
    let numbers = s.numbers in
    let within = slice_get_within s.pairs t pulse is in
    let size : length pulse ≡ pairs_before ops numbers t (length ops) = ap (λ (l : List ℕ). length l) (pulse_is s t pulse staging is) ∙ length-filter (is_pair_of ops numbers t) (range_with_len 0 (length ops)) in
    let found : Found ops numbers t (length ops) = ⊎_elim
    (λ (none : length s.pairs ≡ 0). absurd (omega (arith, none, within)))
    (λ last.
    let stands = pair_stands ops last.0 last.1 in
    no_gap ops s.sites numbers some staging.numbered (length ops) last.0 t (slice_get_within ops last.0 stands.op stands.is) last.1 (omega (arith, last.2, within)))
    staging.counted.reached in
    (omega (arith, size, counted_found ops numbers t (length ops) found), omega (arith, size, at_most_sites ops s.sites numbers staging.numbered t (length ops)))

-- what a pulse has is a pair of its number
pub in_pulse : (s : Staging) (t i : ℕ) (pulse : List ℕ) → IsStaging s → slice_get s.pairs t ≡ Some pulse → Contains pulse i → is_pair_of s.circuit.ops s.numbers t i ≡ true
in_pulse s t i pulse staging is (k, within, at) =
    let passes = filter_passes (is_pair_of s.circuit.ops s.numbers t) (range_with_len 0 (length s.circuit.ops)) in
    let same = pulse_is s t pulse staging is in
    subst (λ (n : ℕ). is_pair_of s.circuit.ops s.numbers t n ≡ true) at
    (subst (λ (l : List ℕ). is_pair_of s.circuit.ops s.numbers t (get_or l k i) ≡ true) (sym same) (passes k i (subst (λ (l : List ℕ). k < length l) same within)))

-- no two ops of a pulse share a qubit
pub apart : (s : Staging) (t i j q : ℕ) (pulse : List ℕ) (a b : Op) → IsStaging s → slice_get s.pairs t ≡ Some pulse → Contains pulse i → Contains pulse j → i ≢ j → slice_get s.circuit.ops i ≡ Some a → slice_get s.circuit.ops j ≡ Some b → Names a q → ¬ Names b q
apart s t i j q pulse a b staging is at_i at_j other a_is b_is a_names b_names =
    let ops = s.circuit.ops in
    let numbers = s.numbers in
    let first = and_parts (is_pair (slice_get ops i)) (get_or numbers i 0 == t) (in_pulse s t i pulse staging is at_i) in
    let second = and_parts (is_pair (slice_get ops j)) (get_or numbers j 0 == t) (in_pulse s t j pulse staging is at_j) in
    let first_number = eqb-true (get_or numbers i 0) t first.1 in
    let second_number = eqb-true (get_or numbers j 0) t second.1 in
    ⊎_elim other
    (λ way. ⊎_elim
    (λ (lt : i < j). let rise = rises ops s.sites numbers staging.numbered i j q a b lt first.0 second.0 a_is b_is a_names b_names in omega (arith, rise, first_number, second_number))
    (λ (lt : j < i). let rise = rises ops s.sites numbers staging.numbered j i q b a lt second.0 first.0 b_is a_is b_names a_names in omega (arith, rise, first_number, second_number))
    way)
    (cases_order i j)

-- stages that are made of right numbers are right
pub staged : (circuit : NativeCircuit) (sites : ℕ) (numbers : List ℕ) (pulses : ℕ) (pairs gates : List (List ℕ)) → pulses < 2 ^ 32 → IsNumbering circuit.ops sites numbers → IsPulseCount circuit.ops numbers pulses →
    pairs ≡ map (pairs_of circuit.ops numbers) (range_with_len 0 pulses) → gates ≡ map (ones_of circuit.ops numbers) (range_with_len 0 (pulses + 1)) →
    IsStaging (record { circuit = circuit; sites = sites; numbers = numbers; pairs = pairs; gates = gates })
staged circuit sites numbers pulses pairs gates few numbered counted pairs_are gates_are =
    let size : length pairs ≡ pulses = ap (λ (l : List (List ℕ)). length l) pairs_are ∙ length-map-range_with_len (pairs_of circuit.ops numbers) 0 pulses in
    record {
      numbered = numbered;
      counted = subst (λ (p : ℕ). IsPulseCount circuit.ops numbers p) (sym size) counted;
      pairs_are = pairs_are ∙ ap (λ (p : ℕ). map (pairs_of circuit.ops numbers) (range_with_len 0 p)) (sym size);
      gates_are = gates_are ∙ ap (λ (p : ℕ). map (ones_of circuit.ops numbers) (range_with_len 0 (p + 1))) (sym size);
      few = omega (arith, size);
    }
