-- Which logs realise a list of ops.
use Rattle.std.proofs.Common.{◌≡◌, ◌≢◌, ℕ, zero, suc, ◌+◌, ◌<◌, ◌⊎◌, Bool, true, List, [], ◌∷◌, ◌++◌, Option, Some, None, length, get_or, take, filter, refl, sym, ap, ◌∙◌, subst, inl, inr, ⊎_elim, arith, slice_get}
use Rattle.std.specs.List.{All, AllPairs, Contains}
use Rattle.std.proofs.lemmas.List.{length-take-le, take_more, take_all}
use Rattle.std.proofs.lemmas.List.Elements.{All-take, All-append, All-filter, filter_passes, Contains-append_left, Contains-append_right}
use Rattle.std.proofs.lemmas.List.Kept.{AllPairs-filter}
use Rattle.std.proofs.lemmas.Option.{slice_get_within, slice_get-get_or, get_or_from_slice_get}
use Rattle.zac_gates.specs.declared.circuit.Op.{Op}
use Rattle.zac_gates.specs.declared.circuit.Op.TheVariants.{One, Two, Fence, Read}
use Rattle.zac_gates.specs.Ops.{IsGate, IsRead, MustFollow, is_gate, is_read}
use Rattle.zac_gates.proofs.Lists.{AllPairs-append, Contains-filter}
use Rattle.zac_gates.specs.Log.{Entry, Realises, gates_then_reads}
pub use Rattle.zac_gates.specs.Log.{entries_from}

pub length-entries_from : (n : ℕ) (ops : List Op) → length (entries_from n ops) ≡ length ops
length-entries_from n [] = refl
length-entries_from n (x ∷ ops) = ap suc (length-entries_from (n + 1) ops)

pub get_or-entries_from : (n : ℕ) (ops : List Op) (i : ℕ) (d : Entry) → i < length ops → get_or (entries_from n ops) i d ≡ record { op = n + i; what = get_or ops i d.what }
get_or-entries_from n [] i d lt = absurd (omega arith)
get_or-entries_from n (x ∷ ops) zero d lt =
    let here : n ≡ n + 0 = omega arith in
    let at : ℕ → Entry = λ m. record { op = m; what = x } in
    ap at here
get_or-entries_from n (x ∷ ops) (suc i) d lt =
    let there : (n + 1) + i ≡ n + suc i = omega arith in
    let at : ℕ → Entry = λ m. record { op = m; what = get_or ops i d.what } in
    get_or-entries_from (n + 1) ops i d (omega arith) ∙ ap at there

-- one more op at the end
pub entries_from-push : (n : ℕ) (ops : List Op) (op : Op) → entries_from n (ops ++ op ∷ []) ≡ entries_from n ops ++ (record { op = n + length ops; what = op }) ∷ []
entries_from-push n [] op =
    let here : n ≡ n + 0 = omega arith in
    let at : ℕ → List Entry = λ m. record { op = m; what = op } ∷ [] in
    ap at here
entries_from-push n (x ∷ ops) op =
    let there : (n + 1) + length ops ≡ n + suc (length ops) = omega arith in
    let at : ℕ → List Entry = λ m. record { op = n; what = x } ∷ (entries_from (n + 1) ops ++ (record { op = m; what = op }) ∷ []) in
    ap (λ (l : List Entry). record { op = n; what = x } ∷ l) (entries_from-push (n + 1) ops op) ∙ ap at there

get_or-in_order : (ops : List Op) (k : ℕ) (d : Entry) → k < length (entries_from 0 ops) → get_or (entries_from 0 ops) k d ≡ record { op = k; what = get_or ops k d.what }
get_or-in_order ops k d lt =
    let here : 0 + k ≡ k = omega arith in
    let at : ℕ → Entry = λ m. record { op = m; what = get_or ops k d.what } in
    get_or-entries_from 0 ops k d (omega (arith, length-entries_from 0 ops)) ∙ ap at here

-- no gate follows a read
abbrev pub ReadsComeLast : List Op → Type 0
ReadsComeLast ops = (i j : ℕ) (a b : Op) → slice_get ops i ≡ Some a → slice_get ops j ≡ Some b → IsRead a → IsGate b → j < i

-- the numbers rise along the log
abbrev pub IsRising : List Entry → Type 0
IsRising log = AllPairs (λ d e. d.op < e.op) log

-- what the log has is an op of the list at its number, and no fence
abbrev pub IsListed : List Op → List Entry → Type 0
IsListed ops log = All (λ e. (slice_get ops e.op ≡ Some e.what) × (e.what ≢ Fence)) log

-- the log has each op of the list but the fences
abbrev pub IsWhole : List Op → List Entry → Type 0
IsWhole ops log = (n : ℕ) (what : Op) → slice_get ops n ≡ Some what → what ≢ Fence → Contains log (record { op = n; what = what })

-- Each op has a stage, what must follow an op has a later stage or the same stage and a greater number, and the
-- log goes by stage and then by number. Then it realises the list.
pub realised_by_stages : (stage : ℕ → ℕ) (ops : List Op) (log : List Entry) →
    ((first second : ℕ) → MustFollow ops first second → (stage first < stage second) ⊎ ((stage first ≡ stage second) × (first < second))) →
    IsListed ops log → IsWhole ops log →
    AllPairs (λ d e. (stage d.op < stage e.op) ⊎ ((stage d.op ≡ stage e.op) × (d.op < e.op))) log → Realises ops log
realised_by_stages stage ops log waits listed whole sorted =
    record {
      listed = listed;
      whole = whole;
      once = λ i j d lt in' same. let p = get_or log i d in let q = get_or log j d in
          let stages : stage p.op ≡ stage q.op = ap stage same in
          ⊎_elim (λ (l : stage p.op < stage q.op). omega arith) (λ (l : (stage p.op ≡ stage q.op) × (p.op < q.op)). omega arith) (sorted i j d lt in');
      in_order = λ i j d lt in' must. let p = get_or log i d in let q = get_or log j d in
          ⊎_elim (λ (m : stage q.op < stage p.op). ⊎_elim (λ (l : stage p.op < stage q.op). omega arith) (λ (l : (stage p.op ≡ stage q.op) × (p.op < q.op)). omega arith) (sorted i j d lt in'))
          (λ (m : (stage q.op ≡ stage p.op) × (q.op < p.op)). ⊎_elim (λ (l : stage p.op < stage q.op). omega arith) (λ (l : (stage p.op ≡ stage q.op) × (p.op < q.op)). omega arith) (sorted i j d lt in'))
          (waits q.op p.op must);
    }

-- an op that must follow another has a greater number, where no gate follows a read
pub follows_later : (ops : List Op) → ReadsComeLast ops → (first second : ℕ) → MustFollow ops first second → first < second
follows_later ops last first second must =
    ⊎_elim (λ gates. gates.2)
    (λ reads. ⊎_elim (λ gate. last second first must.b must.a must.b_is must.a_is reads.0 gate) (λ both. both.1) reads.1)
    must.reason

-- A log whose numbers rise realises the list, where no gate follows a read.
pub realised_by_rising : (ops : List Op) (log : List Entry) → ReadsComeLast ops → IsListed ops log → IsWhole ops log → IsRising log → Realises ops log
realised_by_rising ops log last listed whole rising =
    realised_by_stages (λ _. 0) ops log (λ first second must. inr (refl, follows_later ops last first second must)) listed whole (λ i j d lt in'. inr (refl, rising i j d lt in'))

pub rising_in_order : (ops : List Op) → IsRising (entries_from 0 ops)
rising_in_order ops i j d lt in' =
    let low : i < length (entries_from 0 ops) = omega arith in
    let p : (get_or (entries_from 0 ops) i d).op ≡ i = ap (λ (e : Entry). e.op) (get_or-in_order ops i d low) in
    let q : (get_or (entries_from 0 ops) j d).op ≡ j = ap (λ (e : Entry). e.op) (get_or-in_order ops j d in') in
    omega arith

-- what stands at a number is the op of that number
pub entries_at_number : (ops : List Op) → All (λ e. slice_get ops e.op ≡ Some e.what) (entries_from 0 ops)
entries_at_number ops k d lt =
    let low : k < length ops = omega (arith, length-entries_from 0 ops) in
    let P : Entry → Type 0 = λ e. slice_get ops e.op ≡ Some e.what in
    subst P (sym (get_or-in_order ops k d lt)) (slice_get-get_or ops k d.what low)

-- each op has its entry
pub entries_have : (ops : List Op) (n : ℕ) (what : Op) → slice_get ops n ≡ Some what → Contains (entries_from 0 ops) (record { op = n; what = what })
entries_have ops n what is =
    let low : n < length (entries_from 0 ops) = omega (arith, length-entries_from 0 ops, slice_get_within ops n what is) in
    let x : Entry = record { op = n; what = what } in
    (n, low, get_or-in_order ops n x low ∙ ap (λ (op : Op). record { op = n; what = op }) (get_or_from_slice_get ops n what what is))

pub whole_in_order : (ops : List Op) → IsWhole ops (entries_from 0 ops)
whole_in_order ops n what is fence = entries_have ops n what is

pub listed_in_order : (ops : List Op) → All (λ op. op ≢ Fence) ops → IsListed ops (entries_from 0 ops)
listed_in_order ops none k d lt =
    let low : k < length ops = omega (arith, length-entries_from 0 ops) in
    let same : (get_or (entries_from 0 ops) k d).what ≡ get_or ops k d.what = ap (λ (e : Entry). e.what) (get_or-in_order ops k d lt) in
    (entries_at_number ops k d lt, subst (λ (op : Op). op ≢ Fence) (sym same) (none k d.what low))

-- A list without fences in which no gate follows a read is realised by the log of its ops in their order.
pub realised_in_order_reads_last : (ops : List Op) → All (λ op. op ≢ Fence) ops → ReadsComeLast ops → Realises ops (entries_from 0 ops)
realised_in_order_reads_last ops none last =
    realised_by_rising ops (entries_from 0 ops) last (listed_in_order ops none) (whole_in_order ops) (rising_in_order ops)

gate_is_no_fence : (op : Op) → IsGate op → op ≢ Fence
gate_is_no_fence (One q angles) gate is = cc
gate_is_no_fence (Two a b) gate is = cc
gate_is_no_fence Fence gate is = gate
gate_is_no_fence (Read q bit) gate is = gate

gate_is_no_read : (op : Op) → IsGate op → IsRead op → ⊥
gate_is_no_read (One q angles) gate read = read
gate_is_no_read (Two a b) gate read = read
gate_is_no_read Fence gate read = gate
gate_is_no_read (Read q bit) gate read = gate

pub gates_come_before : (ops : List Op) → All IsGate ops → ReadsComeLast ops
gates_come_before ops gates i j a b a_is b_is read gate =
    absurd (gate_is_no_read a (subst IsGate (get_or_from_slice_get ops i a a a_is) (gates i a (slice_get_within ops i a a_is))) read)

-- A list of gates is realised by the log of its gates in their order.
pub realised_in_order : (ops : List Op) → All IsGate ops → Realises ops (entries_from 0 ops)
realised_in_order ops gates =
    realised_in_order_reads_last ops (λ k d lt. gate_is_no_fence (get_or ops k d) (gates k d lt)) (gates_come_before ops gates)

-- the log of the first n ops, in their order
abbrev pub first_entries : ℕ → List Op → List Entry
first_entries n ops = entries_from 0 (take n ops)

pub first_entries_none : (ops : List Op) → first_entries 0 ops ≡ []
first_entries_none ops = refl

-- one op more
pub first_entries_more : (n : ℕ) (ops : List Op) (op : Op) → slice_get ops n ≡ Some op → first_entries (n + 1) ops ≡ first_entries n ops ++ (record { op = n; what = op }) ∷ []
first_entries_more n ops op is =
    let within : n < length ops = slice_get_within ops n op is in
    let size : 0 + length (take n ops) ≡ n = omega (arith, length-take-le n ops (omega arith)) in
    let at : ℕ → List Entry = λ m. first_entries n ops ++ (record { op = m; what = op }) ∷ [] in
    ap (entries_from 0) (take_more ops n op within)
    ∙ entries_from-push 0 (take n ops) (get_or ops n op)
    ∙ ap (λ (m : ℕ). first_entries n ops ++ (record { op = m; what = get_or ops n op }) ∷ []) size
    ∙ ap (λ (x : Op). first_entries n ops ++ (record { op = n; what = x }) ∷ []) (get_or_from_slice_get ops n op op is)

-- all ops
pub first_entries_all : (ops : List Op) → first_entries (length ops) ops ≡ entries_from 0 ops
first_entries_all ops = ap (entries_from 0) (take_all (length ops) ops (omega arith))

-- The first n gates are realised by their log.
pub first_realised : (n : ℕ) (ops : List Op) → All IsGate ops → Realises (take n ops) (first_entries n ops)
first_realised n ops gates = realised_in_order (take n ops) (All-take IsGate n ops gates)

-- the stage of an op: its gates first, and then its reads
stage_of : Option Op → ℕ
stage_of None = 0
stage_of (Some (One q angles)) = 0
stage_of (Some (Two a b)) = 0
stage_of (Some Fence) = 0
stage_of (Some (Read q bit)) = 1

gate_stage : (op : Op) → IsGate op → stage_of (Some op) ≡ 0
unfolding stage_of
gate_stage (One q angles) gate = refl
gate_stage (Two a b) gate = refl
gate_stage Fence gate = refl
gate_stage (Read q bit) gate = absurd gate

read_stage : (op : Op) → IsRead op → stage_of (Some op) ≡ 1
unfolding stage_of
read_stage (One q angles) read = absurd read
read_stage (Two a b) read = absurd read
read_stage Fence read = absurd read
read_stage (Read q bit) read = refl

gate_passes : (op : Op) → is_gate op ≡ true → IsGate op
gate_passes (One q angles) passes = tt
gate_passes (Two a b) passes = tt
gate_passes Fence passes = cc
gate_passes (Read q bit) passes = cc

read_passes : (op : Op) → is_read op ≡ true → IsRead op
read_passes (One q angles) passes = cc
read_passes (Two a b) passes = cc
read_passes Fence passes = cc
read_passes (Read q bit) passes = tt

read_is_no_fence : (op : Op) → IsRead op → op ≢ Fence
read_is_no_fence (One q angles) read is = read
read_is_no_fence (Two a b) read is = read
read_is_no_fence Fence read is = read
read_is_no_fence (Read q bit) read is = cc

gate_or_read : (op : Op) → op ≢ Fence → (is_gate op ≡ true) ⊎ (is_read op ≡ true)
gate_or_read (One q angles) fence = inl refl
gate_or_read (Two a b) fence = inl refl
gate_or_read Fence fence = absurd (fence refl)
gate_or_read (Read q bit) fence = inr refl

-- of the entries, those that pass a test on their ops
module _ (ops : List Op) (test : Op → Bool) where
  pub passing_at_number : All (λ e. slice_get ops e.op ≡ Some e.what) (filter (λ (e : Entry). test e.what) (entries_from 0 ops))
  passing_at_number = All-filter (λ (e : Entry). test e.what) (λ (e : Entry). slice_get ops e.op ≡ Some e.what) (entries_from 0 ops) (entries_at_number ops)

  pub passing_pass : All (λ e. test e.what ≡ true) (filter (λ (e : Entry). test e.what) (entries_from 0 ops))
  passing_pass = filter_passes (λ (e : Entry). test e.what) (entries_from 0 ops)

  pub passing_rise : IsRising (filter (λ (e : Entry). test e.what) (entries_from 0 ops))
  passing_rise = AllPairs-filter (λ (d e : Entry). d.op < e.op) (λ (e : Entry). test e.what) (entries_from 0 ops) (rising_in_order ops)

-- Each list is realised by the log of its gates in source order and then of its reads in source order.
pub realised_gates_then_reads : (ops : List Op) → Realises ops (gates_then_reads ops)
realised_gates_then_reads ops =
    let gates = filter (λ (e : Entry). is_gate e.what) (entries_from 0 ops) in
    let reads = filter (λ (e : Entry). is_read e.what) (entries_from 0 ops) in
    let stage : ℕ → ℕ = λ n. stage_of (slice_get ops n) in
    let Later : Entry → Entry → Type 0 = λ d e. (stage d.op < stage e.op) ⊎ ((stage d.op ≡ stage e.op) × (d.op < e.op)) in
    let at_gate : (k : ℕ) (d : Entry) → k < length gates → stage (get_or gates k d).op ≡ 0 = λ k d lt.
    ap stage_of (passing_at_number ops is_gate k d lt) ∙ gate_stage (get_or gates k d).what (gate_passes (get_or gates k d).what (passing_pass ops is_gate k d lt)) in
    let at_read : (k : ℕ) (d : Entry) → k < length reads → stage (get_or reads k d).op ≡ 1 = λ k d lt.
    ap stage_of (passing_at_number ops is_read k d lt) ∙ read_stage (get_or reads k d).what (read_passes (get_or reads k d).what (passing_pass ops is_read k d lt)) in
    realised_by_stages stage ops (gates_then_reads ops) (waits_by_stage ops)
    (All-append (λ (e : Entry). (slice_get ops e.op ≡ Some e.what) × (e.what ≢ Fence)) gates reads
    (λ k d lt. (passing_at_number ops is_gate k d lt, gate_is_no_fence (get_or gates k d).what (gate_passes (get_or gates k d).what (passing_pass ops is_gate k d lt))))
    (λ k d lt. (passing_at_number ops is_read k d lt, read_is_no_fence (get_or reads k d).what (read_passes (get_or reads k d).what (passing_pass ops is_read k d lt)))))
    (λ n what is fence.
    let x : Entry = record { op = n; what = what } in
    ⊎_elim (λ passes. Contains-append_left gates reads x (Contains-filter (λ (e : Entry). is_gate e.what) (entries_from 0 ops) x passes (entries_have ops n what is)))
    (λ passes. Contains-append_right gates reads x (Contains-filter (λ (e : Entry). is_read e.what) (entries_from 0 ops) x passes (entries_have ops n what is)))
    (gate_or_read what fence))
    (AllPairs-append Later gates reads
    (λ i j d lt in'. let low : i < length gates = omega arith in inr (at_gate i d low ∙ sym (at_gate j d in'), passing_rise ops is_gate i j d lt in'))
    (λ i j d lt in'. let low : i < length reads = omega arith in inr (at_read i d low ∙ sym (at_read j d in'), passing_rise ops is_read i j d lt in'))
    (λ i d lt j e in'. let a = at_gate i d lt in let b = at_read j e in' in inl (omega (arith, a, b))))
  where
    waits_by_stage : (ops : List Op) (first second : ℕ) → MustFollow ops first second →
        (stage_of (slice_get ops first) < stage_of (slice_get ops second)) ⊎ ((stage_of (slice_get ops first) ≡ stage_of (slice_get ops second)) × (first < second))
    waits_by_stage ops first second must =
        ⊎_elim
        (λ gates. inr (ap stage_of must.a_is ∙ gate_stage must.a gates.0 ∙ sym (ap stage_of must.b_is ∙ gate_stage must.b gates.1), gates.2))
        (λ reads.
        let late = ap stage_of must.b_is ∙ read_stage must.b reads.0 in
        ⊎_elim
        (λ gate. let early = ap stage_of must.a_is ∙ gate_stage must.a gate in inl (omega (arith, early, late)))
        (λ both. inr (ap stage_of must.a_is ∙ read_stage must.a both.0 ∙ sym late, both.1))
        reads.1)
        must.reason
