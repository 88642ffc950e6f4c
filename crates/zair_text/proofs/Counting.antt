-- What the pass over a program has counted after one instruction more.
use Rattle.std.proofs.Common.{◌≡◌, ℕ, ◌+◌, Bool, true, false, ◌&&◌, ◌||◌, cond, max, List, [], ◌∷◌, ◌++◌, map, length, refl, sym, ap, ap₂, ◌∙◌, arith, append_assoc, append-nil, get_or, take, ◌<◌}
use Rattle.std.specs.List.{sum_by, count_by, list_all, fold}
use Rattle.std.proofs.lemmas.List.Folds.{list_all-append}
use Rattle.std.proofs.lemmas.List.Sums.{fold-append, sum_by_push}
use Rattle.std.proofs.lemmas.List.{map-append, take_more}
use Rattle.zair_form.specs.Steps.{homes}
use Rattle.zair_form.specs.declared.step.PairOf.{PairOf}
use Rattle.zair_form.specs.declared.program.Instr.{Instr}
use Rattle.zair_text.specs.Tally.{told, ones_of, pairs_of, reads_of, job_steps, is_pulse, is_job, moved_by, is_paired, lets_stay, is_held, kept_pairs, kept_behind, total, totals_of}
use Rattle.zair_text.specs.declared.counts.Totals.{Totals}

-- a told count, and more
pub told_more : (a b : ℕ) → told (told a + b) ≡ told (a + b)
told_more a b = omega arith

pub none_more : (n : ℕ) → told (0 + n) ≡ told n
none_more n = omega arith

pub told_both : (a b : ℕ) → told (told a + told b) ≡ told (a + b)
told_both a b = omega arith

-- tests of one item more
any_or_all : (p a l y : Bool) (h : Bool) → ((p && (a && (l && true))) || (y || (h && l))) ≡ (y || (((p && a) || h) && l))
any_or_all true true true true h = refl
any_or_all true true true false true = refl
any_or_all true true true false false = refl
any_or_all true true false true h = refl
any_or_all true true false false true = refl
any_or_all true true false false false = refl
any_or_all true false l y h = refl
any_or_all false a l y h = refl

one_or_none : (p l : Bool) → ((p && true) || false) ≡ (p || (false && l))
one_or_none true l = refl
one_or_none false l = refl

-- what is held behind one instruction more
pub is_held_more : (q : ℕ) (xs : List Instr) (y : Instr) → is_held q (xs ++ y ∷ []) ≡ (is_paired q (pairs_of y.act) || (is_held q xs && lets_stay q y.act))
unfolding is_held
is_held_more q [] y = one_or_none (is_paired q (pairs_of y.act)) (lets_stay q y.act)
is_held_more q (x ∷ xs) y =
    let stays : Instr → Bool = λ j. lets_stay q j.act in
    let both = list_all-append stays xs (y ∷ []) in
    ap₂ (λ a h. (is_paired q (pairs_of x.act) && a) || h) both (is_held_more q xs y)
    ∙ any_or_all (is_paired q (pairs_of x.act)) (list_all stays xs) (stays y) (is_paired q (pairs_of y.act)) (is_held q xs)

-- what is kept of one instruction more
pub kept_behind_more : (before xs : List Instr) (y : Instr) → kept_behind before (xs ++ y ∷ []) ≡ kept_behind before xs + kept_pairs (before ++ xs) (pairs_of y.act)
unfolding kept_behind
kept_behind_more before [] y =
    let same : kept_pairs (before ++ []) (pairs_of y.act) ≡ kept_pairs before (pairs_of y.act) = ap (λ b. kept_pairs b (pairs_of y.act)) (append-nil before) in
    omega (arith, same)
kept_behind_more before (x ∷ xs) y =
    let same : kept_pairs ((before ++ x ∷ []) ++ xs) (pairs_of y.act) ≡ kept_pairs (before ++ x ∷ xs) (pairs_of y.act) =
    ap (λ b. kept_pairs b (pairs_of y.act)) (append_assoc before (x ∷ []) xs) in
    let more = kept_behind_more (before ++ x ∷ []) xs y in
    omega (arith, same, more)

-- tests that agree count alike
count_same : {X : Type 0} (p q : X → Bool) → ((x : X) → p x ≡ q x) → (xs : List X) → count_by p xs ≡ count_by q xs
count_same {X} p q same xs =
    let one : p ≡ q = λ i x. same x i in
    ap (λ (t : X → Bool). count_by t xs) one

-- the count of one item more
pub count_more : {X : Type 0} (p : X → Bool) (xs : List X) (i : ℕ) (d : X) (test : Bool) (a b : ℕ) → i < length xs → test ≡ p (get_or xs i d) →
    a ≡ told (count_by p (take i xs)) → b ≡ told (a + cond {A = ℕ} test 1 0) → b ≡ told (count_by p (take (i + 1) xs))
count_more {X} p xs i d test a b h is k l =
    let one : X → ℕ = λ x. cond (p x) 1 0 in
    let more : count_by p (take (i + 1) xs) ≡ count_by p (take i xs) + cond {A = ℕ} (p (get_or xs i d)) 1 0 =
    ap (sum_by one) (take_more xs i d h) ∙ sum_by_push one (take i xs) (get_or xs i d) in
    let same : cond {A = ℕ} test 1 0 ≡ cond {A = ℕ} (p (get_or xs i d)) 1 0 = ap (λ t. cond {A = ℕ} t 1 0) is in
    omega (arith, more, same)

-- the pairs that the set tells to be kept
pub kept_same : (before : List Instr) (pairs : List PairOf) (has : ℕ → Bool) → ((q : ℕ) → has q ≡ is_held q before) →
    count_by (λ p. has p.a || has p.b) pairs ≡ kept_pairs before pairs
kept_same before pairs has same =
    count_same (λ p. has p.a || has p.b) (λ p. is_held p.a before || is_held p.b before) (λ p. ap₂ (λ a b. a || b) (same p.a) (same p.b)) pairs

sum_more : (f : Instr → ℕ) (before : List Instr) (x : Instr) (a b : ℕ) → a ≡ told (sum_by f before) → b ≡ told (a + f x) → b ≡ told (sum_by f (before ++ x ∷ []))
sum_more f before x a b h k = omega (arith, sum_by_push f before x)

time_more : (before : List Instr) (x : Instr) (a b : ℕ) → a ≡ fold max 0 (map (λ i. i.end) before) → b ≡ max a x.end → b ≡ fold max 0 (map (λ i. i.end) (before ++ x ∷ []))
time_more before x a b h k =
    let end : Instr → ℕ = λ i. i.end in
    k ∙ ap (λ n. max n x.end) h ∙ sym (ap (fold max 0) (map-append end before (x ∷ [])) ∙ fold-append max 0 (map end before) (x.end ∷ []))

-- The totals are those of these instructions, but for the qubits.
pub record Counts (before : List Instr) (t : Totals) : Type 0 where
  pub gates : t.gates ≡ total (λ act. length (ones_of act)) before
  pub jobs : t.jobs ≡ told (count_by (λ i. is_job i.act) before)
  pub kept : t.kept ≡ told (kept_behind [] before)
  pub moved : t.moved ≡ total (λ act. moved_by (job_steps act)) before
  pub pairs : t.pairs ≡ total (λ act. length (pairs_of act)) before
  pub pulses : t.pulses ≡ told (count_by (λ i. is_pulse i.act) before)
  pub reads : t.reads ≡ total (λ act. length (reads_of act)) before
  pub time : t.time ≡ fold max 0 (map (λ i. i.end) before)

-- The second totals are the first ones and one instruction more, of which so many pairs are kept.
pub record AddsOne (t : Totals) (x : Instr) (so_many : ℕ) (u : Totals) : Type 0 where
  pub gates : u.gates ≡ told (t.gates + length (ones_of x.act))
  pub jobs : u.jobs ≡ told (t.jobs + cond (is_job x.act) 1 0)
  pub kept : u.kept ≡ told (t.kept + so_many)
  pub moved : u.moved ≡ told (t.moved + moved_by (job_steps x.act))
  pub pairs : u.pairs ≡ told (t.pairs + length (pairs_of x.act))
  pub pulses : u.pulses ≡ told (t.pulses + cond (is_pulse x.act) 1 0)
  pub reads : u.reads ≡ told (t.reads + length (reads_of x.act))
  pub time : u.time ≡ max t.time x.end

kept_more : (before : List Instr) (x : Instr) (a kept b : ℕ) → a ≡ told (kept_behind [] before) → kept ≡ told (kept_pairs before (pairs_of x.act)) → b ≡ told (a + kept) →
    b ≡ told (kept_behind [] (before ++ x ∷ []))
kept_more before x a kept b h k l = omega (arith, kept_behind_more [] before x)

pub counts_more : (before : List Instr) (t u : Totals) (x : Instr) (kept : ℕ) → Counts before t → AddsOne t x kept u → kept ≡ told (kept_pairs before (pairs_of x.act)) → Counts (before ++ x ∷ []) u
counts_more before t u x kept h k same = record {
  gates = sum_more (λ i. length (ones_of i.act)) before x t.gates u.gates h.gates k.gates;
  jobs = sum_more (λ i. cond (is_job i.act) 1 0) before x t.jobs u.jobs h.jobs k.jobs;
  kept = kept_more before x t.kept kept u.kept h.kept same k.kept;
  moved = sum_more (λ i. moved_by (job_steps i.act)) before x t.moved u.moved h.moved k.moved;
  pairs = sum_more (λ i. length (pairs_of i.act)) before x t.pairs u.pairs h.pairs k.pairs;
  pulses = sum_more (λ i. cond (is_pulse i.act) 1 0) before x t.pulses u.pulses h.pulses k.pulses;
  reads = sum_more (λ i. length (reads_of i.act)) before x t.reads u.reads h.reads k.reads;
  time = time_more before x t.time u.time h.time k.time;
}

-- totals that count no instruction
pub counts_none : (t : Totals) → t.gates ≡ 0 → t.jobs ≡ 0 → t.kept ≡ 0 → t.moved ≡ 0 → t.pairs ≡ 0 → t.pulses ≡ 0 → t.reads ≡ 0 → t.time ≡ 0 → Counts [] t
unfolding kept_behind
counts_none t gates jobs kept moved pairs pulses reads time =
    record { gates = gates; jobs = jobs; kept = kept; moved = moved; pairs = pairs; pulses = pulses; reads = reads; time = time }

-- totals that count all of them
pub counts_all : (program : List Instr) (t : Totals) → Counts program t → t.qubits ≡ told (length (homes program)) → t ≡ totals_of program
unfolding totals_of
counts_all program t h qubits = λ i. record {
  gates = h.gates i;
  jobs = h.jobs i;
  kept = h.kept i;
  moved = h.moved i;
  pairs = h.pairs i;
  pulses = h.pulses i;
  qubits = qubits i;
  reads = h.reads i;
  time = h.time i;
}
