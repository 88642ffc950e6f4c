-- What a checklist keeps, so that what an op waits for is found at once.
use Rattle.std.specs.Prelude.{◌≡◌, ◌==◌, ℕ, ◌+◌, ◌<◌, ◌≤◌, ◌||◌, ◌&&◌, not, ◌↔◌, Bool, true, false, List, length, map, take, count_by, Option, Some, None, slice_index, slice_index_or, slice_set}
use Rattle.std.specs.List.{slice_get}
use Rattle.zac_gates.specs.declared.circuit.Op.{Op}
use Rattle.zac_gates.specs.declared.circuit.Op.TheVariants.{One, Two, Fence, Read}
use Rattle.zac_gates.specs.declared.waiting.Links.{Links}
use Rattle.zac_gates.specs.declared.waiting.Progress.{Progress}
use Rattle.zac_gates.specs.Ops.{NativeCircuit, MustFollow, IsFencedBetween, is_gate, is_read}
use Rattle.zac_gates.specs.Log.{Entry}
use Rattle.zac_gates.specs.Checklist.{IsPerformed, IsPerformable}

-- both qubits of a pair, and the qubit of a one-qubit gate twice
abbrev pub gate_qubits : Op → Option (ℕ × ℕ)
gate_qubits (One q angles) = Some (q, q)
gate_qubits (Two a b) = Some (a, b)
gate_qubits Fence = None
gate_qubits (Read q bit) = None

-- the qubit is one of the two, if there are two
abbrev pub is_either : ℕ → Option (ℕ × ℕ) → Bool
is_either q None = false
is_either q (Some p) = (p.0 == q) || (p.1 == q)

-- the op is a gate that names the qubit
abbrev pub is_gate_on : ℕ → Op → Bool
is_gate_on q op = is_either q (gate_qubits op)

-- the op at this place passes the test
abbrev pub passes : (Op → Bool) → Option Op → Bool
passes test None = false
passes test (Some op) = test op

-- the op at this place passes the test, and it has no mark
abbrev pub is_open : (Op → Bool) → List Op → List Bool → ℕ → Bool
is_open test ops marks k = passes test (slice_get ops k) && not (slice_index_or marks k false)

-- the first place from `start` on that passes the test, and n where none below n does
pub record IsFirst (test : ℕ → Bool) (start n first : ℕ) : Type 0 where
  pub behind : start ≤ first
  pub within : first ≤ n
  pub here : first < n → test first ≡ true
  pub before : (k : ℕ) → start ≤ k → k < first → test k ≡ false

-- the next gates on the two qubits of a gate
abbrev pub AreNext : List Op → ℕ → ℕ × ℕ → ℕ × ℕ → Type 0
AreNext ops k qubits next =
    IsFirst (λ i. passes (is_gate_on qubits.0) (slice_get ops i)) (k + 1) (length ops) next.0
    × IsFirst (λ i. passes (is_gate_on qubits.1) (slice_get ops i)) (k + 1) (length ops) next.1

-- the next gates of each gate from the place k on, and on each qubit the first gate from there on
pub record AreNextFrom (ops : List Op) (next : List (ℕ × ℕ)) (first : List ℕ) (k : ℕ) : Type 0 where
  pub len : length next ≡ length ops
  pub nexts : (i : ℕ) (op : Op) (qubits : ℕ × ℕ) → k ≤ i → slice_get ops i ≡ Some op → gate_qubits op ≡ Some qubits → AreNext ops i qubits (slice_index_or next i (0, 0))
  pub firsts : (q : ℕ) → q < length first → IsFirst (λ i. passes (is_gate_on q) (slice_get ops i)) k (length ops) (slice_index first q)

-- the first gates on two qubits once those gates, if there are two, were passed
abbrev pub passed_on : List ℕ → Option (ℕ × ℕ) → ℕ × ℕ → List ℕ
passed_on on None next = on
passed_on on (Some p) next = slice_set (slice_set on p.0 next.0) p.1 next.1

-- what follows from the ops alone
pub record AreLinks (ops : List Op) (links : Links) : Type 0 where
  pub next_len : length links.next.items ≡ length ops
  pub fences_len : length links.fences.items ≡ length ops
  pub next : (k : ℕ) (op : Op) (qubits : ℕ × ℕ) → slice_get ops k ≡ Some op → gate_qubits op ≡ Some qubits → AreNext ops k qubits (slice_index_or links.next.items k (0, 0))
  pub fences : (i k : ℕ) → k < length ops → IsFencedBetween ops i k ↔ (i < slice_index links.fences.items k)

-- the marks, the first gate and the first read without a mark, and on each qubit the first gate without a mark
pub record IsProgress (ops : List Op) (p : Progress) : Type 0 where
  pub marks_len : length p.marks.items ≡ length ops
  pub gate : IsFirst (is_open is_gate ops p.marks.items) 0 (length ops) p.gate
  pub read : IsFirst (is_open is_read ops p.marks.items) 0 (length ops) p.read
  pub on_qubit : (q : ℕ) → q < length p.on_qubit.items → IsFirst (is_open (is_gate_on q) ops p.marks.items) 0 (length ops) (slice_index p.on_qubit.items q)

-- the op at this place has a mark
abbrev pub IsMarked : List Bool → ℕ → Type 0
IsMarked marks k = slice_index_or marks k false ≡ true

-- the op at this place has no mark
abbrev pub IsUnmarked : List Bool → ℕ → Type 0
IsUnmarked marks k = slice_index_or marks k false ≡ false

-- what an op with a mark must follow has a mark
abbrev pub IsClosed : List Op → List Bool → Type 0
IsClosed ops marks = (j k : ℕ) → MustFollow ops j k → IsMarked marks k → IsMarked marks j

-- what the op must follow has a mark
abbrev pub IsReady : List Op → List Bool → ℕ → Type 0
IsReady ops marks n = (k : ℕ) → MustFollow ops k n → IsMarked marks k

-- the least op without a mark that the op n must follow
pub record IsLeastUnmarked (ops : List Op) (marks : List Bool) (n waits : ℕ) : Type 0 where
  pub must : MustFollow ops waits n
  pub unmarked : IsUnmarked marks waits
  pub least : (k : ℕ) → k < waits → MustFollow ops k n → IsMarked marks k

-- the qubits of the gates are below this number
abbrev pub HasQubitsBelow : List Op → ℕ → Type 0
HasQubitsBelow ops qubits = (k : ℕ) (op : Op) (p : ℕ × ℕ) → slice_get ops k ≡ Some op → gate_qubits op ≡ Some p → (p.0 < qubits) × (p.1 < qubits)

-- the log of the ops of these numbers
abbrev pub log_of : List Op → List ℕ → List Entry
log_of ops numbers = map (λ n. record { op = n; what = slice_index_or ops n Fence }) numbers

-- the marks stand at what the log has, and it has one entry for each
pub record AreMarks (ops : List Op) (marks : List Bool) (log : List Entry) : Type 0 where
  pub performable : IsPerformable ops log
  pub marked : (n : ℕ) → IsMarked marks n ↔ IsPerformed log n
  pub count : length log ≡ count_by (λ b. b) marks

-- what a checklist keeps of its circuit and of the log
pub record IsChecking (c : NativeCircuit) (order : List ℕ) (count : ℕ) (links : Links) (progress : Progress) : Type 0 where
  pub order_len : length order ≡ length c.ops
  pub count_in : count ≤ length order
  pub links_are : AreLinks c.ops links
  pub progress_is : IsProgress c.ops progress
  pub qubits_are : length progress.on_qubit.items ≡ c.qubits
  pub marks_are : AreMarks c.ops progress.marks.items (log_of c.ops (take count order))
