-- What a checklist shows, which op can be performed next, and why one is refused.
use Rattle.std.specs.Prelude.{◌≡◌, ◌≢◌, ℕ, ◌<◌, ◌⊎◌, List, Some, take}
use Rattle.std.specs.List.{slice_get, Any}
use Rattle.zac_gates.specs.declared.circuit.Op.{Op}
use Rattle.zac_gates.specs.declared.circuit.Op.TheVariants.{Fence}
use Rattle.zac_gates.specs.declared.checklist.CheckFault as faults
use Rattle.zac_gates.specs.declared.checklist.CheckFault.{CheckFault}
use Rattle.zac_gates.specs.Ops.{NativeCircuit, MustFollow}
use Rattle.zac_gates.specs.Log.{Entry}

-- A circuit, and the log of those of its ops that were performed. It is the model of a `Checklist`.
pub record Checking : Type 0 where
  pub circuit : NativeCircuit
  pub log : List Entry

-- The op of this number stands in the log.
abbrev pub IsPerformed : List Entry → ℕ → Type 0
IsPerformed log n = Any (λ e. e.op ≡ n) log

-- The list has an op of this number and content, and it is no fence.
abbrev pub IsListedAs : List Op → ℕ → Op → Type 0
IsListedAs ops n what = (slice_get ops n ≡ Some what) × (what ≢ Fence)

-- The op of this number and content can be performed behind the log: it is in the list and no fence, it was not
-- performed, and each op that it must follow was.
pub record CanPerform (ops : List Op) (log : List Entry) (n : ℕ) (what : Op) : Type 0 where
  pub listed : IsListedAs ops n what
  pub once : ¬ IsPerformed log n
  pub ready : (k : ℕ) → MustFollow ops k n → IsPerformed log k

-- Each entry of the log can be performed behind those before it.
abbrev pub IsPerformable : List Op → List Entry → Type 0
IsPerformable ops log = (k : ℕ) (e : Entry) → slice_get log k ≡ Some e → CanPerform ops (take k log) e.op e.what

-- Each op of the list but the fences was performed.
abbrev pub IsAllPerformed : List Op → List Entry → Type 0
IsAllPerformed ops log = (n : ℕ) (what : Op) → IsListedAs ops n what → IsPerformed log n

-- It is the least op other than a fence that was not performed.
pub record IsMissing (ops : List Op) (log : List Entry) (n : ℕ) : Type 0 where
  pub what : Op
  pub listed : IsListedAs ops n what
  pub open_yet : ¬ IsPerformed log n
  pub least : (k : ℕ) (op : Op) → k < n → IsListedAs ops k op → IsPerformed log k

-- It is the least of the ops that the op n must follow that was not performed.
pub record IsAwaited (ops : List Op) (log : List Entry) (n waits : ℕ) : Type 0 where
  pub must : MustFollow ops waits n
  pub open_yet : ¬ IsPerformed log waits
  pub least : (k : ℕ) → k < waits → MustFollow ops k n → IsPerformed log k

-- Why the op of this number and content is refused behind the log, the first of these: the list has no op of this
-- number and content, or it is a fence; it was performed; it must follow an op that was not.
abbrev pub IsRefused : List Op → List Entry → ℕ → Op → CheckFault → Type 0
IsRefused ops log n what (faults.TheVariants.Content op) =
    (op ≡ n) × ((slice_get ops n ≢ Some what) ⊎ (what ≡ Fence))
IsRefused ops log n what (faults.TheVariants.Again op) = (op ≡ n) × IsListedAs ops n what × IsPerformed log n
IsRefused ops log n what (faults.TheVariants.Early op waits) =
    (op ≡ n) × IsListedAs ops n what × (¬ IsPerformed log n) × IsAwaited ops log n waits
