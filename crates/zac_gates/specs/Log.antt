-- Logs of performed ops, and when a log realises a native list.
use Rattle.std.specs.Prelude.{◌≡◌, ◌≢◌, ℕ, not, List, ◌++◌, Some, map, filter}
use Rattle.std.specs.List.{slice_get, All, AllPairs, Contains, enumerate_from}
use Rattle.zac_gates.specs.declared.circuit.Op.{Op}
use Rattle.zac_gates.specs.declared.circuit.Op.TheVariants.{Fence}
use Rattle.zac_gates.specs.Ops.{MustFollow, is_gate, is_read, is_fence}

-- An op that was performed: its number, and the op itself.
pub record Entry : Type 0 where
  pub op : ℕ
  pub what : Op

-- An entry for each op of the list, numbered from this number on.
abbrev pub entries_from : ℕ → List Op → List Entry
entries_from n ops = map (λ (p : ℕ × Op). record { op = p.0; what = p.1 }) (enumerate_from n ops)

-- An entry for each op but the fences, in source order.
abbrev pub entries_in_order : List Op → List Entry
entries_in_order ops = filter (λ e. not (is_fence e.what)) (entries_from 0 ops)

-- The entries of the gates in source order, and then those of the reads in source order.
abbrev pub gates_then_reads : List Op → List Entry
gates_then_reads ops = filter (λ e. is_gate e.what) (entries_from 0 ops) ++ filter (λ e. is_read e.what) (entries_from 0 ops)

-- A log realises a list of ops: each entry is an op of the list and no fence; each op but a fence has an entry; no op
-- has two entries; and no entry stands before one that it must follow.
pub record Realises (ops : List Op) (log : List Entry) : Type 0 where
  -- what stands in the log is an op of the list, with its content, and no fence
  pub listed : All (λ e. (slice_get ops e.op ≡ Some e.what) × (e.what ≢ Fence)) log
  -- each op of the list but a fence stands in the log
  pub whole : (n : ℕ) (what : Op) → slice_get ops n ≡ Some what → what ≢ Fence → Contains log (record { op = n; what = what })
  -- none stands in it twice
  pub once : AllPairs (λ d e. d.op ≢ e.op) log
  -- none stands before one that it must follow
  pub in_order : AllPairs (λ d e. ¬ MustFollow ops e.op d.op) log
