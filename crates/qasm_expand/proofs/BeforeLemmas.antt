-- What statements that pass no limit before the calls keep to.
use Rattle.std.proofs.Common.{◌≡◌, ℕ, ◌+◌, ◌-◌, ◌^◌, ◌≤◌, Bool, true, false, cond, nat_lt, min, List, [], ◌∷◌, Option, Some, None, refl, arith, ltb-false}
use Rattle.std.specs.List.{flat_map}
use Rattle.std.specs.Option.{option_or}
use Rattle.qasm_form.specs.declared.stmt.Stmt.{Stmt}
use Rattle.qasm_form.specs.declared.stmt.Stmt.TheVariants as stmt
use Rattle.qasm_expand.specs.declared.fault.LimitKind.{LimitKind}
use Rattle.qasm_expand.specs.declared.fault.LimitKind.TheVariants as limit
use Rattle.qasm_expand.specs.Items.{qubit_count, bit_count}
use Rattle.qasm_expand.specs.Limits.{Passed, beyond, passed_by_sizes, passed_by_literals, statement_literals, qubit_sizes, bit_sizes, passed_before_calls}

pub record BothNone {X : Type 0} (a b : Option X) : Type 0 where
  pub first : a ≡ None
  pub second : b ≡ None

pub both_none : {X : Type 0} (a b : Option X) → option_or a b ≡ None → BothNone a b
both_none None b h = record { first = refl; second = h }
both_none (Some x) b h = cc

test_fails : (b : Bool) (x : Passed) → cond b (Some x) None ≡ None → b ≡ false
test_fails true x h = cc
test_fails false x h = refl

pub not_beyond : (kind : LimitKind) (most count : ℕ) → beyond kind most count ≡ None → count ≤ most
not_beyond kind most count h = ltb-false most count (test_fails (nat_lt most count) (kind, min count (2 ^ 64 - 1)) h)

pub few_qubits : (kind : LimitKind) (most s : ℕ) (ss : List Stmt) → s ≤ most → passed_by_sizes kind most s (flat_map qubit_sizes ss) ≡ None → s + qubit_count ss ≤ most
few_qubits kind most s [] h e = omega arith
few_qubits kind most s (stmt.Qreg name size at ∷ ss) h e =
    let both = both_none (beyond kind most (s + size)) (passed_by_sizes kind most (s + size) (flat_map qubit_sizes ss)) e in
    let more = few_qubits kind most (s + size) ss (not_beyond kind most (s + size) both.first) both.second in
    omega (arith, more)
few_qubits kind most s (other ∷ ss) h e = few_qubits kind most s ss h e

pub few_bits : (kind : LimitKind) (most s : ℕ) (ss : List Stmt) → s ≤ most → passed_by_sizes kind most s (flat_map bit_sizes ss) ≡ None → s + bit_count ss ≤ most
few_bits kind most s [] h e = omega arith
few_bits kind most s (stmt.Creg name size at ∷ ss) h e =
    let both = both_none (beyond kind most (s + size)) (passed_by_sizes kind most (s + size) (flat_map bit_sizes ss)) e in
    let more = few_bits kind most (s + size) ss (not_beyond kind most (s + size) both.first) both.second in
    omega (arith, more)
few_bits kind most s (other ∷ ss) h e = few_bits kind most s ss h e

-- the numbers are short, and the registers have few places
pub record IsSmall (ss : List Stmt) : Type 0 where
  pub literals : passed_by_literals (flat_map statement_literals ss) ≡ None
  pub qubits : qubit_count ss ≤ 4096
  pub bits : bit_count ss ≤ 65536

pub small_before_calls : (ss : List Stmt) → passed_before_calls ss ≡ None → IsSmall ss
small_before_calls ss h =
    let one = both_none (passed_by_literals (flat_map statement_literals ss)) (option_or (passed_by_sizes limit.Qubits 4096 0 (flat_map qubit_sizes ss)) (passed_by_sizes limit.Bits 65536 0 (flat_map bit_sizes ss))) h in
    let two = both_none (passed_by_sizes limit.Qubits 4096 0 (flat_map qubit_sizes ss)) (passed_by_sizes limit.Bits 65536 0 (flat_map bit_sizes ss)) one.second in
    let qubits = few_qubits limit.Qubits 4096 0 ss (omega arith) two.first in
    let bits = few_bits limit.Bits 65536 0 ss (omega arith) two.second in
    record { literals = one.first; qubits = omega (arith, qubits); bits = omega (arith, bits) }
