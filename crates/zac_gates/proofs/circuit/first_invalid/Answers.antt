use Rattle.std.proofs.Common.{◌≡◌, length, Some, slice_get, arith}
use Rattle.std.specs.Ordering.{nat_cmp}
use Rattle.std.specs.BTreeSet.{contains}
use Rattle.std.proofs.lemmas.Option.{slice_get_read}
use Rattle.zac_gates.specs.Ops.{NativeCircuit}
use Rattle.zac_gates.proofs.Validity.{valid_at, valid_more, valid_all, reads_more}
use Rattle.zac_gates.proofs.circuit.first_invalid.Goals as goal

pub loop-i-preserved : goal.loop-i-preserved
loop-i-preserved c =
    let circuit : NativeCircuit = record { qubits = c.args.qubits; bits = c.args.bits; ops = c.args.ops.now } in
    let op = c.index-ops-i.result in
    let is : slice_get c.args.ops.now c.loop-i.i ≡ Some op = slice_get_read c.args.ops.now (length c.args.ops.now) c.loop-i.i op (λ i. length c.args.ops.now) (omega arith) c.index-ops-i.is in
    let valid = valid_at circuit c.loop-i.i op (contains nat_cmp c.loop-i.read) c.loop-i.invariant.reads (c.is_in_range.ensures.0 c.if-not-is_in_range.false) (c.is_apart.ensures.0 c.if-not-is_apart.false) in
    record {
      valid = valid_more circuit c.loop-i.i op c.loop-i.invariant.valid is valid;
      reads = reads_more c.args.ops.now c.loop-i.i op (contains nat_cmp c.loop-i.read) (contains nat_cmp c.note_read.new.read) is c.loop-i.invariant.reads c.in_ok-note_read.ensures;
    }

pub returns : goal.returns
returns c =
    valid_all (record { qubits = c.args.qubits; bits = c.args.bits; ops = c.args.ops.now }) c.loop-i.i c.loop-i.invariant.valid (omega arith)
