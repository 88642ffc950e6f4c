use Rattle.std.proofs.Common.{refl, inl, inr, lit<}
use Rattle.zac_gates.specs.declared.circuit.Op.TheVariants as op
use Rattle.zair_state.specs.Examples.{hadamard}
use Rattle.zair_state.proofs.examples.ops_wait.Goals as goal

pub returns-clause-fence : goal.returns-clause-fence
returns-clause-fence c = record {
  a = op.One 0 hadamard;
  b = op.One 2 hadamard;
  a_is = refl;
  b_is = refl;
  reason = inl (tt, tt, lit< tt, inr (2, lit< tt, lit< tt, refl));
}

pub returns-clause-qubit : goal.returns-clause-qubit
returns-clause-qubit c = record {
  a = op.One 2 hadamard;
  b = op.Two 1 2;
  a_is = refl;
  b_is = refl;
  reason = inl (tt, tt, lit< tt, inl (2, refl, inr refl));
}

pub returns-clause-read : goal.returns-clause-read
returns-clause-read c = record { a = op.Two 1 2; b = op.Read 0 0; a_is = refl; b_is = refl; reason = inr (tt, inl tt) }
