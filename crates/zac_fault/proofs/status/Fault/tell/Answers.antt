use Rattle.zac_fault.proofs.status.Fault.tell.Goals as goal

pub returns-in-Qubits-clause-line : goal.returns-in-Qubits-clause-line
returns-in-Qubits-clause-line g c = rw (c.in-Qubits.is, ← c.from-in-Qubits.ensures, ← c.from-in-Qubits-2.ensures) c.tell_parts-in-Qubits.ensures.line

pub returns-in-Read-clause-line : goal.returns-in-Read-clause-line
returns-in-Read-clause-line g c = rw (c.in-Read.is, ← c.name.ensures) c.tell_parts.ensures.line
