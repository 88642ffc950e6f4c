use Rattle.zair_form.specs.Steps.{homes}
use Rattle.zac_watch.proofs.NoFault.{none_illegal_in_order, none_wrong}
use Rattle.zac_watch.proofs.laws.performing_programs_are_watched_whole.Goals as goal

pub returns-clause-homes : goal.returns-clause-homes
returns-clause-homes c = λ a circuit program q performs. none_wrong a circuit.qubits (homes program) q performs.homes

pub returns-clause-steps : goal.returns-clause-steps
returns-clause-steps c = none_illegal_in_order
