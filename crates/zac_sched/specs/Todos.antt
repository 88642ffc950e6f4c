-- What is to be done, as acts of a program.
use Rattle.std.specs.Prelude.{◌≡◌, ℕ, ◌+◌, ◌<◌, List, [], ◌∷◌, length}
use Rattle.std.specs.List.{All}
use Rattle.zac_aod.specs.Lowering.{job_steps}
use Rattle.zac_arch.specs.Architecture.{Architecture}
use Rattle.zair_form.specs.Steps.{steps_of}
use Rattle.zair_form.specs.declared.program.Act.{Act}
use Rattle.zair_form.specs.declared.program.Act.TheVariants as act
use Rattle.zac_sched.specs.declared.todo.Todo.{Todo}
use Rattle.zac_sched.specs.declared.todo.Todo.TheVariants.{Gates, Rydberg, Job, Readout}

-- What is to be done, as an act; a job as one of this AOD.
abbrev pub act_on : ℕ → Todo → Act
act_on aod (Gates ones) = act.Gates ones
act_on aod (Rydberg pairs) = act.Rydberg pairs
act_on aod (Job job) = act.Job aod (job_steps job.card job.shifts aod)
act_on aod (Readout reads) = act.Readout reads

-- If it is a job, it is one of this card.
abbrev pub IsOfCard : Architecture → Todo → Type 0
IsOfCard a (Gates ones) = Unit {0}
IsOfCard a (Rydberg pairs) = Unit {0}
IsOfCard a (Job job) = job.card ≡ a
IsOfCard a (Readout reads) = Unit {0}

-- All qubits that it names are below this number.
abbrev pub NamesQubitsBelow : ℕ → Todo → Type 0
NamesQubitsBelow n (Gates ones) = All (λ gate. gate.q < n) ones
NamesQubitsBelow n (Rydberg pairs) = All (λ pair. (pair.a < n) × (pair.b < n)) pairs
NamesQubitsBelow n (Job job) = All (λ shift. shift.q < n) job.shifts
NamesQubitsBelow n (Readout reads) = All (λ read. read.q < n) reads

-- How many steps all of them have.
abbrev pub steps_in_all : List Todo → ℕ
steps_in_all [] = 0
steps_in_all (t ∷ ts) = length (steps_of (act_on 0 t)) + steps_in_all ts
