-- The value of an instruction is not deep.
use Rattle.std.proofs.Common.{ℕ, ◌≤◌, List, [], ◌∷◌, map, arith}
use Rattle.serde_json.specs.Data.{Data, depth, items_depth}
use Rattle.serde_json.specs.Read.{max_depth}
use Rattle.serde_json.specs.View.{items_of}
use Rattle.zair_form.specs.declared.step.Step.{Step}
use Rattle.zair_form.specs.declared.step.Step.TheVariants.{Activate, Move, Deactivate, One, Pulse}
use Rattle.zair_form.specs.declared.step.Step.TheVariants as step
use Rattle.zair_form.specs.declared.program.Act.{Act}
use Rattle.zair_form.specs.declared.program.Act.TheVariants.{Init, Gates, Rydberg, Job, Readout}
use Rattle.zair_form.specs.declared.program.Instr.{Instr}
use Rattle.zair_text.specs.Values.{number_value, trap_value, beam_value, caught_value, dropped_value, pair_value, read_value, gate_value, step_value, act_value, instr_value}

shallow : {X : Type 0} (f : X → Data) (n : ℕ) → ((x : X) → depth (f x) ≤ n) → (xs : List X) → items_depth (items_of (map f xs)) ≤ n
shallow f n h [] = omega arith
shallow f n h (x ∷ xs) = omega (arith, h x, shallow f n h xs)

step_shallow : (s : Step) → depth (step_value s) ≤ 3
step_shallow (Activate aod rows columns atoms) = omega (arith, shallow caught_value 1 (λ x. omega arith) atoms, shallow beam_value 1 (λ x. omega arith) columns, shallow beam_value 1 (λ x. omega arith) rows)
step_shallow (Move aod rows columns) = omega (arith, shallow beam_value 1 (λ x. omega arith) columns, shallow beam_value 1 (λ x. omega arith) rows)
step_shallow (Deactivate aod rows columns atoms) = omega (arith, shallow dropped_value 1 (λ x. omega arith) atoms, shallow number_value 1 (λ x. omega arith) columns, shallow number_value 1 (λ x. omega arith) rows)
step_shallow (One gate) = omega arith
step_shallow (Pulse pairs) = omega arith
step_shallow (step.Readout reads) = omega arith

act_shallow : (begin end : ℕ) (a : Act) → depth (act_value begin end a) ≤ 5
act_shallow begin end (Init homes) = omega (arith, shallow trap_value 1 (λ x. omega arith) homes)
act_shallow begin end (Gates ones) = omega (arith, shallow gate_value 2 (λ x. omega arith) ones)
act_shallow begin end (Rydberg pairs) = omega (arith, shallow pair_value 1 (λ x. omega arith) pairs)
act_shallow begin end (Job aod steps) = omega (arith, shallow step_value 3 step_shallow steps)
act_shallow begin end (Readout reads) = omega (arith, shallow read_value 1 (λ x. omega arith) reads)

pub instr_shallow : (i : Instr) → depth (instr_value i) ≤ max_depth
instr_shallow i = omega (arith, act_shallow i.begin i.end i.act)
