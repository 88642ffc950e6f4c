use Rattle.std.proofs.Common.{◌≡◌, ◌<◌, drop, take, length}
use Rattle.std.specs.List.{All}
use Rattle.zair_form.specs.declared.step.Caught.{Caught}
use Rattle.zair_machine.specs.Crossings.{crossing_number}
use Rattle.zair_machine.specs.Machine.{after_writing}
use Rattle.zair_machine.proofs.apply.note_caught.Given as goal

abbrev pub invariant-loop-c : goal.invariant-loop-c
invariant-loop-c l =
    (length l.index ≡ length l.initial.index)
    × (after_writing (λ (x : Caught). crossing_number l.aod x.row x.column) (λ (x : Caught). x.q) (drop l.c-index l.atoms) l.index ≡ after_writing (λ (x : Caught). crossing_number l.aod x.row x.column) (λ (x : Caught). x.q) l.atoms l.initial.index)
    × All (λ (x : Caught). (x.row < 256) × (x.column < 256)) (take l.c-index l.atoms)
