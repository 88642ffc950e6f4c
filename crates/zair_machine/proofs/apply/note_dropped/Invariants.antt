use Rattle.std.proofs.Common.{◌≡◌, drop, length}
use Rattle.zair_form.specs.declared.step.Dropped.{Dropped}
use Rattle.zair_machine.specs.Machine.{after_writing}
use Rattle.zair_machine.proofs.apply.note_dropped.Given as goal

abbrev pub invariant-loop-d : goal.invariant-loop-d
invariant-loop-d l =
    (length l.index ≡ length l.initial.index)
    × (after_writing (λ (x : Dropped). x.trap.0) (λ (x : Dropped). x.q) (drop l.d-index l.atoms) l.index ≡ after_writing (λ (x : Dropped). x.trap.0) (λ (x : Dropped). x.q) l.atoms l.initial.index)
