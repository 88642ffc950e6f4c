use Rattle.std.proofs.Common.{ℕ, replicate, refl, ap, ◌∙◌}
use Rattle.zac_arch.specs.declared.card.Figures.{Figures}
use Rattle.zac_sched.specs.declared.ends.Ends.{Ends}
use Rattle.zac_sched.proofs.Going.{ends_at_start}
use Rattle.zac_sched.proofs.ends.Ends.new.Goals as goal

pub returns-clause-ends : goal.returns-clause-ends
returns-clause-ends c =
    let a = c.args.card.now in
    let none : ℕ = 0 in
    let ends : Ends = record { laser = 0; aods = c.in_ok-vec.field-0; qubits = c.in_ok-vec-2.field-0; traps = c.in_ok-vec-3.field-0; zones = 0; pulse = 0 } in
    ends_at_start a ends c.args.qubits refl refl refl
    (c.in_ok-vec.ensures.items_if_clones_equal (λ y h. h) ∙ ap (λ (f : Figures). replicate f.aods none) c.figures.ensures.figures)
    (c.in_ok-vec-2.ensures.items_if_clones_equal (λ y h. h))
    (c.in_ok-vec-3.ensures.items_if_clones_equal (λ y h. h) ∙ ap (λ (n : ℕ). replicate n none) c.traps.ensures)
