use Rattle.std.proofs.Common.{◌<◌, ◌≤◌, ℕ, get_or, subst}
use Rattle.std.proofs.lemmas.Bool.{false≢true}
use Rattle.zair_state.specs.State.{HasId}
use Rattle.zair_state.proofs.Minima.{at_none, told_most}
use Rattle.zair_machine.specs.Crossings.{IsCrossingOf}
use Rattle.zair_machine.proofs.Numbering.{crossing_has, crossing_one}
use Rattle.zair_machine.proofs.counts.is_shared.Goals as goal

pub returns-in-None : goal.returns-in-None
returns-in-None c =
    let none = at_none (¬ (HasId c.args.rows.now c.args.c.row × HasId c.args.columns.now c.args.c.column)) (λ (n : ℕ). (n < 4096) × IsCrossingOf c.args.rows.now c.args.columns.now c.args.c.row c.args.c.column n) c.crossing_of.result c.in-None.is c.crossing_of.ensures in
    (λ t. absurd (false≢true t), λ h. absurd (none (crossing_has c.args.rows.now c.args.columns.now c.args.c.row c.args.c.column h.0 h.1)))

pub returns-in-Some : goal.returns-in-Some
returns-in-Some c = (
  λ t. (c.in-Some.n, c.in-Some.ensures.1, (told_most 2 (get_or c.args.counts.now c.in-Some.n 0)).0 t),
  λ h. (told_most 2 (get_or c.args.counts.now c.in-Some.n 0)).1 (subst (λ (n : ℕ). 2 ≤ get_or c.args.counts.now n 0) (crossing_one c.args.rows.now c.args.columns.now c.requires.rows_rising.rising c.requires.columns_rising.rising c.args.c.row c.args.c.column h.0 c.in-Some.n h.1 c.in-Some.ensures.1) h.2),
)
