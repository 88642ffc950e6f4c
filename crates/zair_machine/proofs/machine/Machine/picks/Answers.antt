use Rattle.std.specs.List.{Contains}
use Rattle.std.proofs.lemmas.Bool.{false≢true}
use Rattle.zac_arch.specs.declared.place.Point.{Point}
use Rattle.zair_state.specs.State.{HasId}
use Rattle.zair_state.proofs.Minima.{at_some, at_none}
use Rattle.zair_state.proofs.Picking.{picks_told, picks_nowhere}
use Rattle.zair_machine.proofs.machine.Machine.picks.Goals as goal

pub returns-in-Some : goal.returns-in-Some
returns-in-Some c =
    let rows = c.args.after.now.rows.now in
    let columns = c.args.after.now.columns.now in
    let at = at_some (¬ (HasId rows c.args.c.row × HasId columns c.args.c.column)) (λ (p : Point). Contains rows (record { id = c.args.c.row; at = p.y }) × Contains columns (record { id = c.args.c.column; at = p.x })) c.point_of.result c.in-Some.p c.in-Some.is c.point_of.ensures in
    picks_told c.args.self.now.card c.args.self.now.state c.args.aod c.args.new.now.rows.now c.args.new.now.columns.now rows columns c.args.c c.in-Some.p c.picks_at.result c.requires.rows_rising c.requires.columns_rising at c.picks_at.ensures

pub returns-in-None : goal.returns-in-None
returns-in-None c =
    let rows = c.args.after.now.rows.now in
    let columns = c.args.after.now.columns.now in
    let none = at_none (¬ (HasId rows c.args.c.row × HasId columns c.args.c.column)) (λ (p : Point). Contains rows (record { id = c.args.c.row; at = p.y }) × Contains columns (record { id = c.args.c.column; at = p.x })) c.point_of.result c.in-None.is c.point_of.ensures in
    (λ t. absurd (false≢true t), λ h. absurd (picks_nowhere c.args.self.now.card c.args.self.now.state c.args.aod c.args.new.now.rows.now c.args.new.now.columns.now rows columns c.args.c none h))
