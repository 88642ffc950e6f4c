use Rattle.std.proofs.Common.{sym, ◌∙◌}
use Rattle.std.proofs.lemmas.Bool.{false≢true}
use Rattle.zair_machine.proofs.Dropping.{drops_told, drops_not_left}
use Rattle.zair_machine.proofs.machine.Machine.drops.Goals as goal

pub returns-then-not-is_left : goal.returns-then-not-is_left
returns-then-not-is_left c =
    (λ t. absurd (false≢true t), λ h. absurd (false≢true (sym c.if-not-is_left.true ∙ c.is_left.ensures.1 (drops_not_left c.args.self.now.card c.args.self.now.state c.args.aod c.args.rows.now c.args.columns.now c.args.d c.place-place.result c.place-place.ensures h))))

pub returns : goal.returns
returns c =
    drops_told c.args.self.now.card c.args.self.now.state c.args.aod c.args.rows.now c.args.columns.now c.args.d c.place-place.result c.hangs_over.result c.place-place.ensures (c.is_left.ensures.0 c.if-not-is_left.false) c.hangs_over.ensures
