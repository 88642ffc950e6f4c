use Rattle.std.proofs.lemmas.Bool.{false≢true}
use Rattle.zair_machine.proofs.Dropping.{trap_not_left}
use Rattle.zair_machine.proofs.drops.is_left.Goals as goal

pub returns-in-Trap : goal.returns-in-Trap
returns-in-Trap c =
    (λ t. absurd (false≢true t), λ h. absurd (trap_not_left c.args.place _ c.args.aod c.args.rows.now c.args.columns.now c.in-Trap.is h))
