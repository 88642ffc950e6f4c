use Rattle.std.proofs.Common.{ℕ, ◌≤◌}
use Rattle.zair_machine.proofs.Full.{FullQubit, full_least, full_within, never_full_at, not_missing}
use Rattle.zair_state.proofs.Minima.{at_none}
use Rattle.zair_machine.proofs.machine.Machine.least_full.Goals as goal

pub returns-in-None : goal.returns-in-None
returns-in-None c =
    never_full_at c.args.self.now.card c.args.self.now.state c.args.aod c.args.rows.now c.args.columns.now
    (at_none ((n : ℕ) → ¬ FullQubit c.args.self.now.card c.args.self.now.state c.args.aod c.args.rows.now c.args.columns.now n) (λ (n : ℕ). FullQubit c.args.self.now.card c.args.self.now.state c.args.aod c.args.rows.now c.args.columns.now n × ((m : ℕ) → FullQubit c.args.self.now.card c.args.self.now.state c.args.aod c.args.rows.now c.args.columns.now m → n ≤ m)) c.least_over_full.result c.in-None.is c.least_over_full.ensures)

pub place-requires : goal.place-requires
place-requires c = full_within c.args.self.now.card c.args.self.now.state c.args.aod c.args.rows.now c.args.columns.now c.in-Some.q c.in-Some.ensures.0

pub returns-in-None-full_trap : goal.returns-in-None-full_trap
returns-in-None-full_trap c = λ q t h.
    absurd (not_missing c.args.self.now.card c.args.self.now.state c.args.aod c.args.rows.now c.args.columns.now c.in-Some.q c.place.result c.place.ensures c.in-Some.ensures.0 c.in-None-full_trap.ensures)

pub returns-in-Some-full_trap : goal.returns-in-Some-full_trap
returns-in-Some-full_trap c =
    full_least c.args.self.now.card c.args.self.now.state c.args.aod c.args.rows.now c.args.columns.now c.in-Some.q c.place.result c.in-Some-full_trap.t c.in-Some.ensures.1 c.place.ensures c.in-Some-full_trap.ensures
