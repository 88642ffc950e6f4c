use Rattle.std.proofs.Common.{ℕ}
use Rattle.zair_form.specs.declared.step.Beam.{Beam}
use Rattle.zair_machine.proofs.Items.{has_start, has_more, has_whole, at_contained}
use Rattle.zair_machine.proofs.Full.{FullInRow, FullQubit}
use Rattle.zair_state.proofs.NothingBroken.{contained_at}
use Rattle.zair_machine.proofs.machine.Machine.least_over_full.Goals as goal

pub loop-row-init : goal.loop-row-init
loop-row-init c = has_start (λ (i : ℕ) (b : Beam) (q : ℕ). FullInRow c.args.self.now.card c.args.self.now.state c.args.aod b c.args.columns.now q) c.args.rows.now

pub loop-row-preserved : goal.loop-row-preserved
loop-row-preserved c =
    rw c.lesser-least.ensures (has_more (λ (i : ℕ) (b : Beam) (q : ℕ). FullInRow c.args.self.now.card c.args.self.now.state c.args.aod b c.args.columns.now q) c.args.rows.now c.loop-row.row-index (record { id = 0; at = 0 }) c.loop-row.least c.full_in_row.result c.loop-row-test.true c.full_in_row.ensures c.loop-row.invariant)

pub returns : goal.returns
returns c =
    has_whole (λ (i : ℕ) (b : Beam) (q : ℕ). FullInRow c.args.self.now.card c.args.self.now.state c.args.aod b c.args.columns.now q) c.args.rows.now c.loop-row.row-index (FullQubit c.args.self.now.card c.args.self.now.state c.args.aod c.args.rows.now c.args.columns.now) c.loop-row.least c.loop-row-test.false
    (λ n i b at h. (b, h.0, contained_at c.args.rows.now i b at, h.1, h.2)) (λ n h. let k = at_contained c.args.rows.now h.0 h.2 in (k.0, h.0, k.1, (h.1, h.3, h.4))) c.loop-row.invariant
