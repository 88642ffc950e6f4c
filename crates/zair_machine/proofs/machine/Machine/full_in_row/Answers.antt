use Rattle.std.proofs.Common.{ℕ}
use Rattle.std.specs.List.{Contains}
use Rattle.zair_form.specs.declared.step.Beam.{Beam}
use Rattle.zair_machine.proofs.Items.{has_start, has_more, has_whole, at_contained}
use Rattle.zair_machine.proofs.Full.{full_if}
use Rattle.zair_machine.specs.Crossings.{CarriesOntoFull}
use Rattle.zair_state.proofs.NothingBroken.{contained_at}
use Rattle.zair_machine.proofs.machine.Machine.full_in_row.Goals as goal

pub loop-column-init : goal.loop-column-init
loop-column-init c = has_start (λ (j : ℕ) (b : Beam) (q : ℕ). CarriesOntoFull c.args.self.now.card c.args.self.now.state c.args.aod c.args.row b q) c.args.columns.now

pub loop-column-preserved : goal.loop-column-preserved
loop-column-preserved c =
    rw c.lesser-least.ensures (has_more (λ (j : ℕ) (b : Beam) (q : ℕ). CarriesOntoFull c.args.self.now.card c.args.self.now.state c.args.aod c.args.row b q) c.args.columns.now c.loop-column.column-index (record { id = 0; at = 0 }) c.loop-column.least c.held_if.result c.loop-column-test.true
    (full_if c.args.self.now.card c.args.self.now.state c.args.aod c.args.row _ c.is_full_at-full.result c.held_if.result c.is_full_at-full.ensures c.held_if.ensures) c.loop-column.invariant)

pub returns : goal.returns
returns c =
    has_whole (λ (j : ℕ) (b : Beam) (q : ℕ). CarriesOntoFull c.args.self.now.card c.args.self.now.state c.args.aod c.args.row b q) c.args.columns.now c.loop-column.column-index (λ (q : ℕ). (b : Beam) × Contains c.args.columns.now b × CarriesOntoFull c.args.self.now.card c.args.self.now.state c.args.aod c.args.row b q) c.loop-column.least c.loop-column-test.false
    (λ n j b at h. (b, contained_at c.args.columns.now j b at, h)) (λ n h. let k = at_contained c.args.columns.now h.0 h.1 in (k.0, h.0, k.1, h.2)) c.loop-column.invariant
