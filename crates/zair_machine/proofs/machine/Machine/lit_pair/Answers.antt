use Rattle.std.proofs.Common.{◌≡◌, ◌≤◌, ℕ, get_or}
use Rattle.std.specs.List.{Contains}
use Rattle.zair_form.specs.declared.step.Beam.{Beam}
use Rattle.zair_state.specs.State.{crossing}
use Rattle.zair_state.proofs.Minima.{at_some, at_none}
use Rattle.zac_arch.specs.Architecture.{IsLit}
use Rattle.zair_machine.proofs.Touching.{none_touch, no_more_touch, touches_first, never_touches}
use Rattle.zair_machine.proofs.machine.Machine.lit_pair.Goals as goal

pub loop-row-init : goal.loop-row-init
loop-row-init c = none_touch (λ (row column : Beam). IsLit c.args.self.now.card (crossing row column)) c.args.columns.now

pub returns-in-Some : goal.returns-in-Some
returns-in-Some c =
    let row = get_or c.args.rows.now c.loop-row.row-index (record { id = 0; at = 0 }) in
    let told = at_some ((n : ℕ) → ¬ ((column : Beam) × Contains c.args.columns.now column × IsLit c.args.self.now.card (crossing row column) × (column.id ≡ n))) (λ (m : ℕ). ((column : Beam) × Contains c.args.columns.now column × IsLit c.args.self.now.card (crossing row column) × (column.id ≡ m)) × ((n : ℕ) → ((column : Beam) × Contains c.args.columns.now column × IsLit c.args.self.now.card (crossing row column) × (column.id ≡ n)) → m ≤ n)) c.lit_column.result c.in-Some.column c.in-Some.is c.lit_column.ensures in
    touches_first (λ (row column : Beam). IsLit c.args.self.now.card (crossing row column)) c.args.rows.now c.args.columns.now c.loop-row.row-index (record { id = 0; at = 0 }) c.in-Some.column c.requires c.loop-row-test.true c.loop-row.invariant told.0 told.1

pub loop-row-preserved : goal.loop-row-preserved
loop-row-preserved c =
    let row = get_or c.args.rows.now c.loop-row.row-index (record { id = 0; at = 0 }) in
    no_more_touch (λ (row column : Beam). IsLit c.args.self.now.card (crossing row column)) c.args.rows.now c.args.columns.now c.loop-row.row-index (record { id = 0; at = 0 }) c.loop-row-test.true c.loop-row.invariant
    (at_none ((n : ℕ) → ¬ ((column : Beam) × Contains c.args.columns.now column × IsLit c.args.self.now.card (crossing row column) × (column.id ≡ n))) (λ (m : ℕ). ((column : Beam) × Contains c.args.columns.now column × IsLit c.args.self.now.card (crossing row column) × (column.id ≡ m)) × ((n : ℕ) → ((column : Beam) × Contains c.args.columns.now column × IsLit c.args.self.now.card (crossing row column) × (column.id ≡ n)) → m ≤ n)) c.lit_column.result c.in_default.is c.lit_column.ensures)

pub returns : goal.returns
returns c = never_touches (λ (row column : Beam). IsLit c.args.self.now.card (crossing row column)) c.args.rows.now c.args.columns.now c.loop-row.row-index c.loop-row-test.false c.loop-row.invariant
