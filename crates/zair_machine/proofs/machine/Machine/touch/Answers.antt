use Rattle.std.proofs.Common.{◌≡◌, ◌≤◌, ℕ, ◌*◌, Some, None, List, get_or, sym, subst}
use Rattle.std.specs.List.{Contains}
use Rattle.zair_form.specs.declared.step.Beam.{Beam}
use Rattle.zair_state.specs.Faults.{beams_after, TouchesAt}
use Rattle.zair_state.specs.Least.{IsLeastPairOf}
use Rattle.zair_state.specs.declared.fault.Axis.TheVariants.{Column}
use Rattle.zair_state.proofs.Minima.{Same, at_some, at_none}
use Rattle.zair_machine.proofs.Numbering.{all_zero, behind}
use Rattle.zair_machine.specs.Crossings.{IsNamed}
use Rattle.std.proofs.lemmas.Option.{slice_get-get_or}
use Rattle.zair_machine.proofs.Touching.{Pair, none_touch, no_more_touch, touches_first, never_touches}
use Rattle.zair_machine.proofs.machine.Machine.touch.Goals as goal

pub count_named-requires-clause-clean : goal.count_named-requires-clause-clean
count_named-requires-clause-clean c = all_zero 4096

pub touching_column-requires-clause-named : goal.touching_column-requires-clause-named
touching_column-requires-clause-named c = λ j b there.
    let named = c.count_named.ensures.named c.loop-i.i j _ b (slice_get-get_or c.args.rows.now c.loop-i.i (record { id = 0; at = 0 }) c.loop-i-test.true) there in
    subst (λ (n : ℕ). Same (1 ≤ n) (IsNamed c.args.step.now (get_or c.args.rows.now c.loop-i.i (record { id = 0; at = 0 })).id b.id)) (sym (behind c.count_named.new.counts 4096 (c.loop-i.i * 64) j (sym c.count_named.ensures.len))) named

pub loop-i-init : goal.loop-i-init
loop-i-init c = none_touch (TouchesAt c.args.self.now.card c.args.self.now.state c.args.step.now) c.args.columns.now

pub returns-in-Some : goal.returns-in-Some
returns-in-Some c =
    let T = TouchesAt c.args.self.now.card c.args.self.now.state c.args.step.now in
    let row = get_or c.args.rows.now c.loop-i.i (record { id = 0; at = 0 }) in
    let told = at_some ((n : ℕ) → ¬ ((column : Beam) × Contains c.args.columns.now column × T row column × (column.id ≡ n))) (λ (m : ℕ). ((column : Beam) × Contains c.args.columns.now column × T row column × (column.id ≡ m)) × ((n : ℕ) → ((column : Beam) × Contains c.args.columns.now column × T row column × (column.id ≡ n)) → m ≤ n)) c.touching_column.result c.in-Some.column c.in-Some.is c.touching_column.ensures in
    subst (λ (rs : List Beam). IsLeastPairOf (Pair T rs (beams_after c.args.self.now.state c.args.step.now Column)) (Some (row.id, c.in-Some.column))) c.requires.rows_after
    (subst (λ (cs : List Beam). IsLeastPairOf (Pair T c.args.rows.now cs) (Some (row.id, c.in-Some.column))) c.requires.columns_after
    (touches_first T c.args.rows.now c.args.columns.now c.loop-i.i (record { id = 0; at = 0 }) c.in-Some.column c.requires.rows_rising.rising c.loop-i-test.true c.loop-i.invariant told.0 told.1))

pub loop-i-preserved : goal.loop-i-preserved
loop-i-preserved c =
    let T = TouchesAt c.args.self.now.card c.args.self.now.state c.args.step.now in
    let row = get_or c.args.rows.now c.loop-i.i (record { id = 0; at = 0 }) in
    no_more_touch T c.args.rows.now c.args.columns.now c.loop-i.i (record { id = 0; at = 0 }) c.loop-i-test.true c.loop-i.invariant
    (at_none ((n : ℕ) → ¬ ((column : Beam) × Contains c.args.columns.now column × T row column × (column.id ≡ n))) (λ (m : ℕ). ((column : Beam) × Contains c.args.columns.now column × T row column × (column.id ≡ m)) × ((n : ℕ) → ((column : Beam) × Contains c.args.columns.now column × T row column × (column.id ≡ n)) → m ≤ n)) c.touching_column.result c.in_default.is c.touching_column.ensures)

pub returns : goal.returns
returns c =
    let T = TouchesAt c.args.self.now.card c.args.self.now.state c.args.step.now in
    subst (λ (rs : List Beam). IsLeastPairOf (Pair T rs (beams_after c.args.self.now.state c.args.step.now Column)) None) c.requires.rows_after
    (subst (λ (cs : List Beam). IsLeastPairOf (Pair T c.args.rows.now cs) None) c.requires.columns_after
    (never_touches T c.args.rows.now c.args.columns.now c.loop-i.i c.loop-i-test.false c.loop-i.invariant))
