use Rattle.std.proofs.Common.{[], ◌∷◌, sym as flip, ◌∙◌, subst}
use Rattle.std.specs.List.{AllByRecursion}
use Rattle.std.specs.Prelude.{reverse}
use Rattle.std.proofs.lemmas.Result.{err_from_is_err_and}
use Rattle.qasm_expand.specs.Items.Item.{Applied}
use Rattle.qasm_expand.specs.Limits.{passed_by_calls}
use Rattle.qasm_expand.specs.Walks.{OpensFrame, pending}
use Rattle.qasm_expand.specs.AngleNodes.{HasNoNames}
use Rattle.qasm_expand.specs.Fit.{IsFit}
use Rattle.qasm_expand.proofs.CallLemmas.{counted_small, on_ok_map}
use Rattle.qasm_expand.proofs.FaultsLemmas.{fault_memory}
use Rattle.qasm_expand.proofs.FrameLemmas.{opens_fit}
use Rattle.qasm_expand.proofs.TopLemmas.{angles_top, if_err_map, top_passes, top_visit}
use Rattle.qasm_expand.proofs.WalksLemmas.{first_passes, walking_passes, walking_walks}
use Rattle.qasm_expand.proofs.walk.Walk.apply.Goals as goal

pub returns-in_err-angles-clause-err : goal.returns-in_err-angles-clause-err
returns-in_err-angles-clause-err c =
    let p = err_from_is_err_and c.from_residual.result c.from_residual.ensures.1 in
    rw (p.1, p.2) (top_passes c.args.gates.now c.args.self.now c.args.target c.args.angles.now _ c.args.qubits.items c.in_err-angles.field-0.0 (angles_top c.args.angles.now) c.in_err-angles.ensures.err)

pub perform-requires-clause-closed : goal.perform-requires-clause-closed
perform-requires-clause-closed c =
    subst (AllByRecursion HasNoNames) (flip (c.in_ok-angles.ensures.are ∙ angles_top c.args.angles.now)) c.requires.fit.0

pub perform-requires-clause-small : goal.perform-requires-clause-small
perform-requires-clause-small c = counted_small _ _ _ _ c.in_ok-angles.ensures.ok

pub returns-in_err-perform-clause-err : goal.returns-in_err-perform-clause-err
returns-in_err-perform-clause-err c =
    let p = err_from_is_err_and c.from_residual-in_err-perform.result c.from_residual-in_err-perform.ensures.1 in
    let item = Applied c.args.target c.args.angles.now c.args.qubits.items in
    rw (p.1, p.2) (first_passes c.args.gates.now c.args.self.now (record { depth = 1; item = item } ∷ []) c.in_err-perform.field-0.0 (fault_memory (passed_by_calls c.args.self.now.calls c.args.self.now.nodes (record { depth = 1; item = item } ∷ [])) c.in_err-perform.field-0.0 c.in_err-perform.ensures.err))

pub finish-requires-clause-fit : goal.finish-requires-clause-fit
finish-requires-clause-fit c =
    let are = c.in_ok-angles.ensures.are ∙ angles_top c.args.angles.now in
    let opens = subst (λ fs. OpensFrame (reverse fs) c.args.target c.in_ok-angles.angles c.args.qubits.items (reverse c.perform.new.frames.items)) c.new-frames.ensures.items c.in_ok-perform.ensures.frames in
    let fit = subst (λ a. IsFit c.args.gates.now (Applied c.args.target a c.args.qubits.items)) (flip are) c.requires.fit in
    opens_fit c.args.gates.now c.args.target c.in_ok-angles.angles c.args.qubits.items [] (reverse c.perform.new.frames.items) opens tt fit.0 fit.1

pub returns-clause-ok : goal.returns-clause-ok
returns-clause-ok c =
    let are = c.in_ok-angles.ensures.are ∙ angles_top c.args.angles.now in
    let opens = subst (λ fs. OpensFrame (reverse fs) c.args.target c.in_ok-angles.angles c.args.qubits.items (reverse c.perform.new.frames.items)) c.new-frames.ensures.items c.in_ok-perform.ensures.frames in
    let top = top_visit c.args.gates.now c.args.self.now c.count.new.self c.perform.new.self c.args.target c.args.angles.now c.in_ok-angles.angles c.args.qubits.items (reverse c.perform.new.frames.items) are c.requires.fit c.in_ok-angles.ensures.ok c.in_ok-perform.ensures.ops opens in
    on_ok_map c.finish.result (walking_walks c.args.gates.now c.args.self.now c.perform.new.self c.finish.new.self (record { depth = 1; item = Applied c.args.target c.args.angles.now c.args.qubits.items } ∷ []) (pending c.args.gates.now (reverse c.perform.new.frames.items)) top) c.finish.ensures.ok

pub returns-clause-err : goal.returns-clause-err
returns-clause-err c =
    let are = c.in_ok-angles.ensures.are ∙ angles_top c.args.angles.now in
    let opens = subst (λ fs. OpensFrame (reverse fs) c.args.target c.in_ok-angles.angles c.args.qubits.items (reverse c.perform.new.frames.items)) c.new-frames.ensures.items c.in_ok-perform.ensures.frames in
    let top = top_visit c.args.gates.now c.args.self.now c.count.new.self c.perform.new.self c.args.target c.args.angles.now c.in_ok-angles.angles c.args.qubits.items (reverse c.perform.new.frames.items) are c.requires.fit c.in_ok-angles.ensures.ok c.in_ok-perform.ensures.ops opens in
    if_err_map c.finish.result (λ e. walking_passes c.args.gates.now c.args.self.now c.perform.new.self (record { depth = 1; item = Applied c.args.target c.args.angles.now c.args.qubits.items } ∷ []) (pending c.args.gates.now (reverse c.perform.new.frames.items)) e top) c.finish.ensures.err
