use Rattle.std.proofs.Common.{◌+◌, [], ap, arith, length}
use Rattle.std.specs.Prelude.{reverse}
use Rattle.std.proofs.lemmas.Result.{err_from_is_err_and}
use Rattle.qasm_expand.proofs.FrameLemmas.{call_below, call_over, call_read, depth_of_frames, gate_read, step_fails, step_leaves, step_visits}
use Rattle.qasm_expand.proofs.walk.Walk.step.Goals as goal

pub returns-in_err-visit_in-clause-err : goal.returns-in_err-visit_in-clause-err
returns-in_err-visit_in-clause-err c =
    let g = c.index-gates-frame.result in
    let is = gate_read c.args.gates.now c.args.frame g c.requires.fit.0 c.index-gates-frame.is in
    let call = call_read g c.as_slice-body.result.now c.args.frame.next c.index-body-next.result c.as_slice-body.ensures c.if-next-body.true c.index-body-next.is in
    let p = err_from_is_err_and c.from_residual.result c.from_residual.ensures.1 in
    rw (p.1, p.2) (step_fails c.args.gates.now c.args.self.now c.args.frame (reverse c.args.frames.now.items) g c.index-body-next.result (length c.args.frames.now.items + 2) c.in_err-visit_in.field-0.0 is call (depth_of_frames c.args.frames.now.items) c.in_err-visit_in.ensures.err)

pub returns-in_ok-visit_in-clause-ok : goal.returns-in_ok-visit_in-clause-ok
returns-in_ok-visit_in-clause-ok c =
    let g = c.index-gates-frame.result in
    let is = gate_read c.args.gates.now c.args.frame g c.requires.fit.0 c.index-gates-frame.is in
    let call = call_read g c.as_slice-body.result.now c.args.frame.next c.index-body-next.result c.as_slice-body.ensures c.if-next-body.true c.index-body-next.is in
    step_visits c.args.gates.now c.requires.bound c.requires.short c.args.self.now c.visit_in.new.self c.args.frame (reverse c.args.frames.now.items) (reverse c.visit_in.new.frames.items) g c.index-body-next.result c.requires.fit is call (length c.args.frames.now.items + 2) (depth_of_frames c.args.frames.now.items) c.in_ok-visit_in.ensures.frames c.in_ok-visit_in.ensures.ok

pub returns-else-next-body-clause-ok : goal.returns-else-next-body-clause-ok
returns-else-next-body-clause-ok c =
    let g = c.index-gates-frame.result in
    let is = gate_read c.args.gates.now c.args.frame g c.requires.fit.0 c.index-gates-frame.is in
    step_leaves c.args.gates.now c.args.self.now c.args.frame (reverse c.args.frames.now.items) g c.requires.fit is (omega (arith, ap length c.as_slice-body.ensures, c.if-next-body.false))

pub visit_in-requires-clause-over : goal.visit_in-requires-clause-over
visit_in-requires-clause-over c =
    let g = c.index-gates-frame.result in
    let is = gate_read c.args.gates.now c.args.frame g c.requires.fit.0 c.index-gates-frame.is in
    let call = call_read g c.as_slice-body.result.now c.args.frame.next c.index-body-next.result c.as_slice-body.ensures c.if-next-body.true c.index-body-next.is in
    call_over c.args.gates.now c.requires.bound c.requires.short c.args.self.now c.args.self.now c.args.frame (reverse c.args.frames.now.items) [] g c.index-body-next.result c.requires.fit is call

pub visit_in-requires-clause-below : goal.visit_in-requires-clause-below
visit_in-requires-clause-below c =
    let g = c.index-gates-frame.result in
    let is = gate_read c.args.gates.now c.args.frame g c.requires.fit.0 c.index-gates-frame.is in
    let call = call_read g c.as_slice-body.result.now c.args.frame.next c.index-body-next.result c.as_slice-body.ensures c.if-next-body.true c.index-body-next.is in
    call_below c.args.gates.now c.requires.bound c.requires.short c.args.self.now c.args.self.now c.args.frame (reverse c.args.frames.now.items) [] g c.index-body-next.result c.requires.fit is call
