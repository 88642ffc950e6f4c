use Rattle.std.proofs.Common.{◌∷◌, subst}
use Rattle.std.specs.Prelude.{reverse}
use Rattle.std.proofs.lemmas.Result.{err_from_is_err_and}
use Rattle.qasm_expand.specs.Walks.{pending}
use Rattle.qasm_expand.proofs.WalksLemmas.{Walking, first_passes, walking_end, walking_none, walking_passes, walking_step}
use Rattle.qasm_expand.proofs.walk.Walk.finish.Goals as goal

pub loop-frame-init : goal.loop-frame-init
loop-frame-init c =
    (walking_none c.args.gates.now c.args.self.now (pending c.args.gates.now (reverse c.args.frames.items)), c.requires.fit)

pub loop-frame-preserved : goal.loop-frame-preserved
loop-frame-preserved c =
    let gates = c.args.gates.now in
    let start = pending gates (reverse c.args.frames.items) in
    let before = subst (λ fs. Walking gates c.args.self.now c.loop-frame.self start (pending gates fs)) c.in-Some.ensures c.loop-frame.invariant.0 in
    (walking_step gates c.args.self.now c.loop-frame.self c.step.new.self start (c.in-Some.frame ∷ reverse c.pop.new.stack.items) (reverse c.step.new.frames.items) before c.in_ok-step.ensures.ok, c.in_ok-step.ensures.ok.fit)

pub returns-in_err-step-clause-err : goal.returns-in_err-step-clause-err
returns-in_err-step-clause-err c =
    let gates = c.args.gates.now in
    let start = pending gates (reverse c.args.frames.items) in
    let before = subst (λ fs. Walking gates c.args.self.now c.loop-frame.self start (pending gates fs)) c.in-Some.ensures c.loop-frame.invariant.0 in
    let p = err_from_is_err_and c.from_residual.result c.from_residual.ensures.1 in
    rw (p.1, p.2) (walking_passes gates c.args.self.now c.loop-frame.self start (pending gates (c.in-Some.frame ∷ reverse c.pop.new.stack.items)) c.in_err-step.field-0.0 before (first_passes gates c.loop-frame.self (pending gates (c.in-Some.frame ∷ reverse c.pop.new.stack.items)) c.in_err-step.field-0.0 c.in_err-step.ensures.err))

pub returns-clause-ok : goal.returns-clause-ok
returns-clause-ok c =
    walking_end c.args.gates.now c.args.self.now c.loop-frame.self (pending c.args.gates.now (reverse c.args.frames.items)) (reverse c.loop-frame.frames.items) c.loop-frame.invariant.0 c.in_default.ensures.0
