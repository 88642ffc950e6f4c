use Rattle.std.proofs.Common.{◌≡◌, ◌+◌, Some, refl, sym, ◌∙◌, subst}
use Rattle.std.specs.List.{Any}
use Rattle.std.proofs.lemmas.List.{take_rest}
use Rattle.std.specs.Prelude.{slice_get}
use Rattle.std.proofs.lemmas.Bool.{false≢true}
use Rattle.std.proofs.lemmas.Option.{slice_get_read}
use Rattle.qasm_scope.specs.Judged.{HasPairFault}
use Rattle.qasm_scope.proofs.PairLemmas.{no_pair_first, no_pair_more, pair_found, no_pair_all}
use Rattle.qasm_scope.proofs.pairs.has_faulty_pair.Goals as goal

pub loop-i-init : goal.loop-i-init
loop-i-init c = no_pair_first (HasPairFault c.args.known.now c.args.fault) c.args.args.now

pub loop-i-preserved : goal.loop-i-preserved
loop-i-preserved c =
    let read : slice_get c.args.args.now c.loop-i.i ≡ Some c.index-args-i.result = slice_get_read _ _ _ _ refl c.loop-i-test.true c.index-args-i.is in
    no_pair_more (HasPairFault c.args.known.now c.args.fault) c.args.args.now c.loop-i.i c.index-args-i.result read c.loop-i.invariant (λ w. false≢true (sym c.if-has_fault_with_later.false ∙ (c.has_fault_with_later.ensures.1 (subst (Any (HasPairFault c.args.known.now c.args.fault c.index-args-i.result)) (sym (take_rest c.args.args.now (c.loop-i.i + 1))) w))))

pub returns-then-has_fault_with_later : goal.returns-then-has_fault_with_later
returns-then-has_fault_with_later c =
    let read : slice_get c.args.args.now c.loop-i.i ≡ Some c.index-args-i.result = slice_get_read _ _ _ _ refl c.loop-i-test.true c.index-args-i.is in
    (λ _. pair_found (HasPairFault c.args.known.now c.args.fault) c.args.args.now c.loop-i.i c.index-args-i.result read (subst (Any (HasPairFault c.args.known.now c.args.fault c.index-args-i.result)) (take_rest c.args.args.now (c.loop-i.i + 1)) (c.has_fault_with_later.ensures.0 c.if-has_fault_with_later.true)), λ _. refl)

pub returns : goal.returns
returns c =
    (λ e. absurd (false≢true e), λ w. absurd (no_pair_all (HasPairFault c.args.known.now c.args.fault) c.args.args.now c.loop-i.i c.loop-i-test.false c.loop-i.invariant w))
