use Rattle.std.proofs.Common.{◌≤◌, List, [], ◌∷◌, subst}
use Rattle.std.specs.List.{Contains, flat_map}
use Rattle.std.proofs.lemmas.List.{take_all}
use Rattle.zair_state.proofs.Membership.{contains_none}
use Rattle.zair_form.specs.declared.step.PairOf.{PairOf}
use Rattle.zair_state.specs.Least.{IsLeastOf}
use Rattle.zair_state.proofs.Minima.{told_most, least_pair_more}
use Rattle.zair_machine.proofs.unknown.least_paired.Goals as goal

pub loop-p-init : goal.loop-p-init
loop-p-init c = λ n h. contains_none n h.0

pub loop-p-preserved : goal.loop-p-preserved
loop-p-preserved c =
    least_pair_more (λ (x : PairOf). x.a) (λ (x : PairOf). x.b) (λ n. c.args.qubits ≤ n) c.args.pairs.now c.loop-p.p-index _ c.loop-p.least c.lesser_if-one.result c.lesser_if.result c.lesser-least.result _ _ c.loop-p-test.true c.lesser_if-one.ensures c.lesser_if.ensures c.lesser-least.ensures (told_most c.args.qubits _) (told_most c.args.qubits _) c.loop-p.invariant

pub returns : goal.returns
returns c = subst (λ (ps : List PairOf). IsLeastOf (λ n. Contains (flat_map (λ (x : PairOf). x.a ∷ x.b ∷ []) ps) n × (c.args.qubits ≤ n)) c.loop-p.least) (take_all c.loop-p.p-index c.args.pairs.now c.loop-p-test.false) c.loop-p.invariant
