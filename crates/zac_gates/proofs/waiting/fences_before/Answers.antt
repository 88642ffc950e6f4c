use Rattle.std.proofs.Common.{◌≡◌, ◌+◌, ◌<◌, ◌↔◌, ℕ, List, Some, false, length, get_or, arith, refl, rules, sym, subst}
use Rattle.std.specs.List.{slice_get}
use Rattle.std.proofs.lemmas.Option.{slice_get_read}
use Rattle.zac_gates.specs.Ops.{IsFencedBetween}
use Rattle.zac_gates.proofs.WaitingFacts.{fenced_more, fenced_pushed}
use Rattle.zac_gates.proofs.waiting.fences_before.Goals as goal
use Rattle.zac_gates.proofs.waiting.fences_before.Goals.{then-is_fence, else-is_fence}

pub loop-k-preserved : goal.loop-k-preserved
loop-k-preserved c =
    let op = c.index-ops-k.result in
    let is : slice_get c.args.ops.now c.loop-k.k ≡ Some op = slice_get_read c.args.ops.now (length c.args.ops.now) c.loop-k.k op refl (omega arith) c.index-ops-k.is in
    record {
      len = search rules;
      before = subst (λ (l : List ℕ). (i k : ℕ) → k < c.loop-k.k + 1 → IsFencedBetween c.args.ops.now i k ↔ (i < get_or l k 0)) (sym c.in_ok-push.ensures.items)
          (fenced_pushed c.args.ops.now c.loop-k.fences.items c.loop-k.k c.loop-k.last (omega (arith, c.loop-k.invariant.len)) c.loop-k.invariant.before c.loop-k.invariant.now);
      now = fenced_more c.args.ops.now c.loop-k.k op c.loop-k.last c.if-is_fence.last is c.loop-k.invariant.now
          (λ fence. elim c.if-is_fence.branch [ then-is_fence w ↦ search rules | else-is_fence w ↦ let off : c.is_fence.result ≡ false = w.if-is_fence.false in cc ])
          (λ none. elim c.if-is_fence.branch [ then-is_fence w ↦ let on = w.if-is_fence.true in cc | else-is_fence w ↦ search rules ]);
    }

pub returns-clause-fenced : goal.returns-clause-fenced
returns-clause-fenced c = λ i k lt. c.loop-k.invariant.before i k (omega arith)
