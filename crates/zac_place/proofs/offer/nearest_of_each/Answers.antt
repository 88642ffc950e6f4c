use Rattle.std.proofs.Common.{◌≡◌, ◌+◌, ◌++◌, ℕ, List, length, get_or, map, min, sym, ap, ◌∙◌, subst, arith}
use Rattle.std.proofs.lemmas.List.{get_or_default, length-map}
use Rattle.zac_arch.specs.Architecture.{trap_count}
use Rattle.zac_arch.specs.declared.place.TrapId.{TrapId}
use Rattle.zac_world.specs.Places.{empty_storage}
use Rattle.zac_world.specs.Nearest.{AreNearest}
use Rattle.zac_place.specs.Offers.{HasNearest}
use Rattle.zac_place.specs.Returns.{AreNear, trap_in}
use Rattle.zac_place.proofs.OfferFacts.{more_near, more_offered, one_offered}
use Rattle.zac_place.proofs.ReturnFacts.{few_empty, rests}
use Rattle.zac_place.proofs.offer.nearest_of_each.Goals as goal

pub overflow_cast-count : goal.overflow_cast-count
overflow_cast-count c =
    let few = few_empty c.args.world.now c.args.card.now c.requires.card c.figures-rules.ensures.rules in
    omega (arith, few.0, few.1, c.requires.few)

pub overflow_add-count : goal.overflow_add-count
overflow_add-count c =
    let few = few_empty c.args.world.now c.args.card.now c.requires.card c.figures-rules.ensures.rules in
    omega (arith, few.0, few.1, c.requires.few)

pub nearest-requires-clause-from_in : goal.nearest-requires-clause-from_in
nearest-requires-clause-from_in c =
    let q = get_or c.args.leaving.now c.loop-q.q-index 0 in
    omega (arith, (c.requires.leaving c.loop-q.q-index 0 c.loop-q-test.true).below, rests c.args.world.now q c.trap_of.result.0 c.trap_of.ensures.rests, ap trap_count c.requires.card)

pub loop-q-preserved : goal.loop-q-preserved
loop-q-preserved c =
    let p = c.args.world.now in
    let leaving = c.args.leaving.now in
    let k = c.loop-q.q-index in
    let q = get_or leaving k 0 in
    let old = c.loop-q.offered.items in
    let traps = c.in_ok-nearest.nearest in
    let numbers = map (λ (t : TrapId). t.0) traps in
    let new : c.add_numbers.new.numbers.items ≡ old ++ numbers = c.in_ok-add_numbers.ensures ∙ ap (λ (l : List TrapId). old ++ map (λ (t : TrapId). t.0) l) c.as_slice.ensures in
    let are : AreNearest p (trap_in p q) (length leaving + 1) numbers = subst (λ (t : ℕ). AreNearest p t (length leaving + 1) numbers) (sym (rests p q c.trap_of.result.0 c.trap_of.ensures.rests)) c.in_ok-nearest.ensures.nearest in
    let many : length numbers ≡ min (length leaving + 1) (length (empty_storage p)) = length-map traps (λ (t : TrapId). t.0) ∙ c.in_ok-nearest.ensures.number in
    record {
      near = subst (AreNear p leaving) (sym new) (more_near p leaving old numbers k 0 c.loop-q-test.true c.loop-q.invariant.near are);
      complete = λ i d lt.
          subst (λ (l : List ℕ). HasNearest p leaving l (get_or leaving i d)) (sym new)
          (more_offered p leaving old numbers k c.loop-q-test.true c.loop-q.invariant.complete
          (λ e. subst (HasNearest p leaving (old ++ numbers)) (get_or_default leaving k 0 e c.loop-q-test.true) (one_offered p leaving old numbers q are many)) i d lt);
    }
