use Rattle.std.proofs.Common.{◌≡◌, ◌++◌, ◌∷◌, [], ℕ, suc, List, length, get_or, take, sym, ap, ◌∙◌, add-one}
use Rattle.std.proofs.lemmas.List.{length_push}
use Rattle.std.proofs.lemmas.Slice.Zip.{zip_turn}
use Rattle.zac_group.specs.declared.shift.Shift.{Shift}
use Rattle.zair_form.specs.declared.step.PairOf.{PairOf}
use Rattle.zac_place.specs.Sites.{left_qubit}
use Rattle.zac_plan.specs.Plan.{left, places, shift_to, to_sites}
use Rattle.zac_plan.specs.Seats.{rests_in}
use Rattle.zac_plan.proofs.Sites.{moves_to, to_left, to_right, to_sites_more, two_added}
use Rattle.zac_plan.proofs.seating.to_sites.Goals as goal

pub loop-pair-preserved : goal.loop-pair-preserved
loop-pair-preserved c =
    let a = c.args.card.now in
    let world = c.args.world.now in
    let rests = rests_in world in
    let pairs = c.args.new.now in
    let sites = c.args.sites.now in
    let k = length c.loop-pair.yielded in
    let p = c.in-Some.pair.now in
    let site = c.in-Some.site.now in
    let turn = zip_turn pairs sites c.loop-pair.yielded c.into_iter-pair-iterator.result c.loop-pair.pair-iterator c.next.new.self c.next.result (cc) (cc) c.loop-pair.yielded_by (c.in-Some.pair, c.in-Some.site) c.in-Some.is c.next.ensures.steps in
    let first = to_left a world c.requires.its_card p site c.sides-first.result.0 c.site_traps.result.0 c.shift_to.result c.shift_to.ensures c.sides-first.ensures.left c.site_traps.ensures.left in
    let second = to_right a world c.requires.its_card p site c.sides-first.result.1 c.site_traps.result.1 c.shift_to-in-loop-pair.result c.shift_to-in-loop-pair.ensures c.sides-first.ensures.right c.site_traps.ensures.right in
    let old = c.args.shifts.now.items in
    let done = to_sites a rests (take k pairs) (take k sites) in
    let more : to_sites a rests (take (suc k) pairs) (take (suc k) sites) ≡ done ++ moves_to a rests p site =
    to_sites_more a rests pairs sites k p site turn.0 turn.1
    ∙ ap (λ (x : PairOf). done ++ moves_to a rests x (get_or sites k site)) (sym (turn.2 p))
    ∙ ap (λ (x : ℕ). done ++ moves_to a rests p x) (sym (turn.3 site)) in
    let count : length (c.loop-pair.yielded ++ (c.in-Some.pair, c.in-Some.site) ∷ []) ≡ suc k = length_push c.loop-pair.yielded (c.in-Some.pair, c.in-Some.site) ∙ add-one k in
    two_added c.shift_to.result c.shift_to-in-loop-pair.result c.push-in-loop-pair.new.self.items c.push.new.self.items c.loop-pair.shifts.items old done c.in_ok-push-2.ensures.items c.in_ok-push.ensures.items c.loop-pair.invariant
    ∙ ap (λ (m : Shift). old ++ (done ++ m ∷ c.shift_to-in-loop-pair.result ∷ [])) first
    ∙ ap (λ (m : Shift). old ++ (done ++ shift_to rests (left_qubit (places a rests) (p.a, p.b)) (left a site) ∷ m ∷ [])) second
    ∙ ap (λ (l : List Shift). old ++ l) (sym more)
    ∙ ap (λ (n : ℕ). old ++ to_sites a rests (take n pairs) (take n sites)) (sym count)
