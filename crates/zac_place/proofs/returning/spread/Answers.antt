use Rattle.std.proofs.Common.{◌≡◌, ◌≢◌, ◌+◌, ◌<◌, ◌++◌, ◌∷◌, [], ℤ, pos, Bool, true, false, cond, List, is_none, length, get_or, map, filter, sym, ap, ◌∙◌, arith}
use Rattle.std.specs.List.{range_with_len}
use Rattle.std.proofs.lemmas.Int.{to_z-of_z}
use Rattle.std.proofs.lemmas.List.{append-nil}
use Rattle.zac_arch.specs.Architecture.{storage_count}
use Rattle.zac_assign.specs.Assignment.{price_at}
use Rattle.zac_world.specs.Places.{is_empty}
use Rattle.zac_world.proofs.PlacesFacts.{none_by_test, storage_in}
use Rattle.zac_world.proofs.WalkFacts.{empty_by_atom}
use Rattle.zac_place.specs.Offers.{price_of}
use Rattle.zac_place.proofs.ReturnFacts.{before_next, behind, not_offered, others_differ, price_more, price_of-offered, price_of-others, taken_not_offered}
use Rattle.zac_place.proofs.returning.spread.Goals as goal
use Rattle.zac_place.proofs.returning.spread.Goals.{then-is_none+then-next-offered+then-offered-next+in_ok-push, then-is_none+else-next-offered+in_ok-push-2, else-next-offered-via-then-next-offered+else-offered-next, else-next-offered-via-else-next-offered, else-is_none}

pub atom_at-requires : goal.atom_at-requires
atom_at-requires c =
    omega (arith, c.loop-t-test.true, c.storage_traps-t-end.ensures, storage_in c.args.world.now.architecture, ap storage_count c.requires.card)

pub loop-t-preserved : goal.loop-t-preserved
loop-t-preserved c =
    let p = c.args.world.now in
    let os = c.args.offered.now in
    let ps = c.args.prices.now in
    let t = c.loop-t.t in
    let next = c.loop-t.next in
    let inv = c.loop-t.invariant in
    let f = price_of os ps in
    let e = is_empty p.traps in
    let found = c.atom_at.result in
    let test : e t ≡ is_none found = empty_by_atom p.traps t found c.atom_at.ensures in
    let so_far = map f (filter e (range_with_len 0 t)) in
    let more : (b : Bool) → is_none found ≡ b → so_far ++ cond b (f t ∷ []) [] ≡ map f (filter e (range_with_len 0 (t + 1))) = λ b is. sym (price_more f e t b (test ∙ is)) in
    elim c.if-is_none.branch [
      | then-is_none+then-next-offered+then-offered-next+in_ok-push w ↦
          let free : is_none found ≡ true = none_by_test found c.is_none.result true c.is_none.ensures w.if-is_none.true in
          let at : get_or os next 0 ≡ t = w.if-offered-next.true in
          let price : price_at ps next ≡ f t = sym (price_of-offered os ps next c.requires.rising c.requires.priced w.if-next-offered.true) ∙ ap f at in
          let pushed : w.push.new.self.items ≡ c.loop-t.spread.items ++ price_at ps next ∷ [] = grind (arith, to_z-of_z, w.in_ok-push.ensures.items) in
          record {
            prices = ap (λ v. v.items) w.spread-is ∙ pushed ∙ ap (λ (l : List ℤ). l ++ price_at ps next ∷ []) inv.prices ∙ ap (λ (z : ℤ). so_far ++ z ∷ []) price ∙ more true free;
            most = omega (arith, w.next-is, w.if-next-offered.true);
            before = λ k lt. before_next os next t inv.before at k (omega (arith, w.next-is));
            after = λ k le lt. omega (arith, c.requires.rising next k 0 (omega (arith, w.next-is)) lt, at);
          }
      | then-is_none+else-next-offered+in_ok-push-2 w ↦
          let free : is_none found ≡ true = none_by_test found c.is_none.result true c.is_none.ensures w.if-is_none.true in
          let first : next < length os → get_or os next 0 ≢ t =
          elim w.else-next-offered.branch as (λ _. next < length os → get_or os next 0 ≢ t) [
            | else-next-offered-via-then-next-offered+else-offered-next v ↦ λ lt. v.if-offered-next.false
            | else-next-offered-via-else-next-offered v ↦ λ lt. absurd (omega (arith, v.if-next-offered.false))
          ] in
          let differ = others_differ os next t c.requires.rising inv.after first in
          let price : pos 0 ≡ f t = sym (price_of-others os ps t (not_offered os next t inv.before differ)) in
          record {
            prices = ap (λ v. v.items) w.spread-is ∙ w.in_ok-push-2.ensures.items ∙ ap (λ (l : List ℤ). l ++ pos 0 ∷ []) inv.prices ∙ ap (λ (z : ℤ). so_far ++ z ∷ []) price ∙ more true free;
            most = omega (arith, w.next-is);
            before = λ k lt. omega (arith, inv.before k (omega (arith, w.next-is)));
            after = λ k le lt. behind os next t inv.after differ k (omega (arith, w.next-is)) lt;
          }
      | else-is_none w ↦
          let taken : is_none found ≡ false = none_by_test found c.is_none.result false c.is_none.ensures w.if-is_none.false in
          let differ = taken_not_offered p os t c.requires.empty (test ∙ taken) in
          record {
            prices = ap (λ v. v.items) w.spread-is ∙ inv.prices ∙ sym (append-nil so_far) ∙ more false taken;
            most = omega (arith, w.next-is);
            before = λ k lt. omega (arith, inv.before k (omega (arith, w.next-is)));
            after = λ k le lt. behind os next t inv.after (λ i i_le i_lt. differ i i_lt) k (omega (arith, w.next-is)) lt;
          }
    ]
