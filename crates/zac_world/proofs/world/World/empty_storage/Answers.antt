use Rattle.std.proofs.Common.{◌≡◌, ◌+◌, ◌<◌, ◌++◌, ◌∷◌, [], ℕ, Bool, true, false, cond, List, None, is_none, length, map, filter, refl, sym, ap, ◌∙◌, subst, arith}
use Rattle.std.specs.List.{range_with_len}
use Rattle.std.proofs.lemmas.List.{get_or_read_under, map-append, append-nil}
use Rattle.zac_arch.specs.declared.place.TrapId.{TrapId}
use Rattle.zac_pairing.specs.Pairing.{mate}
use Rattle.zac_world.specs.Places.{Places, is_empty}
use Rattle.zac_world.proofs.PlacesFacts.{none_by_test, empty_is, storage_in, filter_more}
use Rattle.zac_world.proofs.world.World.empty_storage.Goals as goal
use Rattle.zac_world.proofs.world.World.empty_storage.Goals.{then-is_none+in_ok-push, else-is_none}

pub index-requires : goal.index-requires
index-requires c =
    omega (arith, c.loop-t-test.true, c.storage_traps-t-end.ensures, storage_in c.self.inside.card.now, c.self.invariant.placed.all_traps)

pub loop-t-preserved : goal.loop-t-preserved
loop-t-preserved c =
    let own = c.self.inside.card.now in
    let p = c.self.inside.pairing in
    let t = c.loop-t.t in
    let found = c.index.result.now in
    let at : TrapId → ℕ = λ x. x.0 in
    let within : t < length p.right.items = omega (arith, c.loop-t-test.true, c.storage_traps-t-end.ensures, storage_in own, c.self.invariant.placed.all_traps) in
    let read : found ≡ mate p.right.items t = get_or_read_under p.right.items t (length p.right.items) found None c.index.ensures within refl in
    let test : is_empty c.args.self.now.traps t ≡ is_none found = subst (λ (v : Places). is_empty v.traps t ≡ is_none found) c.self.view_is (empty_is own p.left.items p.right.items t found c.self.invariant.placed p.pairing read) in
    let more : (b : Bool) → is_none found ≡ b → filter (is_empty c.args.self.now.traps) (range_with_len 0 (t + 1)) ≡ filter (is_empty c.args.self.now.traps) (range_with_len 0 t) ++ cond b (t ∷ []) [] =
    λ b is. filter_more (is_empty c.args.self.now.traps) t b (test ∙ is) in
    elim c.if-is_none.branch [
      | then-is_none+in_ok-push w ↦
          let pushed = ap (λ v. map at v.items) w.empty-is ∙ ap (map at) w.in_ok-push.ensures.items ∙ map-append at c.loop-t.empty.items (record { 0 = t } ∷ []) in
          pushed ∙ ap (λ (l : List ℕ). l ++ t ∷ []) c.loop-t.invariant ∙ sym (more true (none_by_test found c.is_none.result true c.is_none.ensures w.if-is_none.true))
      | else-is_none w ↦
          ap (λ v. map at v.items) w.empty-is ∙ c.loop-t.invariant ∙ sym (append-nil (filter (is_empty c.args.self.now.traps) (range_with_len 0 t))) ∙ sym (more false (none_by_test found c.is_none.result false c.is_none.ensures w.if-is_none.false))
    ]
