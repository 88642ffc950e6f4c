use Rattle.std.proofs.Common.{List, map, sym, subst, arith}
use Rattle.std.proofs.lemmas.List.{take_all}
use Rattle.serde_json.specs.Data.{Data}
use Rattle.zair_text.specs.Added.{AreLaterAdded}
use Rattle.zair_text.proofs.Adding.{none_later, one_more_later}
use Rattle.zair_text.proofs.Growing.{take_one_more}
use Rattle.zair_text.proofs.value.add_later.Goals as goal

pub loop-item-init : goal.loop-item-init
loop-item-init g c = none_later _

pub loop-item-preserved : goal.loop-item-preserved
loop-item-preserved g c =
    let f = g.T.AddJson.value_of in
    let P : List Data → Type 0 = λ ds. AreLaterAdded ds c.args.out.now.items c.add_to.new.out.items in
    subst P (sym (take_one_more f c.args.items.now c.loop-item.item-index c.item-item.result c.loop-item-test.true c.item-item.is))
    (one_more_later _ _ _ _ _ _ c.loop-item.invariant c.in_ok-push.ensures.items c.in_ok-add_to.ensures)

pub returns : goal.returns
returns g c =
    let f = g.T.AddJson.value_of in
    let P = λ (xs : List g.row.T.Denot). AreLaterAdded (map f xs) c.args.out.now.items c.loop-item.out.items in
    subst P (take_all c.loop-item.item-index c.args.items.now (omega arith)) c.loop-item.invariant
