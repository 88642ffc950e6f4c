-- In an order that the times allow, a step has gone before others that were listed before it only if it begins before they
-- end.
use Rattle.std.proofs.Common.{◌<◌, List, [], ◌∷◌, ◌++◌, sym, subst}
use Rattle.std.specs.List.{AllByRecursion}
use Rattle.zair_form.specs.Times.{Timed}
use Rattle.zair_state.specs.Orders.{IsOrderOf}
use Rattle.zac_sched.proofs.Later.{EachLater, all_before, all_from_two, all_with_middle, later_to_middle, later_without_middle}
use Rattle.zac_sched.proofs.Reordering.{IsReordering}

-- what holds of each step holds of each in an order of them
pub all_of_order : (P : Timed → Type 0) (xs order : List Timed) → IsOrderOf xs order → AllByRecursion P xs → AllByRecursion P order
all_of_order P [] order same h = subst (AllByRecursion P) (sym same) h
all_of_order P (x ∷ xs) order same h =
    subst (AllByRecursion P) (sym same.2)
    (all_with_middle P same.0 x same.1 h.0 (all_of_order P xs (same.0 ++ same.1) same.3 h.1))

-- the first begins before the second ends, so that it may stand before it
abbrev pub MayPrecede : Timed → Timed → Type 0
MayPrecede x y = x.begin < y.end

pub reordering_from_allowed : (may : Timed → Timed → Type 0) (xs order : List Timed) → EachLater (λ x y. MayPrecede y x → may x y) xs →
    IsOrderOf xs order → EachLater MayPrecede order → IsReordering may xs order
reordering_from_allowed may [] order later same allowed = same
reordering_from_allowed may (x ∷ xs) order later same allowed =
    let split = subst (EachLater MayPrecede) same.2 allowed in
    let others = all_of_order (λ y. MayPrecede y x → may x y) xs (same.0 ++ same.1) same.3 later.0 in
    let free = all_from_two (λ (y : Timed). MayPrecede y x → may x y) (λ y. MayPrecede y x) (may x) same.0 (λ y h k. h k)
    (all_before (λ (y : Timed). MayPrecede y x → may x y) same.0 same.1 others) (later_to_middle MayPrecede same.0 x same.1 split) in (
      same.0,
      same.1,
      same.2,
      free,
      reordering_from_allowed may xs (same.0 ++ same.1) later.1 same.3 (later_without_middle MayPrecede same.0 x same.1 split),
    )
