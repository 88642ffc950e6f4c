use Rattle.std.proofs.Common.{◌≡◌, true, false, not, refl, sym, ap, ◌∙◌}
use Rattle.zac_arch.specs.Architecture.{left_trap, right_trap}
use Rattle.zac_world.specs.Places.{is_empty}
use Rattle.zac_plan.proofs.Sites.{empty_by_atom, free_by_traps}
use Rattle.zac_plan.proofs.seating.is_free.Goals as goal

pub returns-then-is_none : goal.returns-then-is_none
returns-then-is_none c =
    let a = c.args.card.now in
    let world = c.args.world.now in
    let site = c.args.site.0 in
    let at_left : is_empty world.traps (left_trap a site) ≡ true =
    ap (is_empty world.traps) (sym c.site_traps.ensures.left) ∙ empty_by_atom world.traps _ c.atom_at.result true c.atom_at.ensures (c.is_none.ensures ∙ ap not c.if-is_none.true) in
    let at_right : is_empty world.traps (right_trap a site) ≡ c.is_none-then-is_none.result =
    ap (is_empty world.traps) (sym c.site_traps.ensures.right) ∙ empty_by_atom world.traps _ c.atom_at-then-is_none.result c.is_none-then-is_none.result c.atom_at-then-is_none.ensures c.is_none-then-is_none.ensures in
    sym (free_by_traps a world site true c.is_none-then-is_none.result at_left at_right)

pub returns-else-is_none : goal.returns-else-is_none
returns-else-is_none c =
    let a = c.args.card.now in
    let world = c.args.world.now in
    let site = c.args.site.0 in
    let at_left : is_empty world.traps (left_trap a site) ≡ false =
    ap (is_empty world.traps) (sym c.site_traps.ensures.left) ∙ empty_by_atom world.traps _ c.atom_at.result false c.atom_at.ensures (c.is_none.ensures ∙ ap not c.if-is_none.false) in
    c.if-is_none.false ∙ sym (free_by_traps a world site false (is_empty world.traps (right_trap a site)) at_left refl)
