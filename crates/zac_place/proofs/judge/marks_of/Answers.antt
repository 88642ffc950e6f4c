use Rattle.std.proofs.Common.{◌≡◌, ◌+◌, Bool, List, true, false, get_or, sym, ap, ◌∙◌, refl, subst, arith}
use Rattle.zac_arch.specs.Architecture.{trap_count}
use Rattle.zac_world.specs.Places.{is_empty}
use Rattle.zac_world.proofs.PlacesFacts.{storage_in}
use Rattle.zac_world.proofs.WalkFacts.{empty_by_atom}
use Rattle.zac_place.proofs.JudgeFacts.{MarkedSoFar, all_marked, none_by_some, one_marked}
use Rattle.zac_place.proofs.judge.marks_of.Goals as goal

pub atom_at-requires : goal.atom_at-requires
atom_at-requires c = omega (arith, c.if-traps-target.false, c.storage_traps-traps.ensures, storage_in c.args.card.now, ap trap_count c.requires.card)

pub set-requires : goal.set-requires
set-requires c = omega (arith, c.if-traps-target.false, c.storage_traps-traps.ensures, c.loop-target.invariant.many)

pub loop-target-preserved : goal.loop-target-preserved
loop-target-preserved c =
    let p = c.args.world.now in
    let t = get_or c.args.targets.now c.loop-target.target-index 0 in
    let marks = c.loop-target.marks in
    let found = c.atom_at.result in
    let unmarked : get_or marks t false ≡ false = sym c.is_set.ensures ∙ c.if-is_set.false in
    let empty : is_empty p.traps t ≡ true = empty_by_atom p.traps t found c.atom_at.ensures ∙ none_by_some found c.is_some.result c.is_some.ensures c.if-is_some.false in
    subst (λ (l : List Bool). MarkedSoFar p c.args.card.now c.args.targets.now l (c.loop-target.target-index + 1)) (sym c.set.ensures)
    (one_marked p c.args.card.now c.args.targets.now marks c.loop-target.target-index t c.requires.card refl (omega (arith, c.if-traps-target.false, c.storage_traps-traps.ensures)) unmarked empty c.loop-target.invariant)

pub returns : goal.returns
returns c =
    all_marked c.args.world.now c.args.card.now c.args.targets.now c.loop-target.marks c.loop-target.target-index (omega (arith, c.loop-target-test.false)) (omega arith) c.loop-target.invariant
