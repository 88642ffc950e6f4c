use Rattle.std.proofs.Common.{◌≡◌, Some, None, length, refl, arith, ap, subst, IsTrue}
use Rattle.std.specs.List.{slice_get}
use Rattle.std.specs.Option.{MatchOption}
use Rattle.std.proofs.lemmas.List.{get_or_read_under}
use Rattle.zac_arch.specs.Architecture.{trap_count}
use Rattle.zac_pairing.specs.Pairing.{mate}
use Rattle.zac_world.specs.Places.{Places, is_empty}
use Rattle.zac_world.proofs.PlacesFacts.{atom_found}
use Rattle.zac_world.proofs.world.World.atom_at.Goals as goal

pub returns : goal.returns
returns c =
    let own = c.self.inside.card.now in
    let p = c.self.inside.pairing in
    let t = c.args.t.0 in
    let found = c.index.result.now in
    let traps = ap (λ (v : Places). trap_count v.architecture) c.self.view_is in
    let read : found ≡ mate p.right.items t = get_or_read_under p.right.items t (length p.right.items) found None c.index.ensures (omega (arith, c.requires, traps, c.self.invariant.placed.all_traps)) refl in
    subst (λ (v : Places). MatchOption found (IsTrue (is_empty v.traps t)) (λ q. slice_get v.traps q ≡ Some t)) c.self.view_is
    (atom_found own p.left.items p.right.items t found c.self.invariant.placed p.pairing read)
