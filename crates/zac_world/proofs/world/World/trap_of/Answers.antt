use Rattle.std.proofs.Common.{◌≡◌, ◌<◌, ℕ, Option, None, length, refl, arith, ap, ◌∙◌}
use Rattle.std.specs.Option.{unwrap_or}
use Rattle.std.proofs.lemmas.List.{get_or_read_under, length-map}
use Rattle.zac_arch.specs.Architecture.{trap_count}
use Rattle.zac_pairing.specs.Pairing.{mate}
use Rattle.zac_world.specs.Places.{Places}
use Rattle.zac_world.proofs.PlacesFacts.{trap_in_card}
use Rattle.zac_world.proofs.world.World.trap_of.Goals as goal

pub returns-clause-in_card : goal.returns-clause-in_card
returns-clause-in_card c =
    let own = c.self.inside.card.now in
    let p = c.self.inside.pairing in
    let q = c.args.q in
    let found = c.index.result.now in
    let within : q < length p.left.items = omega (arith, c.requires, ap (λ (v : Places). length v.traps) c.self.view_is, length-map p.left.items (λ (o : Option ℕ). unwrap_or o 0)) in
    let read : found ≡ mate p.left.items q = get_or_read_under p.left.items q (length p.left.items) found None c.index.ensures within refl in
    let value : c.unwrap_or.result ≡ unwrap_or (mate p.left.items q) 0 = c.unwrap_or.ensures ∙ ap (λ (o : Option ℕ). unwrap_or o 0) read in
    omega (arith, value, trap_in_card own p.left.items p.right.items q c.self.invariant.placed p.pairing within, ap (λ (v : Places). trap_count v.architecture) c.self.view_is)
