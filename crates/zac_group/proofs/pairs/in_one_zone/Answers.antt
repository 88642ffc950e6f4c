use Rattle.std.proofs.Common.{eq-eqb, eqb-true, subst, sym, ◌∙◌, ℕ}
use Rattle.zac_arch.specs.Architecture.{IsInZone}
use Rattle.zac_group.proofs.Zones.{one_zone}
use Rattle.zac_group.proofs.pairs.in_one_zone.Goals as goal

pub returns : goal.returns
returns c =
    let a = c.args.card.now in
    let z = c.zone_of.result in
    let y = c.zone_of-2.result in (
      λ same. (z, c.zone_of.ensures, subst (λ (n : ℕ). IsInZone a c.args.u.0 n) (sym (eqb-true z y same)) c.zone_of-2.ensures),
      λ w. eq-eqb z y (one_zone a c.args.t.0 z w.0 c.zone_of.ensures w.1 ∙ sym (one_zone a c.args.u.0 y w.0 c.zone_of-2.ensures w.2)),
    )
