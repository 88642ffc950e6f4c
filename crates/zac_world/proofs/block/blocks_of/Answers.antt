use Rattle.std.proofs.Common.{ℕ, ◌+◌, sym, ap, subst, ◌∙◌, arith}
use Rattle.zac_arch.specs.declared.card.Zone.{Zone}
use Rattle.zac_arch.specs.declared.card.ZoneKind.TheVariants.{Storage}
use Rattle.zac_world.proofs.BlockFacts.{BlocksSoFar, next_fits, none_more, one_more, all_blocks}
use Rattle.zac_world.proofs.block.blocks_of.Goals as goal
use Rattle.zac_world.proofs.block.blocks_of.Goals.{in-Storage+in_ok-push-in-Storage, in-Entangling}

abbrev no_zone : Zone
no_zone = record { kind = Storage; x = 0; y = 0; dx = 0; dy = 0; pair = 0; columns = 0; rows = 0 }

pub overflow_mul-first : goal.overflow_mul-first
overflow_mul-first c =
    omega (arith, (next_fits c.args.card.now c.zones-zone-items.result.now c.loop-zone.zone-index c.loop-zone.first c.loop-zone.blocks.items no_zone c.figures-rules.ensures.rules c.zones-zone-items.ensures c.loop-zone-test.true c.in-Storage.is c.loop-zone.invariant).1)

pub overflow_add-first : goal.overflow_add-first
overflow_add-first c =
    omega (arith, (next_fits c.args.card.now c.zones-zone-items.result.now c.loop-zone.zone-index c.loop-zone.first c.loop-zone.blocks.items no_zone c.figures-rules.ensures.rules c.zones-zone-items.ensures c.loop-zone-test.true c.in-Storage.is c.loop-zone.invariant).1)

pub loop-zone-preserved : goal.loop-zone-preserved
loop-zone-preserved c =
    let a = c.args.card.now in
    let zones = c.zones-zone-items.result.now in
    let k = c.loop-zone.zone-index in
    let so_far = c.loop-zone.invariant in
    elim c.match-zone.branch [
      | in-Storage+in_ok-push-in-Storage w ↦
          subst (λ (f : ℕ). BlocksSoFar a zones (k + 1) f c.match-zone.blocks.items) (sym w.first-is)
          (subst (BlocksSoFar a zones (k + 1) _) (sym (ap (λ v. v.items) w.blocks-is ∙ w.in_ok-push-in-Storage.ensures.items))
          (one_more a zones k c.loop-zone.first c.loop-zone.blocks.items no_zone c.figures-rules.ensures.rules c.zones-zone-items.ensures c.loop-zone-test.true w.in-Storage.is so_far))
      | in-Entangling w ↦
          subst (λ (f : ℕ). BlocksSoFar a zones (k + 1) f c.match-zone.blocks.items) (sym w.first-is)
          (subst (BlocksSoFar a zones (k + 1) c.loop-zone.first) (sym (ap (λ v. v.items) w.blocks-is))
          (none_more a zones k c.loop-zone.first c.loop-zone.blocks.items no_zone c.loop-zone-test.true w.in-Entangling.is so_far))
    ]

pub returns : goal.returns
returns c =
    all_blocks c.args.card.now c.zones-zone-items.result.now c.loop-zone.zone-index c.loop-zone.first c.loop-zone.blocks.items c.zones-zone-items.ensures (omega arith) c.loop-zone.invariant
