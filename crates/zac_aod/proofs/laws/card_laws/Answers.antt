use Rattle.std.proofs.Common.{◌≤◌, subst}
use Rattle.zac_arch.specs.Architecture.{storage_count, site_count, trap_count}
use Rattle.zac_arch.specs.declared.card.Figures.{Figures}
use Rattle.zac_aod.proofs.Grids.{no_fewer}
use Rattle.zac_aod.proofs.laws.card_laws.Goals as goal

pub returns : goal.returns
returns c =
    let a = c.args.card.now in
    record {
      one_trap = c.laws_of_traps.ensures.one_trap;
      on_the_field = c.laws_of_traps.ensures.on_the_field;
      corners_apart = c.laws_of_parking.ensures.corners_apart;
      parked_apart = c.laws_of_parking.ensures.parked_apart;
      one_zone = c.laws_of_zones.ensures.one_zone;
      one_kind = c.laws_of_zones.ensures.one_kind;
      grid = c.laws_of_zones.ensures.grid;
      columns = c.laws_of_zones.ensures.columns;
      rows = c.laws_of_zones.ensures.rows;
      counts = no_fewer (trap_count a) (storage_count a) (site_count a) c.laws_of_traps.ensures.counts;
      park_least = subst (λ (f : Figures). 1 ≤ f.park) c.figures-rules.ensures.figures c.figures-rules.ensures.ranges.park_least;
    }
