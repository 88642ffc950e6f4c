use Rattle.std.proofs.Common.{map, ap, ◌∙◌}
use Rattle.zac_aod.specs.Layout.{atom_of, dropped_as}
use Rattle.zac_aod.specs.Lowering.{moves_of_row}
use Rattle.zac_aod.proofs.Gathering.{take_all}
use Rattle.zac_aod.proofs.Lookups.{map_of_map}
use Rattle.zac_aod.proofs.layout.Layout.dropped_in.Goals as goal

pub returns : goal.returns
returns c =
    let a = c.args.self.now.card.now in
    let shifts = c.args.self.now.shifts.now in
    c.loop-atom.invariant
    ∙ ap (map dropped_as) (take_all c.atoms_of-atoms.result.now c.loop-atom.atom-index c.loop-atom.auto.atom-index-end c.loop-atom-test.false ∙ c.atoms_of-atoms.ensures)
    ∙ map_of_map dropped_as (atom_of a shifts) (moves_of_row a shifts c.args.row)
