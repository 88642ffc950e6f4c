use Rattle.std.proofs.Common.{◌≡◌, map, take}
use Rattle.zac_aod.specs.Layout.{atom_among}
use Rattle.zac_aod.proofs.atom.atoms_among.Given as goal

abbrev pub invariant-loop-route : goal.invariant-loop-route
invariant-loop-route l = l.atoms.items ≡ map (atom_among l.columns) (take l.route-index l.routes)
