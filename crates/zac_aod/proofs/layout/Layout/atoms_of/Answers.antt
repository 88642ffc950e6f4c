use Rattle.std.proofs.Common.{◌==◌, List, filter, ap, sym, subst, ◌∙◌}
use Rattle.std.specs.List.{AllPairs}
use Rattle.zac_aod.specs.Layout.{ComesBefore, atom_of}
use Rattle.zac_aod.specs.declared.atom.Atom.{Atom}
use Rattle.zac_aod.proofs.Lookups.{filter_of_map}
use Rattle.zac_aod.proofs.layout.Layout.atoms_of.Goals as goal

pub in_row-requires : goal.in_row-requires
in_row-requires c = subst (λ (atoms : List Atom). AllPairs ComesBefore atoms) (sym c.as_slice.ensures.value) c.args.self.now.in_order

pub returns : goal.returns
returns c =
    c.in_row.ensures
    ∙ ap (filter (λ (t : Atom). t.row == c.args.row)) (c.as_slice.ensures.value ∙ c.args.self.now.atoms_are)
    ∙ filter_of_map (λ (t : Atom). t.row == c.args.row) (atom_of c.args.self.now.card.now c.args.self.now.shifts.now) c.args.self.now.shifts.now
