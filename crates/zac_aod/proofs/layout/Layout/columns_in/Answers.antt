use Rattle.std.proofs.Common.{◌≡◌, ◌<◌, List, length, map, filter, take, get_or, ap, sym, subst, ◌∙◌, arith}
use Rattle.std.specs.List.{AllPairs}
use Rattle.std.proofs.lemmas.List.{get_or_default}
use Rattle.zac_aod.specs.Layout.{ComesBefore, place_over}
use Rattle.zac_aod.specs.Lines.{columns_of}
use Rattle.zac_aod.specs.declared.atom.Atom.{Atom}
use Rattle.zac_aod.specs.declared.line.Line.{Line}
use Rattle.zac_aod.proofs.Gathering.{take_all}
use Rattle.zac_aod.proofs.Lookups.{beam_of_atom, beams_of_row, column_of_row, in_column, picked_off, picked_on}
use Rattle.zac_aod.proofs.layout.Layout.columns_in.Goals as goal
use Rattle.zac_aod.proofs.layout.Layout.columns_in.Goals.{in-Some+in_ok-push, in_default}

pub index-line-requires : goal.index-line-requires
index-line-requires g c =
    let z : Atom = record { q = 0; to = record { 0 = 0 }; row = 0; column = 0 } in
    let within = column_of_row c.args.self.now.card.now c.args.self.now.shifts.now c.args.row c.atoms_of-atoms.result.now c.atoms_of-atoms.ensures
    c.args.self.now.columns.items c.args.self.now.columns_are c.loop-atom.atom-index z c.loop-atom-test.true in
    let number = c.from-column.ensures in
    omega arith

pub place-requires : goal.place-requires
place-requires g c =
    let z : Atom = record { q = 0; to = record { 0 = 0 }; row = 0; column = 0 } in
    let within = column_of_row c.args.self.now.card.now c.args.self.now.shifts.now c.args.row c.atoms_of-atoms.result.now c.atoms_of-atoms.ensures
    c.args.self.now.columns.items c.args.self.now.columns_are c.loop-atom.atom-index z c.loop-atom-test.true in
    let number = c.from-column.ensures in
    subst (λ (l : Line). g.F.Fn.pre c.args.place (c.from-column.result, (l, tt))) (sym c.index-line.ensures)
    (c.requires c.from-column.result c.index-line.result.now (omega arith))

pub loop-atom-preserved : goal.loop-atom-preserved
loop-atom-preserved g c = λ test at gives.
    let columns : List Line = c.args.self.now.columns.items in
    let atoms : List Atom = c.atoms_of-atoms.result.now in
    let n = c.loop-atom.atom-index in
    let z : Atom = record { q = 0; to = record { 0 = 0 }; row = 0; column = 0 } in
    let none : Line = record { from = 0; to = 0 } in
    let k = c.from-column.result in
    let line : Line = c.index-line.result.now in
    let within = column_of_row c.args.self.now.card.now c.args.self.now.shifts.now c.args.row atoms c.atoms_of-atoms.ensures columns c.args.self.now.columns_are n z c.loop-atom-test.true in
    let number = c.from-column.ensures in
    let lt : k < length columns = omega arith in
    let given : c.place.result ≡ place_over test at (get_or columns k line) =
    gives k line c.place.result lt (subst (λ (l : Line). g.F.Fn.post c.args.place (k, (l, tt)) c.place.result) c.index-line.ensures c.place.ensures) in
    let there : get_or columns k line ≡ get_or columns (get_or atoms n z).column none = get_or_default columns k line none lt ∙ ap (λ m. get_or columns m none) number in
    let placed : c.place.result ≡ place_over test at (get_or columns (get_or atoms n z).column none) = given ∙ ap (λ (l : Line). place_over test at l) there in
    elim c.match-place.branch [
      | in-Some+in_ok-push w ↦
          rw w.beams-is
          (w.in_ok-push.ensures.items
          ∙ picked_on columns test at atoms n z c.loop-atom-test.true w.in-Some.at (sym w.in-Some.is ∙ placed) c.loop-atom.beams.items (c.loop-atom.invariant test at gives))
      | in_default w ↦
          rw w.beams-is
          (picked_off columns test at atoms n z c.loop-atom-test.true (sym w.in_default.is ∙ placed) c.loop-atom.beams.items (c.loop-atom.invariant test at gives))
    ]

pub returns : goal.returns
returns g c = λ test at gives.
    let a = c.args.self.now.card.now in
    let shifts = c.args.self.now.shifts.now in
    let atoms : List Atom = c.atoms_of-atoms.result.now in
    c.shrink_to_fit.ensures.items
    ∙ c.loop-atom.invariant test at gives
    ∙ ap (λ (ls : List Line). map (beam_of_atom ls at) (filter (in_column ls test) (take c.loop-atom.atom-index atoms))) c.args.self.now.columns_are
    ∙ ap (λ (ts : List Atom). map (beam_of_atom (columns_of a shifts) at) (filter (in_column (columns_of a shifts) test) ts))
    (take_all atoms c.loop-atom.atom-index c.loop-atom.auto.atom-index-end c.loop-atom-test.false ∙ c.atoms_of-atoms.ensures)
    ∙ beams_of_row a shifts c.args.row test at (subst (λ (ts : List Atom). AllPairs ComesBefore ts) c.args.self.now.atoms_are c.args.self.now.in_order)
