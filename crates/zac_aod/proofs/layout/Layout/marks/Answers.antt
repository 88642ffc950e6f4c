use Rattle.std.proofs.Common.{◌≡◌, ◌==◌, List, length, get_or, ap, sym, ◌∙◌, arith}
use Rattle.std.specs.List.{list_any}
use Rattle.zac_aod.specs.Lines.{columns_of, has_atom}
use Rattle.zac_aod.specs.declared.atom.Atom.{Atom}
use Rattle.zac_aod.specs.declared.line.Line.{Line}
use Rattle.zac_aod.proofs.Gathering.{take_all}
use Rattle.zac_aod.proofs.Lookups.{marked, row_within}
use Rattle.zac_aod.proofs.layout.Layout.marks.Goals as goal

pub index_mut-requires : goal.index_mut-requires
index_mut-requires c =
    let a = c.args.self.now.card.now in
    let shifts = c.args.self.now.shifts.now in
    let z : Atom = record { q = 0; to = record { 0 = 0 }; row = 0; column = 0 } in
    let within = row_within a shifts c.args.row c.atoms_of-atom-items.result.now c.atoms_of-atom-items.ensures c.loop-atom.atom-index z c.loop-atom-test.true in
    let size : length c.args.self.now.columns.items ≡ length (columns_of a shifts) = ap (λ (ls : List Line). length ls) c.args.self.now.columns_are in
    let many = c.loop-atom.invariant.len in
    let number = c.from.ensures in
    omega arith

pub returns-clause-each : goal.returns-clause-each
returns-clause-each c = λ k d b lt.
    let a = c.args.self.now.card.now in
    let shifts = c.args.self.now.shifts.now in
    let size : length c.args.self.now.columns.items ≡ length (columns_of a shifts) = ap (λ (ls : List Line). length ls) c.args.self.now.columns_are in
    c.loop-atom.invariant.each k b lt
    ∙ ap (list_any (λ (t : Atom). t.column == k))
    (take_all c.atoms_of-atom-items.result.now c.loop-atom.atom-index c.loop-atom.auto.atom-index-end c.loop-atom-test.false ∙ c.atoms_of-atom-items.ensures)
    ∙ marked a shifts c.args.row k d (omega arith)
    ∙ ap (λ (ls : List Line). has_atom a shifts c.args.row (get_or ls k d).from) (sym c.args.self.now.columns_are)
