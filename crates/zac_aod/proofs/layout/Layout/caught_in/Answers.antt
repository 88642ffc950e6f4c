use Rattle.std.proofs.Common.{◌≡◌, ◌==◌, List, map, ap, sym, subst, ◌∙◌}
use Rattle.std.proofs.lemmas.Bool.{eqb-true}
use Rattle.zac_group.specs.Moves.{source_y}
use Rattle.zac_group.specs.declared.shift.Shift.{Shift}
use Rattle.zac_aod.specs.Layout.{atom_of, caught_as}
use Rattle.zac_aod.specs.Lines.{Rise, number_of, rows_of}
use Rattle.zac_aod.specs.Lowering.{caught, moves_of_row}
use Rattle.zac_aod.specs.declared.line.Line.{Line}
use Rattle.zac_aod.proofs.Gathering.{take_all}
use Rattle.zac_aod.proofs.LineFacts.{rows_rise}
use Rattle.zac_aod.proofs.Lookups.{map_of_map, map_picked}
use Rattle.zac_aod.proofs.layout.Layout.caught_in.Goals as goal

pub number_of-number-requires-clause-rise : goal.number_of-number-requires-clause-rise
number_of-number-requires-clause-rise c =
    subst (λ (ls : List Line). Rise ls) (sym (c.as_slice.ensures.value ∙ c.args.self.now.rows_are)) (rows_rise c.args.self.now.card.now c.args.self.now.shifts.now)

pub returns : goal.returns
returns c =
    let a = c.args.self.now.card.now in
    let shifts = c.args.self.now.shifts.now in
    let row = c.args.row in
    let number : c.number_of-number.result ≡ number_of (rows_of a shifts) row =
    c.number_of-number.ensures ∙ ap (λ (ls : List Line). number_of ls row) (c.as_slice.ensures.value ∙ c.args.self.now.rows_are) in
    c.loop-atom.invariant
    ∙ ap (map (caught_as c.number_of-number.result)) (take_all c.atoms_of-atoms.result.now c.loop-atom.atom-index c.loop-atom.auto.atom-index-end c.loop-atom-test.false ∙ c.atoms_of-atoms.ensures)
    ∙ map_of_map (caught_as c.number_of-number.result) (atom_of a shifts) (moves_of_row a shifts row)
    ∙ map_picked (λ (s : Shift). caught_as c.number_of-number.result (atom_of a shifts s)) (caught a shifts) (λ (s : Shift). source_y a s == row) shifts
    (λ s e. let same = number ∙ ap (number_of (rows_of a shifts)) (sym (eqb-true (source_y a s) row e)) in
    ap (λ n. caught_as n (atom_of a shifts s)) same)
