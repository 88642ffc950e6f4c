use Rattle.std.proofs.Common.{◌≡◌, ◌<◌, ◌≤◌, List, length, map, refl, sym, ap, subst, ◌∙◌, arith}
use Rattle.std.specs.List.{All, AllPairs}
use Rattle.zac_arch.specs.declared.card.Figures.{Figures}
use Rattle.zac_aod.specs.Layout.{AreCovered, AreSpans, ComesBefore, atom_of}
use Rattle.zac_aod.specs.Lines.{Rise, columns_of, rows_of}
use Rattle.zac_aod.specs.declared.atom.Atom.{Atom}
use Rattle.zac_aod.specs.declared.line.Line.{Line}
use Rattle.zac_aod.specs.CardLaws.{CardLaws}
use Rattle.zac_aod.proofs.Gathering.{atoms_read, columns_read, rows_read}
use Rattle.zac_aod.proofs.LineFacts.{columns_rise, few_columns, few_rows}
use Rattle.zac_aod.proofs.Grids.{columns_park_at_sources, columns_park_at_targets, rows_park_at_sources, rows_park_at_targets}
use Rattle.zac_aod.proofs.Lookups.{columns_within}
use Rattle.zac_aod.proofs.Spans.{are_spans, atoms_in_order, row_inside}
use Rattle.zac_aod.proofs.layout.Layout.new.Goals as goal

pub atoms_among-requires-clause-rise : goal.atoms_among-requires-clause-rise
atoms_among-requires-clause-rise c =
    let a = c.args.card.now in
    let shifts = c.args.shifts.now in
    let columns = columns_read a shifts c.in_ok-columns.ensures c.as_slice-4.ensures.value c.in_ok-columns_in.ensures c.as_slice-3.ensures.value c.in_ok-routes.ensures in
    subst (λ (ls : List Line). Rise ls) (sym (c.as_slice-6.ensures.value ∙ columns)) (columns_rise a shifts)

pub atoms_among-requires-clause-few : goal.atoms_among-requires-clause-few
atoms_among-requires-clause-few c =
    let a = c.args.card.now in
    let shifts = c.args.shifts.now in
    let columns = columns_read a shifts c.in_ok-columns.ensures c.as_slice-4.ensures.value c.in_ok-columns_in.ensures c.as_slice-3.ensures.value c.in_ok-routes.ensures in
    let size : length c.as_slice-6.result.now ≡ length (columns_of a shifts) = ap (λ (ls : List Line). length ls) (c.as_slice-6.ensures.value ∙ columns) in
    let most : a.figures.columns ≤ 64 = subst (λ (f : Figures). f.columns ≤ 64) c.figures-park.ensures.figures c.figures-park.ensures.ranges.columns_most in
    let count = few_columns a shifts c.requires in
    omega arith

pub spans_of-requires : goal.spans_of-requires
spans_of-requires c =
    let a = c.args.card.now in
    let shifts = c.args.shifts.now in
    let columns = columns_read a shifts c.in_ok-columns.ensures c.as_slice-4.ensures.value c.in_ok-columns_in.ensures c.as_slice-3.ensures.value c.in_ok-routes.ensures in
    let atoms = atoms_read a shifts c.in_ok-atoms.ensures c.as_slice-6.ensures.value columns c.as_slice-5.ensures.value c.in_ok-routes.ensures in
    let size : length c.in_ok-columns.columns.items ≡ length (columns_of a shifts) = ap (λ (ls : List Line). length ls) columns in
    let counted : c.len.result ≡ length (columns_of a shifts) = let n = c.len.ensures in omega arith in
    subst (λ n. All (λ (t : Atom). t.column < n) c.as_slice-7.result.now) (sym counted)
    (subst (λ (ts : List Atom). All (λ (t : Atom). t.column < length (columns_of a shifts)) ts) (sym (c.as_slice-7.ensures.value ∙ atoms)) (columns_within a shifts))

pub invariant_of-result : goal.invariant_of-result
invariant_of-result c =
    let a = c.args.card.now in
    let shifts = c.args.shifts.now in
    let laws : CardLaws a = c.card_laws.ensures in
    let same : c.figures-park.result ≡ a.figures = c.figures-park.ensures.figures in
    let park : c.figures-park.result.park ≡ a.figures.park = ap (λ (f : Figures). f.park) same in
    let most_rows : a.figures.rows ≤ 64 = subst (λ (f : Figures). f.rows ≤ 64) same c.figures-park.ensures.ranges.rows_most in
    let most_columns : a.figures.columns ≤ 64 = subst (λ (f : Figures). f.columns ≤ 64) same c.figures-park.ensures.ranges.columns_most in
    let rows = rows_read a shifts c.in_ok-rows.ensures c.as_slice-2.ensures.value c.in_ok-rows_in.ensures c.as_slice.ensures.value c.in_ok-routes.ensures in
    let columns = columns_read a shifts c.in_ok-columns.ensures c.as_slice-4.ensures.value c.in_ok-columns_in.ensures c.as_slice-3.ensures.value c.in_ok-routes.ensures in
    let atoms = atoms_read a shifts c.in_ok-atoms.ensures c.as_slice-6.ensures.value columns c.as_slice-5.ensures.value c.in_ok-routes.ensures in
    let count_rows = few_rows a shifts c.requires in
    let count_columns = few_columns a shifts c.requires in
    let length_rows : length c.in_ok-rows.rows.items ≡ length (rows_of a shifts) = ap (λ (ls : List Line). length ls) rows in
    let length_columns : length c.in_ok-columns.columns.items ≡ length (columns_of a shifts) = ap (λ (ls : List Line). length ls) columns in
    let counted : c.len.result ≡ length (columns_of a shifts) = let n = c.len.ensures in omega arith in
    let covered : AreCovered (map (atom_of a shifts) shifts) (length (columns_of a shifts)) c.in_ok-spans.spans.items =
    subst (λ (ts : List Atom). AreCovered ts (length (columns_of a shifts)) c.in_ok-spans.spans.items) (c.as_slice-7.ensures.value ∙ atoms)
    (subst (λ n. AreCovered c.as_slice-7.result.now n c.in_ok-spans.spans.items) counted c.in_ok-spans.ensures) in
    let inside = row_inside a shifts c.figures-park.result.park (rows_park_at_sources a shifts laws c.requires c.figures-park.result.park park (rows_of a shifts) refl) in
    record {
      atoms_are = atoms;
      in_order = subst (λ (ts : List Atom). AllPairs ComesBefore ts) (sym atoms) (atoms_in_order a shifts c.requires);
      rows_are = rows;
      columns_are = columns;
      spans_are = subst (λ (ls : List Line). AreSpans a shifts ls c.in_ok-spans.spans.items) (sym columns) (are_spans a shifts inside c.in_ok-spans.spans.items covered);
      few_rows = omega arith;
      few_columns = omega arith;
      park_is = park;
      rows_at_source = rows_park_at_sources a shifts laws c.requires c.figures-park.result.park park c.in_ok-rows.rows.items rows;
      rows_at_target = rows_park_at_targets a shifts laws c.requires c.figures-park.result.park park c.in_ok-rows.rows.items rows;
      columns_at_source = columns_park_at_sources a shifts laws c.requires c.figures-park.result.park park c.in_ok-columns.columns.items columns;
      columns_at_target = columns_park_at_targets a shifts laws c.requires c.figures-park.result.park park c.in_ok-columns.columns.items columns;
    }
