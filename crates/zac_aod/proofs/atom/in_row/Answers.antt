use Rattle.std.proofs.Common.{sym}
use Rattle.zac_aod.proofs.Lookups.{no_later, row_between}
use Rattle.zac_aod.proofs.atom.in_row.Goals as goal

pub slice_bounds-result-start : goal.slice_bounds-result-start
slice_bounds-result-start c = no_later c.args.atoms.now c.args.row c.count_before-start.result c.count_upto-end.result c.count_before-start.ensures.within c.count_before-start.ensures.before c.count_upto-end.ensures.rest

pub slice_bounds-result-count : goal.slice_bounds-result-count
slice_bounds-result-count c = no_later c.args.atoms.now c.args.row c.count_before-start.result c.count_upto-end.result c.count_before-start.ensures.within c.count_before-start.ensures.before c.count_upto-end.ensures.rest

pub returns : goal.returns
returns c =
    let le = no_later c.args.atoms.now c.args.row c.count_before-start.result c.count_upto-end.result c.count_before-start.ensures.within c.count_before-start.ensures.before c.count_upto-end.ensures.rest in
    sym (row_between c.args.atoms.now c.args.row c.count_before-start.result c.count_upto-end.result le c.count_upto-end.ensures.within
    c.count_before-start.ensures.before c.count_before-start.ensures.rest c.count_upto-end.ensures.upto c.count_upto-end.ensures.rest)
