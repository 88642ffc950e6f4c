use Rattle.std.proofs.Common.{arith}
use Rattle.zac_arch.proofs.Walks.{division}
use Rattle.zac_arch.proofs.zone_grid.point_in.Goals as goal

pub nonzero_rem-column : goal.nonzero_rem-column
nonzero_rem-column c =
    let d = division c.args.z c.args.place c.traps_at_place-width.result c.traps_at_place-width.ensures c.requires.below in
    omega (arith, d.columns_least)

pub nonzero_div-row-2 : goal.nonzero_div-row-2
nonzero_div-row-2 c =
    let d = division c.args.z c.args.place c.traps_at_place-width.result c.traps_at_place-width.ensures c.requires.below in
    omega (arith, d.columns_least)

pub overflow_mul-result : goal.overflow_mul-result
overflow_mul-result c =
    let d = division c.args.z c.args.place c.traps_at_place-width.result c.traps_at_place-width.ensures c.requires.below in
    omega (arith, d.right, c.requires.x_fits)

pub overflow_add-result : goal.overflow_add-result
overflow_add-result c =
    let d = division c.args.z c.args.place c.traps_at_place-width.result c.traps_at_place-width.ensures c.requires.below in
    omega (arith, d.right, c.requires.x_fits)

pub overflow_add-result-2 : goal.overflow_add-result-2
overflow_add-result-2 c =
    let d = division c.args.z c.args.place c.traps_at_place-width.result c.traps_at_place-width.ensures c.requires.below in
    omega (arith, d.right, c.requires.x_fits)

pub overflow_mul-result-3 : goal.overflow_mul-result-3
overflow_mul-result-3 c =
    let d = division c.args.z c.args.place c.traps_at_place-width.result c.traps_at_place-width.ensures c.requires.below in
    omega (arith, d.top, c.requires.y_fits)

pub overflow_add-result-3 : goal.overflow_add-result-3
overflow_add-result-3 c =
    let d = division c.args.z c.args.place c.traps_at_place-width.result c.traps_at_place-width.ensures c.requires.below in
    omega (arith, d.top, c.requires.y_fits)

pub returns : goal.returns
returns c =
    (division c.args.z c.args.place c.traps_at_place-width.result c.traps_at_place-width.ensures c.requires.below).stands
