use Rattle.std.proofs.Common.{refl, arith}
use Rattle.zac_arch.specs.Architecture.{traps_per_place}
use Rattle.zac_arch.proofs.Finding.{found, found_at}
use Rattle.zac_arch.proofs.zone_grid.place_at.Goals as goal

pub returns-then-p-z : goal.returns-then-p-z
returns-then-p-z c = λ place at.
    let f = found c.args.z c.args.p place c.requires.row_distance c.requires.column_distance at in
    omega (arith, c.then-p-z.either, f.left, f.bottom)

pub returns-then-up-z-ne0 : goal.returns-then-up-z-ne0
returns-then-up-z-ne0 c = λ place at.
    let f = found c.args.z c.args.p place c.requires.row_distance c.requires.column_distance at in
    omega (arith, c.then-up-z-ne0.either, f.level, f.row_in, f.column_in)

pub returns-in_err-side : goal.returns-in_err-side
returns-in_err-side c =
    rw c.from_residual.ensures (λ place at.
    let f = found c.args.z c.args.p place c.requires.row_distance c.requires.column_distance at in
    c.in_err-side.ensures f.side f.side_in f.beside)

pub overflow_mul-result : goal.overflow_mul-result
overflow_mul-result c =
    let f = found_at c.args.z c.args.p (traps_per_place c.args.z.kind) c.in_ok-side.side refl c.requires.fits c.if-p-z.false c.if-p-z-2.false c.if-up-z-ne0.false c.if-z-row.false c.if-z-column.false c.in_ok-side.ensures.0 c.in_ok-side.ensures.1 in
    omega (arith, f.row_fits)

pub overflow_add-result : goal.overflow_add-result
overflow_add-result c =
    let f = found_at c.args.z c.args.p (traps_per_place c.args.z.kind) c.in_ok-side.side refl c.requires.fits c.if-p-z.false c.if-p-z-2.false c.if-up-z-ne0.false c.if-z-row.false c.if-z-column.false c.in_ok-side.ensures.0 c.in_ok-side.ensures.1 in
    omega (arith, f.place_fits)

pub overflow_mul-result-2 : goal.overflow_mul-result-2
overflow_mul-result-2 c =
    let f = found_at c.args.z c.args.p c.traps_at_place.result c.in_ok-side.side c.traps_at_place.ensures c.requires.fits c.if-p-z.false c.if-p-z-2.false c.if-up-z-ne0.false c.if-z-row.false c.if-z-column.false c.in_ok-side.ensures.0 c.in_ok-side.ensures.1 in
    omega (arith, f.scaled_fits)

pub overflow_add-result-2 : goal.overflow_add-result-2
overflow_add-result-2 c =
    let f = found_at c.args.z c.args.p c.traps_at_place.result c.in_ok-side.side c.traps_at_place.ensures c.requires.fits c.if-p-z.false c.if-p-z-2.false c.if-up-z-ne0.false c.if-z-row.false c.if-z-column.false c.in_ok-side.ensures.0 c.in_ok-side.ensures.1 in
    omega (arith, f.index_fits)

pub returns : goal.returns
returns c =
    let f = found_at c.args.z c.args.p c.traps_at_place.result c.in_ok-side.side c.traps_at_place.ensures c.requires.fits c.if-p-z.false c.if-p-z-2.false c.if-up-z-ne0.false c.if-z-row.false c.if-z-column.false c.in_ok-side.ensures.0 c.in_ok-side.ensures.1 in
    f.stands
