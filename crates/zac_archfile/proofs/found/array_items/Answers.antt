use Rattle.zac_archfile.proofs.Views.{objects-Array}
use Rattle.zac_archfile.proofs.found.array_items.Goals as goal

pub returns-in-Array : goal.returns-in-Array
returns-in-Array c =
    objects-Array c.args.value.now c.in-Array.items c.as_slice.result.now c.in-Array.is c.as_slice.ensures.value
