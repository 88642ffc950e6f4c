use Rattle.std.proofs.Common.{◌≡◌, None, sym, ◌∙◌}
use Rattle.qasm_expand.specs.Numbering.{extent_in}
use Rattle.qasm_expand.proofs.ExtentLemmas.{noted, none_from_test}
use Rattle.qasm_expand.proofs.extent.note.Goals as goal

pub returns-in_ok-insert : goal.returns-in_ok-insert
returns-in_ok-insert c =
    let absent : extent_in c.args.extents.now c.args.name.now ≡ None = none_from_test _ (sym c.contains_key.ensures ∙ c.if-not-contains_key.true) in
    noted c.args.extents.now c.insert.new.self c.args.name.now c.args.extent absent c.in_ok-insert.ensures.updates
