use Rattle.std.proofs.Common.{◌∙◌, ap}
use Rattle.std.specs.List.{list_any}
use Rattle.zac_archfile.specs.Entries.{has_other_key}
use Rattle.zac_archfile.proofs.Views.{other_key-objects}
use Rattle.zac_archfile.proofs.judge.has_other_in_zones.Goals as goal

pub returns : goal.returns
returns c =
    c.any_has_other.ensures ∙ other_key-objects c.args.fields.now c.list_items.result.now
    ∙ ap (list_any (has_other_key c.args.fields.now)) c.list_items.ensures
