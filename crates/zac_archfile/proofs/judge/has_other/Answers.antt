use Rattle.std.proofs.Common.{◌∙◌, sym, ap}
use Rattle.serde_json.specs.View.{view}
use Rattle.zac_archfile.specs.Entries.{has_other_key}
use Rattle.zac_archfile.proofs.Views.{other_key-Object}
use Rattle.zac_archfile.proofs.judge.has_other.Goals as goal

pub returns-in-Object : goal.returns-in-Object
returns-in-Object c =
    c.has_other_member.ensures ∙ other_key-Object c.args.fields.now c.in-Object.members
    ∙ sym (ap (λ v. has_other_key c.args.fields.now (view v)) c.in-Object.is)
