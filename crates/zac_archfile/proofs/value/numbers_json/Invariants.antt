use Rattle.std.proofs.Common.{◌≡◌, take}
use Rattle.serde_json.specs.Data.{no_members}
use Rattle.serde_json.specs.View.{members_view}
use Rattle.zac_archfile.specs.Writing.{with_numbers}
use Rattle.zac_archfile.proofs.value.numbers_json.Given as goal

abbrev pub invariant-loop-field : goal.invariant-loop-field
invariant-loop-field l = members_view l.members.entries ≡ with_numbers no_members (take l.field-index l.numbers)
