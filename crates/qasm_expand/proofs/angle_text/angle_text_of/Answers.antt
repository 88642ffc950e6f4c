use Rattle.std.proofs.Common.{◌≡◌, true, sym, ◌∙◌, ap}
use Rattle.std.proofs.lemmas.Bool.{false≢true}
use Rattle.zac_gates.specs.Angle.{is_angle}
use Rattle.qasm_expand.specs.Angles.{angle_text}
use Rattle.qasm_expand.proofs.TextLemmas.{text_is_angle}
use Rattle.qasm_expand.proofs.angle_text.angle_text_of.Goals as goal

pub unreachable-requires : goal.unreachable-requires
unreachable-requires c =
    let angle = c.args.angle.now in
    let fits : is_angle (angle_text angle) ≡ true = text_is_angle c.numbers_have_angle_bytes.ensures angle c.requires.few c.as_slice.ensures.postfix c.as_slice.ensures.numbers c.requires.closed in
    let same : c.in_ok-text.text ≡ angle_text angle = c.in_ok-text.ensures ∙ ap angle_text c.as_slice.ensures.nodes in
    let refused = c.in-Err.ensures in
    false≢true (sym refused.1 ∙ (ap is_angle same ∙ fits))
