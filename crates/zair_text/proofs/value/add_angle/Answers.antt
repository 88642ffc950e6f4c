use Rattle.zair_text.proofs.Adding.{angle_added}
use Rattle.zair_text.proofs.value.add_angle.Goals as goal

pub returns : goal.returns
returns c =
    angle_added c.args.head.now c.args.angle.now c.bytes.result.now _ _ _ _ _ c.in_ok-extend_from_slice.ensures.items c.in_ok-push.ensures.items c.in_ok-extend_from_slice-2.ensures.items c.in_ok-push-2.ensures.items
    c.bytes.ensures.value c.bytes.ensures.angle
