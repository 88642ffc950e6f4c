use Rattle.std.proofs.Common.{◌∷◌, Bool, if◌then◌else◌, ap, ◌∙◌}
use Rattle.zair_text.specs.Values.{step_value}
use Rattle.zair_read.specs.Compact.{IsOwnStep}
use Rattle.zair_read.proofs.CompactParts.{none_read, item_read, last_read}
use Rattle.zair_read.proofs.job.steps.Goals as goal

pub items-init : goal.items-init
items-init c =
    none_read step_value (IsOwnStep c.args.aod) c.new-items.result.items c.args.bytes.now c.in_ok-rest.rest.now c.new-items.ensures.items c.in_ok-rest.ensures

pub items-preserved : goal.items-preserved
items-preserved c =
    let behind = c.in_ok-is_more.behind.now in
    item_read step_value (IsOwnStep c.args.aod) c.items.items.items c.push.new.self.items c.in_ok-item.item c.args.bytes.now c.items.rest.now c.in_ok-item.later.now behind
    c.in_ok-push.ensures.items c.items.invariant c.in_ok-item.ensures
    (c.in_ok-is_more.ensures ∙ ap (λ (b : Bool). (if b then 44 else 93) ∷ behind) c.if-not-is_more.false)

pub returns-then-not-is_more : goal.returns-then-not-is_more
returns-then-not-is_more c =
    let behind = c.in_ok-is_more.behind.now in
    last_read step_value (IsOwnStep c.args.aod) c.items.items.items c.of-then-not-is_more.result c.in_ok-item.item c.args.bytes.now c.items.rest.now c.in_ok-item.later.now behind
    (c.of-then-not-is_more.ensures ∙ c.shrink_to_fit.ensures.items ∙ c.in_ok-push.ensures.items) c.items.invariant c.in_ok-item.ensures
    (c.in_ok-is_more.ensures ∙ ap (λ (b : Bool). (if b then 44 else 93) ∷ behind) c.if-not-is_more.true)
