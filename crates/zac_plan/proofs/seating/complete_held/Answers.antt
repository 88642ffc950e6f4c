use Rattle.std.proofs.Common.{◌≡◌, ◌++◌, List, Ok, get_or, sym, ap, ◌∙◌}
use Rattle.std.specs.Option.{option_to_list}
use Rattle.std.proofs.lemmas.Iterator.Adapters.{YieldsList-from_once, fact_from_extend}
use Rattle.std.proofs.lemmas.List.{map-id}
use Rattle.zac_group.specs.declared.shift.Shift.{Shift}
use Rattle.zair_form.specs.declared.step.PairOf.{PairOf}
use Rattle.zac_plan.specs.Plan.{completing, is_held}
use Rattle.zac_plan.specs.Seats.{rests_in}
use Rattle.zac_plan.proofs.Sites.{flat_map_kept, flat_map_dropped}
use Rattle.zac_plan.proofs.seating.complete_held.Goals as goal
use Rattle.zac_plan.proofs.seating.complete_held.Goals.{then-is_held+in_ok-extend, else-is_held}

pub loop-pair-preserved : goal.loop-pair-preserved
loop-pair-preserved c =
    let a = c.args.card.now in
    let rests = rests_in c.args.world.now in
    let pairs = c.args.pairs.now in
    let k = c.loop-pair.pair-index in
    let none : PairOf = record { op = 0; a = 0; b = 0 } in
    let before = c.loop-pair.shifts.items in
    elim c.if-is_held.branch [
      | then-is_held+in_ok-extend w ↦
          let added : w.extend.new.self.items ≡ before ++ option_to_list w.complete.result =
          fact_from_extend {E = Unit {0}} (λ (s : Shift). s) (Ok w.in_ok-extend.field-0) w.in_ok-extend.ensures.ran (λ it b. YieldsList-from_once w.complete.result b.0)
          (λ xs e h. h.0 ∙ ap (λ (l : List Shift). before ++ l) (sym (map-id xs) ∙ e)) in
          ap (λ v. v.items) w.shifts-is ∙ added
          ∙ ap (λ (l : List Shift). before ++ l) w.complete.ensures
          ∙ ap (λ (l : List Shift). l ++ completing a rests (get_or pairs k none)) c.loop-pair.invariant
          ∙ sym (flat_map_kept PairOf Shift (completing a rests) (is_held a rests) pairs k none c.loop-pair-test.true (sym c.is_held.ensures ∙ w.if-is_held.true))
      | else-is_held w ↦
          ap (λ v. v.items) w.shifts-is ∙ c.loop-pair.invariant
          ∙ sym (flat_map_dropped PairOf Shift (completing a rests) (is_held a rests) pairs k none c.loop-pair-test.true (sym c.is_held.ensures ∙ w.if-is_held.false))
    ]
