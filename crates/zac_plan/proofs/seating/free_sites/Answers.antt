use Rattle.std.proofs.Common.{◌++◌, ◌∷◌, [], ℕ, List, true, false, map, filter, sym, ap, ◌∙◌}
use Rattle.std.specs.List.{range_with_len}
use Rattle.std.proofs.lemmas.List.{map-append, append-nil}
use Rattle.zac_arch.specs.declared.place.SiteId.{SiteId}
use Rattle.zac_plan.specs.Plan.{is_free}
use Rattle.zac_plan.specs.Seats.{rests_in}
use Rattle.zac_plan.proofs.Sites.{filter_range_more}
use Rattle.zac_plan.proofs.seating.free_sites.Goals as goal
use Rattle.zac_plan.proofs.seating.free_sites.Goals.{then-is_free+in_ok-push, else-is_free}

pub loop-site-preserved : goal.loop-site-preserved
loop-site-preserved c =
    let test = is_free c.args.card.now (rests_in c.args.world.now) in
    let site = c.loop-site.site in
    let number : SiteId → ℕ = λ s. s.0 in
    elim c.if-is_free.branch [
      | then-is_free+in_ok-push w ↦
          ap (λ v. map number v.items) w.free-is ∙ ap (map number) w.in_ok-push.ensures.items
          ∙ map-append number c.loop-site.free.items (record { 0 = site } ∷ [])
          ∙ ap (λ (l : List ℕ). l ++ site ∷ []) c.loop-site.invariant
          ∙ sym (filter_range_more test site true (sym c.is_free.ensures ∙ w.if-is_free.true))
      | else-is_free w ↦
          ap (λ v. map number v.items) w.free-is ∙ c.loop-site.invariant
          ∙ sym (append-nil (filter test (range_with_len 0 site)))
          ∙ sym (filter_range_more test site false (sym c.is_free.ensures ∙ w.if-is_free.false))
    ]
