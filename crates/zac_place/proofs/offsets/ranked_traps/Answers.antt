use Rattle.std.proofs.Common.{◌≡◌, ◌++◌, ◌∷◌, [], ℕ, List, map, sym, ap, ◌∙◌, subst}
use Rattle.std.specs.Prelude.{All}
use Rattle.std.specs.List.{range_with_len}
use Rattle.std.proofs.lemmas.List.{map_push}
use Rattle.std.proofs.lemmas.List.Elements.{All-push}
use Rattle.zac_place.specs.Ranks.{IsRanked, number_of}
use Rattle.zac_place.proofs.FillingFacts.{range_more}
use Rattle.zac_place.proofs.offsets.ranked_traps.Goals as goal

pub loop-t-preserved : goal.loop-t-preserved
loop-t-preserved c =
    let old = c.loop-t.ranked.items in
    let trap = c.of.result in
    let items : c.push.new.self.items ≡ old ++ trap ∷ [] = c.in_ok-push.ensures.items in
    record {
      ranked = subst (All (IsRanked c.args.card.now)) (sym items) (All-push (IsRanked c.args.card.now) old trap c.loop-t.invariant.ranked c.of.ensures.ranked);
      numbers =
          ap (map number_of) items ∙ map_push number_of old trap
          ∙ ap (λ (l : List ℕ). l ++ number_of trap ∷ []) c.loop-t.invariant.numbers
          ∙ ap (λ (t : ℕ). range_with_len 0 c.loop-t.t ++ t ∷ []) c.of.ensures.number
          ∙ sym (range_more c.loop-t.t);
    }
