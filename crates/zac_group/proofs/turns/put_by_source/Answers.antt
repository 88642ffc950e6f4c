use Rattle.std.proofs.Common.{rules, arith}
use Rattle.std.proofs.lemmas.List.Sorted.{answers_always}
use Rattle.zac_group.specs.declared.route.Route.{Route}
use Rattle.zac_group.proofs.Turning.{by_source_all}
use Rattle.zac_group.proofs.turns.put_by_source.Goals as goal

pub returns-clause-order : goal.returns-clause-order
returns-clause-order c =
    by_source_all c.sort_by_key.new.self.items
    (λ k d lt. c.in_ok-sort_by_key.ensures.sorted (λ (r : Route). (r.from.y, r.from.x)) (answers_always _ _ _ (λ f a r g h. search rules)) k d (omega arith) lt)
