use Rattle.std.proofs.Common.{rules, arith}
use Rattle.std.proofs.lemmas.List.Sorted.{answers_always}
use Rattle.zac_group.specs.declared.route.Route.{Route}
use Rattle.zac_group.specs.Turns.{length_of}
use Rattle.zac_group.proofs.Turning.{in_turn_all}
use Rattle.zac_group.proofs.turns.put_in_turn.Goals as goal

pub returns-clause-turn : goal.returns-clause-turn
returns-clause-turn c =
    in_turn_all c.sort_by_key.new.self.items
    (λ k d lt. c.in_ok-sort_by_key.ensures.sorted (λ (r : Route). (record { 0 = length_of r }, r.shift.q)) (answers_always _ _ _ (λ f a r g h. search rules)) k d (omega arith) lt)
