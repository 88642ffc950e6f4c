use Rattle.std.proofs.Common.{rules}
use Rattle.std.proofs.lemmas.List.Sorted.{answers_always}
use Rattle.zac_world.specs.declared.walk.Candidate.{Candidate}
use Rattle.zac_world.proofs.NearestFacts.{sorted_before}
use Rattle.zac_world.proofs.nearest.put_by_distance.Goals as goal

pub returns-clause-order : goal.returns-clause-order
returns-clause-order c =
    sorted_before c.sort_unstable_by_key.new.self.items
    (c.sort_unstable_by_key.ensures.sorted (λ (d : Candidate). (d.distance, d.trap.0)) (answers_always _ _ _ (λ f a r g h. search rules)))
