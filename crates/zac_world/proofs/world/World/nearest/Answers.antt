use Rattle.std.proofs.Common.{◌≡◌, List, length, map, min, take, ap, ◌∙◌, arith}
use Rattle.std.proofs.lemmas.Result.{IfOk-weaker}
use Rattle.zac_arch.proofs.Geometry.{on_the_field}
use Rattle.zac_arch.specs.declared.place.TrapId.{TrapId}
use Rattle.zac_world.specs.Nearest.{AreNearest}
use Rattle.zac_world.specs.Places.{empty_storage}
use Rattle.zac_world.specs.declared.walk.Candidate.{Candidate}
use Rattle.zac_world.proofs.RankFacts.{first_are_nearest}
use Rattle.zac_world.proofs.world.World.nearest.Goals as goal

pub around-requires-clause-x_most : goal.around-requires-clause-x_most
around-requires-clause-x_most c =
    omega (arith, (on_the_field c.args.card.now c.figures-rules.ensures.rules c.args.from.0 c.point-centre.result c.point-centre.ensures).0)

pub around-requires-clause-y_most : goal.around-requires-clause-y_most
around-requires-clause-y_most c =
    omega (arith, (on_the_field c.args.card.now c.figures-rules.ensures.rules c.args.from.0 c.point-centre.result c.point-centre.ensures).1)

pub returns-clause-nearest : goal.returns-clause-nearest
returns-clause-nearest c =
    IfOk-weaker c.first_traps.result
    (λ (l : List TrapId). l ≡ map (λ (d : Candidate). d.trap) (take c.args.count c.as_slice-2.result.now))
    (λ (l : List TrapId). AreNearest c.args.self.now c.args.from.0 c.args.count (map (λ (t : TrapId). t.0) l))
    (λ l is.
    (first_are_nearest c.args.self.now c.args.card.now c.args.from.0 c.args.count c.point-centre.result c.in_ok-found.found.items c.put_by_distance.new.found.items l
    c.requires.its_card c.point-centre.ensures c.in_ok-found.ensures c.put_by_distance.ensures.permutes c.put_by_distance.ensures.order
    (is ∙ ap (λ (cs : List Candidate). map (λ (d : Candidate). d.trap) (take c.args.count cs)) c.as_slice-2.ensures.value)).nearest)
    c.first_traps.ensures

pub returns-clause-number : goal.returns-clause-number
returns-clause-number c =
    IfOk-weaker c.first_traps.result
    (λ (l : List TrapId). l ≡ map (λ (d : Candidate). d.trap) (take c.args.count c.as_slice-2.result.now))
    (λ (l : List TrapId). length l ≡ min c.args.count (length (empty_storage c.args.self.now)))
    (λ l is.
    (first_are_nearest c.args.self.now c.args.card.now c.args.from.0 c.args.count c.point-centre.result c.in_ok-found.found.items c.put_by_distance.new.found.items l
    c.requires.its_card c.point-centre.ensures c.in_ok-found.ensures c.put_by_distance.ensures.permutes c.put_by_distance.ensures.order
    (is ∙ ap (λ (cs : List Candidate). map (λ (d : Candidate). d.trap) (take c.args.count cs)) c.as_slice-2.ensures.value)).many)
    c.first_traps.ensures
