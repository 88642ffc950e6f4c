use Rattle.std.proofs.Common.{List, subst}
use Rattle.std.specs.List.Sorted.{IsPermutation}
use Rattle.std.proofs.lemmas.List.Sorted.{All-permutation}
use Rattle.zac_group.specs.declared.shift.Shift.{Shift}
use Rattle.zac_group.specs.Members.{IsRoute, moves}
use Rattle.zac_group.proofs.Phases.{moves_permute, phase_permutes}
use Rattle.zac_group.proofs.Turning.{taken_in_order}
use Rattle.zac_group.proofs.grouping.taken_routes.Goals as goal

pub returns-clause-permutes : goal.returns-clause-permutes
returns-clause-permutes c =
    let rs = c.in_ok-routes.routes.items in
    let qs = c.put_in_turn.new.routes.items in
    subst (λ (l : List Shift). IsPermutation l (moves qs)) c.in_ok-routes.ensures.shifts (moves_permute rs qs c.in_ok-put_in_turn.ensures.permutes)

pub returns-clause-order : goal.returns-clause-order
returns-clause-order c =
    let a = c.args.card.now in
    let rs = c.in_ok-routes.routes.items in
    let qs = c.put_in_turn.new.routes.items in
    let moved = subst (λ (l : List Shift). IsPermutation l (moves qs)) c.in_ok-routes.ensures.shifts (moves_permute rs qs c.in_ok-put_in_turn.ensures.permutes) in
    taken_in_order a qs (All-permutation (IsRoute a) rs qs c.in_ok-put_in_turn.ensures.permutes c.in_ok-routes.ensures.routes)
    (phase_permutes a c.args.shifts.now (moves qs) moved c.requires).qubits c.in_ok-put_in_turn.ensures.turn
