use Rattle.std.proofs.Common.{Some, None, Option, ℕ, subst, refl, List}
use Rattle.zair_form.specs.declared.step.Beam.{Beam}
use Rattle.zair_machine.proofs.Reaching.{NearestAt, far_by_nearest, far_without_columns, far_without_rows}
use Rattle.zair_machine.proofs.machine.is_far_from.Goals as goal

pub returns-in-Some-Some : goal.returns-in-Some-Some
returns-in-Some-Some c =
    let x : NearestAt c.args.aod.now.columns c.args.p.x (Some c.in-Some-Some.across) = subst (λ (o : Option ℕ). NearestAt c.args.aod.now.columns c.args.p.x o) c.in-Some-Some.is-0 (subst (λ (bs : List Beam). NearestAt bs c.args.p.x c.distance_to.result) c.columns.ensures c.distance_to.ensures) in
    let y : NearestAt c.args.aod.now.rows c.args.p.y (Some c.in-Some-Some.up) = subst (λ (o : Option ℕ). NearestAt c.args.aod.now.rows c.args.p.y o) c.in-Some-Some.is-1 (subst (λ (bs : List Beam). NearestAt bs c.args.p.y c.distance_to-2.result) c.rows.ensures c.distance_to-2.ensures) in
    far_by_nearest c.args.aod.now.rows c.args.aod.now.columns c.args.reach c.args.p c.in-Some-Some.across c.in-Some-Some.up c.within.result x y c.within.ensures

pub returns-in_default : goal.returns-in_default
returns-in_default c =
    let y : NearestAt c.args.aod.now.rows c.args.p.y None = subst (λ (o : Option ℕ). NearestAt c.args.aod.now.rows c.args.p.y o) c.in_default.is-1 (subst (λ (bs : List Beam). NearestAt bs c.args.p.y c.distance_to-2.result) c.rows.ensures c.distance_to-2.ensures) in
    (λ _. far_without_rows c.args.aod.now.rows c.args.aod.now.columns c.args.reach c.args.p y, λ _. refl)

pub returns-in_default-2 : goal.returns-in_default-2
returns-in_default-2 c =
    let x : NearestAt c.args.aod.now.columns c.args.p.x None = subst (λ (o : Option ℕ). NearestAt c.args.aod.now.columns c.args.p.x o) c.in_default.is-0 (subst (λ (bs : List Beam). NearestAt bs c.args.p.x c.distance_to.result) c.columns.ensures c.distance_to.ensures) in
    (λ _. far_without_columns c.args.aod.now.rows c.args.aod.now.columns c.args.reach c.args.p x, λ _. refl)
