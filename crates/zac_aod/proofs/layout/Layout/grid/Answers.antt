use Rattle.std.proofs.Common.{◌≡◌, List, [], ◌++◌, map, sym, ap, subst, ◌∙◌}
use Rattle.zac_arch.specs.declared.place.TrapId.{TrapId}
use Rattle.zac_arch.specs.declared.place.Point.{Point}
use Rattle.zac_aod.specs.Jobs.{StandAt}
use Rattle.zac_aod.specs.Lines.{crossings_of, columns_of, rows_of}
use Rattle.zac_aod.specs.declared.line.Line.{Line}
use Rattle.zac_aod.proofs.Grids.{sources_stand, targets_stand}
use Rattle.zac_aod.proofs.layout.Layout.grid.Goals as goal

pub add_grid-requires : goal.add_grid-requires
add_grid-requires c =
    let a = c.args.self.now.card.now in
    sources_stand a c.args.self.now.shifts.now c.card_laws.ensures c.requires c.as_slice-3.result.now c.as_slice-4.result.now
    (c.as_slice-3.ensures.value ∙ c.in_ok-xs.ensures ∙ ap (map (λ (l : Line). l.from)) (c.as_slice.ensures.value ∙ c.args.self.now.columns_are))
    (c.as_slice-4.ensures.value ∙ c.in_ok-ys.ensures ∙ ap (map (λ (l : Line). l.from)) (c.as_slice-2.ensures.value ∙ c.args.self.now.rows_are))

pub add_grid-requires-2 : goal.add_grid-requires-2
add_grid-requires-2 c =
    let a = c.args.self.now.card.now in
    targets_stand a c.args.self.now.shifts.now c.card_laws.ensures c.requires c.as_slice-7.result.now c.as_slice-8.result.now
    (c.as_slice-7.ensures.value ∙ c.in_ok-xs-2.ensures ∙ ap (map (λ (l : Line). l.to)) (c.as_slice-5.ensures.value ∙ c.args.self.now.columns_are))
    (c.as_slice-8.ensures.value ∙ c.in_ok-ys-2.ensures ∙ ap (map (λ (l : Line). l.to)) (c.as_slice-6.ensures.value ∙ c.args.self.now.rows_are))

pub returns : goal.returns
returns c =
    let a = c.args.self.now.card.now in
    let shifts = c.args.self.now.shifts.now in
    let from_xs : c.as_slice-3.result.now ≡ map (λ (l : Line). l.from) (columns_of a shifts) = c.as_slice-3.ensures.value ∙ c.in_ok-xs.ensures ∙ ap (map (λ (l : Line). l.from)) (c.as_slice.ensures.value ∙ c.args.self.now.columns_are) in
    let from_ys : c.as_slice-4.result.now ≡ map (λ (l : Line). l.from) (rows_of a shifts) = c.as_slice-4.ensures.value ∙ c.in_ok-ys.ensures ∙ ap (map (λ (l : Line). l.from)) (c.as_slice-2.ensures.value ∙ c.args.self.now.rows_are) in
    let to_xs : c.as_slice-7.result.now ≡ map (λ (l : Line). l.to) (columns_of a shifts) = c.as_slice-7.ensures.value ∙ c.in_ok-xs-2.ensures ∙ ap (map (λ (l : Line). l.to)) (c.as_slice-5.ensures.value ∙ c.args.self.now.columns_are) in
    let to_ys : c.as_slice-8.result.now ≡ map (λ (l : Line). l.to) (rows_of a shifts) = c.as_slice-8.ensures.value ∙ c.in_ok-ys-2.ensures ∙ ap (map (λ (l : Line). l.to)) (c.as_slice-6.ensures.value ∙ c.args.self.now.rows_are) in
    let none : StandAt a c.in_ok-traps.traps.items [] = subst (λ (ts : List TrapId). StandAt a ts []) (sym c.in_ok-traps.ensures.items) tt in
    let first = c.in_ok-add_grid.ensures [] none in
    let both = c.in_ok-add_grid-2.ensures (crossings_of c.as_slice-3.result.now c.as_slice-4.result.now) first in
    subst (λ (ps : List Point). StandAt a c.add_grid-2.new.traps.items ps) (λ i. crossings_of (from_xs i) (from_ys i) ++ crossings_of (to_xs i) (to_ys i)) both
