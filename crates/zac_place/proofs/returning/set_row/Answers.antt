use Rattle.std.proofs.Common.{◌≡◌, inl, inr, ℕ, get_or, sym, ap, ◌∙◌, arith}
use Rattle.std.proofs.lemmas.Bool.{cases_eq}
use Rattle.zac_arch.proofs.Geometry.{trap_count_is}
use Rattle.zac_assign.specs.Assignment.{cost_at}
use Rattle.zac_world.specs.Nearest.{trap_distance}
use Rattle.zac_place.proofs.PlacingFacts.{element_at}
use Rattle.zac_place.proofs.returning.set_row.Goals as goal

pub distance-requires-clause-second : goal.distance-requires-clause-second
distance-requires-clause-second c =
    omega (arith, c.requires.traps c.loop-column.column 0 c.loop-column-test.true, trap_count_is c.args.card.now c.figures-rules.ensures.rules)

pub loop-column-preserved : goal.loop-column-preserved
loop-column-preserved c =
    let offered = c.args.offered.now in
    let column = c.loop-column.column in
    let inv = c.loop-column.invariant in
    let row = c.args.row in
    let a = c.args.card.now in
    let from = c.args.from.0 in
    record {
      rows = c.set.ensures.rows ∙ inv.rows;
      columns = c.set.ensures.columns ∙ inv.columns;
      row = λ k t lt is.
          let e = element_at offered k t is in
          elim (cases_eq k column) as (λ _. cost_at c.set.new.self row k ≡ trap_distance a from t) [
            | inl same ↦
                let here : cost_at c.set.new.self row k ≡ cost_at c.set.new.self row column = ap (cost_at c.set.new.self row) same in
                let there : get_or offered column 0 ≡ t = ap (λ (i : ℕ). get_or offered i 0) (sym same) ∙ e.1 in
                here ∙ c.set.ensures.set ∙ c.distance.ensures.distance ∙ ap (trap_distance a from) there
            | inr apart ↦ c.set.ensures.others row k (omega (arith, e.0, inv.columns, c.requires.columns_are)) (inr apart) ∙ inv.row k t (omega (arith, apart)) is
          ];
      others = λ r k ne lt. c.set.ensures.others r k (omega (arith, inv.columns, c.requires.columns_are)) (inl ne) ∙ inv.others r k ne lt;
    }

pub returns-clause-row : goal.returns-clause-row
returns-clause-row c k t is =
    c.loop-column.invariant.row k t (omega (arith, (element_at c.args.offered.now k t is).0)) is
