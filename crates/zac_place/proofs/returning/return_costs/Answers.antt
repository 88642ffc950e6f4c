use Rattle.std.proofs.Common.{◌≡◌, inl, inr, ℕ, get_or, sym, ap, ◌∙◌, arith}
use Rattle.std.proofs.lemmas.Bool.{cases_eq}
use Rattle.zac_arch.specs.Architecture.{Architecture}
use Rattle.zac_assign.specs.Assignment.{cost_at}
use Rattle.zac_world.specs.Nearest.{trap_distance}
use Rattle.zac_place.specs.Returns.{return_cost, trap_in}
use Rattle.zac_place.proofs.PlacingFacts.{element_at}
use Rattle.zac_place.proofs.ReturnFacts.{rests}
use Rattle.zac_place.proofs.returning.return_costs.Goals as goal

pub loop-row-preserved : goal.loop-row-preserved
loop-row-preserved c =
    let p = c.args.world.now in
    let leaving = c.args.leaving.now in
    let offered = c.args.offered.now in
    let row = c.loop-row.row in
    let inv = c.loop-row.invariant in
    let new = c.set_row.new.costs in
    record {
      rows = c.set_row.ensures.rows ∙ inv.rows;
      columns = c.set_row.ensures.columns ∙ inv.columns;
      set = λ r k t lt is.
          elim (cases_eq r row) as (λ _. cost_at new r k ≡ return_cost p leaving r t) [
            | inl same ↦
                let here : cost_at new r k ≡ cost_at new row k = ap (λ (i : ℕ). cost_at new i k) same in
                let there : return_cost p leaving row t ≡ return_cost p leaving r t = ap (λ (i : ℕ). return_cost p leaving i t) (sym same) in
                here ∙ c.set_row.ensures.row k t is
                ∙ ap (λ (n : ℕ). trap_distance c.args.card.now n t) (sym (rests p (get_or leaving row 0) c.trap_of.result.0 c.trap_of.ensures.rests))
                ∙ ap (λ (a : Architecture). trap_distance a (trap_in p (get_or leaving row 0)) t) (sym c.requires.card)
                ∙ there
            | inr apart ↦ c.set_row.ensures.others r k apart (element_at offered k t is).0 ∙ inv.set r k t (omega (arith, apart)) is
          ];
    }
