use Rattle.std.proofs.Common.{◌≡◌, ◌<◌, inl, inr, length, map, get_or, sym, ap, ◌∙◌, arith}
use Rattle.std.proofs.lemmas.Bool.{cases_eq}
use Rattle.std.proofs.lemmas.List.{length-map}
use Rattle.zac_assign.specs.Assignment.{cost_at}
use Rattle.zac_place.specs.Returns.{trap_in}
use Rattle.zac_place.specs.Sites.{site_cost, left_qubit, right_qubit, gate_distance, site_distance}
use Rattle.zac_place.specs.Tables.{site_number}
use Rattle.zac_place.proofs.PlacingFacts.{element_at}
use Rattle.zac_place.proofs.sites.site_costs.Goals as goal

pub loop-row-preserved : goal.loop-row-preserved
loop-row-preserved c =
    let free = c.args.free.now in
    let p = c.args.world.now in
    let gates = c.args.gates.now in
    let row = c.loop-row.row in
    let inv = c.loop-row.invariant in
    let new = c.set_row.new.costs in
    let gate = get_or gates row (0, 0) in
    record {
      rows = c.set_row.ensures.rows ∙ inv.rows;
      columns = c.set_row.ensures.columns ∙ inv.columns;
      set = λ r k site lt is.
          elim (cases_eq r row) [
            | inl same ↦
                let here : cost_at new r k ≡ cost_at new row k = ap (λ i. cost_at new i k) same in
                let there : gate_distance p gate site ≡ site_cost p gates r site = ap (λ i. site_cost p gates i site) (sym same) in
                here ∙ c.set_row.ensures.row k site is
                ∙ ap (λ n. site_distance c.args.card.now n c.ends.result.1.0 site) c.ends.ensures.left
                ∙ ap (λ n. site_distance c.args.card.now (trap_in p (left_qubit p gate)) n site) c.ends.ensures.right
                ∙ ap (λ a. site_distance a (trap_in p (left_qubit p gate)) (trap_in p (right_qubit p gate)) site) (sym c.requires.card)
                ∙ there
            | inr apart ↦
                let within : k < length free = omega (arith, (element_at (map site_number free) k site is).0, length-map free site_number) in
                c.set_row.ensures.others r k apart within ∙ inv.set r k site (omega (arith, apart)) is
          ];
    }

pub returns : goal.returns
returns c =
    record {
      rows_are = c.loop-row.invariant.rows;
      columns_are = c.loop-row.invariant.columns ∙ sym (length-map c.args.free.now site_number);
      costs_are = λ row k place lt is. c.loop-row.invariant.set row k place (omega (arith, lt)) is;
    }
