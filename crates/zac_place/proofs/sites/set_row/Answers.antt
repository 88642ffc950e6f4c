use Rattle.std.proofs.Common.{◌≡◌, inl, inr, map, get_or, sym, ap, ◌∙◌, arith}
use Rattle.std.proofs.lemmas.Bool.{cases_eq}
use Rattle.std.proofs.lemmas.List.{length-map, get_or-map}
use Rattle.zac_assign.specs.Assignment.{cost_at}
use Rattle.zac_place.specs.Sites.{site_distance}
use Rattle.zac_place.specs.Tables.{site_number}
use Rattle.zac_place.proofs.PlacingFacts.{element_at}
use Rattle.zac_place.proofs.SiteFacts.{first_site}
use Rattle.zac_place.proofs.sites.set_row.Goals as goal

pub loop-column-preserved : goal.loop-column-preserved
loop-column-preserved c =
    let free = c.args.free.now in
    let column = c.loop-column.column in
    let inv = c.loop-column.invariant in
    let row = c.args.row in
    record {
      rows = c.set.ensures.rows ∙ inv.rows;
      columns = c.set.ensures.columns ∙ inv.columns;
      row = λ k site lt is.
          elim (cases_eq k column) [
            | inl same ↦
                let e = element_at (map site_number free) k site is in
                let number : (get_or free column first_site).0 ≡ site = sym (get_or-map site_number free column first_site 0 c.loop-column-test.true) ∙ ap (λ i. get_or (map site_number free) i 0) (sym same) ∙ e.1 in
                let here : cost_at c.set.new.self row k ≡ cost_at c.set.new.self row column = ap (cost_at c.set.new.self row) same in
                here ∙ c.set.ensures.set ∙ c.site_distance.ensures.distance ∙ ap (site_distance c.args.card.now c.args.ends.0.0 c.args.ends.1.0) number
            | inr apart ↦ c.set.ensures.others row k (omega (arith, element_at (map site_number free) k site is, length-map free site_number, c.requires.columns_are)) (inr apart) ∙ inv.row k site (omega (arith, apart)) is
          ];
      others = λ r k ne lt. c.set.ensures.others r k (omega (arith, c.requires.columns_are)) (inl ne) ∙ inv.others r k ne lt;
    }

pub returns-clause-row : goal.returns-clause-row
returns-clause-row c = λ k site is.
    let free = c.args.free.now in
    let e = element_at (map site_number free) k site is in
    c.loop-column.invariant.row k site (omega (arith, e.0, length-map free site_number)) is
