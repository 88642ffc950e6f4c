use Rattle.std.proofs.Common.{◌≡◌, ◌≢◌, ℕ, List, length, map, sym, ◌∙◌, subst}
use Rattle.std.specs.List.{AllPairs}
use Rattle.zac_place.specs.Placing.{IsPlacing, ProvesPlacing}
use Rattle.zac_place.specs.Sites.{site_cost}
use Rattle.zac_place.specs.Tables.{Tabulates, site_number}
use Rattle.zac_place.proofs.PlacingFacts.{ok_then, ok_both}
use Rattle.zac_place.proofs.SiteFacts.{few_sites, apart_sites}
use Rattle.zac_place.proofs.sites.gate_sites.Goals as goal

pub site_costs-requires-clause-some : goal.site_costs-requires-clause-some
site_costs-requires-clause-some c = few_sites c.args.free.now _ c.requires.rising c.requires.sites

pub place-requires-clause-distinct : goal.place-requires-clause-distinct
place-requires-clause-distinct c =
    subst (AllPairs (λ (a b : ℕ). a ≢ b)) (sym (c.as_slice.ensures.value ∙ c.in_ok-offered.ensures)) (apart_sites c.args.free.now c.requires.rising)

pub returns-clause-placing : goal.returns-clause-placing
returns-clause-placing c =
    let offered : c.as_slice.result.now ≡ map site_number c.args.free.now = c.as_slice.ensures.value ∙ c.in_ok-offered.ensures in
    ok_then c.place.result c.place.ensures.placing (λ placed h.
    subst (λ (n : ℕ). IsPlacing (map site_number c.args.free.now) n placed.targets) c.in_ok-costs.ensures.rows_are
    (subst (λ (l : List ℕ). IsPlacing l c.in_ok-costs.costs.rows placed.targets) offered h))

pub returns-clause-prices : goal.returns-clause-prices
returns-clause-prices c =
    let free = map site_number c.args.free.now in
    let cost = site_cost c.args.world.now c.args.gates.now in
    let costs = c.in_ok-costs.costs in
    let rows = c.in_ok-costs.ensures.rows_are in
    let offered : c.as_slice.result.now ≡ free = c.as_slice.ensures.value ∙ c.in_ok-offered.ensures in
    let tab : Tabulates cost c.as_slice.result.now costs.rows costs =
    subst (λ (l : List ℕ). Tabulates cost l costs.rows costs) (sym offered) (subst (λ (n : ℕ). Tabulates cost free n costs) (sym rows) c.in_ok-costs.ensures) in
    ok_then c.place.result c.place.ensures.prices (λ placed h.
    subst (λ (n : ℕ). ProvesPlacing cost free n placed.targets placed.row_price placed.column_price) rows
    (subst (λ (l : List ℕ). ProvesPlacing cost l costs.rows placed.targets placed.row_price placed.column_price) offered (h cost tab)))

pub returns-clause-least : goal.returns-clause-least
returns-clause-least c =
    ok_both c.place.result (returns-clause-placing c) (returns-clause-prices c) (λ placed placing prices.
    c.prices_bound_every_placing.ensures (site_cost c.args.world.now c.args.gates.now) (map site_number c.args.free.now) (length c.args.gates.now) placed.targets placed.row_price placed.column_price (apart_sites c.args.free.now c.requires.rising) placing prices)
