use Rattle.std.proofs.Common.{List, sym, ap, ◌∙◌, subst}
use Rattle.zac_pairing.specs.declared.tree.Step.{Step}
use Rattle.zac_assign.specs.Search.{IsFound}
use Rattle.zac_pairing.specs.Tree.{left_at}
use Rattle.zac_assign.proofs.SearchFacts.{ArePrices-flipped, still_alone}
use Rattle.zac_assign.proofs.search.add_row.Goals as goal

pub returns-clause-prices : goal.returns-clause-prices
returns-clause-prices c =
    let P : List Step → Type 0 = λ s. IsFound c.args.costs.now c.search.new.price c.search.new.fee c.args.pairs.now.left.items c.args.pairs.now.right.items s c.in_ok-end.end.from c.in_ok-end.end.right in
    ArePrices-flipped c.args.costs.now c.search.new.price c.search.new.fee c.args.pairs.now.left.items c.args.pairs.now.right.items c.flip.new.pairs.left.items c.flip.new.pairs.right.items c.deref.result.now c.in_ok-end.end.from c.in_ok-end.end.right c.in_ok-end.ensures.prices (subst P (sym c.deref.ensures.value) c.in_ok-end.ensures.found) c.flip.ensures.pass c.flip.ensures.kept

pub returns-clause-others : goal.returns-clause-others
returns-clause-others c =
    let P : List Step → Type 0 = λ s. IsFound c.args.costs.now c.search.new.price c.search.new.fee c.args.pairs.now.left.items c.args.pairs.now.right.items s c.in_ok-end.end.from c.in_ok-end.end.right in
    still_alone c.args.costs.now c.search.new.price c.search.new.fee c.args.pairs.now.left.items c.args.pairs.now.right.items c.flip.new.pairs.left.items c.deref.result.now c.in_ok-end.end.from c.in_ok-end.end.right c.args.row (subst P (sym c.deref.ensures.value) c.in_ok-end.ensures.found) c.flip.ensures.pass (ap (λ s. left_at s 0) c.deref.ensures.value ∙ c.in_ok-end.ensures.root)
