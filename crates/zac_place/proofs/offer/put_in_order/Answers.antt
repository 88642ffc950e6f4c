use Rattle.std.proofs.Common.{◌≡◌, ◌<◌, ℕ, List, eqb, sym, subst}
use Rattle.std.specs.List.{AllPairs, Contains, dedup}
use Rattle.std.proofs.lemmas.List.Filters.{dedup_is}
use Rattle.std.proofs.lemmas.List.Kept.{AllPairs-from_increasing, Contains-dedup_nat, Contains-from_dedup}
use Rattle.std.proofs.lemmas.List.Sorted.{Contains-permutation, IsPermutation-sym}
use Rattle.std.proofs.lemmas.Map.Keys.{IsStrictlyIncreasing-dedup}
use Rattle.zac_place.proofs.offer.put_in_order.Goals as goal

pub returns-clause-rising : goal.returns-clause-rising
returns-clause-rising c =
    let xs = c.sort_unstable.new.self.items in
    let is : c.dedup.new.self.items ≡ dedup eqb xs = dedup_is eqb xs c.dedup.new.self.items c.dedup.ensures.filtered in
    subst (AllPairs (λ (m n : ℕ). m < n)) (sym is) (AllPairs-from_increasing (dedup eqb xs) (IsStrictlyIncreasing-dedup xs c.sort_unstable.ensures.sorted))

pub returns-clause-kept : goal.returns-clause-kept
returns-clause-kept c n old =
    let xs = c.sort_unstable.new.self.items in
    let is : c.dedup.new.self.items ≡ dedup eqb xs = dedup_is eqb xs c.dedup.new.self.items c.dedup.ensures.filtered in
    subst (λ (l : List ℕ). Contains l n) (sym is) (Contains-dedup_nat xs n (Contains-permutation c.args.numbers.now.items xs n c.sort_unstable.ensures.permutation old))

pub returns-clause-no_other : goal.returns-clause-no_other
returns-clause-no_other c n new =
    let xs = c.sort_unstable.new.self.items in
    let is : c.dedup.new.self.items ≡ dedup eqb xs = dedup_is eqb xs c.dedup.new.self.items c.dedup.ensures.filtered in
    Contains-permutation xs c.args.numbers.now.items n (IsPermutation-sym c.args.numbers.now.items xs c.sort_unstable.ensures.permutation)
    (Contains-from_dedup eqb xs n (subst (λ (l : List ℕ). Contains l n) is new))
