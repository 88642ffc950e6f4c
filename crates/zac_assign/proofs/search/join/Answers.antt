use Rattle.std.proofs.Common.{rules, ℕ, ◌≡◌, ◌+◌, ◌<◌, List, [], ◌∷◌, ◌++◌, Bool, true, false, length, set, sym, ap, ◌∙◌, subst}
use Rattle.std.specs.Prelude.{slice_index, Vec}
use Rattle.std.specs.declared.alloc.Global.{Global}
use Rattle.zac_pairing.specs.declared.tree.Step.{Step}
use Rattle.zac_assign.specs.Assignment.{cost_at}
use Rattle.zac_pairing.specs.Tree.{left_at}
use Rattle.zac_assign.specs.Search.{is_used, IsSearch, Relaxes}
use Rattle.zac_pairing.proofs.PairingFacts.{mate_in}
use Rattle.zac_assign.proofs.SearchFacts.{fee_small, raised_small, IsSearch-push}
use Rattle.zac_assign.proofs.search.join.Goals as goal

pub bounds-price-next : goal.bounds-price-next
bounds-price-next c =
    let inside : c.args.next < length c.args.pairs.now.left.items = mate_in c.args.pairs.now.left.items c.args.next c.args.end.right (c.args.pairs.now.pairing.back c.args.next c.args.end.right c.requires.next) in
    search rules

pub relax-requires-clause-row_in : goal.relax-requires-clause-row_in
relax-requires-clause-row_in c =
    let inside : c.args.next < length c.args.pairs.now.left.items = mate_in c.args.pairs.now.left.items c.args.next c.args.end.right (c.args.pairs.now.pairing.back c.args.next c.args.end.right c.requires.next) in
    search rules

pub relax-requires-clause-fits : goal.relax-requires-clause-fits
relax-requires-clause-fits c =
    let r = c.requires in
    fee_small r.prices c.args.pairs.now.pairing (search rules) (search rules) r.small r.some_free

pub relax-requires-clause-raised_fits : goal.relax-requires-clause-raised_fits
relax-requires-clause-raised_fits c =
    let r = c.requires in
    let room = c.args.room.now in
    raised_small r.prices c.args.pairs.now.pairing (search rules) (search rules) r.small r.some_free r.search

pub returns-clause-search : goal.returns-clause-search
returns-clause-search c =
    let r = c.requires in
    let t = c.args.costs.now in
    let room = c.args.room.now in
    let new = c.relax.new.room in
    let j = c.args.end.right in
    let next = c.args.next in
    let columns = c.args.pairs.now.left.items in
    let used_is : new.used.items ≡ set room.used.items j true = ap (λ (v : Vec Bool Global). v.items) c.relax.ensures.used in
    let steps_push : new.steps.items ≡ room.steps.items ++ record { left = next; from = c.args.end.from } ∷ [] = ap (λ (v : Vec Step Global). v.items) c.relax.ensures.steps ∙ c.in_ok-push.ensures.items in
    let steps_is : new.steps.items ≡ room.steps.items ++ record { left = next; from = slice_index room.from.items j } ∷ [] =
    steps_push ∙ ap (λ (f : ℕ). room.steps.items ++ record { left = next; from = f } ∷ []) r.from in
    let j_used : j < length room.used.items = search rules in
    let place_is : c.len-place.result ≡ length room.steps.items = search rules in
    let from_in = (r.search.attained j r.column_in r.unused).0 in
    let P : ℕ → Type 0 = λ f. slice_index c.args.price.now (left_at room.steps.items f) ≡ cost_at t (left_at room.steps.items f) j + slice_index c.args.fee.now j in
    let tight = subst P r.from r.own in
    let R : ℕ → Type 0 = λ p. (x : ℕ) → x < t.columns → is_used (set room.used.items j true) x ≡ false → Relaxes t (slice_index c.args.price.now next) c.args.fee.now next p c.args.raised x room.distance.items new.distance.items room.from.items new.from.items in
    let U : List Bool → Type 0 = λ u. IsSearch t c.args.price.now c.args.fee.now columns u new.distance.items new.from.items new.steps.items c.args.raised in
    let S : List Step → Type 0 = λ s. IsSearch t c.args.price.now c.args.fee.now columns (set room.used.items j true) new.distance.items new.from.items s c.args.raised in
    subst U (sym used_is) (subst S (sym steps_is)
    (IsSearch-push t c.args.price.now c.args.fee.now columns c.args.pairs.now.right.items room.used.items room.distance.items room.from.items new.distance.items new.from.items room.steps.items c.args.raised j next c.args.pairs.now.pairing r.search r.column_in j_used r.unused (from_in, tight) r.next (subst R place_is c.relax.ensures.relaxed)))
