use Rattle.std.proofs.Common.{◌≡◌, ℕ, ◌<◌, ◌≤◌, false, subst, sym}
use Rattle.std.specs.Option.{MatchOption}
use Rattle.zac_flags.specs.Flags.{is_unset}
use Rattle.zac_world.specs.Free.{IsFirstFree, is_free}
use Rattle.zac_world.specs.declared.free.Side.{Side}
use Rattle.zac_world.specs.Places.{Places}
use Rattle.zac_world.proofs.TakenFacts.{first_on_left, first_on_right, free_is}
use Rattle.zac_world.proofs.world.World.first_free.Goals as goal

pub returns-in-Left : goal.returns-in-Left
returns-in-Left c =
    let p = c.args.self.now in
    let pairing = c.self.inside.pairing in
    let taken = c.self.inside.taken in
    let marks = c.args.marks.now in
    let same : (t : ℕ) → is_unset taken marks t ≡ is_free p marks t =
    λ t. subst (λ (v : Places). is_unset taken marks t ≡ is_free v marks t) c.self.view_is
    (free_is c.self.inside.card.now pairing.left.items pairing.right.items taken marks c.self.invariant.placed pairing.pairing c.self.invariant.taken_are t) in
    subst (λ (s : Side). MatchOption c.last_unset.result ((t : ℕ) → c.args.begin ≤ t → t < c.args.end → is_free p marks t ≡ false) (IsFirstFree p marks s c.args.begin c.args.end)) (sym c.in-Left.is)
    (first_on_left p taken marks c.args.begin c.args.end same c.last_unset.result c.last_unset.ensures)

pub returns-in-Right : goal.returns-in-Right
returns-in-Right c =
    let p = c.args.self.now in
    let pairing = c.self.inside.pairing in
    let taken = c.self.inside.taken in
    let marks = c.args.marks.now in
    let same : (t : ℕ) → is_unset taken marks t ≡ is_free p marks t =
    λ t. subst (λ (v : Places). is_unset taken marks t ≡ is_free v marks t) c.self.view_is
    (free_is c.self.inside.card.now pairing.left.items pairing.right.items taken marks c.self.invariant.placed pairing.pairing c.self.invariant.taken_are t) in
    subst (λ (s : Side). MatchOption c.first_unset.result ((t : ℕ) → c.args.begin ≤ t → t < c.args.end → is_free p marks t ≡ false) (IsFirstFree p marks s c.args.begin c.args.end)) (sym c.in-Right.is)
    (first_on_right p taken marks c.args.begin c.args.end same c.first_unset.result c.first_unset.ensures)
