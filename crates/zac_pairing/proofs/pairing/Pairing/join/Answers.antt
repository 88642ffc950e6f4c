use Rattle.std.proofs.Common.{rules, ℕ, ◌≡◌, ◌<◌, None, Some, Option, List, length, set, sym, ap, ◌∙◌, subst}
use Rattle.std.proofs.lemmas.List.{get_or_read_under}
use Rattle.zac_pairing.specs.Pairing.{mate, IsPairing, freed}
use Rattle.zac_pairing.proofs.PairingFacts.{mate_in, IsPairing-joined}
use Rattle.zac_pairing.proofs.pairing.Pairing.join.Goals as goal

pub release-requires : goal.release-requires
release-requires c = λ k e.
    let s = c.args.self.now in
    let was : c.index-before.result.now ≡ mate s.left.items c.args.left = get_or_read_under _ _ _ _ None c.index-before.ensures c.requires.left_in (search rules) in
    let back : mate s.right.items k ≡ Some c.args.left = s.pairing.there c.args.left k (sym was ∙ e) in
    let inside : k < length s.right.items = mate_in s.right.items k c.args.left back in
    search rules

pub invariant_of-self : goal.invariant_of-self
invariant_of-self c =
    let s = c.args.self.now in
    let was : c.index-before.result.now ≡ mate s.left.items c.args.left = get_or_read_under _ _ _ _ None c.index-before.ensures c.requires.left_in (search rules) in
    let now : c.release.new.mates.items ≡ freed s.right.items (mate s.left.items c.args.left) = c.release.ensures.freed ∙ ap (freed s.right.items) was in
    let P : List (Option ℕ) → Type 0 = λ r. IsPairing (set s.left.items c.args.left (Some c.args.right)) (set r c.args.right (Some c.args.left)) in
    record { pairing = subst P (sym now) (IsPairing-joined s.left.items s.right.items c.args.left c.args.right s.pairing (search rules) (search rules) c.requires.free) }

pub returns-clause-right : goal.returns-clause-right
returns-clause-right c =
    let s = c.args.self.now in
    let was : c.index-before.result.now ≡ mate s.left.items c.args.left = get_or_read_under _ _ _ _ None c.index-before.ensures c.requires.left_in (search rules) in
    ap (λ r. set r c.args.right (Some c.args.left)) (c.release.ensures.freed ∙ ap (freed s.right.items) was)
