use Rattle.std.proofs.Common.{rules, ℕ, ◌≡◌, ◌<◌, ◌≤◌, List, length, vec_len, arith, sym, ap, subst}
use Rattle.std.specs.List.{All}
use Rattle.std.proofs.lemmas.Bool.{MatchBool-at_false}
use Rattle.zac_match.specs.Choice.{IsChoice}
use Rattle.zac_match.specs.Cover.{IsClosed}
use Rattle.zac_match.proofs.CoverFacts.{IsChoice-listed, length-le_choice}
use Rattle.zac_match.proofs.matching.Goals as goal

pub returns-clause-choice : goal.returns-clause-choice
returns-clause-choice c =
    let P : List (ℕ × ℕ) → Type 0 = λ given. IsChoice given c.of-2.result in
    let Q : List (ℕ × ℕ) → Type 0 = λ chosen. IsChoice c.as_slice-pairs.result.now chosen in
    subst P c.as_slice-pairs.ensures (subst Q (sym c.of-2.ensures) (IsChoice-listed _ _ _ _ c.pass.new.mates.pairing c.pass.ensures.edges c.in_ok-chosen.ensures))

pub returns-clause-greatest : goal.returns-clause-greatest
returns-clause-greatest c = λ others choice.
    let given = c.as_slice-pairs.result.now in
    let closed : IsClosed given c.pass.new.mates.left.items c.pass.new.mates.right.items c.pass.new.marks.items (vec_len c.pass.new.mates.left) = MatchBool-at_false _ _ c.if-branch.false c.in_ok-pass.ensures.outcome in
    let len : vec_len c.pass.new.mates.left ≡ length c.pass.new.mates.left.items = search rules in
    let P : ℕ → Type 0 = λ n. IsClosed given c.pass.new.mates.left.items c.pass.new.mates.right.items c.pass.new.marks.items n in
    let left : c.args.edges.now.left ≡ length c.pass.new.mates.left.items = search rules in
    let Q : List (ℕ × ℕ) → Type 0 = λ g. All (λ e. e.0 < length c.pass.new.mates.left.items) g in
    let in_left : All (λ e. e.0 < length c.pass.new.mates.left.items) given = subst Q (sym c.as_slice-pairs.ensures) (λ k d h. omega (arith, (c.requires.in_range.each k d h).0)) in
    let C : List (ℕ × ℕ) → Type 0 = λ g. IsChoice g others in
    let all : length others ≤ length c.in_ok-chosen.chosen.items =
    length-le_choice given c.pass.new.mates.left.items c.pass.new.mates.right.items c.pass.new.marks.items c.in_ok-chosen.chosen.items c.pass.new.mates.pairing (subst P len closed) c.in_ok-chosen.ensures others in_left (subst C (sym c.as_slice-pairs.ensures) choice) in
    omega (arith, ap length c.of-2.ensures)
