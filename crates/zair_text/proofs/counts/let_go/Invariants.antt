use Rattle.std.proofs.Common.{◌≡◌, ℕ, ◌==◌, ◌&&◌, not, take}
use Rattle.std.specs.List.{list_any}
use Rattle.std.specs.Ordering.{nat_cmp}
use Rattle.std.specs.BTreeSet.{contains}
use Rattle.zair_text.proofs.counts.let_go.Given as goal

abbrev pub invariant-loop-atom : goal.invariant-loop-atom
invariant-loop-atom l = (q : ℕ) → contains nat_cmp l.held q ≡ (contains nat_cmp l.initial.held q && not (list_any (λ d. d.q == q) (take l.atom-index l.atoms)))
