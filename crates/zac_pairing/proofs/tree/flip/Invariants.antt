use Rattle.std.proofs.Common.{ℕ, ◌≡◌, ◌≢◌, ◌+◌, ◌<◌, Bool, None, Some, true, length, vec_len}
use Rattle.std.specs.Prelude.{IsSome}
use Rattle.zac_pairing.specs.Pairing.{mate, free_count}
use Rattle.zac_pairing.specs.Tree.{IsTree, HasPairs, AllPass, left_at}
use Rattle.zac_pairing.proofs.tree.flip.Given as goal

abbrev pub invariant-loop-before : goal.invariant-loop-before
invariant-loop-before l = record {
  left_len : vec_len l.pairs.left ≡ vec_len l.fn.pairs.left;
  right_len : vec_len l.pairs.right ≡ vec_len l.fn.pairs.right;
  tree : IsTree l.pairs.left.items l.steps (l.at + 1);
  right_in : l.right < vec_len l.pairs.right;
  free : mate l.pairs.right.items l.right ≡ None;
  count : free_count l.pairs.right.items ≡ free_count l.fn.pairs.right.items;
  kept : (c : ℕ) → c ≢ l.right → mate l.pairs.right.items c ≡ None → mate l.fn.pairs.right.items c ≡ None;
  stay : (r c : ℕ) → mate l.fn.pairs.left.items r ≡ Some c → IsSome (mate l.pairs.left.items r);
  pass : (test : ℕ → ℕ → Bool) → AllPass test l.fn.pairs.left.items → HasPairs test l.fn.pairs.left.items l.steps (length l.steps) → test (left_at l.steps l.fn.end.from) l.fn.end.right ≡ true →
      AllPass test l.pairs.left.items × (HasPairs test l.pairs.left.items l.steps (l.at + 1) × (test (left_at l.steps l.at) l.right ≡ true));
}

abbrev pub decreases-loop-before : goal.decreases-loop-before
decreases-loop-before l = l.at
