use Rattle.std.proofs.Common.{◌≡◌, ◌≢◌, ◌++◌, ℕ, List, Option, Some, None, Bor, MatchOption, IfSome, ap, ◌∙◌}
use Rattle.std.proofs.lemmas.Bool.Decides.{Decides-eqb}
use Rattle.std.proofs.lemmas.Slice.Eq.{strip_prefix_is}
use Rattle.zair_read.proofs.compact.after.Goals as goal

behind : (r : Option (Bor (List ℕ))) (s p q : List ℕ) → p ≡ q → MatchOption r ((rest : List ℕ) → s ≢ p ++ rest) (λ x. s ≡ p ++ x.now) → IfSome r (λ x. s ≡ q ++ x.now)
behind None s p q e h = tt
behind (Some x) s p q e h = h ∙ ap (λ t. t ++ x.now) e

pub returns : goal.returns
returns c =
    behind c.strip_prefix.result c.args.bytes.now c.as_bytes.result.now c.args.text.now c.as_bytes.ensures.value
    (strip_prefix_is Decides-eqb c.args.bytes.now c.as_bytes.result.now c.strip_prefix.result c.strip_prefix.ensures.cases)
