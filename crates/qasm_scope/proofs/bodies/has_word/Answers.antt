use Rattle.std.proofs.Common.{◌↔◌, IsTrue, rules}
use Rattle.qasm_scope.proofs.WordLemmas.{IsNameOf, contains_name, name_contained}
use Rattle.qasm_scope.proofs.bodies.has_word.Goals as goal

pub returns : goal.returns
returns c =
    let named : IsTrue c.any.result ↔ IsNameOf c.args.names.now c.args.word.now = search rules in
    (λ h. name_contained _ _ (named.0 h), λ h. named.1 (contains_name _ _ h))
