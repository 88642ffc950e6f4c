use Rattle.std.proofs.Common.{ap, sym, ◌∙◌}
use Rattle.qasm_names.specs.Header.{fixed_names}
use Rattle.qasm_names.specs.Names.{Environment, own_meaning}
use Rattle.qasm_names.proofs.FixedLemmas.{Any-from_tests, tests-from_Any}
use Rattle.qasm_names.proofs.known.Known.clashes_with_header.Goals as goal

pub returns-then-not-self : goal.returns-then-not-self
returns-then-not-self c =
    let e = c.args.self.now in
    (λ h. (ap (λ (s : Environment). s.included) (sym c.self.view_is) ∙ c.if-not-self.true, Any-from_tests (own_meaning e) fixed_names (sym c.has_fixed_name.ensures ∙ h)), λ h. c.has_fixed_name.ensures ∙ tests-from_Any (own_meaning e) fixed_names h.1)
