use Rattle.std.proofs.Common.{◌≡◌, None, inl, inr, ap, sym, ◌∙◌}
use Rattle.qasm_names.specs.Names.{Environment, own_meaning}
use Rattle.qasm_names.proofs.FixedLemmas.{Contains-from_is_fixed, is_fixed-from_Contains, none_from}
use Rattle.qasm_names.proofs.known.Known.is_declared.Goals as goal

pub returns-then-self : goal.returns-then-self
returns-then-self c =
    let e = c.args.self.now in
    let name = c.args.name.now in
    let absent : own_meaning e name ≡ None = ap (λ (s : Environment). own_meaning s name) (sym c.self.view_is) ∙ none_from _ (sym c.contains.ensures ∙ c.if-contains.false) in (
      λ h. inr (ap (λ (s : Environment). s.included) (sym c.self.view_is) ∙ c.if-self.true, Contains-from_is_fixed name (sym c.is_fixed.ensures ∙ h)),
      λ h. elim h [ inl own ↦ absurd (own absent) | inr fixed ↦ c.is_fixed.ensures ∙ is_fixed-from_Contains name fixed.1 ],
    )
