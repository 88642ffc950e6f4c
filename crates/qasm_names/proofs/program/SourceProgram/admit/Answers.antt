use Rattle.std.proofs.Common.{◌≡◌, ◌<◌, List, [], ◌∷◌, ◌++◌, ap, sym, subst, ◌∙◌, if◌then◌else◌, arith, vec_len, vec_capacity}
use Rattle.qasm_names.specs.Accepted.{Program, Context}
use Rattle.qasm_names.specs.Scopes.{IsScope, bound_target}
use Rattle.qasm_names.specs.declared.gate.Target.{Target}
use Rattle.qasm_names.proofs.ScopesLemmas.{IsAdmissible-from, IsAdmissible-to, IsScope-push}
use Rattle.qasm_names.proofs.program.SourceProgram.admit.Goals as goal

pub enter-requires : goal.enter-requires
enter-requires c =
    let names = c.self.inside.names in
    IsAdmissible-to c.self.inside.header c.args.self.now.header names.before c.args.self.now.statements names.environment c.args.stmt c.self.invariant.means (ap (λ (p : Program). p.header) c.self.view_is) (ap (λ (p : Program). p.statements) c.self.view_is) c.requires

pub invariant_of-self-2 : goal.invariant_of-self-2
invariant_of-self-2 c =
    let names = c.self.inside.names in
    let header = c.self.inside.header in
    let s = c.args.stmt in
    let old = c.self.inside.targets.items in
    let t = c.target_in-target.result in
    let admissible = IsAdmissible-to header c.args.self.now.header names.before c.args.self.now.statements names.environment s c.self.invariant.means (ap (λ (p : Program). p.header) c.self.view_is) (ap (λ (p : Program). p.statements) c.self.view_is) c.requires in
    let here = IsAdmissible-from header header names.before names.before names.environment s c.self.invariant.means (λ i. header) (λ i. names.before) admissible in
    let room : vec_len c.reserve.new.self < vec_capacity c.reserve.new.self = omega (arith, c.in_ok-reserve.ensures.ok) in
    let pushed : c.push.new.self.items ≡ old ++ t ∷ [] = c.push.ensures.items ∙ ap (λ b. if b then c.reserve.new.self.items ++ t ∷ [] else c.reserve.new.self.items) (c.push.ensures.succeeds room) ∙ ap (λ l. l ++ t ∷ []) c.reserve.ensures.items in
    let all : c.push.new.self.items ≡ old ++ bound_target names.environment s ∷ [] = pushed ∙ ap (λ x. old ++ x ∷ []) (c.target_in-target.ensures ∙ ap (λ e. bound_target e s) c.known.ensures) in
    let P : List Target → Type 0 = λ l. IsScope header c.enter.new.self l in
    let Q : Context → Type 0 = λ x. IsScope header x (old ++ bound_target names.environment s ∷ []) in
    subst P (sym all) (subst Q (sym c.in_ok-enter.ensures.ok) (IsScope-push header names old s c.self.invariant here))
