use Rattle.std.proofs.Common.{[], arith, ◌≡◌, Some, take, slice_get, ap, ◌∙◌}
use Rattle.std.proofs.lemmas.Option.{slice_get_within}
use Rattle.qasm_form.specs.declared.stmt.Stmt.TheVariants as stmt
use Rattle.qasm_names.specs.Accepted.{Program}
use Rattle.qasm_names.specs.Environment.{opening_names, environment}
use Rattle.qasm_names.specs.Names.{callee, target_of}
use Rattle.qasm_names.specs.Scopes.{bound_target}
use Rattle.qasm_names.proofs.ScopesLemmas.{bound_targets-at, target-admissible, AreAdmissible-at, get_or-at}
use Rattle.qasm_names.proofs.program.SourceProgram.target.Goals as goal

pub index-requires : goal.index-requires
index-requires c =
    let at : slice_get c.self.inside.names.before c.args.place ≡ Some (stmt.Call c.requires.0) = ap (λ (p : Program). slice_get p.statements c.args.place) c.self.view_is ∙ c.requires.1 in
    let there = ap (λ l. slice_get l c.args.place) c.self.invariant.bound ∙ bound_targets-at (opening_names c.self.inside.header) c.self.inside.names.before c.args.place (stmt.Call c.requires.0) at in
    let within = slice_get_within c.self.inside.targets.items c.args.place _ there in
    omega (arith, within, c.self.inside.targets.ok)

pub returns : goal.returns
returns c call h =
    let header = c.self.inside.header in
    let before = c.self.inside.names.before in
    let place = c.args.place in
    let is_header = ap (λ (p : Program). p.header) c.self.view_is in
    let is_before = ap (λ (p : Program). p.statements) c.self.view_is in
    let at : slice_get before place ≡ Some (stmt.Call call) = ap (λ l. slice_get l place) is_before ∙ h in
    let e = environment header (take place before) in
    let there = ap (λ l. slice_get l place) c.self.invariant.bound ∙ bound_targets-at (opening_names header) before place (stmt.Call call) at in
    let item : c.index.result.now ≡ bound_target e (stmt.Call call) = c.index.ensures ∙ get_or-at c.self.inside.targets.items place (bound_target e (stmt.Call call)) c.index.result.now there in
    let admissible = AreAdmissible-at header [] before place (stmt.Call call) c.self.invariant.admissible at in
    ap Some item ∙ target-admissible e (take place before) call admissible ∙ ap (λ l. target_of (callee (environment l (take place before)) call.name)) is_header ∙ ap (λ l. target_of (callee (environment c.args.self.now.header (take place l)) call.name)) is_before
