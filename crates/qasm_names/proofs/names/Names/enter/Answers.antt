use Rattle.std.proofs.Common.{◌≡◌, ◌++◌, ◌<◌, [], ◌∷◌, ap, sym, ◌∙◌, if◌then◌else◌, arith, vec_len, vec_capacity}
use Rattle.qasm_names.specs.Accepted.{Context}
use Rattle.qasm_names.specs.Names.{own_meaning}
use Rattle.qasm_names.specs.Registers.{reads_of}
use Rattle.qasm_names.proofs.ReadsLemmas.{AreReadsOf-push, AreReadsOf-at}
use Rattle.qasm_names.proofs.ScopesLemmas.{DeclaresNew-admissible}
use Rattle.qasm_names.proofs.names.Names.enter.Goals as goal

pub enter-requires : goal.enter-requires
enter-requires c =
    let now = c.args.self.now in
    let new = DeclaresNew-admissible now.environment now.before c.args.stmt c.requires in
    λ x e. ap (λ (s : Context). own_meaning s.environment x) c.self.view_is ∙ new x e

pub invariant_of-self-2 : goal.invariant_of-self-2
invariant_of-self-2 c =
    let old = c.self.inside.statements.items in
    let room : vec_len c.reserve.new.self < vec_capacity c.reserve.new.self = omega (arith, c.in_ok-reserve.ensures.ok) in
    let pushed : c.push.new.self.items ≡ old ++ c.args.stmt ∷ [] = c.push.ensures.items ∙ ap (λ b. if b then c.reserve.new.self.items ++ c.args.stmt ∷ [] else c.reserve.new.self.items) (c.push.ensures.succeeds room) ∙ ap (λ l. l ++ c.args.stmt ∷ []) c.reserve.ensures.items in
    AreReadsOf-at (reads_of c.note_read.new.reads) (old ++ c.args.stmt ∷ []) c.push.new.self.items (sym pushed) (AreReadsOf-push (reads_of c.self.inside.reads) (reads_of c.note_read.new.reads) old c.args.stmt c.self.invariant c.in_ok-note_read.ensures.ok)
