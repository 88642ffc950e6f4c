use Rattle.std.proofs.Common.{◌≡◌, ◌<◌, ℕ, inl, inr, ap, sym, subst, ◌∙◌}
use Rattle.std.proofs.lemmas.Bool.{false≢true, ltb-true}
use Rattle.std.proofs.lemmas.Bool.Decides.{Decides-ltb}
use Rattle.qasm_names.specs.Accepted.{Context}
use Rattle.qasm_names.specs.Names.{qubit_size, value_or}
use Rattle.qasm_names.specs.Registers.{reads_of}
use Rattle.qasm_names.proofs.ReadsLemmas.{WasRead-to, WasRead-from, AreReadsOf-at, value_or-unwrap_or}
use Rattle.qasm_names.proofs.names.Names.is_read.Goals as goal

pub returns-then-is_single : goal.returns-then-is_single
returns-then-is_single c =
    let now = c.args.self.now in
    let r = reads_of c.self.inside.reads in
    let are = AreReadsOf-at r _ now.before (ap (λ s. s.before) c.self.view_is) c.self.invariant in
    (λ h. WasRead-to r now.environment now.before are c.args.name.now c.args.index (inl (sym c.is_single.ensures ∙ h)), λ h. c.if-is_single.true)

pub returns-then-is_whole : goal.returns-then-is_whole
returns-then-is_whole c =
    let now = c.args.self.now in
    let r = reads_of c.self.inside.reads in
    let are = AreReadsOf-at r _ now.before (ap (λ s. s.before) c.self.view_is) c.self.invariant in
    let size : c.unwrap_or.result ≡ value_or (qubit_size now.environment c.args.name.now) 0 = c.unwrap_or.ensures ∙ value_or-unwrap_or c.qubit_size.result 0 ∙ ap (λ o. value_or o 0) (c.qubit_size.ensures ∙ ap (λ (s : Context). qubit_size s.environment c.args.name.now) c.self.view_is) in
    let P : ℕ → Type 0 = λ n. c.args.index < n in (
      λ h. WasRead-to r now.environment now.before are c.args.name.now c.args.index (inr (sym c.is_whole.ensures ∙ c.if-is_whole.true, subst P size (ltb-true c.args.index c.unwrap_or.result h))),
      λ h. elim (WasRead-from r now.environment now.before are c.args.name.now c.args.index h) [
        | inl single ↦ absurd (false≢true (sym c.if-is_single.false ∙ c.is_single.ensures ∙ single))
        | inr both ↦ (Decides-ltb c.args.index c.unwrap_or.result).1 (subst P (sym size) both.1)
      ],
    )

pub returns-else-is_whole : goal.returns-else-is_whole
returns-else-is_whole c =
    let now = c.args.self.now in
    let r = reads_of c.self.inside.reads in
    let are = AreReadsOf-at r _ now.before (ap (λ s. s.before) c.self.view_is) c.self.invariant in (
      λ h. absurd (false≢true (sym c.if-is_whole.false ∙ h)),
      λ h. elim (WasRead-from r now.environment now.before are c.args.name.now c.args.index h) [
        | inl single ↦ absurd (false≢true (sym c.if-is_single.false ∙ c.is_single.ensures ∙ single))
        | inr both ↦ c.is_whole.ensures ∙ both.0
      ],
    )
