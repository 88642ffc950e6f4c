use Rattle.std.proofs.Common.{◌≡◌, ◌<◌, ℕ, inl, inr, min, ap, sym, subst, ◌∙◌, arith}
use Rattle.std.proofs.lemmas.Bool.{false≢true, ltb-true}
use Rattle.std.proofs.lemmas.Bool.Decides.{Decides-ltb}
use Rattle.qasm_names.specs.Accepted.{Context}
use Rattle.qasm_names.specs.Names.{qubit_size, value_or}
use Rattle.qasm_names.specs.Registers.{reads_of}
use Rattle.qasm_names.proofs.ReadsLemmas.{WasRead-to, WasRead-from, AreReadsOf-at, value_or-unwrap_or}
use Rattle.qasm_names.proofs.names.Names.has_read_below.Goals as goal

pub returns-then-has_single_below : goal.returns-then-has_single_below
returns-then-has_single_below c =
    let now = c.args.self.now in
    let r = reads_of c.self.inside.reads in
    let are = AreReadsOf-at r _ now.before (ap (λ s. s.before) c.self.view_is) c.self.invariant in
    let read = c.has_single_below.ensures.0 c.if-has_single_below.true in
    (λ h. (read.0, read.1, WasRead-to r now.environment now.before are c.args.name.now read.0 (inl read.2)), λ h. c.if-has_single_below.true)

pub returns-then-is_whole : goal.returns-then-is_whole
returns-then-is_whole c =
    let now = c.args.self.now in
    let r = reads_of c.self.inside.reads in
    let are = AreReadsOf-at r _ now.before (ap (λ s. s.before) c.self.view_is) c.self.invariant in
    let size : c.unwrap_or.result ≡ value_or (qubit_size now.environment c.args.name.now) 0 = c.unwrap_or.ensures ∙ value_or-unwrap_or c.qubit_size.result 0 ∙ ap (λ o. value_or o 0) (c.qubit_size.ensures ∙ ap (λ (s : Context). qubit_size s.environment c.args.name.now) c.self.view_is) in
    let places : c.min-places.result ≡ min c.args.bound (value_or (qubit_size now.environment c.args.name.now) 0) = c.min-places.ensures ∙ ap (λ n. min c.args.bound n) size in (
      λ h.
          let some : 0 < min c.args.bound (value_or (qubit_size now.environment c.args.name.now) 0) = let P : ℕ → Type 0 = λ n. 0 < n in subst P places (ltb-true 0 c.min-places.result h) in
          let bound : 0 < c.args.bound = omega arith in
          let least : 0 < value_or (qubit_size now.environment c.args.name.now) 0 = omega arith in
          (0, bound, WasRead-to r now.environment now.before are c.args.name.now 0 (inr (sym c.is_whole.ensures ∙ c.if-is_whole.true, least))),
      λ h. elim (WasRead-from r now.environment now.before are c.args.name.now h.0 h.2) [
        | inl single ↦ absurd (false≢true (sym c.if-has_single_below.false ∙ c.has_single_below.ensures.1 (h.0, h.1, single)))
        | inr both ↦
            let below : h.0 < value_or (qubit_size now.environment c.args.name.now) 0 = both.1 in
            let under : h.0 < c.args.bound = h.1 in
            let some : 0 < c.min-places.result = omega (arith, places) in
            (Decides-ltb 0 c.min-places.result).1 some
      ],
    )

pub returns-else-is_whole : goal.returns-else-is_whole
returns-else-is_whole c =
    let now = c.args.self.now in
    let r = reads_of c.self.inside.reads in
    let are = AreReadsOf-at r _ now.before (ap (λ s. s.before) c.self.view_is) c.self.invariant in (
      λ h. absurd (false≢true (sym c.if-is_whole.false ∙ h)),
      λ h. elim (WasRead-from r now.environment now.before are c.args.name.now h.0 h.2) [
        | inl single ↦ absurd (false≢true (sym c.if-has_single_below.false ∙ c.has_single_below.ensures.1 (h.0, h.1, single)))
        | inr both ↦ c.is_whole.ensures ∙ both.0
      ],
    )
