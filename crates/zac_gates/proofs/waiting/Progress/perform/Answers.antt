use Rattle.std.proofs.Common.{◌<◌, ℕ, List, true, length, get_or, slice_set, arith, refl, sym, ◌∙◌, subst}
use Rattle.std.proofs.lemmas.List.{length-set}
use Rattle.std.proofs.lemmas.Option.{slice_get_read}
use Rattle.zac_gates.specs.Waiting.{is_gate_on, is_open, IsFirst}
use Rattle.zac_gates.proofs.WaitingFacts.{firsts_after, next_at}
use Rattle.zac_gates.proofs.waiting.Progress.perform.Goals as goal

pub pass_on-requires : goal.pass_on-requires
pass_on-requires c =
    let ops = c.args.ops.now in
    let is = slice_get_read ops (length ops) c.args.op c.index-ops-at.result refl c.requires.op_in c.index-ops-at.is in
    λ p has. c.requires.in_range c.args.op c.index-ops-at.result p is (sym c.gate_qubits.ensures ∙ has)

pub returns-clause-progress : goal.returns-clause-progress
returns-clause-progress c =
    let ops = c.args.ops.now in
    let n = c.args.op in
    let marks = c.args.self.now.marks.items in
    let on = c.args.self.now.on_qubit.items in
    let op = c.index-ops-at.result in
    let is = slice_get_read ops (length ops) n op refl c.requires.op_in c.index-ops-at.is in
    let firsts = firsts_after ops marks on n op c.requires.progress.marks_len c.requires.op_in is c.requires.progress.on_qubit c.requires.ready c.requires.unmarked c.requires.closed
    c.gate_qubits.result c.index.result.now c.gate_qubits.ensures
    (λ p has. let below = c.requires.in_range n op p is has in (omega (arith, below.0), omega (arith, below.1), next_at ops c.args.links.now n op p c.index.result.now c.requires.links c.requires.op_in is has c.index.ensures)) in
    record {
      marks_len = length-set marks n true ∙ c.requires.progress.marks_len;
      gate = c.gate_behind-gate.ensures;
      read = c.read_behind-read.ensures;
      on_qubit = λ q q_in.
          subst (λ (l : List ℕ). IsFirst (is_open (is_gate_on q) ops (slice_set marks n true)) 0 (length ops) (get_or l q 0)) (sym c.pass_on.ensures.passed)
          (firsts q (subst (λ (l : List ℕ). q < length l) c.pass_on.ensures.passed q_in));
    }
