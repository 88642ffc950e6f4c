use Rattle.std.proofs.Common.{◌≡◌, ◌<◌, ℕ, Some, length, get_or, set, arith, refl, sym, ◌∙◌, subst}
use Rattle.std.specs.List.{slice_get}
use Rattle.std.proofs.lemmas.Option.{slice_get_read}
use Rattle.std.proofs.lemmas.Grind.{get_or_default_zero}
use Rattle.zac_gates.specs.Waiting.{gate_qubits, AreNextFrom}
use Rattle.zac_gates.proofs.WaitingFacts.{linked_none, linked_gate}
use Rattle.zac_gates.proofs.waiting.link.Goals as goal

pub returns-in-Some-clause-linked : goal.returns-in-Some-clause-linked
returns-in-Some-clause-linked c =
    let op = c.index-ops-k.result in
    let is : slice_get c.args.ops.now c.args.k ≡ Some op = slice_get_read c.args.ops.now (length c.args.ops.now) c.args.k op refl c.requires.k_in c.index-ops-k.is in
    let p : ℕ × ℕ = (c.in-Some.a, c.in-Some.b) in
    let has : gate_qubits op ≡ Some p = cc in
    let below = c.requires.in_range c.args.k op p is has in
    let first = c.args.first.now.items in
    let left_in : c.in-Some.a < length first = omega (arith, below.0) in
    let right_in : c.in-Some.b < length first = omega (arith, below.1) in
    let left : c.index.result.now ≡ get_or first c.in-Some.a 0 = c.index.ensures ∙ get_or_default_zero first c.in-Some.a c.index.result.now left_in in
    let right : c.index-in-Some.result.now ≡ get_or first c.in-Some.b 0 = c.index-in-Some.ensures ∙ get_or_default_zero first c.in-Some.b c.index-in-Some.result.now right_in in
    let Linked : ℕ × ℕ → Type 0 = λ v. AreNextFrom c.args.ops.now (set c.args.next.now.items c.args.k v) (set (set first c.in-Some.a c.args.k) c.in-Some.b c.args.k) c.args.k in
    subst (λ (v : ℕ). Linked (v, c.index-in-Some.result.now)) (sym left)
    (subst (λ (v : ℕ). Linked (get_or first c.in-Some.a 0, v)) (sym right)
    (linked_gate c.args.ops.now c.args.next.now.items first c.args.k op c.requires.k_in is c.requires.linked p has left_in right_in))

pub returns-in_default-clause-linked : goal.returns-in_default-clause-linked
returns-in_default-clause-linked c =
    let op = c.index-ops-k.result in
    let is : slice_get c.args.ops.now c.args.k ≡ Some op = slice_get_read c.args.ops.now (length c.args.ops.now) c.args.k op refl c.requires.k_in c.index-ops-k.is in
    linked_none c.args.ops.now c.args.next.now.items c.args.first.now.items c.args.k op c.requires.k_in is c.requires.linked (sym c.gate_qubits.ensures ∙ c.in_default.is)
