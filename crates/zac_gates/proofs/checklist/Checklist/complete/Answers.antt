use Rattle.std.proofs.Common.{◌≡◌, ◌<◌, ◌≤◌, ◌⊎◌, List, length, inl, inr, ap, subst, arith}
use Rattle.zac_gates.specs.declared.circuit.Op.{Op}
use Rattle.zac_gates.specs.Log.{Realises}
use Rattle.zac_gates.specs.Checklist.{Checking, IsMissing}
use Rattle.zac_gates.proofs.CheckingFacts.{ops_same, missing, all_performed}
use Rattle.zac_gates.proofs.checklist.Checklist.complete.Goals as goal
use Rattle.zac_gates.proofs.checklist.Checklist.complete.Goals.{then-self, else-self}

pub returns-then-least-ops : goal.returns-then-least-ops
returns-then-least-ops c =
    let p = c.self.inside.progress in
    let least = c.if-self.least in
    let within : least < length c.self.inside.circuit.now.ops = omega (arith, ap (λ (l : List Op). length l) (ops_same c.ops.result.now c.args.circuit.now c.self.inside.circuit.now c.args.self.now c.ops.ensures.value c.requires (ap (λ (v : Checking). v.circuit) c.self.view_is)), c.if-least-ops.true) in
    let which : (least ≤ p.gate) × (least ≤ p.read) × ((least ≡ p.gate) ⊎ (least ≡ p.read)) = elim c.if-self.branch [ then-self w ↦ (omega arith, omega arith, inr w.least-is) | else-self w ↦ (omega arith, omega arith, inl w.least-is) ] in
    subst (λ (v : Checking). IsMissing v.circuit.ops v.log least) c.self.view_is
    (missing c.self.inside.circuit.now.ops p _ least c.self.invariant.progress_is c.self.invariant.marks_are which.0 which.1 which.2 within)

pub returns-else-least-ops : goal.returns-else-least-ops
returns-else-least-ops c =
    let p = c.self.inside.progress in
    let above : length c.self.inside.circuit.now.ops ≤ c.if-self.least = omega (arith, ap (λ (l : List Op). length l) (ops_same c.ops.result.now c.args.circuit.now c.self.inside.circuit.now c.args.self.now c.ops.ensures.value c.requires (ap (λ (v : Checking). v.circuit) c.self.view_is)), c.if-least-ops.false) in
    let which : (length c.self.inside.circuit.now.ops ≤ p.gate) × (length c.self.inside.circuit.now.ops ≤ p.read) = elim c.if-self.branch [ then-self w ↦ (omega arith, omega arith) | else-self w ↦ (omega arith, omega arith) ] in
    subst (λ (v : Checking). Realises v.circuit.ops v.log) c.self.view_is
    (all_performed c.self.inside.circuit.now.ops p _ c.self.invariant.progress_is c.self.invariant.marks_are which.0 which.1)
