-- What the answer to a program says.
use Rattle.std.proofs.Common.{◌≡◌, ℕ, List, [], ◌⊎◌, inl, inr, Option, Result, Ok, Err, refl, ap, sym, ◌∙◌, subst}
use Rattle.std.specs.Result.{IfOk, IfErr, IsErrAnd}
use Rattle.zac_gates.specs.Ops.{NativeCircuit, IsValid, IsCauseOf}
use Rattle.zac_gates.specs.declared.circuit.CircuitFault.{CircuitFault}
use Rattle.zac_gates.specs.declared.circuit.CircuitFault.TheVariants as refused
use Rattle.zac_gates.specs.declared.circuit.Op.{Op}
use Rattle.qasm_form.specs.declared.stmt.Stmt.{Stmt}
use Rattle.qasm_names.specs.Accepted.{Program, AreAdmissible}
use Rattle.qasm_names.specs.Environment.{environment}
use Rattle.qasm_expand.specs.Answers.{TellsLimit}
use Rattle.qasm_expand.specs.Expansion.{IsWithinLimits, PassesFirst, IsExpansion}
use Rattle.qasm_expand.specs.Faults.{IsLimit}
use Rattle.qasm_expand.specs.Items.{qubit_count, bit_count}
use Rattle.qasm_expand.specs.Limits.{Passed, passed_before_calls}
use Rattle.qasm_expand.specs.Top.{IsWalked}
use Rattle.qasm_names.specs.Bound.{IsWellBound}
use Rattle.qasm_expand.specs.declared.fault.ExpandFault.{ExpandFault}
use Rattle.qasm_expand.specs.declared.fault.ExpandFault.TheVariants as fault
use Rattle.qasm_expand.specs.declared.fault.LimitKind.{LimitKind}
use Rattle.qasm_expand.specs.declared.walk.Walk.{Walk}
use Rattle.qasm_expand.proofs.EnvironmentLemmas.{IsBare}
use Rattle.qasm_expand.proofs.ProgramLemmas.{before_passes, within_passes_none, passes_once, walk_expands}
use Rattle.qasm_expand.proofs.ValidityLemmas.{expansion_valid}

-- a limit that is passed before the calls
pub limit_tells : (p : Program) (passed : Option Passed) (e : ExpandFault) → passed ≡ passed_before_calls p.statements → IsLimit passed e → TellsLimit p e
limit_tells p passed (fault.Limit kind count) same h = before_passes p kind count (sym same ∙ h)
limit_tells p passed fault.Memory same h = absurd h

-- the program's native list
abbrev pub circuit_of : List Stmt → List Op → NativeCircuit
circuit_of ss ops = record { qubits = qubit_count ss; bits = bit_count ss; ops = ops }

pub circuit_is : (ss own regs : List Stmt) (q b : ℕ) (ops items : List Op) → q ≡ qubit_count regs → b ≡ bit_count regs → regs ≡ own → own ≡ ss → ops ≡ items → circuit_of ss items ≡ record { qubits = q; bits = b; ops = ops }
circuit_is ss own regs q b ops items qs bs same list is =
    let regs_is : regs ≡ ss = same ∙ list in
    let q_is : qubit_count ss ≡ q = sym (qs ∙ ap qubit_count regs_is) in
    let b_is : bit_count ss ≡ b = sym (bs ∙ ap bit_count regs_is) in
    ap (λ (n : ℕ). record { qubits = n; bits = bit_count ss; ops = items }) q_is ∙ ap (λ (n : ℕ). record { qubits = q; bits = n; ops = items }) b_is ∙ ap (λ (o : List Op). record { qubits = q; bits = b; ops = o }) (sym is)

pub walked_expansion : (p : Program) (end : Walk) → IsWalked p end → IsExpansion p (circuit_of p.statements end.ops.items)
walked_expansion p end w = walk_expands p w.start end w.ops w.walks

pub expansion_is_valid : (p : Program) (c : NativeCircuit) → IsBare p.header → AreAdmissible p.header [] p.statements → ((place : ℕ) → IsWellBound (environment p.header p.statements).gates place) → IsExpansion p c → IsValid c
expansion_is_valid p c bare admissible bound x =
    subst IsValid (sym x.is) (expansion_valid p.header p.statements x.items bare admissible bound x.expands)

-- a valid list has no cause to be refused
pub never_refused : (c : NativeCircuit) (f : CircuitFault) (n : ℕ) → f ≡ refused.Op n → IsCauseOf c f → IsValid c → ⊥
never_refused c f n op h valid =
    let cause : IsCauseOf c (refused.Op n) = subst (IsCauseOf c) op h in
    cause.1.2 (valid n cause.1.0 cause.1.1)

-- a program within the limits passes none
pub memory_alone : {C : Type 0} (p : Program) (r : Result C ExpandFault) → IfErr r (TellsLimit p) → IsWithinLimits p → IfErr r (λ e. e ≡ fault.Memory)
memory_alone p (Ok c) h w = tt
memory_alone p (Err (fault.Limit kind count)) h w = absurd (within_passes_none p kind count w h)
memory_alone p (Err fault.Memory) h w = refl

pub limit_or_memory : {C : Type 0} (p : Program) (r : Result C ExpandFault) (kind : LimitKind) (count : ℕ) → IfOk r (λ c. IsWithinLimits p) → IfErr r (TellsLimit p) → PassesFirst p kind count → IsErrAnd r (λ e. (e ≡ fault.Limit kind count) ⊎ (e ≡ fault.Memory))
limit_or_memory p (Ok c) kind count w h f = absurd (within_passes_none p kind count w f)
limit_or_memory p (Err (fault.Limit other more)) kind count w h f =
    let same = passes_once p other kind more count h f in
    inl (ap (λ k. fault.Limit k more) same.0 ∙ ap (λ n. fault.Limit kind n) same.1)
limit_or_memory p (Err fault.Memory) kind count w h f = inr refl
