-- The visit of a call of the top.
use Rattle.std.proofs.Common.{◌≡◌, ℕ, ◌∷◌, ◌++◌, List, [], Result, Ok, Err, refl, ap, subst, sym as flip, ◌∙◌}
use Rattle.std.specs.Option.{option_or}
use Rattle.std.specs.Result.{IfErr}
use Rattle.qasm_form.specs.declared.stmt.Node.{Node}
use Rattle.qasm_form.specs.declared.stmt.Node.TheVariants as node
use Rattle.qasm_names.specs.declared.gate.GateDef.{GateDef}
use Rattle.qasm_names.specs.declared.gate.Target.{Target}
use Rattle.qasm_names.specs.declared.gate.Target.TheVariants as target
use Rattle.qasm_expand.specs.declared.walk.Walk.{Walk}
use Rattle.qasm_expand.specs.declared.frame.Frame.{Frame}
use Rattle.qasm_expand.specs.declared.fault.ExpandFault.{ExpandFault}
use Rattle.qasm_expand.specs.Angles.{substitute, replaced}
use Rattle.qasm_expand.specs.Calls.{Visit, within}
use Rattle.qasm_expand.specs.Faults.{IsFault}
use Rattle.qasm_expand.specs.Items.Item.{Applied}
use Rattle.qasm_expand.specs.Limits.{passed_by_angles}
use Rattle.qasm_expand.specs.Native.{ops_on}
use Rattle.qasm_expand.specs.Replacing.{inner}
use Rattle.qasm_expand.specs.Walks.{Counts, OpensFrame, Passes, VisitsFirst, AddsOps, angles_in, passed_by_call, pending}
use Rattle.qasm_expand.specs.Fit.{IsFit}
use Rattle.qasm_expand.proofs.CallLemmas.{applied_visit}
use Rattle.qasm_expand.proofs.FaultsLemmas.{fault_same}
use Rattle.qasm_expand.proofs.LimitsLemmas.{passed_one}
use Rattle.qasm_expand.proofs.FrameLemmas.{pending_opens}
use Rattle.qasm_expand.proofs.WalksLemmas.{Walking, first_passes, walking_visit}

-- where there are no parameters nothing is put in
replaced_none : (n : Node) → replaced [] n ≡ n ∷ []
replaced_none (node.Name name at) = refl
replaced_none other = refl

put_none : (nodes : List Node) → substitute [] nodes ≡ nodes
put_none [] = refl
put_none (n ∷ nodes) = ap (λ r. r ++ substitute [] nodes) (replaced_none n) ∙ ap (λ r. n ∷ r) (put_none nodes)

pub angles_top : (exprs : List (List Node)) → angles_in [] [] exprs ≡ exprs
angles_top [] = refl
angles_top (e ∷ exprs) = ap (λ x. x ∷ angles_in [] [] exprs) (put_none e) ∙ ap (λ xs. e ∷ xs) (angles_top exprs)

within_inner : (gates : List GateDef) (d : ℕ) (t : Target) (angles : List (List Node)) (qubits : List ℕ) → within gates d (inner t angles qubits) ≡ within gates d (Applied t angles qubits)
within_inner gates d target.Barrier angles qubits = refl
within_inner gates d other angles qubits = refl

module _ (gates : List GateDef) (old mid new : Walk) (t : Target) (angles made : List (List Node)) (qubits : List ℕ) (frames : List Frame) where
  pub top_visit : made ≡ angles → IsFit gates (Applied t angles qubits) → Counts old mid 1 made → AddsOps mid new (ops_on t made qubits) → OpensFrame [] t made qubits frames → Walking gates old new (record { depth = 1; item = Applied t angles qubits } ∷ []) (pending gates frames)
  top_visit same fit counts writes opens =
      let v : Visit = record { depth = 1; item = Applied t made qubits } in
      let first : VisitsFirst gates old new (v ∷ []) (pending gates frames) = record {
        visit = v;
        others = [];
        first = refl;
        opens = pending_opens gates t made qubits [] frames opens ∙ ap (λ w. w ++ []) (within_inner gates 1 t made qubits);
        fit = subst (λ a. IsFit gates (Applied t a qubits)) (flip same) fit;
        visits = applied_visit old mid new 1 t made qubits counts writes;
      } in
      subst (λ a. Walking gates old new (record { depth = 1; item = Applied t a qubits } ∷ []) (pending gates frames)) same (walking_visit gates old new (v ∷ []) (pending gates frames) first)

-- a call of the top passes a limit
pub top_passes : (gates : List GateDef) (old : Walk) (t : Target) (angles made : List (List Node)) (qubits : List ℕ) (e : ExpandFault) → made ≡ angles → IsFault (option_or (passed_by_call old.calls 1) (passed_by_angles old.nodes made)) e → Passes gates old (record { depth = 1; item = Applied t angles qubits } ∷ []) e
top_passes gates old t angles made qubits e same h =
    let v : List (List Node) → Visit = λ a. record { depth = 1; item = Applied t a qubits } in
    subst (λ a. Passes gates old (v a ∷ []) e) same (first_passes gates old (v made ∷ []) e (fault_same _ _ e (passed_one old.calls old.nodes (v made)) h))

pub if_err_map : {T : Type 0} {P Q : ExpandFault → Type 0} (r : Result T ExpandFault) → ((e : ExpandFault) → P e → Q e) → IfErr r P → IfErr r Q
if_err_map (Ok x) f h = tt
if_err_map (Err e) f h = f e h
