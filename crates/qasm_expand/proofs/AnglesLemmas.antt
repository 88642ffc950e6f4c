-- The angles of a call are counted and built one by one.
use Rattle.std.proofs.Common.{◌≡◌, ◌+◌, List, [], ◌∷◌, ◌++◌, refl, sym as flip, ◌∙◌, ap, subst, arith, append_assoc}
use Rattle.std.proofs.lemmas.List.{append-nil}
use Rattle.qasm_form.specs.declared.stmt.Node.{Node}
use Rattle.qasm_expand.specs.declared.walk.Walk.{Walk}
use Rattle.qasm_expand.specs.declared.fault.ExpandFault.{ExpandFault}
use Rattle.qasm_expand.specs.Faults.{IsFault}
use Rattle.qasm_expand.specs.Limits.{nodes_in, passed_by_angles}
use Rattle.qasm_expand.specs.Walks.{CountsAngles}
use Rattle.qasm_expand.proofs.FaultsLemmas.{fault_first, fault_same, or_none}
use Rattle.qasm_expand.proofs.LimitsLemmas.{passed_angle_first}

-- of these angles some are built, and the rest is left
pub record Building (old new : Walk) (all rest built : List (List Node)) : Type 0 where
  pub whole : all ≡ built ++ rest
  pub same : passed_by_angles old.nodes all ≡ passed_by_angles new.nodes rest
  pub calls : new.calls ≡ old.calls
  pub nodes : new.nodes + nodes_in rest ≡ old.nodes + nodes_in all
  pub ops : new.ops ≡ old.ops

pub building_none : (old : Walk) (all : List (List Node)) → Building old old all all []
building_none old all = record { whole = refl; same = refl; calls = refl; nodes = refl; ops = refl }

-- one more
pub building_more : (old new newer : Walk) (all rest others built : List (List Node)) (angle : List Node) → Building old new all rest built → rest ≡ angle ∷ others → CountsAngles new newer (angle ∷ []) → Building old newer all others (built ++ angle ∷ [])
building_more old new newer all rest others built angle b is h =
    let first = passed_angle_first new.nodes angle others in
    let count : new.nodes + nodes_in (angle ∷ others) ≡ old.nodes + nodes_in all = subst (λ r. new.nodes + nodes_in r ≡ old.nodes + nodes_in all) is b.nodes in
    record {
      whole = b.whole ∙ ap (λ r. built ++ r) is ∙ flip (append_assoc built (angle ∷ []) others);
      same = b.same ∙ ap (passed_by_angles new.nodes) is ∙ first ∙ or_none (passed_by_angles new.nodes (angle ∷ [])) _ h.short ∙ ap (λ n. passed_by_angles n others) (omega (arith, h.nodes));
      calls = h.calls ∙ b.calls;
      nodes = omega (arith, h.nodes, count);
      ops = h.ops ∙ b.ops;
    }

-- all
pub building_all : (old new : Walk) (all rest built : List (List Node)) → Building old new all rest built → rest ≡ [] → CountsAngles old new built
building_all old new all rest built b none =
    let whole : all ≡ built = b.whole ∙ ap (λ r. built ++ r) none ∙ append-nil built in
    let count : new.nodes + 0 ≡ old.nodes + nodes_in built = subst (λ a. new.nodes + 0 ≡ old.nodes + nodes_in a) whole (subst (λ r. new.nodes + nodes_in r ≡ old.nodes + nodes_in all) none b.nodes) in
    record {
      short = ap (passed_by_angles old.nodes) (flip whole) ∙ b.same ∙ ap (passed_by_angles new.nodes) none;
      calls = b.calls;
      nodes = omega (arith, count);
      ops = b.ops;
    }

pub building_is : (old new : Walk) (all rest built : List (List Node)) → Building old new all rest built → rest ≡ [] → built ≡ all
building_is old new all rest built b none = flip (b.whole ∙ ap (λ r. built ++ r) none ∙ append-nil built)

-- the next passes a limit
pub building_fails : (old new : Walk) (all rest others built : List (List Node)) (angle : List Node) (e : ExpandFault) → Building old new all rest built → rest ≡ angle ∷ others → IsFault (passed_by_angles new.nodes (angle ∷ [])) e → IsFault (passed_by_angles old.nodes all) e
building_fails old new all rest others built angle e b is h =
    fault_same _ (passed_by_angles new.nodes (angle ∷ others)) e (b.same ∙ ap (passed_by_angles new.nodes) is) (fault_same _ _ e (passed_angle_first new.nodes angle others) (fault_first _ _ e h))
