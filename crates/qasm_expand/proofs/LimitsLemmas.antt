-- Limits over lists of angles and of calls.
use Rattle.std.proofs.Common.{◌≡◌, ℕ, suc, ◌+◌, ◌≤◌, List, [], ◌∷◌, ◌++◌, length, None, sym as flip, ◌∙◌, ap, arith}
use Rattle.std.specs.Option.{option_or}
use Rattle.std.specs.List.{AllByRecursion}
use Rattle.std.proofs.lemmas.Bool.Decides.{nat_tests}
use Rattle.qasm_form.specs.declared.stmt.Node.{Node}
use Rattle.qasm_expand.specs.declared.fault.LimitKind.{LimitKind}
use Rattle.qasm_expand.specs.declared.fault.LimitKind.TheVariants as limit
use Rattle.qasm_expand.specs.Angles.{depth_of}
use Rattle.qasm_expand.specs.Calls.{Visit}
use Rattle.qasm_expand.specs.Limits.{beyond, angles_of, nodes_in, passed_by_angles, passed_by_calls}
use Rattle.qasm_expand.specs.Walks.{nodes_of, passed_by_call, IsSmall}
use Rattle.qasm_expand.proofs.FaultsLemmas.{or_assoc, or_nothing, or_left_none, or_right_none}

pub within_limit : (kind : LimitKind) (most count : ℕ) → beyond kind most count ≡ None → count ≤ most
within_limit kind most count h = grind (arith, nat_tests)

-- one angle and those behind it
pub passed_angle_first : (before : ℕ) (angle : List Node) (angles : List (List Node)) → passed_by_angles before (angle ∷ angles) ≡ option_or (passed_by_angles before (angle ∷ [])) (passed_by_angles (before + length angle) angles)
passed_angle_first before angle angles =
    let a = beyond limit.AngleNodes 256 (length angle) in
    let d = beyond limit.AngleDepth 64 (depth_of angle) in
    let t = beyond limit.AngleTotal 4194304 (before + length angle) in
    let rest = passed_by_angles (before + length angle) angles in
    flip (or_assoc a (option_or d (option_or t None)) rest ∙ ap (option_or a) (or_assoc d (option_or t None) rest ∙ ap (option_or d) (or_assoc t None rest)))

pub passed_angle_short : (before : ℕ) (angles : List (List Node)) → passed_by_angles before angles ≡ None → AllByRecursion IsSmall angles
passed_angle_short before [] h = tt
passed_angle_short before (angle ∷ angles) h =
    let rest = option_or (beyond limit.AngleDepth 64 (depth_of angle)) (option_or (beyond limit.AngleTotal 4194304 (before + length angle)) (passed_by_angles (before + length angle) angles)) in
    let one = or_left_none (beyond limit.AngleNodes 256 (length angle)) rest h in
    let whole : option_or (passed_by_angles before (angle ∷ [])) (passed_by_angles (before + length angle) angles) ≡ None = flip (passed_angle_first before angle angles) ∙ h in
    (within_limit limit.AngleNodes 256 (length angle) one, passed_angle_short (before + length angle) angles (or_right_none (passed_by_angles before (angle ∷ [])) _ whole))

-- the limits of one call
pub passed_one : (calls nodes : ℕ) (v : Visit) → passed_by_calls calls nodes (v ∷ []) ≡ option_or (passed_by_call calls v.depth) (passed_by_angles nodes (angles_of v.item))
passed_one calls nodes v =
    let a = passed_by_angles nodes (angles_of v.item) in
    ap (λ x. option_or (beyond limit.Calls 262144 (suc calls)) (option_or (beyond limit.Depth 64 v.depth) x)) (or_nothing a) ∙ flip (or_assoc (beyond limit.Calls 262144 (suc calls)) (beyond limit.Depth 64 v.depth) a)

-- one call and those behind it
pub passed_first : (calls nodes : ℕ) (v : Visit) (vs : List Visit) → passed_by_calls calls nodes (v ∷ vs) ≡ option_or (passed_by_calls calls nodes (v ∷ [])) (passed_by_calls (suc calls) (nodes + nodes_in (angles_of v.item)) vs)
passed_first calls nodes v vs =
    let c = beyond limit.Calls 262144 (suc calls) in
    let d = beyond limit.Depth 64 v.depth in
    let a = passed_by_angles nodes (angles_of v.item) in
    let rest = passed_by_calls (suc calls) (nodes + nodes_in (angles_of v.item)) vs in
    flip (or_assoc c (option_or d (option_or a None)) rest ∙ ap (option_or c) (or_assoc d (option_or a None) rest ∙ ap (option_or d) (or_assoc a None rest)))

-- calls, and those behind them
pub passed_append : (calls nodes : ℕ) (xs ys : List Visit) → passed_by_calls calls nodes (xs ++ ys) ≡ option_or (passed_by_calls calls nodes xs) (passed_by_calls (calls + length xs) (nodes + nodes_of xs) ys)
passed_append calls nodes [] ys = grind arith
passed_append calls nodes (x ∷ xs) ys =
    let more = nodes_in (angles_of x.item) in
    let rest = passed_by_calls (calls + length (x ∷ xs)) (nodes + nodes_of (x ∷ xs)) ys in
    let e : passed_by_calls (suc calls + length xs) ((nodes + more) + nodes_of xs) ys ≡ rest = grind arith in
    passed_first calls nodes x (xs ++ ys) ∙ ap (option_or (passed_by_calls calls nodes (x ∷ []))) (passed_append (suc calls) (nodes + more) xs ys ∙ ap (option_or (passed_by_calls (suc calls) (nodes + more) xs)) e) ∙ flip (or_assoc (passed_by_calls calls nodes (x ∷ [])) (passed_by_calls (suc calls) (nodes + more) xs) rest) ∙ ap (λ o. option_or o rest) (flip (passed_first calls nodes x xs))

pub nodes_append : (xs ys : List Visit) → nodes_of (xs ++ ys) ≡ nodes_of xs + nodes_of ys
nodes_append [] ys = omega arith
nodes_append (x ∷ xs) ys = omega (arith, nodes_append xs ys)
