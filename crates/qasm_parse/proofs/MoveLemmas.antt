-- The loops of the reader of expressions.
use Rattle.std.proofs.Common.{◌≡◌, ◌<◌, List, [], ◌∷◌, ◌++◌, length, None, refl, sym as flip, ◌∙◌, ap, arith, append_assoc}
use Rattle.std.specs.Prelude.{reverse}
use Rattle.std.proofs.lemmas.List.{append-nil, length-reverse}
use Rattle.qasm_form.specs.declared.stmt.Node.{Node}
use Rattle.qasm_form.specs.declared.part.Part.{Part}
use Rattle.qasm_parse.specs.declared.expr.Move.{Move}
use Rattle.qasm_parse.specs.declared.expr.Move.TheVariants as move
use Rattle.qasm_form.specs.Symbols.{Lexeme}
use Rattle.qasm_parse.specs.Running.{Step, Taken, Refused, Passed, wrote, advance}
use Rattle.qasm_parse.specs.Moves.{Moves, Goes, wrote_all}

-- parts that were passed over, and the nodes that they wrote
abbrev pub Passing : List Part → List Node → List Part → List Node → Lexeme → Type 0
Passing before old parts new x =
    (more : List Node) × (new ≡ old ++ more) × (advance (reverse before) x ≡ wrote_all more (advance (reverse parts) x))

pub passing_none : (before : List Part) (old : List Node) (x : Lexeme) → Passing before old before old x
passing_none before old x = ([], flip (append-nil old), refl)

wrote_all_append : (ns ms : List Node) (s : Step) → wrote_all (ns ++ ms) s ≡ wrote_all ns (wrote_all ms s)
wrote_all_append [] ms s = refl
wrote_all_append (n ∷ ns) ms s = ap (wrote n) (wrote_all_append ns ms s)

wrote_all_taken : (ns : List Node) (parts : List Part) (more : List Node) → wrote_all ns (Taken parts more) ≡ Taken parts (ns ++ more)
wrote_all_taken [] parts more = refl
wrote_all_taken (n ∷ ns) parts more = ap (wrote n) (wrote_all_taken ns parts more)

wrote_all_passed : (ns more : List Node) → wrote_all ns (Passed more) ≡ Passed (ns ++ more)
wrote_all_passed [] more = refl
wrote_all_passed (n ∷ ns) more = ap (wrote n) (wrote_all_passed ns more)

wrote_all_refused : (ns : List Node) → wrote_all ns Refused ≡ Refused
wrote_all_refused [] = refl
wrote_all_refused (n ∷ ns) = ap (wrote n) (wrote_all_refused ns)

-- an empty part is passed over
pub passing_more : (before parts popped left : List Part) (old new newer : List Node) (x : Lexeme) (p : Part) → Passing before old parts new x → reverse parts ≡ p ∷ reverse popped → Goes None popped left new newer x (advance (p ∷ reverse popped) x) → Passing before old left newer x
passing_more before parts popped left old new newer x p h pop g = (
  h.0 ++ g.0,
  g.2 ∙ ap (λ t. t ++ g.0) h.1 ∙ append_assoc old h.0 g.0,
  h.2 ∙ ap (λ t. wrote_all h.0 (advance t x)) pop ∙ ap (wrote_all h.0) (g.3 ∙ ap (λ t. wrote_all g.0 (advance t x)) (flip g.1)) ∙ flip (wrote_all_append h.0 g.0 (advance (reverse left) x)),
)

-- a part that decides ends it
pub passing_move : (m : Move) (before parts popped left : List Part) (old new newer : List Node) (x : Lexeme) (p : Part) → Passing before old parts new x → reverse parts ≡ p ∷ reverse popped → Moves m left new newer (advance (p ∷ reverse popped) x) → Moves m left old newer (advance (reverse before) x)
passing_move move.Taken before parts popped left old new newer x p h pop g =
    (h.0 ++ g.0, h.2 ∙ ap (λ t. wrote_all h.0 (advance t x)) pop ∙ ap (wrote_all h.0) g.1 ∙ wrote_all_taken h.0 (reverse left) g.0, g.2 ∙ ap (λ t. t ++ g.0) h.1 ∙ append_assoc old h.0 g.0)
passing_move move.Passed before parts popped left old new newer x p h pop g =
    (h.0 ++ g.0, h.2 ∙ ap (λ t. wrote_all h.0 (advance t x)) pop ∙ ap (wrote_all h.0) g.1 ∙ wrote_all_passed h.0 g.0, g.2 ∙ ap (λ t. t ++ g.0) h.1 ∙ append_assoc old h.0 g.0)
passing_move move.Refused before parts popped left old new newer x p h pop g =
    h.2 ∙ ap (λ t. wrote_all h.0 (advance t x)) pop ∙ ap (wrote_all h.0) g ∙ wrote_all_refused h.0

-- no part is left
pub passing_end : (before parts left : List Part) (old new : List Node) (x : Lexeme) → Passing before old parts new x → reverse parts ≡ [] → Moves move.Passed left old new (advance (reverse before) x)
passing_end before parts left old new x h none =
    (h.0, h.2 ∙ ap (λ t. wrote_all h.0 (advance t x)) none ∙ wrote_all_passed h.0 [] ∙ ap Passed (append-nil h.0), h.1)

pub popped_shorter : (parts popped left : List Part) (p : Part) → reverse parts ≡ p ∷ reverse popped → reverse left ≡ reverse popped → length left < length parts
popped_shorter parts popped left p pop same =
    omega (arith, ap length pop, ap length same, length-reverse parts, length-reverse popped, length-reverse left)
