-- The compact text of an instruction's value reads as that value.
use Rattle.std.proofs.Common.{◌≡◌, ℕ, ◌≤◌, List, [], ◌∷◌, map, Option, Some, option_map, option_and_then, refl, sym, ap, ◌∙◌, ◌++◌, append-nil, arith}
use Rattle.json.specs.Json as json
use Rattle.json.specs.Lex.{tokens}
use Rattle.json.specs.Token.{Token}
use Rattle.json.specs.Tree.{json_tokens}
use Rattle.json.proofs.Printed.Tokens.{tokens-print}
use Rattle.json.proofs.Printed.Trees.{value-json_tokens, ArePrintable-json_tokens}
use Rattle.serde_json.proofs.Texts.{print-outline}
use Rattle.serde_json.specs.Data.{Num, unsigned, negative, float, Data, null, boolean, number, string, array, object, Items, no_items, item, Members, no_members, member, put, depth}
use Rattle.serde_json.specs.Read.{number_of, of_json, of_items, of_members, max_depth, read}
use Rattle.serde_json.specs.View.{items_of}
use Rattle.serde_json.specs.Written.{number_text, compact_text, outline, items_outline, members_outline}
use Rattle.serde_json.proofs.Numbers.{number_of-decimal}
use Rattle.serde_json.proofs.OnLiterals.{serde_json_on_literals}
use Rattle.zair_form.specs.declared.step.OneGate.{OneGate}
use Rattle.zair_form.specs.declared.step.Step.{Step}
use Rattle.zair_form.specs.declared.step.Step.TheVariants.{Activate, Move, Deactivate, One, Pulse}
use Rattle.zair_form.specs.declared.step.Step.TheVariants as step
use Rattle.zair_form.specs.declared.program.Act.{Act}
use Rattle.zair_form.specs.declared.program.Act.TheVariants.{Init, Gates, Rydberg, Job, Readout}
use Rattle.zair_form.specs.declared.program.Instr.{Instr}
use Rattle.zair_text.specs.Ranges.{IsSmallNumber, HasSmallNumbers, ItemsHaveSmallNumbers, MembersHaveSmallNumbers}
use Rattle.zair_text.specs.Values.{number_value, trap_value, beam_value, caught_value, dropped_value, pair_value, read_value, gate_value, step_value, act_value, instr_value}
use Rattle.zair_text.proofs.OneText.{HasNumbers-outline, depth-outline}
use Rattle.zair_text.proofs.Shape.{instr_shallow}

-- the members that were found, and then these
abbrev pub put_all : Members → Members → Members
put_all no_members found = found
put_all (member k d ms) found = put_all ms (put k d found)

-- each object in a value has its members in the order in which they are put
abbrev mutual
  pub InOrder : Data → Type 0
  InOrder null = Unit {0}
  InOrder (boolean b) = Unit {0}
  InOrder (number n) = Unit {0}
  InOrder (string s) = Unit {0}
  InOrder (array ds) = ItemsInOrder ds
  InOrder (object ms) = (put_all ms no_members ≡ ms) × MembersInOrder ms

  ItemsInOrder : Items → Type 0
  ItemsInOrder no_items = Unit {0}
  ItemsInOrder (item d ds) = InOrder d × ItemsInOrder ds

  MembersInOrder : Members → Type 0
  MembersInOrder no_members = Unit {0}
  MembersInOrder (member k d ms) = InOrder d × MembersInOrder ms

number_read : (n : Num) → IsSmallNumber n → option_map number (number_of (number_text n)) ≡ Some (number n)
number_read (unsigned n) small = ap (option_map number) (number_of-decimal n small)
number_read (negative z) small = absurd small
number_read (float x) small = absurd small

mutual
  pub value_read : (d : Data) → HasSmallNumbers d → InOrder d → of_json (outline d) ≡ Some d
  value_read null small order = refl
  value_read (boolean b) small order = refl
  value_read (number n) small order = number_read n small
  value_read (string s) small order = refl
  value_read (array ds) small order = ap (option_map array) (items_read ds small order)
  value_read (object ms) small order = ap (option_map object) (members_read ms no_members small order.1 ∙ ap (λ (found : Members). Some found) order.0)

  items_read : (ds : Items) → ItemsHaveSmallNumbers ds → ItemsInOrder ds → of_items (items_outline ds) ≡ Some ds
  items_read no_items small order = refl
  items_read (item d ds) small order =
      ap (option_and_then (λ e. option_map (item e) (of_items (items_outline ds)))) (value_read d small.0 order.0)
      ∙ ap (option_map (item d)) (items_read ds small.1 order.1)

  members_read : (ms found : Members) → MembersHaveSmallNumbers ms → MembersInOrder ms → of_members (members_outline ms) found ≡ Some (put_all ms found)
  members_read no_members found small order = refl
  members_read (member k d ms) found small order =
      ap (option_and_then (λ e. of_members (members_outline ms) (put k e found))) (value_read d small.0 order.0)
      ∙ members_read ms (put k d found) small.1 order.1

each_in_order : {X : Type 0} (f : X → Data) → ((x : X) → InOrder (f x)) → (xs : List X) → ItemsInOrder (items_of (map f xs))
each_in_order f h [] = tt
each_in_order f h (x ∷ xs) = (h x, each_in_order f h xs)

gate_in_order : (g : OneGate) → InOrder (gate_value g)
unfolding serde_json_on_literals
gate_in_order g = (refl, (tt, (tt, ((tt, (tt, (tt, tt))), tt))))

step_in_order : (s : Step) → InOrder (step_value s)
unfolding serde_json_on_literals
step_in_order (Activate aod rows columns atoms) =
    (refl, (each_in_order caught_value (λ x. (tt, (tt, (tt, tt)))) atoms, (each_in_order beam_value (λ x. (tt, (tt, tt))) columns, (each_in_order beam_value (λ x. (tt, (tt, tt))) rows, (tt, tt)))))
step_in_order (Move aod rows columns) = (refl, (each_in_order beam_value (λ x. (tt, (tt, tt))) columns, (each_in_order beam_value (λ x. (tt, (tt, tt))) rows, (tt, tt))))
step_in_order (Deactivate aod rows columns atoms) =
    (refl, (each_in_order dropped_value (λ x. (tt, (tt, tt))) atoms, (each_in_order number_value (λ x. tt) columns, (each_in_order number_value (λ x. tt) rows, (tt, tt)))))
step_in_order (One gate) = tt
step_in_order (Pulse pairs) = tt
step_in_order (step.Readout reads) = tt

act_in_order : (begin end : ℕ) (a : Act) → InOrder (act_value begin end a)
unfolding serde_json_on_literals
act_in_order begin end (Init homes) = (refl, (tt, (tt, (each_in_order trap_value (λ x. tt) homes, (tt, tt)))))
act_in_order begin end (Gates ones) = (refl, (tt, (tt, (each_in_order gate_value gate_in_order ones, (tt, tt)))))
act_in_order begin end (Rydberg pairs) = (refl, (tt, (tt, (each_in_order pair_value (λ x. (tt, (tt, (tt, tt)))) pairs, (tt, tt)))))
act_in_order begin end (Job aod steps) = (refl, (tt, (tt, (tt, (each_in_order step_value step_in_order steps, (tt, tt))))))
act_in_order begin end (Readout reads) = (refl, (tt, (tt, (each_in_order read_value (λ x. (tt, (tt, (tt, tt)))) reads, (tt, tt)))))

-- the value of what was read of all tokens
abbrev whole : Option (json.Json × List Token) → Option Data
whole found = option_and_then of_json (option_and_then (λ p. json.if_last p.0 p.1) found)

-- what reads a text reads its outline
pub outline_read : (d : Data) → HasSmallNumbers d → depth d ≤ max_depth → json.value max_depth (tokens (compact_text d)) ≡ Some (outline d, [])
outline_read d small shallow =
    let ts : List Token = json_tokens (outline d) in
    let same : tokens (compact_text d) ≡ ts ++ [] = ap tokens (sym (print-outline d)) ∙ tokens-print ts (ArePrintable-json_tokens (outline d) (HasNumbers-outline d small)) ∙ sym (append-nil ts) in
    ap (json.value max_depth) same ∙ value-json_tokens (outline d) max_depth [] (omega (arith, shallow, depth-outline d))

-- the compact text of an instruction's value with small numbers reads as the value
pub instr_read : (i : Instr) → HasSmallNumbers (instr_value i) → read (compact_text (instr_value i)) ≡ Some (instr_value i)
instr_read i small =
    ap whole (outline_read (instr_value i) small (instr_shallow i))
    ∙ value_read (instr_value i) small (act_in_order i.begin i.end i.act)
