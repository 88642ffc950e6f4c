-- Expansions, one behind the other.
use Rattle.std.proofs.Common.{List, ◌∷◌, ◌++◌, ap, sym as flip, ◌∙◌, append_assoc}
use Rattle.std.specs.List.{AllByRecursion}
use Rattle.qasm_names.specs.declared.gate.GateDef.{GateDef}
use Rattle.qasm_names.specs.declared.gate.Target.TheVariants as target
use Rattle.qasm_expand.specs.Items.{Item}
use Rattle.qasm_expand.specs.Items.Item.{Applied}
use Rattle.qasm_expand.specs.Replacing.{Expands, plain, replaces, Replaces, IsPlain, body_of}
use Rattle.qasm_expand.proofs.AngleNodesLemmas.{all_append}

-- what calls expand to has no call of a gate with a body
pub expands_plain : {gates : List GateDef} {xs items : List Item} → Expands gates xs items → AllByRecursion IsPlain items
expands_plain (plain h) = h
expands_plain (replaces r e) = expands_plain e

replaces_behind : {gates : List GateDef} {old new : List Item} (front : List Item) → AllByRecursion IsPlain front → Replaces gates old new → Replaces gates (front ++ old) (front ++ new)
replaces_behind front h r = record {
  front = front ++ r.front;
  place = r.place;
  angles = r.angles;
  qubits = r.qubits;
  rest = r.rest;
  gate = r.gate;
  plain = all_append IsPlain front r.front h r.plain;
  is = ap (λ xs. front ++ xs) r.is ∙ flip (append_assoc front r.front (Applied (target.Gate r.place) r.angles r.qubits ∷ r.rest));
  declared_at = r.declared_at;
  becomes = ap (λ xs. front ++ xs) r.becomes ∙ flip (append_assoc front r.front (body_of r.gate r.angles r.qubits ++ r.rest));
}

-- behind calls without a body
pub expands_behind : {gates : List GateDef} {xs items : List Item} (front : List Item) → AllByRecursion IsPlain front → Expands gates xs items → Expands gates (front ++ xs) (front ++ items)
expands_behind front h (plain {items} k) = plain (all_append IsPlain front items h k)
expands_behind front h (replaces r e) = replaces (replaces_behind front h r) (expands_behind front h e)

replaces_before : {gates : List GateDef} {old new : List Item} (more : List Item) → Replaces gates old new → Replaces gates (old ++ more) (new ++ more)
replaces_before more r = record {
  front = r.front;
  place = r.place;
  angles = r.angles;
  qubits = r.qubits;
  rest = r.rest ++ more;
  gate = r.gate;
  plain = r.plain;
  is = ap (λ xs. xs ++ more) r.is ∙ append_assoc r.front (Applied (target.Gate r.place) r.angles r.qubits ∷ r.rest) more;
  declared_at = r.declared_at;
  becomes = ap (λ xs. xs ++ more) r.becomes ∙ append_assoc r.front (body_of r.gate r.angles r.qubits ++ r.rest) more ∙ ap (λ xs. r.front ++ xs) (append_assoc (body_of r.gate r.angles r.qubits) r.rest more);
}

-- the calls of two lists expand to what each expands to
pub expands_append : {gates : List GateDef} {xs ys a b : List Item} → Expands gates xs a → Expands gates ys b → Expands gates (xs ++ ys) (a ++ b)
expands_append {a = a} (plain h) k = expands_behind a h k
expands_append {ys = ys} (replaces r e) k = replaces (replaces_before ys r) (expands_append e k)
