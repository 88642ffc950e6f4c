-- Different values have different compact texts, and different programs different texts.
use Rattle.std.proofs.Common.{◌≡◌, ℕ, suc, ◌≤◌, ◌≢◌, List, [], ◌∷◌, ◌++◌, map, Option, Some, None, Contains, get_or, refl, sym, ap, ap₂, ◌∙◌, arith, append_assoc}
use Rattle.json.specs.Json as json
use Rattle.json.specs.Tree as tree
use Rattle.json.proofs.Printed.Decimals.{IsNumber-decimal}
use Rattle.json.proofs.Printed.Trees.{document-print}
use Rattle.serde_json.specs.Data.{Num, unsigned, negative, float, Data, null, boolean, number, string, array, object, Items, no_items, item, Members, no_members, member, depth, items_depth, members_depth}
use Rattle.serde_json.specs.Read.{number_of, max_depth}
use Rattle.serde_json.specs.Written.{number_text, compact_text, outline, items_outline, members_outline}
use Rattle.serde_json.proofs.Numbers.{number_of-decimal}
use Rattle.serde_json.proofs.Texts.{print-outline}
use Rattle.serde_json.proofs.OnLiterals.{serde_json_on_literals}
use Rattle.zair_form.specs.declared.program.Act.{Act}
use Rattle.zair_form.specs.declared.program.Act.TheVariants.{Init, Gates, Rydberg, Job, Readout}
use Rattle.zair_form.specs.declared.program.Instr.{Instr}
use Rattle.zair_text.specs.Lines.{line, instr_line, totals_line, joined, program_text}
use Rattle.zair_text.specs.Ranges.{IsSmallNumber, HasSmallNumbers, ItemsHaveSmallNumbers, MembersHaveSmallNumbers, IsWritable, AreWritable}
use Rattle.zair_text.specs.Tally.{totals_of}
use Rattle.zair_text.specs.Values.{act_value, instr_value, header_value, end_value}
use Rattle.zair_text.specs.declared.counts.Totals.{Totals}
use Rattle.zair_text.proofs.Distinct.{instr_same}
use Rattle.zair_text.proofs.OneLine.{compact_text_one_line}
use Rattle.zair_text.proofs.Shape.{instr_shallow}

-- the number of a text, and another where it is none
abbrev or_zero : Option Num → Num
or_zero None = unsigned 0
or_zero (Some n) = n

-- the value of which this is the outline
abbrev mutual
  filled : json.Json → Data
  filled json.null = null
  filled (json.boolean b) = boolean b
  filled (json.number s) = number (or_zero (number_of s))
  filled (json.string s) = string s
  filled (json.array js) = array (filled_items js)
  filled (json.object ms) = object (filled_members ms)

  filled_items : json.Items → Items
  filled_items json.no_items = no_items
  filled_items (json.item j js) = item (filled j) (filled_items js)

  filled_members : json.Members → Members
  filled_members json.no_members = no_members
  filled_members (json.member k j ms) = member k (filled j) (filled_members ms)

number_filled : (n : Num) → IsSmallNumber n → or_zero (number_of (number_text n)) ≡ n
number_filled (unsigned n) small = ap or_zero (number_of-decimal n small)
number_filled (negative z) small = absurd small
number_filled (float x) small = absurd small

mutual
  filled-outline : (d : Data) → HasSmallNumbers d → filled (outline d) ≡ d
  filled-outline null small = refl
  filled-outline (boolean b) small = refl
  filled-outline (number n) small = ap number (number_filled n small)
  filled-outline (string s) small = refl
  filled-outline (array ds) small = ap array (filled_items-outline ds small)
  filled-outline (object ms) small = ap object (filled_members-outline ms small)

  filled_items-outline : (ds : Items) → ItemsHaveSmallNumbers ds → filled_items (items_outline ds) ≡ ds
  filled_items-outline no_items small = refl
  filled_items-outline (item d ds) small = ap₂ item (filled-outline d small.0) (filled_items-outline ds small.1)

  filled_members-outline : (ms : Members) → MembersHaveSmallNumbers ms → filled_members (members_outline ms) ≡ ms
  filled_members-outline no_members small = refl
  filled_members-outline (member k d ms) small = ap₂ (member k) (filled-outline d small.0) (filled_members-outline ms small.1)

number_is : (n : Num) → IsSmallNumber n → tree.HasNumbers (json.number (number_text n))
number_is (unsigned n) small = IsNumber-decimal n small
number_is (negative z) small = absurd small
number_is (float x) small = absurd small

mutual
  pub HasNumbers-outline : (d : Data) → HasSmallNumbers d → tree.HasNumbers (outline d)
  HasNumbers-outline null small = tt
  HasNumbers-outline (boolean b) small = tt
  HasNumbers-outline (number n) small = number_is n small
  HasNumbers-outline (string s) small = tt
  HasNumbers-outline (array ds) small = ItemsHaveNumbers-outline ds small
  HasNumbers-outline (object ms) small = MembersHaveNumbers-outline ms small

  ItemsHaveNumbers-outline : (ds : Items) → ItemsHaveSmallNumbers ds → tree.ItemsHaveNumbers (items_outline ds)
  ItemsHaveNumbers-outline no_items small = tt
  ItemsHaveNumbers-outline (item d ds) small = (HasNumbers-outline d small.0, ItemsHaveNumbers-outline ds small.1)

  MembersHaveNumbers-outline : (ms : Members) → MembersHaveSmallNumbers ms → tree.MembersHaveNumbers (members_outline ms)
  MembersHaveNumbers-outline no_members small = tt
  MembersHaveNumbers-outline (member k d ms) small = (HasNumbers-outline d small.0, MembersHaveNumbers-outline ms small.1)

mutual
  pub depth-outline : (d : Data) → tree.depth (outline d) ≤ depth d
  depth-outline null = omega arith
  depth-outline (boolean b) = omega arith
  depth-outline (number n) = omega arith
  depth-outline (string s) = omega arith
  depth-outline (array ds) = omega (arith, items_depth-outline ds)
  depth-outline (object ms) = omega (arith, members_depth-outline ms)

  items_depth-outline : (ds : Items) → tree.items_depth (items_outline ds) ≤ items_depth ds
  items_depth-outline no_items = omega arith
  items_depth-outline (item d ds) = omega (arith, depth-outline d, items_depth-outline ds)

  members_depth-outline : (ms : Members) → tree.members_depth (members_outline ms) ≤ members_depth ms
  members_depth-outline no_members = omega arith
  members_depth-outline (member k d ms) = omega (arith, depth-outline d, members_depth-outline ms)

-- the text of a value has its outline
document_of : (d : Data) → HasSmallNumbers d → depth d ≤ max_depth → json.document (compact_text d) ≡ Some (outline d)
document_of d small shallow =
    ap json.document (sym (print-outline d)) ∙ document-print (outline d) (HasNumbers-outline d small) (omega (arith, shallow, depth-outline d))

-- values with one text are one value
pub compact_text_same : (d e : Data) → HasSmallNumbers d → HasSmallNumbers e → depth d ≤ max_depth → depth e ≤ max_depth → compact_text d ≡ compact_text e → d ≡ e
compact_text_same d e small small' shallow shallow' same =
    let both : Some (outline d) ≡ Some (outline e) = sym (document_of d small shallow) ∙ ap json.document same ∙ document_of e small' shallow' in
    let one : outline d ≡ outline e = cc in
    sym (filled-outline d small) ∙ ap filled one ∙ filled-outline e small'

-- what a list contains it contains with an item more
later : (x y : ℕ) (s : List ℕ) → Contains s y → Contains (x ∷ s) y
later x y s (k, below, is) = (suc k, omega (arith, below), is)

-- what stands before the first line feed, and behind it
fronts_same : (s t u v : List ℕ) → ¬ Contains s 10 → ¬ Contains t 10 → s ++ 10 ∷ u ≡ t ++ 10 ∷ v → (s ≡ t) × (u ≡ v)
fronts_same [] [] u v none none' e = (refl, cc)
fronts_same [] (y ∷ t) u v none none' e = let same : 10 ≡ y = cc in absurd (none' (0, omega arith, sym same))
fronts_same (x ∷ s) [] u v none none' e = let same : x ≡ 10 = cc in absurd (none (0, omega arith, same))
fronts_same (x ∷ s) (y ∷ t) u v none none' e =
    let head : x ≡ y = cc in
    let tail : s ++ 10 ∷ u ≡ t ++ 10 ∷ v = cc in
    let rest = fronts_same s t u v (λ h. none (later x 10 s h)) (λ h. none' (later y 10 t h)) tail in
    (ap₂ (λ a l. a ∷ l) head rest.0, rest.1)

-- the lines of a list are its fronts, each with its line feed
line_same : (d e : Data) (u v : List ℕ) → line d ++ u ≡ line e ++ v → (compact_text d ≡ compact_text e) × (u ≡ v)
line_same d e u v same =
    let s = compact_text d in
    let t = compact_text e in
    fronts_same s t u v (compact_text_one_line d) (compact_text_one_line e) (sym (append_assoc s (10 ∷ []) u) ∙ same ∙ append_assoc t (10 ∷ []) v)

writable_same : (i j : Instr) → IsWritable i → IsWritable j → compact_text (instr_value i) ≡ compact_text (instr_value j) → i ≡ j
writable_same i j h k same =
    instr_same i j h.own k.own (compact_text_same (instr_value i) (instr_value j) h.small k.small (instr_shallow i) (instr_shallow j) same)

-- the third byte of a text, behind the brace and the quotation mark of its first key
third : List ℕ → ℕ
third s = get_or s 2 0

begins_act : (begin end : ℕ) (a : Act) → third (compact_text (act_value begin end a)) ≢ 103
unfolding serde_json_on_literals third
begins_act begin end (Init homes) = λ e. let f : ◌≡◌ {A = ℕ} 98 103 = e in absurd (omega (arith, f))
begins_act begin end (Gates ones) = λ e. let f : ◌≡◌ {A = ℕ} 98 103 = e in absurd (omega (arith, f))
begins_act begin end (Rydberg pairs) = λ e. let f : ◌≡◌ {A = ℕ} 98 103 = e in absurd (omega (arith, f))
begins_act begin end (Job aod steps) = λ e. let f : ◌≡◌ {A = ℕ} 97 103 = e in absurd (omega (arith, f))
begins_act begin end (Readout reads) = λ e. let f : ◌≡◌ {A = ℕ} 98 103 = e in absurd (omega (arith, f))

begins_end : (t : Totals) → third (compact_text (end_value t)) ≡ 103
unfolding serde_json_on_literals third
begins_end t = refl

-- the line of a tally is that of no instruction
apart : (t : Totals) (i : Instr) → compact_text (end_value t) ≡ compact_text (instr_value i) → ⊥
apart t i e = begins_act i.begin i.end i.act (ap third (sym e) ∙ begins_end t)

-- lines of instructions, with the line of a tally behind them
ended : Totals → List Instr → List ℕ
ended t is = joined (map instr_line is ++ totals_line t ∷ [])

lines_same : (t u : Totals) (is js : List Instr) → AreWritable is → AreWritable js → ended t is ≡ ended u js → is ≡ js
unfolding ended
lines_same t u [] [] h k e = refl
lines_same t u [] (j ∷ js) h k e = absurd (apart t j (line_same (end_value t) (instr_value j) [] (ended u js) e).0)
lines_same t u (i ∷ is) [] h k e = absurd (apart u i (line_same (end_value u) (instr_value i) [] (ended t is) (sym e)).0)
lines_same t u (i ∷ is) (j ∷ js) h k e =
    let both = line_same (instr_value i) (instr_value j) (ended t is) (ended u js) e in
    ap₂ (λ a l. a ∷ l) (writable_same i j h.0 k.0 both.0) (lines_same t u is js h.1 k.1 both.1)

-- programs with one text are one program
pub text_same : (is js : List Instr) → AreWritable is → AreWritable js → program_text is ≡ program_text js → is ≡ js
unfolding ended
text_same is js h k e =
    lines_same (totals_of is) (totals_of js) is js h k (line_same header_value header_value (ended (totals_of is) is) (ended (totals_of js) js) e).1
