-- What is written of a program in range reads back as that program.
use Rattle.std.proofs.Common.{◌≡◌, ℕ, ◌<◌, ◌≤◌, ◌^◌, Bool, true, false, List, [], ◌∷◌, ◌++◌, map, codes, Option, Some, IsUtf8, IsTrue, option_and_then, refl, sym, ap, ◌∙◌, inr, subst, arith, append_assoc}
use Rattle.std.specs.List.{AllByRecursion, list_all}
use Rattle.std.proofs.lemmas.Bool.{and_parts}
use Rattle.std.proofs.lemmas.Fmt.{IsAscii-decimal}
use Rattle.std.proofs.lemmas.Str.{IsUtf8-append, IsUtf8-from_ascii, IsUtf8-nil}
use Rattle.json.specs.Json as json
use Rattle.json.specs.Token.{Token}
use Rattle.json.proofs.Printed.Utf8.{IsUtf8-are_ascii, IsUtf8-quoted, IsUtf8-boolean}
use Rattle.serde_json.specs.Data.{Num, unsigned, negative, float, Data, null, boolean, number, string, array, object, Items, no_items, item, Members, no_members, member, depth}
use Rattle.serde_json.specs.Read.{of_json, max_depth, read}
use Rattle.serde_json.specs.View.{items_of}
use Rattle.serde_json.specs.Written.{number_text, comma_if, compact_text, items_text, members_text}
use Rattle.serde_json.proofs.OnLiterals.{serde_json_on_literals}
use Rattle.zac_arch.specs.declared.place.TrapId.{TrapId}
use Rattle.zair_form.specs.Ranges.{IsId, IsNumber, BeamFits, CaughtFits, DroppedFits, GateFits, PairFits, ReadFits, StepFits, ActFits, InstrFits, ProgramFits}
use Rattle.zair_form.specs.Steps.{is_init, may_follow, is_program, has_own_steps}
use Rattle.zair_form.specs.declared.step.Beam.{Beam}
use Rattle.zair_form.specs.declared.step.Caught.{Caught}
use Rattle.zair_form.specs.declared.step.Dropped.{Dropped}
use Rattle.zair_form.specs.declared.step.OneGate.{OneGate}
use Rattle.zair_form.specs.declared.step.PairOf.{PairOf}
use Rattle.zair_form.specs.declared.step.ReadOf.{ReadOf}
use Rattle.zair_form.specs.declared.step.Step.{Step}
use Rattle.zair_form.specs.declared.step.Step.TheVariants.{Activate, Move, Deactivate, One, Pulse}
use Rattle.zair_form.specs.declared.step.Step.TheVariants as step
use Rattle.zair_form.specs.declared.program.Act.{Act}
use Rattle.zair_form.specs.declared.program.Act.TheVariants.{Init, Gates, Rydberg, Job, Readout}
use Rattle.zair_form.specs.declared.program.Instr.{Instr}
use Rattle.zair_text.specs.Lines.{line, instr_line, totals_line, later_lines, program_lines, joined, program_text}
use Rattle.zair_text.specs.Ranges.{IsSmallNumber, HasSmallNumbers, ItemsHaveSmallNumbers, MembersHaveSmallNumbers}
use Rattle.zair_text.specs.Tally.{totals_of}
use Rattle.zair_text.specs.Values.{number_value, trap_value, beam_value, caught_value, dropped_value, pair_value, read_value, gate_value, step_value, timed_value, act_value, instr_value, header_value, end_value}
use Rattle.zair_text.specs.declared.counts.Totals.{Totals}
use Rattle.zair_text.proofs.AngleText.{IsUtf8-angle}
use Rattle.zair_text.proofs.OneLine.{compact_text_one_line}
use Rattle.zair_text.proofs.ReadingBack.{InOrder, outline_read, value_read, instr_read}
use Rattle.zair_read.specs.Texts.{IsTextOf, IsInstrText, lines_of, AreInstrLines, IsWhole, IsProgramText, TotalsFit}
use Rattle.zair_read.proofs.Lines.{lines_cut}
use Rattle.zair_read.proofs.Telling.{totals_fit}

-- ---- values whose text is UTF-8, and whose numbers are small

abbrev mutual
  IsPlain : Data → Type 0
  IsPlain null = Unit {0}
  IsPlain (boolean b) = Unit {0}
  IsPlain (number n) = IsSmallNumber n
  IsPlain (string s) = IsUtf8 s
  IsPlain (array ds) = ItemsArePlain ds
  IsPlain (object ms) = MembersArePlain ms

  ItemsArePlain : Items → Type 0
  ItemsArePlain no_items = Unit {0}
  ItemsArePlain (item d ds) = IsPlain d × ItemsArePlain ds

  MembersArePlain : Members → Type 0
  MembersArePlain no_members = Unit {0}
  MembersArePlain (member k d ms) = IsUtf8 k × IsPlain d × MembersArePlain ms

mutual
  small : (d : Data) → IsPlain d → HasSmallNumbers d
  small null h = tt
  small (boolean b) h = tt
  small (number n) h = h
  small (string s) h = tt
  small (array ds) h = small_items ds h
  small (object ms) h = small_members ms h

  small_items : (ds : Items) → ItemsArePlain ds → ItemsHaveSmallNumbers ds
  small_items no_items h = tt
  small_items (item d ds) h = (small d h.0, small_items ds h.1)

  small_members : (ms : Members) → MembersArePlain ms → MembersHaveSmallNumbers ms
  small_members no_members h = tt
  small_members (member k d ms) h = (small d h.1, small_members ms h.2)

number_utf8 : (n : Num) → IsSmallNumber n → IsUtf8 (number_text n)
number_utf8 (unsigned n) h = IsUtf8-from_ascii _ (IsAscii-decimal n h)
number_utf8 (negative z) h = absurd h
number_utf8 (float x) h = absurd h

comma_utf8 : (later : Bool) → IsUtf8 (comma_if later)
comma_utf8 true = IsUtf8-are_ascii (44 ∷ []) refl
comma_utf8 false = IsUtf8-nil

mutual
  text_utf8 : (d : Data) → IsPlain d → IsUtf8 (compact_text d)
  text_utf8 null h = IsUtf8-are_ascii _ refl
  text_utf8 (boolean b) h = IsUtf8-boolean b
  text_utf8 (number n) h = number_utf8 n h
  text_utf8 (string s) h = IsUtf8-quoted s h
  text_utf8 (array ds) h = IsUtf8-append (91 ∷ []) _ (IsUtf8-are_ascii (91 ∷ []) refl) (items_utf8 false ds h)
  text_utf8 (object ms) h = IsUtf8-append (123 ∷ []) _ (IsUtf8-are_ascii (123 ∷ []) refl) (members_utf8 false ms h)

  items_utf8 : (later : Bool) (ds : Items) → ItemsArePlain ds → IsUtf8 (items_text later ds)
  items_utf8 later no_items h = IsUtf8-are_ascii (93 ∷ []) refl
  items_utf8 later (item d ds) h = IsUtf8-append (comma_if later) _ (comma_utf8 later) (IsUtf8-append (compact_text d) _ (text_utf8 d h.0) (items_utf8 true ds h.1))

  members_utf8 : (later : Bool) (ms : Members) → MembersArePlain ms → IsUtf8 (members_text later ms)
  members_utf8 later no_members h = IsUtf8-are_ascii (125 ∷ []) refl
  members_utf8 later (member k d ms) h =
      IsUtf8-append (comma_if later) _ (comma_utf8 later)
      (IsUtf8-append _ _ (IsUtf8-quoted k h.0)
      (IsUtf8-append (58 ∷ []) _ (IsUtf8-are_ascii (58 ∷ []) refl) (IsUtf8-append (compact_text d) _ (text_utf8 d h.1) (members_utf8 true ms h.2))))

-- ---- the values of a program in range are plain

narrow : (n : ℕ) → IsNumber n → n < 2 ^ 64
narrow n h = omega (arith, h)

narrow_id : (n : ℕ) → IsId n → n < 2 ^ 64
narrow_id n h = omega (arith, h)

module _ {X : Type 0} (f : X → Data) (Fits : X → Type 0) (each : (x : X) → Fits x → IsPlain (f x)) where
  all_plain : (xs : List X) → AllByRecursion Fits xs → ItemsArePlain (items_of (map f xs))
  all_plain [] h = tt
  all_plain (x ∷ xs) h = (each x h.0, all_plain xs h.1)

trap_plain : (t : TrapId) → IsNumber t.0 → IsPlain (trap_value t)
trap_plain t h = narrow t.0 h

beam_plain : (b : Beam) → BeamFits b → IsPlain (beam_value b)
beam_plain b h = (narrow_id b.id h.0, (omega (arith, h.1), tt))

caught_plain : (c : Caught) → CaughtFits c → IsPlain (caught_value c)
caught_plain c h = (narrow c.q h.0, (narrow_id c.row h.1, (narrow_id c.column h.2, tt)))

dropped_plain : (d : Dropped) → DroppedFits d → IsPlain (dropped_value d)
dropped_plain d h = (narrow d.q h.0, (narrow d.trap.0 h.1, tt))

pair_plain : (p : PairOf) → PairFits p → IsPlain (pair_value p)
pair_plain p h = (narrow p.op h.0, (narrow p.a h.1, (narrow p.b h.2, tt)))

read_plain : (r : ReadOf) → ReadFits r → IsPlain (read_value r)
read_plain r h = (narrow r.op h.0, (narrow r.q h.1, (narrow r.bit h.2, tt)))

gate_plain : (g : OneGate) → GateFits g → IsPlain (gate_value g)
gate_plain g h = (
  IsUtf8-are_ascii (codes "op") refl,
  narrow g.op h.0,
  (
    IsUtf8-are_ascii (codes "q") refl,
    narrow g.q h.1,
    (IsUtf8-are_ascii (codes "u") refl, (IsUtf8-angle g.angles.theta h.2.0, (IsUtf8-angle g.angles.phi h.2.1, (IsUtf8-angle g.angles.lambda h.2.2, tt))), tt),
  ),
)

beams_plain : (bs : List Beam) → AllByRecursion BeamFits bs → ItemsArePlain (items_of (map beam_value bs))
beams_plain bs h = all_plain beam_value BeamFits beam_plain bs h

ids_plain : (ns : List ℕ) → AllByRecursion IsId ns → ItemsArePlain (items_of (map number_value ns))
ids_plain ns h = all_plain number_value IsId narrow_id ns h

step_plain : (s : Step) → StepFits s → IsPlain (step_value s)
step_plain (Activate aod rows columns atoms) h = (
  IsUtf8-are_ascii (codes "atoms") refl,
  all_plain caught_value CaughtFits caught_plain atoms h.3,
  (
    IsUtf8-are_ascii (codes "columns") refl,
    beams_plain columns h.2,
    (
      IsUtf8-are_ascii (codes "rows") refl,
      beams_plain rows h.1,
      (IsUtf8-are_ascii (codes "step") refl, IsUtf8-are_ascii (codes "activate") refl, tt),
    ),
  ),
)
step_plain (Move aod rows columns) h = (
  IsUtf8-are_ascii (codes "columns") refl,
  beams_plain columns h.2,
  (
    IsUtf8-are_ascii (codes "rows") refl,
    beams_plain rows h.1,
    (IsUtf8-are_ascii (codes "step") refl, IsUtf8-are_ascii (codes "move") refl, tt),
  ),
)
step_plain (Deactivate aod rows columns atoms) h = (
  IsUtf8-are_ascii (codes "atoms") refl,
  all_plain dropped_value DroppedFits dropped_plain atoms h.3,
  (
    IsUtf8-are_ascii (codes "columns") refl,
    ids_plain columns h.2,
    (
      IsUtf8-are_ascii (codes "rows") refl,
      ids_plain rows h.1,
      (IsUtf8-are_ascii (codes "step") refl, IsUtf8-are_ascii (codes "deactivate") refl, tt),
    ),
  ),
)
step_plain (One gate) h = tt
step_plain (Pulse pairs) h = tt
step_plain (step.Readout reads) h = tt

timed_plain : (begin end : ℕ) (key : List ℕ) (values : List Data) (kind : List ℕ) → begin < 2 ^ 64 → end < 2 ^ 64 → IsUtf8 key → ItemsArePlain (items_of values) → IsUtf8 kind
    → IsPlain (timed_value begin end key values kind)
timed_plain begin end key values kind b e k h n =
    (IsUtf8-are_ascii (codes "begin") refl, b, (IsUtf8-are_ascii (codes "end") refl, e, (k, h, (IsUtf8-are_ascii (codes "type") refl, n, tt))))

act_plain : (begin end : ℕ) (a : Act) → begin < 2 ^ 64 → end < 2 ^ 64 → ActFits a → IsPlain (act_value begin end a)
act_plain begin end (Init homes) b e h =
    timed_plain begin end (codes "homes") (map trap_value homes) (codes "init") b e (IsUtf8-are_ascii (codes "homes") refl)
    (all_plain trap_value (λ t. IsNumber t.0) trap_plain homes h) (IsUtf8-are_ascii (codes "init") refl)
act_plain begin end (Gates ones) b e h =
    timed_plain begin end (codes "gates") (map gate_value ones) (codes "1qGate") b e (IsUtf8-are_ascii (codes "gates") refl)
    (all_plain gate_value GateFits gate_plain ones h) (IsUtf8-are_ascii (codes "1qGate") refl)
act_plain begin end (Rydberg pairs) b e h =
    timed_plain begin end (codes "pairs") (map pair_value pairs) (codes "rydberg") b e (IsUtf8-are_ascii (codes "pairs") refl)
    (all_plain pair_value PairFits pair_plain pairs h) (IsUtf8-are_ascii (codes "rydberg") refl)
act_plain begin end (Job aod steps) b e h = (
  IsUtf8-are_ascii (codes "aod") refl,
  narrow_id aod h.0,
  (
    IsUtf8-are_ascii (codes "begin") refl,
    b,
    (
      IsUtf8-are_ascii (codes "end") refl,
      e,
      (
        IsUtf8-are_ascii (codes "steps") refl,
        all_plain step_value StepFits step_plain steps h.1,
        (IsUtf8-are_ascii (codes "type") refl, IsUtf8-are_ascii (codes "rearrangeJob") refl, tt),
      ),
    ),
  ),
)
act_plain begin end (Readout reads) b e h =
    timed_plain begin end (codes "reads") (map read_value reads) (codes "readout") b e (IsUtf8-are_ascii (codes "reads") refl)
    (all_plain read_value ReadFits read_plain reads h) (IsUtf8-are_ascii (codes "readout") refl)

instr_plain : (i : Instr) → InstrFits i → IsPlain (instr_value i)
instr_plain i h = act_plain i.begin i.end i.act (omega (arith, h.rises, h.ends)) (omega (arith, h.ends)) h.act

header_plain : IsPlain header_value
header_plain = (IsUtf8-are_ascii (codes "type") refl, IsUtf8-are_ascii (codes "zair") refl, (IsUtf8-are_ascii (codes "version") refl, omega arith, tt))

end_plain : (t : Totals) → TotalsFit t → IsPlain (end_value t)
end_plain t h = (
  IsUtf8-are_ascii (codes "gates") refl,
  narrow t.gates h.gates,
  (
    IsUtf8-are_ascii (codes "jobs") refl,
    narrow t.jobs h.jobs,
    (
      IsUtf8-are_ascii (codes "kept") refl,
      narrow t.kept h.kept,
      (
        IsUtf8-are_ascii (codes "moved") refl,
        narrow t.moved h.moved,
        (
          IsUtf8-are_ascii (codes "pairs") refl,
          narrow t.pairs h.pairs,
          (
            IsUtf8-are_ascii (codes "pulses") refl,
            narrow t.pulses h.pulses,
            (
              IsUtf8-are_ascii (codes "qubits") refl,
              narrow t.qubits h.qubits,
              (
                IsUtf8-are_ascii (codes "reads") refl,
                narrow t.reads h.reads,
                (
                  IsUtf8-are_ascii (codes "time") refl,
                  omega (arith, h.time),
                  (IsUtf8-are_ascii (codes "type") refl, IsUtf8-are_ascii (codes "end") refl, tt),
                ),
              ),
            ),
          ),
        ),
      ),
    ),
  ),
)

-- ---- their texts read back

-- the value of what was read of all tokens
of_all : Option (json.Json × List Token) → Option Data
of_all found = option_and_then of_json (option_and_then (λ p. json.if_last p.0 p.1) found)

plain_read : (d : Data) → IsPlain d → InOrder d → depth d ≤ max_depth → read (compact_text d) ≡ Some d
unfolding of_all
plain_read d plain order shallow = ap of_all (outline_read d (small d plain) shallow) ∙ value_read d (small d plain) order

header_text : IsTextOf header_value (compact_text header_value)
unfolding serde_json_on_literals
header_text = record {
  utf8 = text_utf8 header_value header_plain;
  value_read = plain_read header_value header_plain (refl, (tt, (tt, tt))) (omega arith);
}

end_text : (t : Totals) → TotalsFit t → IsTextOf (end_value t) (compact_text (end_value t))
unfolding serde_json_on_literals
end_text t h = record {
  utf8 = text_utf8 (end_value t) (end_plain t h);
  value_read = plain_read (end_value t) (end_plain t h) (refl, (tt, (tt, (tt, (tt, (tt, (tt, (tt, (tt, (tt, (tt, tt))))))))))) (omega arith);
}

pub instr_text : (i : Instr) → IsTrue (has_own_steps i.act) → InstrFits i → IsInstrText (compact_text (instr_value i)) i
instr_text i own h = record {
  text = record { utf8 = text_utf8 (instr_value i) (instr_plain i h); value_read = instr_read i (small (instr_value i) (instr_plain i h)) };
  own = own;
  fits = h;
}

-- ---- the lines of a program's text

own_of_init : (a : Act) → is_init a ≡ true → IsTrue (has_own_steps a)
own_of_init (Init homes) h = refl
own_of_init (Gates ones) h = refl
own_of_init (Rydberg pairs) h = refl
own_of_init (Job aod steps) h = cc
own_of_init (Readout reads) h = refl

later_instr_lines : (is : List Instr) → list_all may_follow is ≡ true → ProgramFits is → AreInstrLines (map instr_line is) is
later_instr_lines [] h fits = tt
later_instr_lines (i ∷ is) h fits =
    let p = and_parts (may_follow i) (list_all may_follow is) h in
    let own = (and_parts _ (has_own_steps i.act) p.0).1 in
    (record { bytes = compact_text (instr_value i); ended = refl; text = instr_text i own fits.0 }, later_instr_lines is p.1 fits.1)

program_instr_lines : (is : List Instr) → IsTrue (is_program is) → ProgramFits is → AreInstrLines (map instr_line is) is
program_instr_lines [] h fits = tt
program_instr_lines (i ∷ is) h fits =
    let p = and_parts (is_init i.act) (list_all may_follow is) h in
    (record { bytes = compact_text (instr_value i); ended = refl; text = instr_text i (own_of_init i.act p.0) fits.0 }, later_instr_lines is p.1 fits.1)

-- the first line of a text that begins with a value's line
cut_line : (d : Data) (rest : List ℕ) → lines_of (line d ++ rest) ≡ line d ∷ lines_of rest
cut_line d rest = ap lines_of (append_assoc (compact_text d) (10 ∷ []) rest) ∙ lines_cut (compact_text d) rest (compact_text_one_line d)

later_cut : (t : Totals) (is : List Instr) → lines_of (joined (map instr_line is ++ totals_line t ∷ [])) ≡ map instr_line is ++ totals_line t ∷ []
later_cut t [] = cut_line (end_value t) []
later_cut t (i ∷ is) = cut_line (instr_value i) (joined (map instr_line is ++ totals_line t ∷ [])) ∙ ap (λ ls. instr_line i ∷ ls) (later_cut t is)

all_cut : (is : List Instr) → lines_of (program_text is) ≡ program_lines is
all_cut is = cut_line header_value (joined (later_lines is)) ∙ ap (λ ls. line header_value ∷ ls) (later_cut (totals_of is) is)

lines_whole : (is : List Instr) → IsTrue (is_program is) → ProgramFits is → IsWhole (program_lines is) is
lines_whole is h fits =
    let lines = program_instr_lines is h fits in
    record {
      front = line header_value ∷ map instr_line is;
      last = totals_line (totals_of is);
      ended = refl;
      open_front = record {
        header = line header_value;
        later = map instr_line is;
        is_front = refl;
        header_line = record { bytes = compact_text header_value; ended = refl; text = header_text };
        instr_lines = lines;
        start = inr h;
      };
      program = h;
      end_line = record { bytes = compact_text (end_value (totals_of is)); ended = refl; text = end_text (totals_of is) (totals_fit (map instr_line is) is lines) };
    }

-- the text of a program in range is that of the program
pub written_back : (is : List Instr) → IsTrue (is_program is) → ProgramFits is → IsProgramText (program_text is) is
written_back is h fits = subst (λ ls. IsWhole ls is) (sym (all_cut is)) (lines_whole is h fits)
