-- From the parts of a written line to its instruction.
use Rattle.std.proofs.Common.{◌≡◌, ℕ, ◌≤◌, Bool, true, false, List, [], ◌∷◌, ◌++◌, map, codes, decimal, IsTrue, refl, sym, ap, ◌∙◌, subst, arith, append-nil}
use Rattle.std.specs.List.{AllByRecursion, list_all}
use Rattle.std.proofs.lemmas.Bool.{and_from}
use Rattle.serde_json.specs.Data.{Data, string, Items, no_items, item, Members, no_members, member}
use Rattle.serde_json.specs.Written.{comma_if, compact_text, members_text}
use Rattle.serde_json.proofs.OnLiterals.{serde_json_on_literals}
use Rattle.zac_arch.specs.declared.place.TrapId.{TrapId}
use Rattle.zair_form.specs.Ranges.{IsNumber, GateFits, PairFits, ReadFits, StepFits}
use Rattle.zair_form.specs.Steps.{is_step_of}
use Rattle.zair_form.specs.declared.program.Act.{Act}
use Rattle.zair_form.specs.declared.program.Act.TheVariants.{Init, Gates, Rydberg, Job, Readout}
use Rattle.zair_form.specs.declared.program.Instr.{Instr}
use Rattle.zair_form.specs.declared.step.Beam.{Beam}
use Rattle.zair_form.specs.declared.step.Caught.{Caught}
use Rattle.zair_form.specs.declared.step.Dropped.{Dropped}
use Rattle.zair_form.specs.declared.step.OneGate.{OneGate}
use Rattle.zair_form.specs.declared.step.PairOf.{PairOf}
use Rattle.zair_form.specs.declared.step.ReadOf.{ReadOf}
use Rattle.zair_form.specs.declared.step.Step.{Step}
use Rattle.zair_text.specs.Values.{array_of, number_value, numbers, beam_value, caught_value, dropped_value, pair_value, read_value, gate_value, trap_value, activate_value, move_value, deactivate_value, step_value, timed_value, act_value, instr_value}
use Rattle.zair_read.specs.Compact.{BeginsWith, BeginsWithAtoms, BeginsWithBeams, IsOwnStep, behind_times, IsBehindTimes}
use Rattle.zair_read.specs.Texts.{IsInstrText}
use Rattle.zair_read.proofs.CompactParts.{first_item, later_item, member_of}
use Rattle.zair_read.proofs.Written.{instr_text}

-- ---- steps

-- the columns, the rows and the name of a step
beams_members : (later : Bool) (name : List ℕ) (columns rows : Data) (s t rest : List ℕ) → BeginsWithBeams columns rows s t
    → codes ",\"step\":\"" ++ t ≡ members_text true (member (codes "step") (string name) no_members) ++ rest
    → comma_if later ++ s ≡ members_text later (member (codes "columns") columns (member (codes "rows") rows (member (codes "step") (string name) no_members))) ++ rest
unfolding serde_json_on_literals
beams_members later name columns rows s t rest e f =
    let named : Members = member (codes "step") (string name) no_members in
    let behind : List ℕ = codes ",\"step\":\"" ++ t in
    let tail : List ℕ = codes ",\"rows\":" ++ (compact_text rows ++ behind) in
    let two : tail ≡ members_text true (member (codes "rows") rows named) ++ rest = member_of true (codes "rows") rows named (compact_text rows ++ behind) behind rest refl f in
    ap (λ u. comma_if later ++ u) e ∙ member_of later (codes "columns") columns (member (codes "rows") rows named) (compact_text columns ++ tail) tail rest refl two

-- a step with its atoms
atoms_members : (name : List ℕ) (atoms columns rows : Data) (bytes s t rest : List ℕ) → BeginsWithAtoms atoms bytes s → BeginsWithBeams columns rows s t
    → codes ",\"step\":\"" ++ t ≡ members_text true (member (codes "step") (string name) no_members) ++ rest
    → bytes ≡ members_text false (member (codes "atoms") atoms (member (codes "columns") columns (member (codes "rows") rows (member (codes "step") (string name) no_members)))) ++ rest
unfolding serde_json_on_literals
atoms_members name atoms columns rows bytes s t rest e f g =
    let later : Members = member (codes "columns") columns (member (codes "rows") rows (member (codes "step") (string name) no_members)) in
    e ∙ member_of false (codes "atoms") atoms later (compact_text atoms ++ 44 ∷ s) (44 ∷ s) rest refl (beams_members true name columns rows s t rest f g)

pub activate_text : (rows columns : List Beam) (atoms : List Caught) (bytes s t rest : List ℕ) → BeginsWithAtoms (array_of (map caught_value atoms)) bytes s
    → BeginsWithBeams (array_of (map beam_value columns)) (array_of (map beam_value rows)) s t → t ≡ codes "activate\"}" ++ rest → BeginsWith (activate_value rows columns atoms) (123 ∷ bytes) rest
unfolding serde_json_on_literals
activate_text rows columns atoms bytes s t rest e f g =
    ap (λ u. 123 ∷ u)
    (atoms_members (codes "activate") (array_of (map caught_value atoms)) (array_of (map beam_value columns)) (array_of (map beam_value rows)) bytes s t rest e f (ap (λ u. codes ",\"step\":\"" ++ u) g))

pub deactivate_text : (rows columns : List ℕ) (atoms : List Dropped) (bytes s t rest : List ℕ) → BeginsWithAtoms (array_of (map dropped_value atoms)) bytes s
    → BeginsWithBeams (array_of (map number_value columns)) (array_of (map number_value rows)) s t → t ≡ codes "deactivate\"}" ++ rest → BeginsWith (deactivate_value rows columns atoms) (123 ∷ bytes) rest
unfolding serde_json_on_literals
deactivate_text rows columns atoms bytes s t rest e f g =
    ap (λ u. 123 ∷ u)
    (atoms_members (codes "deactivate") (array_of (map dropped_value atoms)) (numbers columns) (numbers rows) bytes s t rest e f (ap (λ u. codes ",\"step\":\"" ++ u) g))

pub move_text : (rows columns : List Beam) (s t rest : List ℕ) → BeginsWithBeams (array_of (map beam_value columns)) (array_of (map beam_value rows)) s t → t ≡ codes "move\"}" ++ rest
    → BeginsWith (move_value rows columns) (123 ∷ s) rest
unfolding serde_json_on_literals
move_text rows columns s t rest e f =
    ap (λ u. 123 ∷ u) (beams_members false (codes "move") (array_of (map beam_value columns)) (array_of (map beam_value rows)) s t rest e (ap (λ u. codes ",\"step\":\"" ++ u) f))

-- ---- gates

pub gate_text : (g : OneGate) (bytes s₁ s₂ s₃ s₄ s₅ s₆ s₇ s₈ s₉ s₁₀ rest : List ℕ) → bytes ≡ codes "{\"op\":" ++ s₁ → s₁ ≡ decimal g.op ++ s₂ → s₂ ≡ codes ",\"q\":" ++ s₃ → s₃ ≡ decimal g.q ++ s₄ → s₄ ≡ codes ",\"u\":[" ++ s₅
    → BeginsWith (string g.angles.theta) s₅ s₆ → s₆ ≡ 44 ∷ s₇ → BeginsWith (string g.angles.phi) s₇ s₈ → s₈ ≡ 44 ∷ s₉ → BeginsWith (string g.angles.lambda) s₉ s₁₀ → s₁₀ ≡ codes "]}" ++ rest
    → BeginsWith (gate_value g) bytes rest
unfolding serde_json_on_literals
gate_text g bytes s₁ s₂ s₃ s₄ s₅ s₆ s₇ s₈ s₉ s₁₀ rest e₁ e₂ e₃ e₄ e₅ e₆ e₇ e₈ e₉ e₁₀ e₁₁ =
    let u : Data = array_of (string g.angles.theta ∷ string g.angles.phi ∷ string g.angles.lambda ∷ []) in
    let lambda : Items = item (string g.angles.lambda) no_items in
    let phi : Items = item (string g.angles.phi) lambda in
    let angles : 91 ∷ s₅ ≡ compact_text u ++ 125 ∷ rest =
    ap (λ v. 91 ∷ v)
    (first_item (string g.angles.theta) phi s₅ s₆ (125 ∷ rest) e₆
    (later_item (string g.angles.phi) lambda s₆ s₇ s₈ (125 ∷ rest) e₇ e₈
    (later_item (string g.angles.lambda) no_items s₈ s₉ s₁₀ (125 ∷ rest) e₉ e₁₀ e₁₁))) in
    let third : Members = member (codes "u") u no_members in
    let second : Members = member (codes "q") (number_value g.q) third in
    let from_u : s₄ ≡ members_text true third ++ rest = e₅ ∙ member_of true (codes "u") u no_members (91 ∷ s₅) (125 ∷ rest) rest angles refl in
    let from_q : s₂ ≡ members_text true second ++ rest = e₃ ∙ member_of true (codes "q") (number_value g.q) third s₃ s₄ rest e₄ from_u in
    e₁ ∙ ap (λ v. 123 ∷ v) (member_of false (codes "op") (number_value g.op) second s₁ s₂ rest e₂ from_q)

-- ---- instructions

-- the times of an instruction stand before the others of its members
times_members : (later : Bool) (begin end : ℕ) (ms : Members) (s rest : List ℕ) → 44 ∷ s ≡ members_text true ms ++ rest
    → comma_if later ++ behind_times begin end s ≡ members_text later (member (codes "begin") (number_value begin) (member (codes "end") (number_value end) ms)) ++ rest
unfolding serde_json_on_literals
times_members later begin end ms s rest h =
    let tail : List ℕ = codes ",\"end\":" ++ (decimal end ++ 44 ∷ s) in
    member_of later (codes "begin") (number_value begin) (member (codes "end") (number_value end) ms) (decimal begin ++ tail) tail rest refl
    (member_of true (codes "end") (number_value end) ms (decimal end ++ 44 ∷ s) (44 ∷ s) rest refl h)

-- an instruction that is no job, from what stands behind its times
timed_text : (begin end : ℕ) (key kind : List ℕ) (values : List Data) (bytes : List ℕ) → 44 ∷ bytes ≡ members_text true (member key (array_of values) (member (codes "type") (string kind) no_members)) ++ []
    → 123 ∷ behind_times begin end bytes ≡ compact_text (timed_value begin end key values kind)
timed_text begin end key kind values bytes h =
    ap (λ u. 123 ∷ u) (times_members false begin end (member key (array_of values) (member (codes "type") (string kind) no_members)) bytes [] h)
    ∙ append-nil (compact_text (timed_value begin end key values kind))

pub init_text : (homes : List TrapId) (bytes : List ℕ) → bytes ≡ codes "\"homes\":" ++ (compact_text (array_of (map trap_value homes)) ++ codes ",\"type\":\"init\"}")
    → AllByRecursion (λ t. IsNumber t.0) homes → IsBehindTimes (Init homes) bytes
unfolding serde_json_on_literals
init_text homes bytes e fits =
    let values : List Data = map trap_value homes in
    let back : List ℕ = codes ",\"type\":\"init\"}" in
    let kind : Members = member (codes "type") (string (codes "init")) no_members in
    let both : 44 ∷ bytes ≡ members_text true (member (codes "homes") (array_of values) kind) ++ [] =
    ap (λ u. 44 ∷ u) e ∙ member_of true (codes "homes") (array_of values) kind (compact_text (array_of values) ++ back) back [] refl refl in
    (fits, refl, λ begin end. timed_text begin end (codes "homes") (codes "init") values bytes both)

pub gates_text : (ones : List OneGate) (bytes : List ℕ) → bytes ≡ codes "\"gates\":" ++ (compact_text (array_of (map gate_value ones)) ++ codes ",\"type\":\"1qGate\"}")
    → AllByRecursion GateFits ones → IsBehindTimes (Gates ones) bytes
unfolding serde_json_on_literals
gates_text ones bytes e fits =
    let values : List Data = map gate_value ones in
    let back : List ℕ = codes ",\"type\":\"1qGate\"}" in
    let kind : Members = member (codes "type") (string (codes "1qGate")) no_members in
    let both : 44 ∷ bytes ≡ members_text true (member (codes "gates") (array_of values) kind) ++ [] =
    ap (λ u. 44 ∷ u) e ∙ member_of true (codes "gates") (array_of values) kind (compact_text (array_of values) ++ back) back [] refl refl in
    (fits, refl, λ begin end. timed_text begin end (codes "gates") (codes "1qGate") values bytes both)

pub rydberg_text : (pairs : List PairOf) (bytes : List ℕ) → bytes ≡ codes "\"pairs\":" ++ (compact_text (array_of (map pair_value pairs)) ++ codes ",\"type\":\"rydberg\"}")
    → AllByRecursion PairFits pairs → IsBehindTimes (Rydberg pairs) bytes
unfolding serde_json_on_literals
rydberg_text pairs bytes e fits =
    let values : List Data = map pair_value pairs in
    let back : List ℕ = codes ",\"type\":\"rydberg\"}" in
    let kind : Members = member (codes "type") (string (codes "rydberg")) no_members in
    let both : 44 ∷ bytes ≡ members_text true (member (codes "pairs") (array_of values) kind) ++ [] =
    ap (λ u. 44 ∷ u) e ∙ member_of true (codes "pairs") (array_of values) kind (compact_text (array_of values) ++ back) back [] refl refl in
    (fits, refl, λ begin end. timed_text begin end (codes "pairs") (codes "rydberg") values bytes both)

pub readout_text : (reads : List ReadOf) (bytes : List ℕ) → bytes ≡ codes "\"reads\":" ++ (compact_text (array_of (map read_value reads)) ++ codes ",\"type\":\"readout\"}")
    → AllByRecursion ReadFits reads → IsBehindTimes (Readout reads) bytes
unfolding serde_json_on_literals
readout_text reads bytes e fits =
    let values : List Data = map read_value reads in
    let back : List ℕ = codes ",\"type\":\"readout\"}" in
    let kind : Members = member (codes "type") (string (codes "readout")) no_members in
    let both : 44 ∷ bytes ≡ members_text true (member (codes "reads") (array_of values) kind) ++ [] =
    ap (λ u. 44 ∷ u) e ∙ member_of true (codes "reads") (array_of values) kind (compact_text (array_of values) ++ back) back [] refl refl in
    (fits, refl, λ begin end. timed_text begin end (codes "reads") (codes "readout") values bytes both)

-- what an instruction is that is no job
pub timed_instr : (begin end : ℕ) (act : Act) (bytes s t : List ℕ) → bytes ≡ 123 ∷ s → s ≡ behind_times begin end t → begin ≤ end → end ≤ 4000000000000000000 → IsBehindTimes act t
    → IsInstrText bytes (record { begin = begin; end = end; act = act })
timed_instr begin end act bytes s t e f rises ends h =
    let i : Instr = record { begin = begin; end = end; act = act } in
    let text : bytes ≡ compact_text (instr_value i) = e ∙ ap (λ u. 123 ∷ u) f ∙ h.2 begin end in
    subst (λ b. IsInstrText b i) (sym text) (instr_text i h.1 (record { rises = rises; ends = ends; act = h.0 }))

all_fit : (aod : ℕ) (steps : List Step) → AllByRecursion (IsOwnStep aod) steps → AllByRecursion StepFits steps
all_fit aod [] h = tt
all_fit aod (s ∷ ss) h = (h.0.0, all_fit aod ss h.1)

all_own : (aod : ℕ) (steps : List Step) → AllByRecursion (IsOwnStep aod) steps → list_all (is_step_of aod) steps ≡ true
all_own aod [] h = refl
all_own aod (s ∷ ss) h = and_from (is_step_of aod s) (list_all (is_step_of aod) ss) h.0.1 (all_own aod ss h.1)

-- what a job is
pub job_instr : (aod begin end : ℕ) (steps : List Step) (bytes s₁ s₂ s₃ s₄ s₅ : List ℕ) → bytes ≡ decimal aod ++ s₁ → s₁ ≡ 44 ∷ s₂ → s₂ ≡ behind_times begin end s₃ → s₃ ≡ codes "\"steps\":" ++ s₄
    → BeginsWith (array_of (map step_value steps)) s₄ s₅ → s₅ ≡ codes ",\"type\":\"rearrangeJob\"}"
    → aod ≤ 255 → begin ≤ end → end ≤ 4000000000000000000 → AllByRecursion (IsOwnStep aod) steps
    → IsInstrText (codes "{\"aod\":" ++ bytes) (record { begin = begin; end = end; act = Job aod steps })
unfolding serde_json_on_literals
job_instr aod begin end steps bytes s₁ s₂ s₃ s₄ s₅ e₁ e₂ e₃ e₄ e₅ e₆ id rises ends all =
    let i : Instr = record { begin = begin; end = end; act = Job aod steps } in
    let values : Data = array_of (map step_value steps) in
    let kind : Members = member (codes "type") (string (codes "rearrangeJob")) no_members in
    let last : Members = member (codes "steps") values kind in
    let later : Members = member (codes "begin") (number_value begin) (member (codes "end") (number_value end) last) in
    let from_kind : s₅ ≡ members_text true kind ++ [] = e₆ in
    let from_steps : 44 ∷ s₃ ≡ members_text true last ++ [] = ap (λ u. 44 ∷ u) e₄ ∙ member_of true (codes "steps") values kind s₄ s₅ [] e₅ from_kind in
    let from_times : s₁ ≡ members_text true later ++ [] = e₂ ∙ ap (λ u. 44 ∷ u) e₃ ∙ times_members true begin end last s₃ [] from_steps in
    let text : codes "{\"aod\":" ++ bytes ≡ compact_text (instr_value i) =
    ap (λ u. 123 ∷ u) (member_of false (codes "aod") (number_value aod) later bytes s₁ [] e₁ from_times) ∙ append-nil (compact_text (instr_value i)) in
    subst (λ b. IsInstrText b i) (sym text) (instr_text i (all_own aod steps all) (record { rises = rises; ends = ends; act = (id, all_fit aod steps all) }))
