-- Instructions with one value are one instruction.
use Rattle.std.proofs.Common.{◌≡◌, ℕ, true, false, ◌==◌, List, [], ◌∷◌, ◌++◌, map, Some, refl, sym, ap, ap₂, ◌∙◌, true≢false, IsTrue, subst}
use Rattle.std.specs.List.{list_all}
use Rattle.std.proofs.lemmas.Bool.{and_parts}
use Rattle.std.proofs.lemmas.List.{append_cancel_right}
use Rattle.std.proofs.lemmas.Bool.Decides.{Decides-eqb}
use Rattle.serde_json.specs.Data.{Data, string, object, Members, no_members, member}
use Rattle.serde_json.specs.Read.{read}
use Rattle.serde_json.specs.View.{items_of}
use Rattle.zac_arch.specs.declared.place.TrapId.{TrapId}
use Rattle.zac_gates.specs.declared.angle.Angles.{Angles}
use Rattle.zair_form.specs.declared.step.Beam.{Beam}
use Rattle.zair_form.specs.declared.step.Caught.{Caught}
use Rattle.zair_form.specs.declared.step.Dropped.{Dropped}
use Rattle.zair_form.specs.declared.step.OneGate.{OneGate}
use Rattle.zair_form.specs.declared.step.PairOf.{PairOf}
use Rattle.zair_form.specs.declared.step.ReadOf.{ReadOf}
use Rattle.zair_form.specs.declared.step.Step.{Step}
use Rattle.zair_form.specs.declared.step.Step.TheVariants.{Activate, Move, Deactivate, One, Pulse}
use Rattle.zair_form.specs.declared.step.Step.TheVariants as step
use Rattle.zair_form.specs.declared.program.Act.{Act}
use Rattle.zair_form.specs.declared.program.Act.TheVariants.{Init, Gates, Rydberg, Job, Readout}
use Rattle.zair_form.specs.declared.program.Instr.{Instr}
use Rattle.zair_form.specs.Steps.{is_step_of, has_own_steps}
use Rattle.zair_text.specs.Lines.{ReadsBack}
use Rattle.zair_text.specs.Values.{number_value, numbers, trap_value, beam_value, caught_value, dropped_value, pair_value, read_value, gate_value, step_value, act_value, instr_value}

-- values that tell their items apart tell lists apart
items_same : {X : Type 0} (f : X → Data) → ((x y : X) → f x ≡ f y → x ≡ y) → (xs ys : List X) → items_of (map f xs) ≡ items_of (map f ys) → xs ≡ ys
items_same f apart [] [] e = refl
items_same f apart [] (y ∷ ys) e = cc
items_same f apart (x ∷ xs) [] e = cc
items_same f apart (x ∷ xs) (y ∷ ys) e =
    let head : f x ≡ f y = cc in
    let tail : items_of (map f xs) ≡ items_of (map f ys) = cc in
    ap₂ (λ z zs. z ∷ zs) (apart x y head) (items_same f apart xs ys tail)

number_same : (m n : ℕ) → number_value m ≡ number_value n → m ≡ n
number_same m n e = cc

trap_same : (s t : TrapId) → trap_value s ≡ trap_value t → s ≡ t
trap_same s t e =
    let make : ℕ → TrapId = λ n. record { 0 = n } in
    let number : s.0 ≡ t.0 = cc in
    ap make number

-- what two numbers make, or three
two_same : {X : Type 0} (make : ℕ → ℕ → X) (x y x' y' : ℕ) → numbers (x ∷ y ∷ []) ≡ numbers (x' ∷ y' ∷ []) → make x y ≡ make x' y'
two_same make x y x' y' e =
    let first : x ≡ x' = cc in
    let second : y ≡ y' = cc in
    ap₂ make first second

three_same : {X : Type 0} (make : ℕ → ℕ → ℕ → X) (x y z x' y' z' : ℕ) → numbers (x ∷ y ∷ z ∷ []) ≡ numbers (x' ∷ y' ∷ z' ∷ []) → make x y z ≡ make x' y' z'
three_same make x y z x' y' z' e =
    let first : x ≡ x' = cc in
    let second : y ≡ y' = cc in
    let third : z ≡ z' = cc in
    ap (λ n. make n y z) first ∙ ap₂ (make x') second third

beam_same : (b c : Beam) → beam_value b ≡ beam_value c → b ≡ c
beam_same b c e =
    let make : ℕ → ℕ → Beam = λ i x. record { id = i; at = x } in
    two_same make b.id b.at c.id c.at e

caught_same : (b c : Caught) → caught_value b ≡ caught_value c → b ≡ c
caught_same b c e =
    let make : ℕ → ℕ → ℕ → Caught = λ x y z. record { q = x; row = y; column = z } in
    three_same make b.q b.row b.column c.q c.row c.column e

dropped_same : (b c : Dropped) → dropped_value b ≡ dropped_value c → b ≡ c
dropped_same b c e =
    let make : ℕ → ℕ → Dropped = λ x t. record { q = x; trap = record { 0 = t } } in
    two_same make b.q b.trap.0 c.q c.trap.0 e

pair_same : (b c : PairOf) → pair_value b ≡ pair_value c → b ≡ c
pair_same b c e =
    let make : ℕ → ℕ → ℕ → PairOf = λ x y z. record { op = x; a = y; b = z } in
    three_same make b.op b.a b.b c.op c.a c.b e

read_same : (b c : ReadOf) → read_value b ≡ read_value c → b ≡ c
read_same b c e =
    let make : ℕ → ℕ → ℕ → ReadOf = λ x y z. record { op = x; q = y; bit = z } in
    three_same make b.op b.q b.bit c.op c.q c.bit e

gate_same : (b c : OneGate) → gate_value b ≡ gate_value c → b ≡ c
gate_same b c e =
    let angles : List ℕ → List ℕ → List ℕ → Angles = λ x y z. record { theta = x; phi = y; lambda = z } in
    let make : ℕ → ℕ → Angles → OneGate = λ x y z. record { op = x; q = y; angles = z } in
    let op : b.op ≡ c.op = cc in
    let q : b.q ≡ c.q = cc in
    let theta : b.angles.theta ≡ c.angles.theta = cc in
    let phi : b.angles.phi ≡ c.angles.phi = cc in
    let lambda : b.angles.lambda ≡ c.angles.lambda = cc in
    let all : b.angles ≡ c.angles = ap (λ x. angles x b.angles.phi b.angles.lambda) theta ∙ ap₂ (angles c.angles.theta) phi lambda in
    ap (λ x. make x b.q b.angles) op ∙ ap₂ (make c.op) q all

-- the fourth letter of the last member's text: it tells the kinds of steps apart, and those of instructions
abbrev fourth : List ℕ → ℕ
fourth [] = 0
fourth (a ∷ []) = 0
fourth (a ∷ b ∷ []) = 0
fourth (a ∷ b ∷ c ∷ []) = 0
fourth (a ∷ b ∷ c ∷ d ∷ more) = d

abbrev text_mark : Data → ℕ
text_mark (string s) = fourth s
text_mark _ = 0

abbrev last_mark : Members → ℕ
last_mark no_members = 0
last_mark (member k d no_members) = text_mark d
last_mark (member k d (member l e ms)) = last_mark (member l e ms)

abbrev mark : Data → ℕ
mark (object ms) = last_mark ms
mark _ = 0

apart : (m n : ℕ) → (m == n) ≡ false → m ≡ n → ⊥
apart m n other e = true≢false (sym ((Decides-eqb m n).1 e) ∙ other)

aod_same : (a b aod : ℕ) → (a == aod) ≡ true → (b == aod) ≡ true → a ≡ b
aod_same a b aod h k = (Decides-eqb a aod).0 h ∙ sym ((Decides-eqb b aod).0 k)

step_same : (aod : ℕ) (s t : Step) → is_step_of aod s ≡ true → is_step_of aod t ≡ true → step_value s ≡ step_value t → s ≡ t
step_same aod (Activate a rows columns atoms) (Activate b rows' columns' atoms') h k e =
    let r : items_of (map beam_value rows) ≡ items_of (map beam_value rows') = cc in
    let x : items_of (map beam_value columns) ≡ items_of (map beam_value columns') = cc in
    let q : items_of (map caught_value atoms) ≡ items_of (map caught_value atoms') = cc in
    ap₂ (λ i l. Activate i l columns atoms) (aod_same a b aod h k) (items_same beam_value beam_same rows rows' r)
    ∙ ap₂ (Activate b rows') (items_same beam_value beam_same columns columns' x) (items_same caught_value caught_same atoms atoms' q)
step_same aod (Move a rows columns) (Move b rows' columns') h k e =
    let r : items_of (map beam_value rows) ≡ items_of (map beam_value rows') = cc in
    let x : items_of (map beam_value columns) ≡ items_of (map beam_value columns') = cc in
    ap (λ i. Move i rows columns) (aod_same a b aod h k)
    ∙ ap₂ (Move b) (items_same beam_value beam_same rows rows' r) (items_same beam_value beam_same columns columns' x)
step_same aod (Deactivate a rows columns atoms) (Deactivate b rows' columns' atoms') h k e =
    let r : items_of (map number_value rows) ≡ items_of (map number_value rows') = cc in
    let x : items_of (map number_value columns) ≡ items_of (map number_value columns') = cc in
    let q : items_of (map dropped_value atoms) ≡ items_of (map dropped_value atoms') = cc in
    ap₂ (λ i l. Deactivate i l columns atoms) (aod_same a b aod h k) (items_same number_value number_same rows rows' r)
    ∙ ap₂ (Deactivate b rows') (items_same number_value number_same columns columns' x) (items_same dropped_value dropped_same atoms atoms' q)
step_same aod (Activate a rows columns atoms) (Move b rows' columns') h k e = absurd (apart _ _ refl (ap mark e))
step_same aod (Activate a rows columns atoms) (Deactivate b rows' columns' atoms') h k e = absurd (apart _ _ refl (ap mark e))
step_same aod (Move a rows columns) (Activate b rows' columns' atoms') h k e = absurd (apart _ _ refl (ap mark e))
step_same aod (Move a rows columns) (Deactivate b rows' columns' atoms') h k e = absurd (apart _ _ refl (ap mark e))
step_same aod (Deactivate a rows columns atoms) (Activate b rows' columns' atoms') h k e = absurd (apart _ _ refl (ap mark e))
step_same aod (Deactivate a rows columns atoms) (Move b rows' columns') h k e = absurd (apart _ _ refl (ap mark e))
step_same aod (One gate) t h k e = absurd (true≢false (sym h))
step_same aod (Pulse pairs) t h k e = absurd (true≢false (sym h))
step_same aod (step.Readout reads) t h k e = absurd (true≢false (sym h))
step_same aod s (One gate) h k e = absurd (true≢false (sym k))
step_same aod s (Pulse pairs) h k e = absurd (true≢false (sym k))
step_same aod s (step.Readout reads) h k e = absurd (true≢false (sym k))

steps_same : (aod : ℕ) (ss ts : List Step) → list_all (is_step_of aod) ss ≡ true → list_all (is_step_of aod) ts ≡ true → items_of (map step_value ss) ≡ items_of (map step_value ts) → ss ≡ ts
steps_same aod [] [] h k e = refl
steps_same aod [] (t ∷ ts) h k e = cc
steps_same aod (s ∷ ss) [] h k e = cc
steps_same aod (s ∷ ss) (t ∷ ts) h k e =
    let own = and_parts (is_step_of aod s) _ h in
    let owned = and_parts (is_step_of aod t) _ k in
    let head : step_value s ≡ step_value t = cc in
    let tail : items_of (map step_value ss) ≡ items_of (map step_value ts) = cc in
    ap₂ (λ z zs. z ∷ zs) (step_same aod s t own.0 owned.0 head) (steps_same aod ss ts own.1 owned.1 tail)

act_same : (m n : ℕ) (a : Act) (m' n' : ℕ) (b : Act) → has_own_steps a ≡ true → has_own_steps b ≡ true → act_value m n a ≡ act_value m' n' b → (m ≡ m') × (n ≡ n') × (a ≡ b)
act_same m n (Init xs) m' n' (Init ys) h k e =
    let items : items_of (map trap_value xs) ≡ items_of (map trap_value ys) = cc in
    (cc, cc, ap Init (items_same trap_value trap_same xs ys items))
act_same m n (Gates xs) m' n' (Gates ys) h k e =
    let items : items_of (map gate_value xs) ≡ items_of (map gate_value ys) = cc in
    (cc, cc, ap Gates (items_same gate_value gate_same xs ys items))
act_same m n (Rydberg xs) m' n' (Rydberg ys) h k e =
    let items : items_of (map pair_value xs) ≡ items_of (map pair_value ys) = cc in
    (cc, cc, ap Rydberg (items_same pair_value pair_same xs ys items))
act_same m n (Job aod xs) m' n' (Job aod' ys) h k e =
    let one : aod ≡ aod' = cc in
    let items : items_of (map step_value xs) ≡ items_of (map step_value ys) = cc in
    let P : ℕ → Type 0 = λ i. list_all (is_step_of i) ys ≡ true in
    (cc, cc, ap₂ Job one (steps_same aod xs ys h (subst P (sym one) k) items))
act_same m n (Readout xs) m' n' (Readout ys) h k e =
    let items : items_of (map read_value xs) ≡ items_of (map read_value ys) = cc in
    (cc, cc, ap Readout (items_same read_value read_same xs ys items))
act_same m n a m' n' b h k e = absurd (apart (mark (act_value m n a)) (mark (act_value m' n' b)) refl (ap mark e))

pub instr_same : (i j : Instr) → IsTrue (has_own_steps i.act) → IsTrue (has_own_steps j.act) → instr_value i ≡ instr_value j → i ≡ j
instr_same i j h k e =
    let make : ℕ → ℕ → Act → Instr = λ m n a. record { begin = m; end = n; act = a } in
    let same = act_same i.begin i.end i.act j.begin j.end j.act h k e in
    ap (λ m. make m i.end i.act) same.0 ∙ ap₂ (make j.begin) same.1 same.2

front_same : (s t : List ℕ) → s ++ 10 ∷ [] ≡ t ++ 10 ∷ [] → s ≡ t
front_same s t e = append_cancel_right s t (10 ∷ []) e

-- a line reads back as one value
pub value_same : (v w : Data) (bytes : List ℕ) → ReadsBack v bytes → ReadsBack w bytes → v ≡ w
value_same v w bytes p q =
    let text : p.text ≡ q.text = front_same p.text q.text (sym p.ended ∙ q.ended) in
    let both : Some v ≡ Some w = sym p.value_read ∙ ap read text ∙ q.value_read in
    cc
