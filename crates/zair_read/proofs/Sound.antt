-- What a value tells is what it is the value of, and in range.
use Rattle.std.proofs.Common.{◌≡◌, ℕ, ◌≤◌, ◌<◌, ◌^◌, Bool, true, false, ◌&&◌, ◌==◌, nat_le, if◌then◌else◌, List, [], ◌∷◌, map, codes, Option, Some, None, option_and_then, bytes_eq, IsTrue, refl, sym, ap, ap₂, ◌∙◌, subst, arith, leb-true, true≢false}
use Rattle.std.proofs.lemmas.Bool.{and_parts, and_from}
use Rattle.std.proofs.lemmas.Bool.Decides.{Decides-eqb}
use Rattle.std.proofs.lemmas.Option.{none-some, same_Some}
use Rattle.std.proofs.lemmas.Slice.Eq.{bytes_eq-Decides}
use Rattle.std.specs.List.{AllByRecursion, list_all}
use Rattle.serde_json.specs.Data.{Num, unsigned, negative, float, Data, null, boolean, number, string, array, object, Items, no_items, item, Members, no_members, member}
use Rattle.serde_json.specs.Find.{as_number, as_u64, as_str, as_array, as_object}
use Rattle.serde_json.specs.View.{items_of}
use Rattle.zac_gates.specs.Angle.{is_angle}
use Rattle.zac_gates.specs.declared.angle.Angles.{Angles}
use Rattle.zair_form.specs.Ranges.{IsId, IsNumber, AnglesFit, BeamFits, CaughtFits, DroppedFits, GateFits, PairFits, ReadFits, StepFits, ActFits, InstrFits}
use Rattle.zair_form.specs.Steps.{is_step_of, has_own_steps}
use Rattle.zair_form.specs.declared.step.Step.{Step}
use Rattle.zair_form.specs.declared.step.Step.TheVariants.{Activate, Move, Deactivate}
use Rattle.zair_form.specs.declared.program.Act.{Act}
use Rattle.zair_form.specs.declared.program.Act.TheVariants.{Init, Gates, Rydberg, Job, Readout}
use Rattle.zair_form.specs.declared.program.Instr.{Instr}
use Rattle.zair_text.specs.Values.{number_value, array_of, numbers, trap_value, beam_value, caught_value, dropped_value, pair_value, read_value, gate_value, activate_value, move_value, deactivate_value, step_value, act_value, instr_value, header_value, end_value}
use Rattle.zair_text.specs.declared.counts.Totals.{Totals}
use Rattle.zair_read.specs.Told.{◌>>=◌, number_up_to, told_id, told_number, told_position, two_items, told_two, three_items, told_three, told_items, told_list, told_trap, told_beam, told_caught, told_dropped, told_pair, told_read, field, is_end, number_field, is_the_text, is_word, ends_with, told_angle, told_angles, gate_parts, told_gate, beams_fields, atoms_parts, move_parts, told_or, told_activate, told_move, told_deactivate, told_step, times_fields, timed_parts, job_parts, timed, told_init, told_gates, told_rydberg, told_readout, told_job, told_instr, header_parts, first_counts, later_counts, told_totals}

-- ---- steps of a reading

pub bound : {A B : Type 0} (o : Option A) (f : A → Option B) (y : B) → (o >>= f) ≡ Some y → (a : A) × (o ≡ Some a) × (f a ≡ Some y)
bound None f y e = absurd (none-some y e)
bound (Some a) f y e = (a, refl, e)

pub tested : {A : Type 0} (b : Bool) (a y : A) → (if b then Some a else None) ≡ Some y → (b ≡ true) × (a ≡ y)
tested true a y e = (refl, same_Some a y e)
tested false a y e = absurd (none-some y e)

-- one of two readings told it
data Told (A B : Type 0) (o : Option A) (f : A → Option B) (other : Option B) (y : B) : Type 0 where
  by_first : (a : A) → o ≡ Some a → f a ≡ Some y → Told A B o f other y
  by_other : other ≡ Some y → Told A B o f other y

either_told : {A B : Type 0} (o : Option A) (f : A → Option B) (other : Option B) (y : B) → told_or o f other ≡ Some y → Told A B o f other y
either_told None f other y e = by_other e
either_told (Some a) f other y e = by_first a refl e

-- ---- numbers

whole_num : (n : Num) (m : ℕ) → as_u64 n ≡ Some m → number n ≡ number_value m
whole_num (unsigned n) m e = ap number_value (same_Some n m e)
whole_num (negative z) m e = absurd (none-some m e)
whole_num (float x) m e = absurd (none-some m e)

whole : (d : Data) (m : ℕ) → option_and_then as_u64 (as_number d) ≡ Some m → d ≡ number_value m
whole null m e = absurd (none-some m e)
whole (boolean b) m e = absurd (none-some m e)
whole (number n) m e = whole_num n m e
whole (string s) m e = absurd (none-some m e)
whole (array ds) m e = absurd (none-some m e)
whole (object ms) m e = absurd (none-some m e)

pub number_sound : (most : ℕ) (d : Data) (n : ℕ) → number_up_to most d ≡ Some n → (d ≡ number_value n) × (n ≤ most)
number_sound most d n e =
    let p = bound (option_and_then as_u64 (as_number d)) (λ m. if nat_le m most then Some m else None) n e in
    let q = tested (nat_le p.0 most) p.0 n p.2 in
    (whole d p.0 p.1 ∙ ap number_value q.1, subst (λ m. m ≤ most) q.1 (leb-true p.0 most q.0))

below : (n : ℕ) → n ≤ 4294967295 → n < 2 ^ 32
below n h = omega arith

-- ---- arrays

an_array : (d : Data) (ds : Items) → as_array d ≡ Some ds → d ≡ array ds
an_array null ds e = absurd (none-some ds e)
an_array (boolean b) ds e = absurd (none-some ds e)
an_array (number n) ds e = absurd (none-some ds e)
an_array (string s) ds e = absurd (none-some ds e)
an_array (array es) ds e = ap array (same_Some es ds e)
an_array (object ms) ds e = absurd (none-some ds e)

two_items_sound : (ds : Items) (p : Data × Data) → two_items ds ≡ Some p → ds ≡ item p.0 (item p.1 no_items)
two_items_sound no_items p e = absurd (none-some p e)
two_items_sound (item a no_items) p e = absurd (none-some p e)
two_items_sound (item a (item b no_items)) p e = ap (λ (q : Data × Data). item q.0 (item q.1 no_items)) (same_Some {A = Data × Data} (a, b) p e)
two_items_sound (item a (item b (item c ds))) p e = absurd (none-some p e)

two_sound : (d : Data) (p : Data × Data) → told_two d ≡ Some p → d ≡ array_of (p.0 ∷ p.1 ∷ [])
two_sound d p e =
    let q = bound (as_array d) two_items p e in
    an_array d q.0 q.1 ∙ ap array (two_items_sound q.0 p q.2)

three_items_sound : (ds : Items) (p : Data × Data × Data) → three_items ds ≡ Some p → ds ≡ item p.0 (item p.1 (item p.2 no_items))
three_items_sound no_items p e = absurd (none-some p e)
three_items_sound (item a no_items) p e = absurd (none-some p e)
three_items_sound (item a (item b no_items)) p e = absurd (none-some p e)
three_items_sound (item a (item b (item c no_items))) p e = ap (λ (q : Data × Data × Data). item q.0 (item q.1 (item q.2 no_items))) (same_Some {A = Data × Data × Data} (a, b, c) p e)
three_items_sound (item a (item b (item c (item d ds)))) p e = absurd (none-some p e)

three_sound : (d : Data) (p : Data × Data × Data) → told_three d ≡ Some p → d ≡ array_of (p.0 ∷ p.1 ∷ p.2 ∷ [])
three_sound d p e =
    let q = bound (as_array d) three_items p e in
    an_array d q.0 q.1 ∙ ap array (three_items_sound q.0 p q.2)

-- two numbers, or three
two_numbers : (d : Data) (p : Data × Data) (x y : ℕ) → told_two d ≡ Some p → p.0 ≡ number_value x → p.1 ≡ number_value y → d ≡ numbers (x ∷ y ∷ [])
two_numbers d p x y e h k = two_sound d p e ∙ ap₂ (λ a b. array_of (a ∷ b ∷ [])) h k

three_numbers : (d : Data) (p : Data × Data × Data) (x y z : ℕ) → told_three d ≡ Some p → p.0 ≡ number_value x → p.1 ≡ number_value y → p.2 ≡ number_value z → d ≡ numbers (x ∷ y ∷ z ∷ [])
three_numbers d p x y z e h k l = three_sound d p e ∙ ap₂ (λ a b. array_of (a ∷ b ∷ p.2 ∷ [])) h k ∙ ap (λ c. array_of (number_value x ∷ number_value y ∷ c ∷ [])) l

-- what is told is sound: the value is that of what it tells, which is in range
abbrev IsSound : {A : Type 0} → (A → Data) → (A → Type 0) → (Data → Option A) → Type 0
IsSound {A} value Fits told = (d : Data) (a : A) → told d ≡ Some a → (d ≡ value a) × Fits a

module _ {A : Type 0} (value : A → Data) (Fits : A → Type 0) (told : Data → Option A) (sound : IsSound value Fits told) where
  items_sound : (ds : Items) (xs : List A) → told_items told ds ≡ Some xs → (ds ≡ items_of (map value xs)) × AllByRecursion Fits xs
  items_sound no_items xs e =
      subst (λ ys. (no_items ≡ items_of (map value ys)) × AllByRecursion Fits ys) (same_Some [] xs e) (refl, tt)
  items_sound (item d ds) xs e =
      let p = bound (told d) (λ a. told_items told ds >>= (λ as'. Some (a ∷ as'))) xs e in
      let q = bound (told_items told ds) (λ as'. Some (p.0 ∷ as')) xs p.2 in
      let here = sound d p.0 p.1 in
      let rest = items_sound ds q.0 q.1 in
      subst (λ ys. (item d ds ≡ items_of (map value ys)) × AllByRecursion Fits ys) (same_Some (p.0 ∷ q.0) xs q.2) (ap₂ item here.0 rest.0, (here.1, rest.1))

  list_sound : (d : Data) (xs : List A) → told_list told d ≡ Some xs → (d ≡ array_of (map value xs)) × AllByRecursion Fits xs
  list_sound d xs e =
      let p = bound (as_array d) (told_items told) xs e in
      let q = items_sound p.0 xs p.2 in
      (an_array d p.0 p.1 ∙ ap array q.0, q.1)

-- ---- the parts of steps

trap_sound : IsSound trap_value (λ t. IsNumber t.0) told_trap
trap_sound d t e =
    let p = bound (told_number d) (λ n. Some (record { 0 = n })) t e in
    let n = number_sound 4294967295 d p.0 p.1 in
    subst (λ x. (d ≡ trap_value x) × IsNumber x.0) (same_Some (record { 0 = p.0 }) t p.2) (n.0, below p.0 n.1)

beam_sound : IsSound beam_value BeamFits told_beam
beam_sound d b e =
    let p = bound (told_two d) (λ p. told_id p.0 >>= (λ id. told_position p.1 >>= (λ at. Some (record { id = id; at = at })))) b e in
    let q = bound (told_id p.0.0) (λ id. told_position p.0.1 >>= (λ at. Some (record { id = id; at = at }))) b p.2 in
    let r = bound (told_position p.0.1) (λ at. Some (record { id = q.0; at = at })) b q.2 in
    let id = number_sound 255 p.0.0 q.0 q.1 in
    let at = number_sound 1000000 p.0.1 r.0 r.1 in
    subst (λ x. (d ≡ beam_value x) × BeamFits x) (same_Some (record { id = q.0; at = r.0 }) b r.2) (two_numbers d p.0 q.0 r.0 p.1 id.0 at.0, (id.1, at.1))

dropped_sound : IsSound dropped_value DroppedFits told_dropped
dropped_sound d b e =
    let p = bound (told_two d) (λ p. told_number p.0 >>= (λ q. told_trap p.1 >>= (λ t. Some (record { q = q; trap = t })))) b e in
    let q = bound (told_number p.0.0) (λ q. told_trap p.0.1 >>= (λ t. Some (record { q = q; trap = t }))) b p.2 in
    let r = bound (told_trap p.0.1) (λ t. Some (record { q = q.0; trap = t })) b q.2 in
    let qubit = number_sound 4294967295 p.0.0 q.0 q.1 in
    let trap = trap_sound p.0.1 r.0 r.1 in
    subst (λ x. (d ≡ dropped_value x) × DroppedFits x) (same_Some (record { q = q.0; trap = r.0 }) b r.2) (two_numbers d p.0 q.0 r.0.0 p.1 qubit.0 trap.0, (below q.0 qubit.1, trap.1))

caught_sound : IsSound caught_value CaughtFits told_caught
caught_sound d b e =
    let p = bound (told_three d) (λ p. told_number p.0 >>= (λ q. told_id p.1 >>= (λ row. told_id p.2 >>= (λ column. Some (record { q = q; row = row; column = column }))))) b e in
    let q = bound (told_number p.0.0) (λ q. told_id p.0.1 >>= (λ row. told_id p.0.2 >>= (λ column. Some (record { q = q; row = row; column = column })))) b p.2 in
    let r = bound (told_id p.0.1) (λ row. told_id p.0.2 >>= (λ column. Some (record { q = q.0; row = row; column = column }))) b q.2 in
    let s = bound (told_id p.0.2) (λ column. Some (record { q = q.0; row = r.0; column = column })) b r.2 in
    let x = number_sound 4294967295 p.0.0 q.0 q.1 in
    let y = number_sound 255 p.0.1 r.0 r.1 in
    let z = number_sound 255 p.0.2 s.0 s.1 in
    subst (λ x. (d ≡ caught_value x) × CaughtFits x) (same_Some (record { q = q.0; row = r.0; column = s.0 }) b s.2) (three_numbers d p.0 q.0 r.0 s.0 p.1 x.0 y.0 z.0, (below q.0 x.1, y.1, z.1))

pair_sound : IsSound pair_value PairFits told_pair
pair_sound d b e =
    let p = bound (told_three d) (λ p. told_number p.0 >>= (λ op. told_number p.1 >>= (λ a. told_number p.2 >>= (λ b. Some (record { op = op; a = a; b = b }))))) b e in
    let q = bound (told_number p.0.0) (λ op. told_number p.0.1 >>= (λ a. told_number p.0.2 >>= (λ b. Some (record { op = op; a = a; b = b })))) b p.2 in
    let r = bound (told_number p.0.1) (λ a. told_number p.0.2 >>= (λ b. Some (record { op = q.0; a = a; b = b }))) b q.2 in
    let s = bound (told_number p.0.2) (λ b. Some (record { op = q.0; a = r.0; b = b })) b r.2 in
    let x = number_sound 4294967295 p.0.0 q.0 q.1 in
    let y = number_sound 4294967295 p.0.1 r.0 r.1 in
    let z = number_sound 4294967295 p.0.2 s.0 s.1 in
    subst (λ x. (d ≡ pair_value x) × PairFits x) (same_Some (record { op = q.0; a = r.0; b = s.0 }) b s.2) (three_numbers d p.0 q.0 r.0 s.0 p.1 x.0 y.0 z.0, (below q.0 x.1, below r.0 y.1, below s.0 z.1))

read_sound : IsSound read_value ReadFits told_read
read_sound d b e =
    let p = bound (told_three d) (λ p. told_number p.0 >>= (λ op. told_number p.1 >>= (λ q. told_number p.2 >>= (λ bit. Some (record { op = op; q = q; bit = bit }))))) b e in
    let q = bound (told_number p.0.0) (λ op. told_number p.0.1 >>= (λ q. told_number p.0.2 >>= (λ bit. Some (record { op = op; q = q; bit = bit })))) b p.2 in
    let r = bound (told_number p.0.1) (λ q'. told_number p.0.2 >>= (λ bit. Some (record { op = q.0; q = q'; bit = bit }))) b q.2 in
    let s = bound (told_number p.0.2) (λ bit. Some (record { op = q.0; q = r.0; bit = bit })) b r.2 in
    let x = number_sound 4294967295 p.0.0 q.0 q.1 in
    let y = number_sound 4294967295 p.0.1 r.0 r.1 in
    let z = number_sound 4294967295 p.0.2 s.0 s.1 in
    subst (λ x. (d ≡ read_value x) × ReadFits x) (same_Some (record { op = q.0; q = r.0; bit = s.0 }) b s.2) (three_numbers d p.0 q.0 r.0 s.0 p.1 x.0 y.0 z.0, (below q.0 x.1, below r.0 y.1, below s.0 z.1))

-- ---- the members of an object

an_object : (d : Data) (ms : Members) → as_object d ≡ Some ms → d ≡ object ms
an_object null ms e = absurd (none-some ms e)
an_object (boolean b) ms e = absurd (none-some ms e)
an_object (number n) ms e = absurd (none-some ms e)
an_object (string s) ms e = absurd (none-some ms e)
an_object (array ds) ms e = absurd (none-some ms e)
an_object (object ns) ms e = ap object (same_Some ns ms e)

same_bytes : (s t : List ℕ) → bytes_eq s t ≡ true → s ≡ t
same_bytes s t e = (bytes_eq-Decides s t).0 e

field_sound : (key : List ℕ) (ms : Members) (p : Data × Members) → field key ms ≡ Some p → ms ≡ member key p.0 p.1
field_sound key no_members p e = absurd (none-some p e)
field_sound key (member k d ms) p e =
    let q = tested {A = Data × Members} (bytes_eq k key) (d, ms) p e in
    ap (λ l. member l d ms) (same_bytes k key q.0) ∙ ap (λ (r : Data × Members). member key r.0 r.1) q.1

end_sound : (ms : Members) → is_end ms ≡ true → ms ≡ no_members
end_sound no_members e = refl
end_sound (member k d ms) e = absurd (true≢false (sym e))

number_field_sound : (key : List ℕ) (most : ℕ) (ms : Members) (p : ℕ × Members) → number_field key most ms ≡ Some p → (ms ≡ member key (number_value p.0) p.1) × (p.0 ≤ most)
number_field_sound key most ms p e =
    let q = bound {B = ℕ × Members} (field key ms) (λ f. number_up_to most f.0 >>= (λ n. Some (n, f.1))) p e in
    let r = bound {B = ℕ × Members} (number_up_to most q.0.0) (λ n. Some (n, q.0.1)) p q.2 in
    let n = number_sound most q.0.0 r.0 r.1 in
    subst (λ (x : ℕ × Members). (ms ≡ member key (number_value x.0) x.1) × (x.0 ≤ most)) (same_Some {A = ℕ × Members} (r.0, q.0.1) p r.2)
    (field_sound key ms q.0 q.1 ∙ ap (λ d. member key d q.0.1) n.0, n.1)

a_text : (word : List ℕ) (o : Option (List ℕ)) → is_the_text word o ≡ true → o ≡ Some word
a_text word None e = absurd (true≢false (sym e))
a_text word (Some s) e = ap (λ (t : List ℕ). Some t) (same_bytes s word e)

a_string : (d : Data) (s : List ℕ) → as_str d ≡ Some s → d ≡ string s
a_string null s e = absurd (none-some s e)
a_string (boolean b) s e = absurd (none-some s e)
a_string (number n) s e = absurd (none-some s e)
a_string (string t) s e = ap string (same_Some t s e)
a_string (array ds) s e = absurd (none-some s e)
a_string (object ms) s e = absurd (none-some s e)

word_sound : (word : List ℕ) (d : Data) → is_word word d ≡ true → d ≡ string word
word_sound word d e = a_string d word (a_text word (as_str d) e)

ends_sound : (key word : List ℕ) (ms : Members) → ends_with key word ms ≡ true → ms ≡ member key (string word) no_members
ends_sound key word no_members e = absurd (true≢false (sym e))
ends_sound key word (member k d ms) e =
    let p = and_parts (bytes_eq k key) (is_word word d && is_end ms) e in
    let q = and_parts (is_word word d) (is_end ms) p.1 in
    ap (λ l. member l d ms) (same_bytes k key p.0) ∙ ap₂ (member key) (word_sound word d q.0) (end_sound ms q.1)

-- ---- gates

angle_sound : (d : Data) (s : List ℕ) → told_angle d ≡ Some s → (d ≡ string s) × IsTrue (is_angle s)
angle_sound d s e =
    let p = bound (as_str d) (λ t. if is_angle t then Some t else None) s e in
    let q = tested (is_angle p.0) p.0 s p.2 in
    subst (λ t. (d ≡ string t) × IsTrue (is_angle t)) q.1 (a_string d p.0 p.1, q.0)

angles_sound : (d : Data) (a : Angles) → told_angles d ≡ Some a → (d ≡ array_of (string a.theta ∷ string a.phi ∷ string a.lambda ∷ [])) × AnglesFit a
angles_sound d a e =
    let p = bound (told_three d) (λ p. told_angle p.0 >>= (λ theta. told_angle p.1 >>= (λ phi. told_angle p.2 >>= (λ lambda. Some (record { theta = theta; phi = phi; lambda = lambda }))))) a e in
    let q = bound (told_angle p.0.0) (λ theta. told_angle p.0.1 >>= (λ phi. told_angle p.0.2 >>= (λ lambda. Some (record { theta = theta; phi = phi; lambda = lambda })))) a p.2 in
    let r = bound (told_angle p.0.1) (λ phi. told_angle p.0.2 >>= (λ lambda. Some (record { theta = q.0; phi = phi; lambda = lambda }))) a q.2 in
    let s = bound (told_angle p.0.2) (λ lambda. Some (record { theta = q.0; phi = r.0; lambda = lambda })) a r.2 in
    let x = angle_sound p.0.0 q.0 q.1 in
    let y = angle_sound p.0.1 r.0 r.1 in
    let z = angle_sound p.0.2 s.0 s.1 in
    let is : d ≡ array_of (string q.0 ∷ string r.0 ∷ string s.0 ∷ []) =
    three_sound d p.0 p.1 ∙ ap₂ (λ a b. array_of (a ∷ b ∷ p.0.2 ∷ [])) x.0 y.0 ∙ ap (λ c. array_of (string q.0 ∷ string r.0 ∷ c ∷ [])) z.0 in
    subst (λ a. (d ≡ array_of (string a.theta ∷ string a.phi ∷ string a.lambda ∷ [])) × AnglesFit a) (same_Some (record { theta = q.0; phi = r.0; lambda = s.0 }) a s.2) (is, (x.1, y.1, z.1))

gate_object : ℕ → ℕ → Data → Data
gate_object op q u = object (member (codes "op") (number_value op) (member (codes "q") (number_value q) (member (codes "u") u no_members)))

gate_parts_sound : (d : Data) (p : ℕ × ℕ × Data) → gate_parts d ≡ Some p → (d ≡ gate_object p.0 p.1 p.2) × (p.0 ≤ 4294967295) × (p.1 ≤ 4294967295)
unfolding gate_object
gate_parts_sound d p e =
    let ms = bound {B = ℕ × ℕ × Data} (as_object d) (λ ms. number_field (codes "op") 4294967295 ms >>= (λ op. number_field (codes "q") 4294967295 op.1 >>= (λ q. field (codes "u") q.1 >>= (λ u. if is_end u.1 then Some (op.0, q.0, u.0) else None)))) p e in
    let op = bound {B = ℕ × ℕ × Data} (number_field (codes "op") 4294967295 ms.0) (λ op. number_field (codes "q") 4294967295 op.1 >>= (λ q. field (codes "u") q.1 >>= (λ u. if is_end u.1 then Some (op.0, q.0, u.0) else None))) p ms.2 in
    let q = bound {B = ℕ × ℕ × Data} (number_field (codes "q") 4294967295 op.0.1) (λ q. field (codes "u") q.1 >>= (λ u. if is_end u.1 then Some (op.0.0, q.0, u.0) else None)) p op.2 in
    let u = bound {B = ℕ × ℕ × Data} (field (codes "u") q.0.1) (λ u. if is_end u.1 then Some (op.0.0, q.0.0, u.0) else None) p q.2 in
    let t = tested {A = ℕ × ℕ × Data} (is_end u.0.1) (op.0.0, q.0.0, u.0.0) p u.2 in
    let x = number_field_sound (codes "op") 4294967295 ms.0 op.0 op.1 in
    let y = number_field_sound (codes "q") 4294967295 op.0.1 q.0 q.1 in
    let is : d ≡ gate_object op.0.0 q.0.0 u.0.0 =
    an_object d ms.0 ms.1 ∙ ap object (x.0 ∙ ap (member (codes "op") (number_value op.0.0)) (y.0 ∙ ap (member (codes "q") (number_value q.0.0)) (field_sound (codes "u") q.0.1 u.0 u.1 ∙ ap (member (codes "u") u.0.0) (end_sound u.0.1 t.0)))) in
    subst (λ (p : ℕ × ℕ × Data). (d ≡ gate_object p.0 p.1 p.2) × (p.0 ≤ 4294967295) × (p.1 ≤ 4294967295)) t.1 (is, x.1, y.1)

gate_sound : IsSound gate_value GateFits told_gate
unfolding gate_object
gate_sound d g e =
    let p = bound (gate_parts d) (λ p. told_angles p.2 >>= (λ angles. Some (record { op = p.0; q = p.1; angles = angles }))) g e in
    let q = bound (told_angles p.0.2) (λ angles. Some (record { op = p.0.0; q = p.0.1; angles = angles })) g p.2 in
    let x = gate_parts_sound d p.0 p.1 in
    let y = angles_sound p.0.2 q.0 q.1 in
    subst (λ g. (d ≡ gate_value g) × GateFits g) (same_Some (record { op = p.0.0; q = p.0.1; angles = q.0 }) g q.2)
    (x.0 ∙ ap (gate_object p.0.0 p.0.1) y.0, (below p.0.0 x.1, below p.0.1 x.2, y.1))

-- ---- steps

beams_members : Data → Data → Members → Members
beams_members columns rows rest = member (codes "columns") columns (member (codes "rows") rows rest)

beams_fields_sound : (ms : Members) (p : Data × Data × Members) → beams_fields ms ≡ Some p → ms ≡ beams_members p.0 p.1 p.2
unfolding beams_members
beams_fields_sound ms p e =
    let columns = bound {B = Data × Data × Members} (field (codes "columns") ms) (λ columns. field (codes "rows") columns.1 >>= (λ rows. Some (columns.0, rows.0, rows.1))) p e in
    let rows = bound {B = Data × Data × Members} (field (codes "rows") columns.0.1) (λ rows. Some (columns.0.0, rows.0, rows.1)) p columns.2 in
    field_sound (codes "columns") ms columns.0 columns.1 ∙ ap (member (codes "columns") columns.0.0) (field_sound (codes "rows") columns.0.1 rows.0 rows.1)
    ∙ ap (λ (p : Data × Data × Members). beams_members p.0 p.1 p.2) (same_Some {A = Data × Data × Members} (columns.0.0, rows.0.0, rows.0.1) p rows.2)

named : List ℕ → Members
named word = member (codes "step") (string word) no_members

atoms_parts_sound : (word : List ℕ) (d : Data) (p : Data × Data × Data) → atoms_parts word d ≡ Some p → d ≡ object (member (codes "atoms") p.0 (beams_members p.1 p.2 (named word)))
unfolding named
atoms_parts_sound word d p e =
    let ms = bound {B = Data × Data × Data} (as_object d) (λ ms. field (codes "atoms") ms >>= (λ atoms. beams_fields atoms.1 >>= (λ beams. if ends_with (codes "step") word beams.2 then Some (atoms.0, beams.0, beams.1) else None))) p e in
    let atoms = bound {B = Data × Data × Data} (field (codes "atoms") ms.0) (λ atoms. beams_fields atoms.1 >>= (λ beams. if ends_with (codes "step") word beams.2 then Some (atoms.0, beams.0, beams.1) else None)) p ms.2 in
    let beams = bound {B = Data × Data × Data} (beams_fields atoms.0.1) (λ beams. if ends_with (codes "step") word beams.2 then Some (atoms.0.0, beams.0, beams.1) else None) p atoms.2 in
    let t = tested {A = Data × Data × Data} (ends_with (codes "step") word beams.0.2) (atoms.0.0, beams.0.0, beams.0.1) p beams.2 in
    an_object d ms.0 ms.1
    ∙ ap object (field_sound (codes "atoms") ms.0 atoms.0 atoms.1
    ∙ ap (member (codes "atoms") atoms.0.0) (beams_fields_sound atoms.0.1 beams.0 beams.1 ∙ ap (beams_members beams.0.0 beams.0.1) (ends_sound (codes "step") word beams.0.2 t.0)))
    ∙ ap (λ (p : Data × Data × Data). object (member (codes "atoms") p.0 (beams_members p.1 p.2 (named word)))) t.1

move_parts_sound : (d : Data) (p : Data × Data) → move_parts d ≡ Some p → d ≡ object (beams_members p.0 p.1 (named (codes "move")))
unfolding named
move_parts_sound d p e =
    let ms = bound {B = Data × Data} (as_object d) (λ ms. beams_fields ms >>= (λ beams. if ends_with (codes "step") (codes "move") beams.2 then Some (beams.0, beams.1) else None)) p e in
    let beams = bound {B = Data × Data} (beams_fields ms.0) (λ beams. if ends_with (codes "step") (codes "move") beams.2 then Some (beams.0, beams.1) else None) p ms.2 in
    let t = tested {A = Data × Data} (ends_with (codes "step") (codes "move") beams.0.2) (beams.0.0, beams.0.1) p beams.2 in
    an_object d ms.0 ms.1
    ∙ ap object (beams_fields_sound ms.0 beams.0 beams.1 ∙ ap (beams_members beams.0.0 beams.0.1) (ends_sound (codes "step") (codes "move") beams.0.2 t.0))
    ∙ ap (λ (p : Data × Data). object (beams_members p.0 p.1 (named (codes "move")))) t.1

id_sound : IsSound number_value IsId told_id
id_sound d n e = number_sound 255 d n e

-- a step that is told is one of this AOD
abbrev IsStepOf : ℕ → Data → Step → Type 0
IsStepOf aod d s = (d ≡ step_value s) × ((is_step_of aod s ≡ true) × StepFits s)

same_aod : (aod : ℕ) → (aod == aod) ≡ true
same_aod aod = (Decides-eqb aod aod).1 refl

activate_sound : (aod : ℕ) → IsId aod → (p : Data × Data × Data) (s : Step) → told_activate aod p ≡ Some s → IsStepOf aod (object (member (codes "atoms") p.0 (beams_members p.1 p.2 (named (codes "activate"))))) s
unfolding beams_members named
activate_sound aod id p s e =
    let atoms = bound (told_list told_caught p.0) (λ atoms. told_list told_beam p.1 >>= (λ columns. told_list told_beam p.2 >>= (λ rows. Some (Activate aod rows columns atoms)))) s e in
    let columns = bound (told_list told_beam p.1) (λ columns. told_list told_beam p.2 >>= (λ rows. Some (Activate aod rows columns atoms.0))) s atoms.2 in
    let rows = bound (told_list told_beam p.2) (λ rows. Some (Activate aod rows columns.0 atoms.0)) s columns.2 in
    let x = list_sound caught_value CaughtFits told_caught caught_sound p.0 atoms.0 atoms.1 in
    let y = list_sound beam_value BeamFits told_beam beam_sound p.1 columns.0 columns.1 in
    let z = list_sound beam_value BeamFits told_beam beam_sound p.2 rows.0 rows.1 in
    let d : Data = object (member (codes "atoms") p.0 (beams_members p.1 p.2 (named (codes "activate")))) in
    let is : d ≡ activate_value rows.0 columns.0 atoms.0 =
    ap (λ a. object (member (codes "atoms") a (beams_members p.1 p.2 (named (codes "activate"))))) x.0
    ∙ ap₂ (λ b c. object (member (codes "atoms") (array_of (map caught_value atoms.0)) (beams_members b c (named (codes "activate"))))) y.0 z.0 in
    subst (IsStepOf aod d) (same_Some (Activate aod rows.0 columns.0 atoms.0) s rows.2) (is, (same_aod aod, (id, z.1, y.1, x.1)))

deactivate_sound : (aod : ℕ) → IsId aod → (p : Data × Data × Data) (s : Step) → told_deactivate aod p ≡ Some s → IsStepOf aod (object (member (codes "atoms") p.0 (beams_members p.1 p.2 (named (codes "deactivate"))))) s
unfolding beams_members named
deactivate_sound aod id p s e =
    let atoms = bound (told_list told_dropped p.0) (λ atoms. told_list told_id p.1 >>= (λ columns. told_list told_id p.2 >>= (λ rows. Some (Deactivate aod rows columns atoms)))) s e in
    let columns = bound (told_list told_id p.1) (λ columns. told_list told_id p.2 >>= (λ rows. Some (Deactivate aod rows columns atoms.0))) s atoms.2 in
    let rows = bound (told_list told_id p.2) (λ rows. Some (Deactivate aod rows columns.0 atoms.0)) s columns.2 in
    let x = list_sound dropped_value DroppedFits told_dropped dropped_sound p.0 atoms.0 atoms.1 in
    let y = list_sound number_value IsId told_id id_sound p.1 columns.0 columns.1 in
    let z = list_sound number_value IsId told_id id_sound p.2 rows.0 rows.1 in
    let d : Data = object (member (codes "atoms") p.0 (beams_members p.1 p.2 (named (codes "deactivate")))) in
    let is : d ≡ deactivate_value rows.0 columns.0 atoms.0 =
    ap (λ a. object (member (codes "atoms") a (beams_members p.1 p.2 (named (codes "deactivate"))))) x.0
    ∙ ap₂ (λ b c. object (member (codes "atoms") (array_of (map dropped_value atoms.0)) (beams_members b c (named (codes "deactivate"))))) y.0 z.0 in
    subst (IsStepOf aod d) (same_Some (Deactivate aod rows.0 columns.0 atoms.0) s rows.2) (is, (same_aod aod, (id, z.1, y.1, x.1)))

move_sound : (aod : ℕ) → IsId aod → (p : Data × Data) (s : Step) → told_move aod p ≡ Some s → IsStepOf aod (object (beams_members p.0 p.1 (named (codes "move")))) s
unfolding beams_members named
move_sound aod id p s e =
    let columns = bound (told_list told_beam p.0) (λ columns. told_list told_beam p.1 >>= (λ rows. Some (Move aod rows columns))) s e in
    let rows = bound (told_list told_beam p.1) (λ rows. Some (Move aod rows columns.0)) s columns.2 in
    let y = list_sound beam_value BeamFits told_beam beam_sound p.0 columns.0 columns.1 in
    let z = list_sound beam_value BeamFits told_beam beam_sound p.1 rows.0 rows.1 in
    let d : Data = object (beams_members p.0 p.1 (named (codes "move"))) in
    let is : d ≡ move_value rows.0 columns.0 = ap₂ (λ b c. object (beams_members b c (named (codes "move")))) y.0 z.0 in
    subst (IsStepOf aod d) (same_Some (Move aod rows.0 columns.0) s rows.2) (is, (same_aod aod, (id, z.1, y.1)))

-- a sound part of a sound value
along : (aod : ℕ) (d e : Data) (s : Step) → d ≡ e → IsStepOf aod e s → IsStepOf aod d s
along aod d e s same h = (same ∙ h.0, h.1)

step_deactivate : (aod : ℕ) → IsId aod → (d : Data) (s : Step) → Told (Data × Data × Data) Step (atoms_parts (codes "deactivate") d) (told_deactivate aod) None s → IsStepOf aod d s
step_deactivate aod id d s (by_first p is e) = along aod d _ s (atoms_parts_sound (codes "deactivate") d p is) (deactivate_sound aod id p s e)
step_deactivate aod id d s (by_other e) = absurd (none-some s e)

step_move : (aod : ℕ) → IsId aod → (d : Data) (s : Step) → Told (Data × Data) Step (move_parts d) (told_move aod) (told_or (atoms_parts (codes "deactivate") d) (told_deactivate aod) None) s → IsStepOf aod d s
step_move aod id d s (by_first p is e) = along aod d _ s (move_parts_sound d p is) (move_sound aod id p s e)
step_move aod id d s (by_other e) = step_deactivate aod id d s (either_told (atoms_parts (codes "deactivate") d) (told_deactivate aod) None s e)

step_activate : (aod : ℕ) → IsId aod → (d : Data) (s : Step)
    → Told (Data × Data × Data) Step (atoms_parts (codes "activate") d) (told_activate aod) (told_or (move_parts d) (told_move aod) (told_or (atoms_parts (codes "deactivate") d) (told_deactivate aod) None)) s
    → IsStepOf aod d s
step_activate aod id d s (by_first p is e) = along aod d _ s (atoms_parts_sound (codes "activate") d p is) (activate_sound aod id p s e)
step_activate aod id d s (by_other e) = step_move aod id d s (either_told (move_parts d) (told_move aod) (told_or (atoms_parts (codes "deactivate") d) (told_deactivate aod) None) s e)

step_sound : (aod : ℕ) → IsId aod → IsSound step_value (λ s. (is_step_of aod s ≡ true) × StepFits s) (told_step aod)
step_sound aod id d s e =
    step_activate aod id d s (either_told (atoms_parts (codes "activate") d) (told_activate aod) (told_or (move_parts d) (told_move aod) (told_or (atoms_parts (codes "deactivate") d) (told_deactivate aod) None)) s e)

-- all steps are of the AOD, and in range
own_steps : (aod : ℕ) (ss : List Step) → AllByRecursion (λ s. (is_step_of aod s ≡ true) × StepFits s) ss → (list_all (is_step_of aod) ss ≡ true) × AllByRecursion StepFits ss
own_steps aod [] h = (refl, tt)
own_steps aod (s ∷ ss) h =
    let rest = own_steps aod ss h.1 in
    (and_from (is_step_of aod s) (list_all (is_step_of aod) ss) h.0.0 rest.0, (h.0.1, rest.1))

-- ---- instructions

times_members : ℕ → ℕ → Members → Members
times_members begin end rest = member (codes "begin") (number_value begin) (member (codes "end") (number_value end) rest)

AreTimes : ℕ → ℕ → Type 0
AreTimes begin end = (begin ≤ end) × (end ≤ 4000000000000000000)

times_fields_sound : (ms : Members) (p : ℕ × ℕ × Members) → times_fields ms ≡ Some p → (ms ≡ times_members p.0 p.1 p.2) × AreTimes p.0 p.1
unfolding times_members AreTimes
times_fields_sound ms p e =
    let begin = bound {B = ℕ × ℕ × Members} (number_field (codes "begin") 4000000000000000000 ms) (λ begin. number_field (codes "end") 4000000000000000000 begin.1 >>= (λ end. if nat_le begin.0 end.0 then Some (begin.0, end.0, end.1) else None)) p e in
    let end = bound {B = ℕ × ℕ × Members} (number_field (codes "end") 4000000000000000000 begin.0.1) (λ end. if nat_le begin.0.0 end.0 then Some (begin.0.0, end.0, end.1) else None) p begin.2 in
    let t = tested {A = ℕ × ℕ × Members} (nat_le begin.0.0 end.0.0) (begin.0.0, end.0.0, end.0.1) p end.2 in
    let x = number_field_sound (codes "begin") 4000000000000000000 ms begin.0 begin.1 in
    let y = number_field_sound (codes "end") 4000000000000000000 begin.0.1 end.0 end.1 in
    subst (λ (p : ℕ × ℕ × Members). (ms ≡ times_members p.0 p.1 p.2) × AreTimes p.0 p.1) t.1
    (x.0 ∙ ap (member (codes "begin") (number_value begin.0.0)) y.0, (leb-true begin.0.0 end.0.0 t.0, y.1))

kinded : List ℕ → Members
kinded word = member (codes "type") (string word) no_members

timed_parts_sound : (key word : List ℕ) (d : Data) (p : ℕ × ℕ × Data) → timed_parts key word d ≡ Some p → (d ≡ object (times_members p.0 p.1 (member key p.2 (kinded word)))) × AreTimes p.0 p.1
unfolding kinded
timed_parts_sound key word d p e =
    let ms = bound {B = ℕ × ℕ × Data} (as_object d) (λ ms. times_fields ms >>= (λ times. field key times.2 >>= (λ values. if ends_with (codes "type") word values.1 then Some (times.0, times.1, values.0) else None))) p e in
    let times = bound {B = ℕ × ℕ × Data} (times_fields ms.0) (λ times. field key times.2 >>= (λ values. if ends_with (codes "type") word values.1 then Some (times.0, times.1, values.0) else None)) p ms.2 in
    let values = bound {B = ℕ × ℕ × Data} (field key times.0.2) (λ values. if ends_with (codes "type") word values.1 then Some (times.0.0, times.0.1, values.0) else None) p times.2 in
    let t = tested {A = ℕ × ℕ × Data} (ends_with (codes "type") word values.0.1) (times.0.0, times.0.1, values.0.0) p values.2 in
    let x = times_fields_sound ms.0 times.0 times.1 in
    let is : d ≡ object (times_members times.0.0 times.0.1 (member key values.0.0 (kinded word))) =
    an_object d ms.0 ms.1
    ∙ ap object (x.0 ∙ ap (times_members times.0.0 times.0.1) (field_sound key times.0.2 values.0 values.1 ∙ ap (member key values.0.0) (ends_sound (codes "type") word values.0.1 t.0))) in
    subst (λ (p : ℕ × ℕ × Data). (d ≡ object (times_members p.0 p.1 (member key p.2 (kinded word)))) × AreTimes p.0 p.1) t.1 (is, x.1)

job_object : ℕ → ℕ → ℕ → Data → Data
job_object aod begin end steps = object (member (codes "aod") (number_value aod) (times_members begin end (member (codes "steps") steps (kinded (codes "rearrangeJob")))))

job_parts_sound : (d : Data) (p : ℕ × ℕ × ℕ × Data) → job_parts d ≡ Some p → (d ≡ job_object p.0 p.1 p.2 p.3) × IsId p.0 × AreTimes p.1 p.2
unfolding job_object kinded
job_parts_sound d p e =
    let ms = bound {B = ℕ × ℕ × ℕ × Data} (as_object d) (λ ms. number_field (codes "aod") 255 ms >>= (λ aod. times_fields aod.1 >>= (λ times. field (codes "steps") times.2 >>= (λ steps. if ends_with (codes "type") (codes "rearrangeJob") steps.1 then Some (aod.0, times.0, times.1, steps.0) else None)))) p e in
    let aod = bound {B = ℕ × ℕ × ℕ × Data} (number_field (codes "aod") 255 ms.0) (λ aod. times_fields aod.1 >>= (λ times. field (codes "steps") times.2 >>= (λ steps. if ends_with (codes "type") (codes "rearrangeJob") steps.1 then Some (aod.0, times.0, times.1, steps.0) else None))) p ms.2 in
    let times = bound {B = ℕ × ℕ × ℕ × Data} (times_fields aod.0.1) (λ times. field (codes "steps") times.2 >>= (λ steps. if ends_with (codes "type") (codes "rearrangeJob") steps.1 then Some (aod.0.0, times.0, times.1, steps.0) else None)) p aod.2 in
    let steps = bound {B = ℕ × ℕ × ℕ × Data} (field (codes "steps") times.0.2) (λ steps. if ends_with (codes "type") (codes "rearrangeJob") steps.1 then Some (aod.0.0, times.0.0, times.0.1, steps.0) else None) p times.2 in
    let t = tested {A = ℕ × ℕ × ℕ × Data} (ends_with (codes "type") (codes "rearrangeJob") steps.0.1) (aod.0.0, times.0.0, times.0.1, steps.0.0) p steps.2 in
    let x = number_field_sound (codes "aod") 255 ms.0 aod.0 aod.1 in
    let y = times_fields_sound aod.0.1 times.0 times.1 in
    let is : d ≡ job_object aod.0.0 times.0.0 times.0.1 steps.0.0 =
    an_object d ms.0 ms.1
    ∙ ap object (x.0 ∙ ap (member (codes "aod") (number_value aod.0.0)) (y.0
    ∙ ap (times_members times.0.0 times.0.1) (field_sound (codes "steps") times.0.2 steps.0 steps.1 ∙ ap (member (codes "steps") steps.0.0) (ends_sound (codes "type") (codes "rearrangeJob") steps.0.1 t.0)))) in
    subst (λ (p : ℕ × ℕ × ℕ × Data). (d ≡ job_object p.0 p.1 p.2 p.3) × IsId p.0 × AreTimes p.1 p.2) t.1 (is, x.1, y.1)

-- the value is the instruction's, which has its own steps and is in range
abbrev pub IsInstr : Data → Instr → Type 0
IsInstr d i = (d ≡ instr_value i) × (has_own_steps i.act ≡ true) × InstrFits i

timed_fits : (begin end : ℕ) (act : Act) → AreTimes begin end → ActFits act → InstrFits (timed begin end act)
unfolding AreTimes
timed_fits begin end act times fits = record { rises = times.0; ends = times.1; act = fits }

-- an instruction of one kind: its list is told, and it is the act of that list
module _ {A : Type 0} (value : A → Data) (Fits : A → Type 0) (told : Data → Option A) (sound : IsSound value Fits told) (act : List A → Act) (key word : List ℕ) where
  kind_sound : ((xs : List A) (begin end : ℕ) → object (times_members begin end (member key (array_of (map value xs)) (kinded word))) ≡ act_value begin end (act xs))
      → ((xs : List A) → has_own_steps (act xs) ≡ true) → ((xs : List A) → AllByRecursion Fits xs → ActFits (act xs))
      → (d : Data) (p : ℕ × ℕ × Data) (i : Instr) → timed_parts key word d ≡ Some p → (told_list told p.2 >>= (λ xs. Some (timed p.0 p.1 (act xs)))) ≡ Some i → IsInstr d i
  kind_sound same own fits d p i is e =
      let q = bound (told_list told p.2) (λ xs. Some (timed p.0 p.1 (act xs))) i e in
      let x = timed_parts_sound key word d p is in
      let y = list_sound value Fits told sound p.2 q.0 q.1 in
      subst (IsInstr d) (same_Some (timed p.0 p.1 (act q.0)) i q.2)
      (x.0 ∙ ap (λ v. object (times_members p.0 p.1 (member key v (kinded word)))) y.0 ∙ same q.0 p.0 p.1, own q.0, timed_fits p.0 p.1 (act q.0) x.1 (fits q.0 y.1))

init_sound : (d : Data) (p : ℕ × ℕ × Data) (i : Instr) → timed_parts (codes "homes") (codes "init") d ≡ Some p → told_init p ≡ Some i → IsInstr d i
unfolding times_members kinded
init_sound = kind_sound trap_value (λ t. IsNumber t.0) told_trap trap_sound Init (codes "homes") (codes "init") (λ xs m n. refl) (λ xs. refl) (λ xs h. h)

gates_sound : (d : Data) (p : ℕ × ℕ × Data) (i : Instr) → timed_parts (codes "gates") (codes "1qGate") d ≡ Some p → told_gates p ≡ Some i → IsInstr d i
unfolding times_members kinded
gates_sound = kind_sound gate_value GateFits told_gate gate_sound Gates (codes "gates") (codes "1qGate") (λ xs m n. refl) (λ xs. refl) (λ xs h. h)

rydberg_sound : (d : Data) (p : ℕ × ℕ × Data) (i : Instr) → timed_parts (codes "pairs") (codes "rydberg") d ≡ Some p → told_rydberg p ≡ Some i → IsInstr d i
unfolding times_members kinded
rydberg_sound = kind_sound pair_value PairFits told_pair pair_sound Rydberg (codes "pairs") (codes "rydberg") (λ xs m n. refl) (λ xs. refl) (λ xs h. h)

readout_sound : (d : Data) (p : ℕ × ℕ × Data) (i : Instr) → timed_parts (codes "reads") (codes "readout") d ≡ Some p → told_readout p ≡ Some i → IsInstr d i
unfolding times_members kinded
readout_sound = kind_sound read_value ReadFits told_read read_sound Readout (codes "reads") (codes "readout") (λ xs m n. refl) (λ xs. refl) (λ xs h. h)

job_sound : (d : Data) (p : ℕ × ℕ × ℕ × Data) (i : Instr) → job_parts d ≡ Some p → told_job p ≡ Some i → IsInstr d i
unfolding times_members kinded job_object
job_sound d p i is e =
    let q = bound (told_list (told_step p.0) p.3) (λ steps. Some (timed p.1 p.2 (Job p.0 steps))) i e in
    let x = job_parts_sound d p is in
    let y = list_sound step_value (λ s. (is_step_of p.0 s ≡ true) × StepFits s) (told_step p.0) (step_sound p.0 x.1) p.3 q.0 q.1 in
    let z = own_steps p.0 q.0 y.1 in
    subst (IsInstr d) (same_Some (timed p.1 p.2 (Job p.0 q.0)) i q.2)
    (x.0 ∙ ap (job_object p.0 p.1 p.2) y.0, z.0, timed_fits p.1 p.2 (Job p.0 q.0) x.2 (x.1, z.1))

-- the readings after the first ones
from_readout : Data → Option Instr
from_readout d = told_or (timed_parts (codes "reads") (codes "readout") d) told_readout None

from_job : Data → Option Instr
from_job d = told_or (job_parts d) told_job (from_readout d)

from_rydberg : Data → Option Instr
from_rydberg d = told_or (timed_parts (codes "pairs") (codes "rydberg") d) told_rydberg (from_job d)

from_gates : Data → Option Instr
from_gates d = told_or (timed_parts (codes "gates") (codes "1qGate") d) told_gates (from_rydberg d)

by_readout : (d : Data) (i : Instr) → Told (ℕ × ℕ × Data) Instr (timed_parts (codes "reads") (codes "readout") d) told_readout None i → IsInstr d i
by_readout d i (by_first p is e) = readout_sound d p i is e
by_readout d i (by_other e) = absurd (none-some i e)

by_job : (d : Data) (i : Instr) → Told (ℕ × ℕ × ℕ × Data) Instr (job_parts d) told_job (from_readout d) i → IsInstr d i
unfolding from_readout
by_job d i (by_first p is e) = job_sound d p i is e
by_job d i (by_other e) = by_readout d i (either_told (timed_parts (codes "reads") (codes "readout") d) told_readout None i e)

by_rydberg : (d : Data) (i : Instr) → Told (ℕ × ℕ × Data) Instr (timed_parts (codes "pairs") (codes "rydberg") d) told_rydberg (from_job d) i → IsInstr d i
unfolding from_job
by_rydberg d i (by_first p is e) = rydberg_sound d p i is e
by_rydberg d i (by_other e) = by_job d i (either_told (job_parts d) told_job (from_readout d) i e)

by_gates : (d : Data) (i : Instr) → Told (ℕ × ℕ × Data) Instr (timed_parts (codes "gates") (codes "1qGate") d) told_gates (from_rydberg d) i → IsInstr d i
unfolding from_rydberg
by_gates d i (by_first p is e) = gates_sound d p i is e
by_gates d i (by_other e) = by_rydberg d i (either_told (timed_parts (codes "pairs") (codes "rydberg") d) told_rydberg (from_job d) i e)

by_init : (d : Data) (i : Instr) → Told (ℕ × ℕ × Data) Instr (timed_parts (codes "homes") (codes "init") d) told_init (from_gates d) i → IsInstr d i
unfolding from_gates
by_init d i (by_first p is e) = init_sound d p i is e
by_init d i (by_other e) = by_gates d i (either_told (timed_parts (codes "gates") (codes "1qGate") d) told_gates (from_rydberg d) i e)

-- the instruction that a value tells has that value, its own steps, and numbers in range
pub instr_sound : (d : Data) (i : Instr) → told_instr d ≡ Some i → IsInstr d i
unfolding from_gates from_rydberg from_job from_readout
instr_sound d i e = by_init d i (either_told (timed_parts (codes "homes") (codes "init") d) told_init (from_gates d) i e)

-- ---- the first and the last line

is_one : (n : ℕ) → (n == 1) ≡ true → n ≡ 1
is_one n e = (Decides-eqb n 1).0 e

-- the value of which the version is told is that of the first line
pub header_sound : (d : Data) (n : ℕ) → header_parts d ≡ Some n → d ≡ header_value
header_sound d n e =
    let ms = bound (as_object d) (λ ms. field (codes "type") ms >>= (λ type. number_field (codes "version") 1 type.1 >>= (λ version. if is_word (codes "zair") type.0 && (version.0 == 1 && is_end version.1) then Some version.0 else None))) n e in
    let type = bound (field (codes "type") ms.0) (λ type. number_field (codes "version") 1 type.1 >>= (λ version. if is_word (codes "zair") type.0 && (version.0 == 1 && is_end version.1) then Some version.0 else None)) n ms.2 in
    let version = bound (number_field (codes "version") 1 type.0.1) (λ version. if is_word (codes "zair") type.0.0 && (version.0 == 1 && is_end version.1) then Some version.0 else None) n type.2 in
    let t = tested (is_word (codes "zair") type.0.0 && (version.0.0 == 1 && is_end version.0.1)) version.0.0 n version.2 in
    let p = and_parts (is_word (codes "zair") type.0.0) (version.0.0 == 1 && is_end version.0.1) t.0 in
    let q = and_parts (version.0.0 == 1) (is_end version.0.1) p.1 in
    let x = number_field_sound (codes "version") 1 type.0.1 version.0 version.1 in
    an_object d ms.0 ms.1
    ∙ ap object (field_sound (codes "type") ms.0 type.0 type.1
    ∙ ap₂ (member (codes "type")) (word_sound (codes "zair") type.0.0 p.0) (x.0 ∙ ap₂ (λ v rest. member (codes "version") (number_value v) rest) (is_one version.0.0 q.0) (end_sound version.0.1 q.1)))

first_members : ℕ → ℕ → ℕ → ℕ → Members → Members
first_members gates jobs kept moved rest =
    member (codes "gates") (number_value gates) (member (codes "jobs") (number_value jobs) (member (codes "kept") (number_value kept) (member (codes "moved") (number_value moved) rest)))

first_counts_sound : (ms : Members) (p : ℕ × ℕ × ℕ × ℕ × Members) → first_counts ms ≡ Some p → ms ≡ first_members p.0 p.1 p.2 p.3 p.4
unfolding first_members
first_counts_sound ms p e =
    let gates = bound {B = ℕ × ℕ × ℕ × ℕ × Members} (number_field (codes "gates") 4294967295 ms) (λ gates. number_field (codes "jobs") 4294967295 gates.1 >>= (λ jobs. number_field (codes "kept") 4294967295 jobs.1 >>= (λ kept. number_field (codes "moved") 4294967295 kept.1 >>= (λ moved. Some (gates.0, jobs.0, kept.0, moved.0, moved.1))))) p e in
    let jobs = bound {B = ℕ × ℕ × ℕ × ℕ × Members} (number_field (codes "jobs") 4294967295 gates.0.1) (λ jobs. number_field (codes "kept") 4294967295 jobs.1 >>= (λ kept. number_field (codes "moved") 4294967295 kept.1 >>= (λ moved. Some (gates.0.0, jobs.0, kept.0, moved.0, moved.1)))) p gates.2 in
    let kept = bound {B = ℕ × ℕ × ℕ × ℕ × Members} (number_field (codes "kept") 4294967295 jobs.0.1) (λ kept. number_field (codes "moved") 4294967295 kept.1 >>= (λ moved. Some (gates.0.0, jobs.0.0, kept.0, moved.0, moved.1))) p jobs.2 in
    let moved = bound {B = ℕ × ℕ × ℕ × ℕ × Members} (number_field (codes "moved") 4294967295 kept.0.1) (λ moved. Some (gates.0.0, jobs.0.0, kept.0.0, moved.0, moved.1)) p kept.2 in
    let x = number_field_sound (codes "gates") 4294967295 ms gates.0 gates.1 in
    let y = number_field_sound (codes "jobs") 4294967295 gates.0.1 jobs.0 jobs.1 in
    let z = number_field_sound (codes "kept") 4294967295 jobs.0.1 kept.0 kept.1 in
    let w = number_field_sound (codes "moved") 4294967295 kept.0.1 moved.0 moved.1 in
    x.0 ∙ ap (member (codes "gates") (number_value gates.0.0)) (y.0 ∙ ap (member (codes "jobs") (number_value jobs.0.0)) (z.0 ∙ ap (member (codes "kept") (number_value kept.0.0)) w.0))
    ∙ ap (λ (p : ℕ × ℕ × ℕ × ℕ × Members). first_members p.0 p.1 p.2 p.3 p.4) (same_Some {A = ℕ × ℕ × ℕ × ℕ × Members} (gates.0.0, jobs.0.0, kept.0.0, moved.0.0, moved.0.1) p moved.2)

later_members : ℕ → ℕ → ℕ → ℕ → Members → Members
later_members pairs pulses qubits reads rest =
    member (codes "pairs") (number_value pairs) (member (codes "pulses") (number_value pulses) (member (codes "qubits") (number_value qubits) (member (codes "reads") (number_value reads) rest)))

later_counts_sound : (ms : Members) (p : ℕ × ℕ × ℕ × ℕ × Members) → later_counts ms ≡ Some p → ms ≡ later_members p.0 p.1 p.2 p.3 p.4
unfolding later_members
later_counts_sound ms p e =
    let pairs = bound {B = ℕ × ℕ × ℕ × ℕ × Members} (number_field (codes "pairs") 4294967295 ms) (λ pairs. number_field (codes "pulses") 4294967295 pairs.1 >>= (λ pulses. number_field (codes "qubits") 4294967295 pulses.1 >>= (λ qubits. number_field (codes "reads") 4294967295 qubits.1 >>= (λ reads. Some (pairs.0, pulses.0, qubits.0, reads.0, reads.1))))) p e in
    let pulses = bound {B = ℕ × ℕ × ℕ × ℕ × Members} (number_field (codes "pulses") 4294967295 pairs.0.1) (λ pulses. number_field (codes "qubits") 4294967295 pulses.1 >>= (λ qubits. number_field (codes "reads") 4294967295 qubits.1 >>= (λ reads. Some (pairs.0.0, pulses.0, qubits.0, reads.0, reads.1)))) p pairs.2 in
    let qubits = bound {B = ℕ × ℕ × ℕ × ℕ × Members} (number_field (codes "qubits") 4294967295 pulses.0.1) (λ qubits. number_field (codes "reads") 4294967295 qubits.1 >>= (λ reads. Some (pairs.0.0, pulses.0.0, qubits.0, reads.0, reads.1))) p pulses.2 in
    let reads = bound {B = ℕ × ℕ × ℕ × ℕ × Members} (number_field (codes "reads") 4294967295 qubits.0.1) (λ reads. Some (pairs.0.0, pulses.0.0, qubits.0.0, reads.0, reads.1)) p qubits.2 in
    let x = number_field_sound (codes "pairs") 4294967295 ms pairs.0 pairs.1 in
    let y = number_field_sound (codes "pulses") 4294967295 pairs.0.1 pulses.0 pulses.1 in
    let z = number_field_sound (codes "qubits") 4294967295 pulses.0.1 qubits.0 qubits.1 in
    let w = number_field_sound (codes "reads") 4294967295 qubits.0.1 reads.0 reads.1 in
    x.0 ∙ ap (member (codes "pairs") (number_value pairs.0.0)) (y.0 ∙ ap (member (codes "pulses") (number_value pulses.0.0)) (z.0 ∙ ap (member (codes "qubits") (number_value qubits.0.0)) w.0))
    ∙ ap (λ (p : ℕ × ℕ × ℕ × ℕ × Members). later_members p.0 p.1 p.2 p.3 p.4) (same_Some {A = ℕ × ℕ × ℕ × ℕ × Members} (pairs.0.0, pulses.0.0, qubits.0.0, reads.0.0, reads.0.1) p reads.2)

-- the totals of these counts
counted : ℕ × ℕ × ℕ × ℕ × Members → ℕ × ℕ × ℕ × ℕ × Members → ℕ → Totals
counted first later time = record {
  gates = first.0;
  jobs = first.1;
  kept = first.2;
  moved = first.3;
  pairs = later.0;
  pulses = later.1;
  qubits = later.2;
  reads = later.3;
  time = time;
}

-- the totals that a value tells are those of which it is the value
pub totals_sound : (d : Data) (t : Totals) → told_totals d ≡ Some t → d ≡ end_value t
unfolding first_members later_members counted
totals_sound d t e =
    let ms = bound (as_object d) (λ ms. first_counts ms >>= (λ first. later_counts first.4 >>= (λ later. number_field (codes "time") 4000000000000000000 later.4 >>= (λ time. if ends_with (codes "type") (codes "end") time.1 then Some (counted first later time.0) else None)))) t e in
    let first = bound (first_counts ms.0) (λ first. later_counts first.4 >>= (λ later. number_field (codes "time") 4000000000000000000 later.4 >>= (λ time. if ends_with (codes "type") (codes "end") time.1 then Some (counted first later time.0) else None))) t ms.2 in
    let later = bound (later_counts first.0.4) (λ later. number_field (codes "time") 4000000000000000000 later.4 >>= (λ time. if ends_with (codes "type") (codes "end") time.1 then Some (counted first.0 later time.0) else None)) t first.2 in
    let time = bound (number_field (codes "time") 4000000000000000000 later.0.4) (λ time. if ends_with (codes "type") (codes "end") time.1 then Some (counted first.0 later.0 time.0) else None) t later.2 in
    let q = tested (ends_with (codes "type") (codes "end") time.0.1) (counted first.0 later.0 time.0.0) t time.2 in
    let x = number_field_sound (codes "time") 4000000000000000000 later.0.4 time.0 time.1 in
    an_object d ms.0 ms.1
    ∙ ap object (first_counts_sound ms.0 first.0 first.1
    ∙ ap (first_members first.0.0 first.0.1 first.0.2 first.0.3) (later_counts_sound first.0.4 later.0 later.1
    ∙ ap (later_members later.0.0 later.0.1 later.0.2 later.0.3) (x.0 ∙ ap (member (codes "time") (number_value time.0.0)) (ends_sound (codes "type") (codes "end") time.0.1 q.0))))
    ∙ ap end_value q.1
