-- Beams over lines, of lines that begin with any id.
use Rattle.std.proofs.Common.{◌≡◌, ℕ, ◌+◌, ◌<◌, ◌≤◌, inl, inr, Bool, true, cond, List, [], ◌∷◌, length, sym, ap, ◌∙◌, subst, arith}
use Rattle.std.specs.List.{All, AllPairs, Contains}
use Rattle.std.proofs.lemmas.Bool.{cond_both}
use Rattle.std.proofs.lemmas.List.Elements.{All-contains}
use Rattle.std.proofs.lemmas.List.Kept.{AllPairs-cons}
use Rattle.zair_form.specs.declared.step.Beam.{Beam}
use Rattle.zair_state.proofs.BeamLists.{Rising}
use Rattle.zair_state.proofs.Membership.{contains_none, contains_here, contains_later, contains_cases, all_from_contains, pairs_head, pairs_tail, pairs_none}
use Rattle.zac_aod.specs.Lines.{number_of}
use Rattle.zac_aod.specs.declared.line.Line.{Line}
use Rattle.zac_aod.specs.Stages.{beams_over}
use Rattle.zac_aod.proofs.LineLists.{Rise}
use Rattle.zac_aod.proofs.Numbers.{number_of_first, number_of_later}

-- the beam of a line among lines that begin with this id
abbrev pub beam_from : ℕ → List Line → (Line → ℕ) → Line → Beam
beam_from id lines at l = record { id = id + number_of lines l.from; at = at l }

-- the line of a beam
pub record Behind (active : Line → Bool) (at : Line → ℕ) (id : ℕ) (lines : List Line) (b : Beam) : Type 0 where
  pub line : Line
  pub among : Contains lines line
  pub is_active : active line ≡ true
  pub is : b ≡ beam_from id lines at line

first_beam : (at : Line → ℕ) (id : ℕ) (l : Line) (ls : List Line) → Rise (l ∷ ls) → ◌≡◌ {A = Beam} (record { id = id; at = at l }) (beam_from id (l ∷ ls) at l)
first_beam at id l ls rise =
    let first = number_of_first l ls rise in
    let e : id ≡ id + number_of (l ∷ ls) l.from = omega arith in
    λ i. record { id = e i; at = at l }

later_beam : (at : Line → ℕ) (id : ℕ) (l : Line) (ls : List Line) (m : Line) → Rise (l ∷ ls) → Contains ls m → ◌≡◌ {A = Beam} (beam_from (id + 1) ls at m) (beam_from id (l ∷ ls) at m)
later_beam at id l ls m rise c =
    let later = number_of_later l ls m rise c in
    let e : id + 1 + number_of ls m.from ≡ id + number_of (l ∷ ls) m.from = omega arith in
    λ i. record { id = e i; at = at m }

pub behind : (active : Line → Bool) (at : Line → ℕ) (id : ℕ) (lines : List Line) → Rise lines → (b : Beam) → Contains (beams_over active at id lines) b → Behind active at id lines b
behind active at id [] rise b c = absurd (contains_none b c)
behind active at id (l ∷ ls) rise b c =
    let later : Contains (beams_over active at (id + 1) ls) b → Behind active at id (l ∷ ls) b =
    λ d.
    let r = behind active at (id + 1) ls (pairs_tail (λ (l m : Line). l.from < m.from) l ls rise) b d in
    record { line = r.line; among = contains_later l r.line ls r.among; is_active = r.is_active; is = r.is ∙ later_beam at id l ls r.line rise r.among } in
    cond_both (active l) (record { id = id; at = at l } ∷ beams_over active at (id + 1) ls) (beams_over active at (id + 1) ls) (λ bs. Contains bs b → Behind active at id (l ∷ ls) b)
    (λ t d. elim (contains_cases (record { id = id; at = at l }) b (beams_over active at (id + 1) ls) d) [
      | inl e ↦ record { line = l; among = contains_here l ls; is_active = t; is = sym e ∙ first_beam at id l ls rise }
      | inr d ↦ later d
    ])
    (λ f d. later d)
    c

pub has_beam_from : (active : Line → Bool) (at : Line → ℕ) (id : ℕ) (lines : List Line) → Rise lines → (l : Line) → Contains lines l → active l ≡ true
    → Contains (beams_over active at id lines) (beam_from id lines at l)
has_beam_from active at id [] rise l c e = absurd (contains_none l c)
has_beam_from active at id (m ∷ ms) rise l c e =
    let more = beams_over active at (id + 1) ms in
    elim (contains_cases m l ms c) [
      | inl same ↦
          let on : active m ≡ true = ap active same ∙ e in
          subst (λ (z : Line). Contains (beams_over active at id (m ∷ ms)) (beam_from id (m ∷ ms) at z)) same
          (subst (λ t. Contains (cond t (record { id = id; at = at m } ∷ more) more) (beam_from id (m ∷ ms) at m)) (sym on)
          (subst (λ (z : Beam). Contains (record { id = id; at = at m } ∷ more) z) (first_beam at id m ms rise) (contains_here (record { id = id; at = at m }) more)))
      | inr later ↦
          let there = subst (λ (z : Beam). Contains more z) (later_beam at id m ms l rise later)
          (has_beam_from active at (id + 1) ms (pairs_tail (λ (l m : Line). l.from < m.from) m ms rise) l later e) in
          cond_both (active m) (record { id = id; at = at m } ∷ more) more (λ bs. Contains bs (beam_from id (m ∷ ms) at l))
          (λ t. contains_later (record { id = id; at = at m }) (beam_from id (m ∷ ms) at l) more there)
          (λ f. there)
    ]

-- ids begin where they are to
ids_from : (active : Line → Bool) (at : Line → ℕ) (id : ℕ) (lines : List Line) (b : Beam) → Contains (beams_over active at id lines) b → id ≤ b.id
ids_from active at id [] b c = absurd (contains_none b c)
ids_from active at id (l ∷ ls) b c =
    cond_both (active l) (record { id = id; at = at l } ∷ beams_over active at (id + 1) ls) (beams_over active at (id + 1) ls) (λ bs. Contains bs b → id ≤ b.id)
    (λ t d. elim (contains_cases (record { id = id; at = at l }) b (beams_over active at (id + 1) ls) d) [
      | inl e ↦ let same : id ≡ b.id = ap (λ (z : Beam). z.id) e in omega arith
      | inr d ↦ let far = ids_from active at (id + 1) ls b d in omega arith
    ])
    (λ f d. let far = ids_from active at (id + 1) ls b d in omega arith)
    c

pub rising_from : (active : Line → Bool) (at : Line → ℕ) (id : ℕ) (lines : List Line) → Rising (beams_over active at id lines)
rising_from active at id [] = pairs_none (λ (b c : Beam). b.id < c.id)
rising_from active at id (l ∷ ls) =
    let more = beams_over active at (id + 1) ls in
    let rest = rising_from active at (id + 1) ls in
    cond_both (active l) (record { id = id; at = at l } ∷ more) more Rising
    (λ t. AllPairs-cons (λ (b c : Beam). b.id < c.id) (record { id = id; at = at l }) more
    (all_from_contains (λ (c : Beam). id < c.id) more (λ c d. let far = ids_from active at (id + 1) ls c d in omega arith))
    rest)
    (λ f. rest)

pub few_from : (active : Line → Bool) (at : Line → ℕ) (id : ℕ) (lines : List Line) → length (beams_over active at id lines) ≤ length lines
few_from active at id [] = omega arith
few_from active at id (l ∷ ls) =
    let rest = few_from active at (id + 1) ls in
    cond_both (active l) (record { id = id; at = at l } ∷ beams_over active at (id + 1) ls) (beams_over active at (id + 1) ls) (λ bs. length bs ≤ length (l ∷ ls))
    (λ t. omega arith)
    (λ f. omega arith)

-- where a beam stands is where an active line does
pub record StandsOver (active : Line → Bool) (at : Line → ℕ) (lines : List Line) (b : Beam) : Type 0 where
  pub line : Line
  pub among : Contains lines line
  pub is_active : active line ≡ true
  pub stands : b.at ≡ at line

pub stands_over : (active : Line → Bool) (at : Line → ℕ) (id : ℕ) (lines : List Line) (b : Beam) → Contains (beams_over active at id lines) b → StandsOver active at lines b
stands_over active at id [] b c = absurd (contains_none b c)
stands_over active at id (l ∷ ls) b c =
    let later : Contains (beams_over active at (id + 1) ls) b → StandsOver active at (l ∷ ls) b =
    λ d.
    let r = stands_over active at (id + 1) ls b d in
    record { line = r.line; among = contains_later l r.line ls r.among; is_active = r.is_active; stands = r.stands } in
    cond_both (active l) (record { id = id; at = at l } ∷ beams_over active at (id + 1) ls) (beams_over active at (id + 1) ls) (λ bs. Contains bs b → StandsOver active at (l ∷ ls) b)
    (λ t d. elim (contains_cases (record { id = id; at = at l }) b (beams_over active at (id + 1) ls) d) [
      | inl e ↦ record { line = l; among = contains_here l ls; is_active = t; stands = ap (λ (z : Beam). z.at) (sym e) }
      | inr d ↦ later d
    ])
    (λ f d. later d)
    c

-- what holds of each active line with each later one holds of their beams
pub apart_over : (gap : ℕ) (active : Line → Bool) (at : Line → ℕ) (id : ℕ) (lines : List Line)
    → AllPairs (λ (l m : Line). active l ≡ true → active m ≡ true → at l + gap ≤ at m) lines
    → AllPairs (λ (b c : Beam). b.at + gap ≤ c.at) (beams_over active at id lines)
apart_over gap active at id [] h = pairs_none (λ (b c : Beam). b.at + gap ≤ c.at)
apart_over gap active at id (l ∷ ls) h =
    let more = beams_over active at (id + 1) ls in
    let far : All (λ (m : Line). active l ≡ true → active m ≡ true → at l + gap ≤ at m) ls = pairs_head (λ (l m : Line). active l ≡ true → active m ≡ true → at l + gap ≤ at m) l ls h in
    let rest = apart_over gap active at (id + 1) ls (pairs_tail (λ (l m : Line). active l ≡ true → active m ≡ true → at l + gap ≤ at m) l ls h) in
    cond_both (active l) (record { id = id; at = at l } ∷ more) more (λ bs. AllPairs (λ (b c : Beam). b.at + gap ≤ c.at) bs)
    (λ t. AllPairs-cons (λ (b c : Beam). b.at + gap ≤ c.at) (record { id = id; at = at l }) more
    (all_from_contains (λ (c : Beam). at l + gap ≤ c.at) more (λ c d.
    let r = stands_over active at (id + 1) ls c d in
    let le : at l + gap ≤ at r.line = All-contains (λ (m : Line). active l ≡ true → active m ≡ true → at l + gap ≤ at m) ls r.line far r.among t r.is_active in
    let e = r.stands in
    omega arith))
    rest)
    (λ f. rest)
