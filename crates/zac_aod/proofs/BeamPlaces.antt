-- The ids and the places of beams over lines.
use Rattle.std.proofs.Common.{◌≡◌, ℕ, Bool, true, List, map, sym, ap, ◌∙◌}
use Rattle.std.specs.List.{Contains}
use Rattle.zair_form.specs.declared.step.Beam.{Beam}
use Rattle.zair_state.proofs.Membership.{contains_map, contained_in_map}
use Rattle.zac_aod.specs.Lines.{number_of}
use Rattle.zac_aod.specs.Stages.{beams_over}
use Rattle.zac_aod.specs.declared.line.Line.{Line}
use Rattle.zac_aod.proofs.BeamFacts.{beam_of, from_line, has_beam}
use Rattle.zac_aod.proofs.LineLists.{Rise}

-- an active line with this property
pub record ActiveLine (active : Line → Bool) (lines : List Line) (P : Line → Type 0) : Type 0 where
  pub line : Line
  pub among : Contains lines line
  pub is_active : active line ≡ true
  pub holds : P line

pub line_at : (active : Line → Bool) (at : Line → ℕ) (lines : List Line) → Rise lines → (n : ℕ)
    → Contains (map (λ (b : Beam). b.at) (beams_over active at 0 lines)) n → ActiveLine active lines (λ l. at l ≡ n)
line_at active at lines rise n c =
    let b = contained_in_map (λ (b : Beam). b.at) (beams_over active at 0 lines) n c in
    let l = from_line active at lines rise b.0 b.1 in
    record { line = l.line; among = l.among; is_active = l.is_active; holds = ap (λ (b : Beam). b.at) (sym l.is) ∙ b.2 }

pub line_of_id : (active : Line → Bool) (at : Line → ℕ) (lines : List Line) → Rise lines → (n : ℕ)
    → Contains (map (λ (b : Beam). b.id) (beams_over active at 0 lines)) n → ActiveLine active lines (λ l. number_of lines l.from ≡ n)
line_of_id active at lines rise n c =
    let b = contained_in_map (λ (b : Beam). b.id) (beams_over active at 0 lines) n c in
    let l = from_line active at lines rise b.0 b.1 in
    record { line = l.line; among = l.among; is_active = l.is_active; holds = ap (λ (b : Beam). b.id) (sym l.is) ∙ b.2 }

pub has_place : (active : Line → Bool) (at : Line → ℕ) (lines : List Line) → Rise lines → (l : Line) → Contains lines l → active l ≡ true
    → Contains (map (λ (b : Beam). b.at) (beams_over active at 0 lines)) (at l)
has_place active at lines rise l c e = contains_map (λ (b : Beam). b.at) (beams_over active at 0 lines) (beam_of lines at l) (has_beam active at lines rise l c e)

pub has_number : (active : Line → Bool) (at : Line → ℕ) (lines : List Line) → Rise lines → (l : Line) → Contains lines l → active l ≡ true
    → Contains (map (λ (b : Beam). b.id) (beams_over active at 0 lines)) (number_of lines l.from)
has_number active at lines rise l c e = contains_map (λ (b : Beam). b.id) (beams_over active at 0 lines) (beam_of lines at l) (has_beam active at lines rise l c e)
