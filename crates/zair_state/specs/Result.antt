-- The state that a step leaves.
use Rattle.std.specs.Prelude.{ℕ, not, ◌==◌, List, [], ◌∷◌, filter, slice_set, nat_lt, if◌then◌else◌}
use Rattle.std.specs.List.{list_any}
use Rattle.zair_form.specs.declared.step.Beam.{Beam}
use Rattle.zair_form.specs.declared.step.Caught.{Caught}
use Rattle.zair_form.specs.declared.step.Dropped.{Dropped}
use Rattle.zair_form.specs.declared.step.Step.{Step}
use Rattle.zair_form.specs.declared.step.Step.TheVariants.{Activate, Move, Deactivate, One, Pulse, Readout}
use Rattle.zair_state.specs.declared.place.Place.{Place}
use Rattle.zair_state.specs.declared.place.Place.TheVariants.{Trap, Held}
use Rattle.zair_state.specs.State.{State, Beams, beams_of}

-- The beams with one more, put before the first beam of greater id.
abbrev pub with_beam : Beam → List Beam → List Beam
with_beam b [] = b ∷ []
with_beam b (c ∷ cs) = if nat_lt b.id c.id then b ∷ c ∷ cs else c ∷ with_beam b cs

-- The beams with all of these put in so.
abbrev pub with_beams : List Beam → List Beam → List Beam
with_beams [] beams = beams
with_beams (b ∷ bs) beams = with_beam b (with_beams bs beams)

-- The beams but those of these ids.
abbrev pub without_beams : List ℕ → List Beam → List Beam
without_beams ids beams = filter (λ b. not (list_any (λ id. id == b.id) ids)) beams

-- The places once the listed atoms are held at the crossings that are listed with them.
abbrev pub after_catching : ℕ → List Caught → List Place → List Place
after_catching aod [] places = places
after_catching aod (c ∷ cs) places = after_catching aod cs (slice_set places c.q (Held aod c.row c.column))

-- The places once the listed atoms rest in the traps that are listed with them.
abbrev pub after_dropping : List Dropped → List Place → List Place
after_dropping [] places = places
after_dropping (d ∷ ds) places = after_dropping ds (slice_set places d.q (Trap d.trap))

-- The state with other beams at one AOD.
abbrev pub with_beams_of : State → ℕ → Beams → State
with_beams_of s aod beams = record { places = s.places; aods = slice_set s.aods aod beams }

-- The state after a step. An activate adds beams and its atoms are held; a move sets the beams anew; a deactivate
-- removes beams and its atoms rest in their traps; gates, pulses and readouts change nothing.
abbrev pub after : State → Step → State
after s (Activate aod rows columns atoms) = record {
  places = after_catching aod atoms s.places;
  aods = slice_set s.aods aod (record { rows = with_beams rows (beams_of s aod).rows; columns = with_beams columns (beams_of s aod).columns });
}
after s (Move aod rows columns) =
    with_beams_of s aod (record { rows = with_beams rows []; columns = with_beams columns [] })
after s (Deactivate aod rows columns atoms) = record {
  places = after_dropping atoms s.places;
  aods = slice_set s.aods aod (record { rows = without_beams rows (beams_of s aod).rows; columns = without_beams columns (beams_of s aod).columns });
}
after s (One gate) = s
after s (Pulse pairs) = s
after s (Readout reads) = s
