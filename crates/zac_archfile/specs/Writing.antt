-- Members of an object, put in one after another. Only the crate's private clauses cite these.
use Rattle.std.specs.Prelude.{ℕ, List, [], ◌∷◌}
use Rattle.serde_json.specs.Data.{Members, no_members, put}
use Rattle.zac_arch.specs.declared.card.Figures.{Figures}
use Rattle.zac_archfile.specs.declared.field.Field.{Field}
use Rattle.zac_archfile.specs.declared.field.Field.TheVariants.{Version, Gap, Park, Reach, Radius, Accel, Activate, Deactivate, One, Pulse, Readout, Aods, Rows, Columns}
use Rattle.zac_archfile.specs.Fields.{key_of}
use Rattle.zac_archfile.specs.Values.{number_value}

-- the members, with each number at the key of its field
abbrev pub with_numbers : Members → List (Field × ℕ) → Members
with_numbers ms [] = ms
with_numbers ms (p ∷ ps) = with_numbers (put (key_of p.0) (number_value p.1) ms) ps

-- the version and the figures
abbrev pub figure_members : Figures → Members
figure_members f =
    with_numbers no_members
    ((Version, 1) ∷ (Gap, f.gap) ∷ (Park, f.park) ∷ (Reach, f.reach) ∷ (Radius, f.radius) ∷ (Accel, f.accel) ∷ (Activate, f.activate) ∷ (Deactivate, f.deactivate) ∷ (One, f.one) ∷ (Pulse, f.pulse) ∷ (Readout, f.readout) ∷ (Aods, f.aods) ∷ (Rows, f.rows) ∷ (Columns, f.columns) ∷ [])
