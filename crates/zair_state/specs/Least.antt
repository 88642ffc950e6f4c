-- The least number, or pair of numbers, of which something holds.
use Rattle.std.specs.Prelude.{◌≡◌, ℕ, ◌<◌, ◌≤◌, ◌⊎◌, Bool, true, false, Option, Some, None, MatchOption, min}
use Rattle.zair_state.specs.declared.fault.Axis.TheVariants.{Row, Column}
use Rattle.zair_state.specs.declared.fault.BeamId.{BeamId}
use Rattle.zair_state.specs.FirstFault.{ComesBefore, beam_numbers}

-- The number is the least with the property; there is none where no number has it.
abbrev pub IsLeastOf : (ℕ → Type 0) → Option ℕ → Type 0
IsLeastOf P o = MatchOption o ((n : ℕ) → ¬ P n) (λ n. P n × ((m : ℕ) → P m → n ≤ m))

-- Of two numbers, either of which may be missing, the lesser.
abbrev pub lesser_of : Option ℕ → Option ℕ → Option ℕ
lesser_of None o = o
lesser_of (Some n) None = Some n
lesser_of (Some n) (Some m) = Some (min n m)

-- The number where the test is passed, else none.
abbrev pub number_if : Bool → ℕ → Option ℕ
number_if true n = Some n
number_if false n = None

-- The first pair comes no later than the second: by its first number, and then by its second.
abbrev pub IsNoLater : ℕ × ℕ → ℕ × ℕ → Type 0
IsNoLater p q = (p.0 < q.0) ⊎ ((p.0 ≡ q.0) × (p.1 ≤ q.1))

-- The pair is the first with the property; there is none where no pair has it.
abbrev pub IsLeastPairOf : (ℕ → ℕ → Type 0) → Option (ℕ × ℕ) → Type 0
IsLeastPairOf P o =
    MatchOption o ((m n : ℕ) → ¬ P m n) (λ p. P p.0 p.1 × ((m n : ℕ) → P m n → IsNoLater p (m, n)))

-- The triple is the first with the property, by its first number, then its second, then its third; there is none where no triple has it.
abbrev pub IsLeastTripleOf : (ℕ → ℕ → ℕ → Type 0) → Option (ℕ × ℕ × ℕ) → Type 0
IsLeastTripleOf P o =
    MatchOption o ((k m n : ℕ) → ¬ P k m n) (λ t. P t.0 t.1 t.2 × ((k m n : ℕ) → P k m n → (t.0 < k) ⊎ ((t.0 ≡ k) × IsNoLater (t.1, t.2) (m, n))))

-- The row of this id, else the column of this id, else none.
abbrev pub first_beam_of : Option ℕ → Option ℕ → Option BeamId
first_beam_of (Some id) columns = Some (record { axis = Row; id = id })
first_beam_of None (Some id) = Some (record { axis = Column; id = id })
first_beam_of None None = None

-- The beam is the first with the property, rows before columns, by id; there is none where no beam has it.
abbrev pub IsFirstBeam : (BeamId → Type 0) → Option BeamId → Type 0
IsFirstBeam P o =
    MatchOption o ((b : BeamId) → ¬ P b) (λ b. P b × ((c : BeamId) → P c → ¬ ComesBefore (beam_numbers 0 c) (beam_numbers 0 b)))
