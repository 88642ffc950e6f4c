-- The first row and the last row in which a column has an atom.
use Rattle.std.proofs.Common.{◌≡◌, ℕ, zero, suc, ◌+◌, ◌<◌, ◌≤◌, inl, inr, Bool, true, false, List, [], ◌∷◌, ap, arith, ltb-true, eqb-true}
use Rattle.std.specs.Prelude.{◌==◌, ◌&&◌, nat_lt}
use Rattle.std.specs.List.{Contains}
use Rattle.std.proofs.lemmas.Bool.{cases_Bool, and_parts}
use Rattle.zac_arch.specs.Architecture.{Architecture}
use Rattle.zac_group.specs.Moves.{source_x, source_y}
use Rattle.zac_group.specs.declared.shift.Shift.{Shift}
use Rattle.zair_state.proofs.Membership.{contains_none, contains_cases}
use Rattle.zac_aod.specs.Lowering.{is_used_before, is_used_after}
use Rattle.zac_aod.specs.declared.line.Line.{Line}
use Rattle.zac_aod.proofs.Tests.{passing}

-- a move of the column, in whose row it has no use that this one excludes
pub record Use (a : Architecture) (shifts : List Shift) (l : Line) (other : ℕ → Line → Bool) : Type 0 where
  pub move : Shift
  pub among : Contains shifts move
  pub of_column : source_x a move ≡ l.from
  pub no_other : other (source_y a move) l ≡ false

-- an earlier use of the column
record Other (a : Architecture) (shifts : List Shift) (l : Line) (P : ℕ → Type 0) : Type 0 where
  move : Shift
  among : Contains shifts move
  of_column : source_x a move ≡ l.from
  at : P (source_y a move)

earlier : (a : Architecture) (shifts : List Shift) (l : Line) (row : ℕ) → is_used_before a shifts row l ≡ true → Other a shifts l (λ y. y < row)
earlier a shifts l row e =
    let found = passing (λ s. nat_lt (source_y a s) row && source_x a s == l.from) shifts e in
    let parts = and_parts (nat_lt (source_y a found.0) row) (source_x a found.0 == l.from) found.2 in
    record { move = found.0; among = found.1; of_column = eqb-true (source_x a found.0) l.from parts.1; at = ltb-true (source_y a found.0) row parts.0 }

later : (a : Architecture) (shifts : List Shift) (l : Line) (row : ℕ) → is_used_after a shifts row l ≡ true → Other a shifts l (λ y. row < y)
later a shifts l row e =
    let found = passing (λ s. nat_lt row (source_y a s) && source_x a s == l.from) shifts e in
    let parts = and_parts (nat_lt row (source_y a found.0)) (source_x a found.0 == l.from) found.2 in
    record { move = found.0; among = found.1; of_column = eqb-true (source_x a found.0) l.from parts.1; at = ltb-true row (source_y a found.0) parts.0 }

first_below : (a : Architecture) (shifts : List Shift) (l : Line) (n : ℕ) (m : Shift) → Contains shifts m → source_x a m ≡ l.from → source_y a m ≤ n → Use a shifts l (is_used_before a shifts)
first_below a shifts l zero m c e le = elim (cases_Bool (is_used_before a shifts (source_y a m) l)) [
  | inl used ↦ let o = earlier a shifts l (source_y a m) used in let lt = o.at in absurd (omega arith)
  | inr free ↦ record { move = m; among = c; of_column = e; no_other = free }
]
first_below a shifts l (suc k) m c e le = elim (cases_Bool (is_used_before a shifts (source_y a m) l)) [
  | inl used ↦ let o = earlier a shifts l (source_y a m) used in let lt = o.at in first_below a shifts l k o.move o.among o.of_column (omega arith)
  | inr free ↦ record { move = m; among = c; of_column = e; no_other = free }
]

pub first_use : (a : Architecture) (shifts : List Shift) (l : Line) (m : Shift) → Contains shifts m → source_x a m ≡ l.from → Use a shifts l (is_used_before a shifts)
first_use a shifts l m c e = first_below a shifts l (source_y a m) m c e (omega arith)

highest : (a : Architecture) (shifts : List Shift) → (b : ℕ) × ((s : Shift) → Contains shifts s → source_y a s ≤ b)
highest a [] = (0, λ s c. absurd (contains_none s c))
highest a (m ∷ ms) =
    let rest = highest a ms in (
      source_y a m + rest.0,
      λ s c. elim (contains_cases m s ms c) [
        | inl e ↦ let same : source_y a m ≡ source_y a s = ap (source_y a) e in omega arith
        | inr d ↦ let le = rest.1 s d in omega arith
      ],
    )

last_above : (a : Architecture) (shifts : List Shift) (l : Line) (b : ℕ) → ((s : Shift) → Contains shifts s → source_y a s ≤ b) → (n : ℕ) (m : Shift) → Contains shifts m → source_x a m ≡ l.from
    → b ≤ source_y a m + n → Use a shifts l (is_used_after a shifts)
last_above a shifts l b most zero m c e le = elim (cases_Bool (is_used_after a shifts (source_y a m) l)) [
  | inl used ↦ let o = later a shifts l (source_y a m) used in let lt = o.at in let top = most o.move o.among in absurd (omega arith)
  | inr free ↦ record { move = m; among = c; of_column = e; no_other = free }
]
last_above a shifts l b most (suc k) m c e le = elim (cases_Bool (is_used_after a shifts (source_y a m) l)) [
  | inl used ↦ let o = later a shifts l (source_y a m) used in let lt = o.at in last_above a shifts l b most k o.move o.among o.of_column (omega arith)
  | inr free ↦ record { move = m; among = c; of_column = e; no_other = free }
]

pub last_use : (a : Architecture) (shifts : List Shift) (l : Line) (m : Shift) → Contains shifts m → source_x a m ≡ l.from → Use a shifts l (is_used_after a shifts)
last_use a shifts l m c e = let b = highest a shifts in last_above a shifts l b.0 b.1 b.0 m c e (omega arith)
