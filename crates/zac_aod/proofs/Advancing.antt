-- Each leg of a job leads from the stage before it to its own.
use Rattle.std.proofs.Common.{◌≡◌, ℕ, ◌<◌, ◌≤◌, ◌⊎◌, inl, inr, true, false, List, [], ◌∷◌, ◌++◌, refl, sym, ap, ◌∙◌, subst, arith}
use Rattle.std.specs.List.{Contains}
use Rattle.std.specs.Prelude.{◌==◌, ◌&&◌, nat_lt, nat_le}
use Rattle.std.proofs.lemmas.Bool.{le-leb, lt-ltb, le-ltb, leb-true, ltb-true, false≢true, ne_eqb, both_ways}
use Rattle.std.proofs.lemmas.List.Elements.{All-contains}
use Rattle.std.proofs.lemmas.List.{append_assoc}
use Rattle.zac_arch.specs.Architecture.{Architecture}
use Rattle.zac_group.specs.Moves.{source_x, source_y}
use Rattle.zac_group.specs.declared.shift.Shift.{Shift}
use Rattle.zair_state.proofs.Membership.{contains_none, contains_here, contains_later, contains_cases, pairs_head, pairs_tail}
use Rattle.zac_aod.specs.Lines.{rows_of}
use Rattle.zac_aod.specs.Lowering.{Leg, legs, loading, flight, unloading}
use Rattle.zac_aod.specs.Soundness.{Advances}
use Rattle.zac_aod.specs.declared.stage.Stage.TheVariants as stage
use Rattle.zac_aod.specs.CardLaws.{CardLaws, Grouped}
use Rattle.zac_aod.proofs.CatchLegal.{IsBefore, catch_leads}
use Rattle.zac_aod.proofs.DropLegal.{drop_leads}
use Rattle.zac_aod.proofs.LineFacts.{Rise, rows_rise, row_of, has_row}
use Rattle.zac_aod.proofs.MoveLegal.{SameLines, move_leads}
use Rattle.zac_aod.proofs.Tests.{passing, same_tests, beyond_its_place}
use Rattle.zac_aod.specs.declared.line.Line.{Line}
use Rattle.zac_aod.specs.declared.stage.Stage.{Stage}

-- the row is one of these lines, and the later ones are all that are above it, by rising source
pub record AreAhead (lines : List Line) (r : Line) (later : List Line) : Type 0 where
  pub among : Contains lines r
  pub inside : (l : Line) → Contains later l → Contains lines l
  pub rise : Rise (r ∷ later)
  pub split : (l : Line) → Contains lines l → (l.from ≤ r.from) ⊎ Contains later l

pub next_ahead : (lines : List Line) (r s : Line) (later : List Line) → AreAhead lines r (s ∷ later) → AreAhead lines s later
next_ahead lines r s later h = record {
  among = h.inside s (contains_here s later);
  inside = λ l c. h.inside l (contains_later s l later c);
  rise = pairs_tail (λ (l m : Line). l.from < m.from) r (s ∷ later) h.rise;
  split = λ l c. elim (h.split l c) [
    | inl low ↦
        let up : r.from < s.from = All-contains (λ (m : Line). r.from < m.from) (s ∷ later) s (pairs_head (λ (l m : Line). l.from < m.from) r (s ∷ later) h.rise) (contains_here s later) in
        inl (omega arith)
    | inr high ↦ elim (contains_cases s l later high) [
      | inl e ↦ let same : s.from ≡ l.from = ap (λ (m : Line). m.from) e in inl (omega arith)
      | inr there ↦ inr there
    ]
  ];
}

pub first_ahead : (r : Line) (later : List Line) → Rise (r ∷ later) → AreAhead (r ∷ later) r later
first_ahead r later rise = record {
  among = contains_here r later;
  inside = λ l c. contains_later r l later c;
  rise = rise;
  split = λ l c. elim (contains_cases r l later c) [
    | inl e ↦ let same : r.from ≡ l.from = ap (λ (m : Line). m.from) e in inl (omega arith)
    | inr there ↦ inr there
  ];
}

-- no line stands between a line and the next one
pub neighbours : (lines : List Line) (r s : Line) (later : List Line) → AreAhead lines r (s ∷ later) → (l : Line) → Contains lines l → (l.from ≤ r.from) ⊎ (s.from ≤ l.from)
neighbours lines r s later h l c = elim (h.split l c) [
  | inl low ↦ inl low
  | inr high ↦ elim (contains_cases s l later high) [
    | inl e ↦ let same : s.from ≡ l.from = ap (λ (m : Line). m.from) e in inr (omega arith)
    | inr there ↦
        let up : s.from < l.from = All-contains (λ (m : Line). s.from < m.from) later l (pairs_head (λ (l m : Line). l.from < m.from) s later (pairs_tail (λ (l m : Line). l.from < m.from) r (s ∷ later) h.rise)) there in
        inr (omega arith)
  ]
]

pub rises : (lines : List Line) (r s : Line) (later : List Line) → AreAhead lines r (s ∷ later) → r.from < s.from
rises lines r s later h = All-contains (λ (m : Line). r.from < m.from) (s ∷ later) s (pairs_head (λ (l m : Line). l.from < m.from) r (s ∷ later) h.rise) (contains_here s later)

-- the last row of all
abbrev pub last_row : Line → List Line → Line
last_row r [] = r
last_row r (s ∷ later) = last_row s later

none_above_last : (lines : List Line) (r : Line) (later : List Line) → AreAhead lines r later → (l : Line) → Contains lines l → l.from ≤ (last_row r later).from
none_above_last lines r [] h l c = elim (h.split l c) [ inl low ↦ low | inr high ↦ absurd (contains_none l high) ]
none_above_last lines r (s ∷ later) h l c = none_above_last lines s later (next_ahead lines r s later h) l c

waiting_before : (a : Architecture) (shifts : List Shift) (y : ℕ) → ((l : Line) → Contains (rows_of a shifts) l → y ≤ l.from) → IsBefore a shifts stage.Waiting y
waiting_before a shifts y first = record {
  loaded = λ l c. let up : y ≤ l.from = first l c in sym (le-ltb l.from y up);
  at_sources = refl;
  rows_stand = λ l c e. absurd (false≢true e);
  columns_stand = λ l c e. absurd (none_active (passing (λ (s : Shift). false && source_x a s == l.from) shifts e).2);
}
  where
    none_active : false ≡ true → ⊥
    none_active e = cc

parked_before : (a : Architecture) (shifts : List Shift) (x y : ℕ) → x < y → ((l : Line) → Contains (rows_of a shifts) l → (l.from ≤ x) ⊎ (y ≤ l.from)) → IsBefore a shifts (stage.Parked x y) y
parked_before a shifts x y up between = record {
  loaded = λ l c. same_tests (nat_le l.from x) (nat_lt l.from y)
      (λ e. let low : l.from ≤ x = leb-true l.from x e in lt-ltb l.from y (omega arith))
      (λ e. let low : l.from < y = ltb-true l.from y e in le-leb l.from x (under l.from x y low (between l c)));
  at_sources = refl;
  rows_stand = λ l c e.
      let low : l.from ≤ x = leb-true l.from x e in
      sym (beyond_its_place l.from a.figures.park (l.from == y) (ne_eqb l.from y (λ same. absurd (omega arith))));
  columns_stand = λ l c e. refl;
}
  where
    under : (n x y : ℕ) → n < y → (n ≤ x) ⊎ (y ≤ n) → n ≤ x
    under n x y low which = elim which [ inl le ↦ le | inr le ↦ absurd (omega arith) ]

parking : (a : Architecture) (shifts : List Shift) (x y : ℕ) → SameLines a shifts (stage.Caught x) (stage.Parked x y)
parking a shifts x y = record { loaded = λ m c. refl; kept = λ m c off. refl }

flying : (a : Architecture) (shifts : List Shift) → Grouped a shifts → (x y : ℕ) → ((l : Line) → Contains (rows_of a shifts) l → (l.from ≤ x) × (y ≤ l.from)) → SameLines a shifts (stage.Caught x) (stage.Landed y)
flying a shifts g x y all = record {
  loaded = λ m c.
      let around = all (row_of a m) (has_row a shifts g m c) in
      le-leb (source_y a m) x around.0 ∙ sym (le-leb y (source_y a m) around.1);
  kept = λ m c off.
      let around = all (row_of a m) (has_row a shifts g m c) in
      absurd (both_ways (nat_le y (source_y a m)) off (le-leb y (source_y a m) around.1));
}

landing : (a : Architecture) (shifts : List Shift) → Grouped a shifts → (x y : ℕ) → x < y → ((l : Line) → Contains (rows_of a shifts) l → (l.from ≤ x) ⊎ (y ≤ l.from)) → SameLines a shifts (stage.Dropped x) (stage.Landed y)
landing a shifts g x y up between = record {
  loaded = λ m c. same_tests (nat_lt x (source_y a m)) (nat_le y (source_y a m))
      (λ e. le-leb y (source_y a m) (over (source_y a m) x y (ltb-true x (source_y a m) e) (between (row_of a m) (has_row a shifts g m c))))
      (λ e. let high : y ≤ source_y a m = leb-true y (source_y a m) e in lt-ltb x (source_y a m) (omega arith));
  kept = λ m c off. refl;
}
  where
    over : (n x y : ℕ) → x < n → (n ≤ x) ⊎ (y ≤ n) → y ≤ n
    over n x y high which = elim which [ inl le ↦ absurd (omega arith) | inr le ↦ le ]

loads : (a : Architecture) → CardLaws a → (shifts : List Shift) → Grouped a shifts → (aod : ℕ) (before : Stage) (r : Line) (later : List Line) (rest : List Leg)
    → IsBefore a shifts before r.from → AreAhead (rows_of a shifts) r later → Advances a shifts aod (stage.Caught (last_row r later).from) rest
    → Advances a shifts aod before (loading a shifts aod (r ∷ later) ++ rest)
loads a laws shifts g aod before r [] rest h ahead more = (catch_leads a laws shifts g aod before r.from h, more)
loads a laws shifts g aod before r (s ∷ later) rest h ahead more = (
  catch_leads a laws shifts g aod before r.from h,
  (
    move_leads a laws shifts g aod (stage.Caught r.from) (stage.Parked r.from s.from) (parking a shifts r.from s.from),
    loads a laws shifts g aod (stage.Parked r.from s.from) s later rest
        (parked_before a shifts r.from s.from (rises (rows_of a shifts) r s later ahead) (neighbours (rows_of a shifts) r s later ahead))
        (next_ahead (rows_of a shifts) r s later ahead)
        more,
  ),
)

unloads : (a : Architecture) → CardLaws a → (shifts : List Shift) → Grouped a shifts → (aod : ℕ) (r : Line) (later : List Line) → AreAhead (rows_of a shifts) r later
    → Advances a shifts aod (stage.Landed r.from) (unloading a shifts aod (r ∷ later))
unloads a laws shifts g aod r [] ahead = (drop_leads a laws shifts g aod r.from, tt)
unloads a laws shifts g aod r (s ∷ later) ahead = (
  drop_leads a laws shifts g aod r.from,
  (
    move_leads a laws shifts g aod (stage.Dropped r.from) (stage.Landed s.from)
        (landing a shifts g r.from s.from (rises (rows_of a shifts) r s later ahead) (neighbours (rows_of a shifts) r s later ahead)),
    unloads a laws shifts g aod s later (next_ahead (rows_of a shifts) r s later ahead),
  ),
)

-- the first row is the lowest
none_below_first : (r : Line) (later : List Line) → Rise (r ∷ later) → (l : Line) → Contains (r ∷ later) l → r.from ≤ l.from
none_below_first r later rise l c = elim (contains_cases r l later c) [
  | inl e ↦ let same : r.from ≡ l.from = ap (λ (m : Line). m.from) e in omega arith
  | inr there ↦ let up : r.from < l.from = All-contains (λ (m : Line). r.from < m.from) later l (pairs_head (λ (l m : Line). l.from < m.from) r later rise) there in omega arith
]

advances_over : (a : Architecture) → CardLaws a → (shifts : List Shift) → Grouped a shifts → (aod : ℕ) (lines : List Line) → rows_of a shifts ≡ lines
    → Advances a shifts aod stage.Waiting ((loading a shifts aod lines ++ flight a shifts aod lines) ++ unloading a shifts aod lines)
advances_over a laws shifts g aod [] e = tt
advances_over a laws shifts g aod (r ∷ later) e =
    let rise : Rise (r ∷ later) = subst Rise e (rows_rise a shifts) in
    let ahead : AreAhead (rows_of a shifts) r later = subst (λ (lines : List Line). AreAhead lines r later) (sym e) (first_ahead r later rise) in
    let low : (l : Line) → Contains (rows_of a shifts) l → r.from ≤ l.from = λ l c. none_below_first r later rise l (subst (λ (lines : List Line). Contains lines l) e c) in
    let high : (l : Line) → Contains (rows_of a shifts) l → l.from ≤ (last_row r later).from = none_above_last (rows_of a shifts) r later ahead in
    subst (λ (ls : List Leg). Advances a shifts aod stage.Waiting ls) (sym (append_assoc (loading a shifts aod (r ∷ later)) (flight a shifts aod (r ∷ later)) (unloading a shifts aod (r ∷ later))))
    (loads a laws shifts g aod stage.Waiting r later (flight a shifts aod (r ∷ later) ++ unloading a shifts aod (r ∷ later))
    (waiting_before a shifts r.from low) ahead (
      move_leads a laws shifts g aod (stage.Caught (last_row r later).from) (stage.Landed r.from) (flying a shifts g (last_row r later).from r.from (λ l c. (high l c, low l c))),
      unloads a laws shifts g aod r later ahead,
    ))

pub advances : (a : Architecture) → CardLaws a → (shifts : List Shift) → Grouped a shifts → (aod : ℕ) → Advances a shifts aod stage.Waiting (legs a shifts aod)
advances a laws shifts g aod = advances_over a laws shifts g aod (rows_of a shifts) refl
