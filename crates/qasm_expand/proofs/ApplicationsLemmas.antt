-- Which qubits the statements so far have read.
use Rattle.std.proofs.Common.{◌≡◌, ℕ, ◌<◌, List, [], ◌∷◌, ◌++◌, length, Option, Some, None, refl, sym, ◌∙◌, subst, arith}
use Rattle.std.specs.List.{AllByRecursion}
use Rattle.qasm_form.specs.declared.stmt.Arg.{Arg}
use Rattle.qasm_form.specs.declared.stmt.Stmt.{Stmt}
use Rattle.qasm_form.specs.declared.stmt.Stmt.TheVariants as stmt
use Rattle.qasm_names.specs.Names.{Environment, qubit_size, value_or}
use Rattle.qasm_names.specs.Environment.{enter, environment}
use Rattle.qasm_names.specs.Applications.{Place, times_by, applications, applied, WasRead}
use Rattle.qasm_expand.specs.declared.kind.RegisterKind.TheVariants as register
use Rattle.qasm_expand.specs.Items.{Item, qubit_number}
use Rattle.qasm_expand.specs.Items.Item.{Applied, Barrier, Measured}
use Rattle.qasm_expand.specs.RegisterKinds.{IsPlaceIn}
use Rattle.qasm_expand.proofs.EnvironmentLemmas.{IsBare, size_stays, header_is}
use Rattle.qasm_expand.proofs.GateLemmas.{get_append, get_last}
use Rattle.qasm_expand.proofs.NumberingLemmas.{number-one}
use Rattle.qasm_expand.proofs.SoundItems.{Among, qubits_of, Spares, Cross, all_mapped}

size_later : (k : ℕ) (o p : Option ℕ) → k < value_or o 0 → ((n : ℕ) → o ≡ Some n → p ≡ Some n) → k < value_or p 0
size_later k None p h same = absurd (omega arith)
size_later k (Some n) p h same = subst (λ o. k < value_or o 0) (sym (same n refl)) h

times_later : (e f : Environment) (from : Arg) (k : ℕ) (index : Option ℕ) → k < times_by e from index 1 → ((n : ℕ) → qubit_size e from.word ≡ Some n → qubit_size f from.word ≡ Some n) → k < times_by f from index 1
times_later e f from k (Some i) h same = h
times_later e f from k None h same = size_later k (qubit_size e from.word) (qubit_size f from.word) h same

-- a measurement is applied as often later
pub applies_later : (header pre : List Stmt) (s : Stmt) (from : Arg) (k : ℕ) → IsBare header → k < applications (environment header pre) (from ∷ []) → k < applications (enter (environment header pre) s) (from ∷ [])
applies_later header pre s from k bare h =
    let e = environment header pre in
    times_later e (enter e s) from k from.index h (λ n is. size_stays register.Qubit e (s ∷ []) from.word n (header_is header pre bare) is)

-- what was read stays read
pub read_stays : (header pre : List Stmt) (s : Stmt) (p : Place) → IsBare header → WasRead (environment header pre) pre p → WasRead (enter (environment header pre) s) (pre ++ s ∷ []) p
read_stays header pre s p bare r = record {
  i = r.i;
  k = r.k;
  from = r.from;
  into = r.into;
  at = r.at;
  measured = get_append pre (s ∷ []) r.i (stmt.Measure r.from r.into r.at) r.measured;
  applies = applies_later header pre s r.from r.k bare r.applies;
  is = r.is;
}

-- and what a measurement reads is read behind it
pub now_read : (header pre : List Stmt) (from into : Arg) (at k : ℕ) → IsBare header → k < applications (environment header pre) (from ∷ []) → WasRead (enter (environment header pre) (stmt.Measure from into at)) (pre ++ stmt.Measure from into at ∷ []) (applied from k)
now_read header pre from into at k bare h = record {
  i = length pre;
  k = k;
  from = from;
  into = into;
  at = at;
  measured = get_last pre (stmt.Measure from into at);
  applies = applies_later header pre (stmt.Measure from into at) from k bare h;
  is = refl;
}

-- the number of a place that wasn't read, and that of one that was
pub record Untouched (e : Environment) (before all : List Stmt) (q : ℕ) : Type 0 where
  pub place : Place
  pub at : IsPlaceIn register.Qubit all place
  pub number : q ≡ qubit_number all place
  pub unread : WasRead e before place → ⊥

pub record Touched (e : Environment) (before all : List Stmt) (q : ℕ) : Type 0 where
  pub place : Place
  pub at : IsPlaceIn register.Qubit all place
  pub number : q ≡ qubit_number all place
  pub read : WasRead e before place

-- the call's qubits weren't read so far
abbrev pub IsFresh : Environment → List Stmt → List Stmt → Item → Type 0
IsFresh e before all item = (q : ℕ) → Among q (qubits_of item) → Untouched e before all q

-- the qubit that it reads is read so far
abbrev pub ReadsSoFar : Environment → List Stmt → List Stmt → Item → Type 0
ReadsSoFar e before all (Measured q bit) = Touched e before all q
ReadsSoFar e before all (Applied to angles qubits) = Unit {0}
ReadsSoFar e before all Barrier = Unit {0}

-- a qubit can't be both
pub read_or_not : (e : Environment) (before all : List Stmt) (q : ℕ) → Touched e before all q → Untouched e before all q → ⊥
read_or_not e before all q r u =
    let same : r.place ≡ u.place = number-one register.Qubit all r.place u.place r.at u.at (sym r.number ∙ u.number) in
    u.unread (subst (WasRead e before) same r.read)

fresh_spares : (e : Environment) (before all : List Stmt) (x y : Item) → ReadsSoFar e before all x → IsFresh e before all y → Spares x y
fresh_spares e before all (Measured q bit) y r f = λ a. read_or_not e before all q r (f q a)
fresh_spares e before all (Applied to angles qubits) y r f = tt
fresh_spares e before all Barrier y r f = tt

pub fresh_cross : (e : Environment) (before all : List Stmt) (xs ys : List Item) → AllByRecursion (ReadsSoFar e before all) xs → AllByRecursion (IsFresh e before all) ys → Cross xs ys
fresh_cross e before all [] ys r f = tt
fresh_cross e before all (x ∷ xs) ys r f =
    (all_mapped (IsFresh e before all) (Spares x) (λ y fresh. fresh_spares e before all x y r.0 fresh) ys f, fresh_cross e before all xs ys r.1 f)

-- what wasn't read later wasn't read before
pub fresh_before : (header pre all : List Stmt) (s : Stmt) (y : Item) → IsBare header → IsFresh (enter (environment header pre) s) (pre ++ s ∷ []) all y → IsFresh (environment header pre) pre all y
fresh_before header pre all s y bare f = λ q a.
    let u = f q a in
    record { place = u.place; at = u.at; number = u.number; unread = λ r. u.unread (read_stays header pre s u.place bare r) }
