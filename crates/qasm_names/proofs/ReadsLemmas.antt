-- Lemmas on what was read.
use Rattle.std.proofs.Common.{zero, suc, ◌<◌, lit<, subst, unwrap_or, ◌⊎◌, inl, inr, slice_get, ◌≡◌, ℕ, Bool, true, false, cond, ◌&&◌, ◌||◌, List, [], ◌∷◌, ◌++◌, Option, Some, None, is_none, refl, ap, sym, ◌∙◌}
use Rattle.std.proofs.lemmas.Bool.{false≢true}
use borrow.Author.Tests.{eqb-true}
use Rattle.std.proofs.lemmas.Bool.Decides.{Decides-eqb}
use Rattle.std.specs.BTreeSet.{contains}
use Rattle.std.specs.Cmp.Lexicographic.{bytes_decides}
use Rattle.std.specs.Map.{lookup}
use Rattle.std.specs.Ordering.{nat_cmp}
use Rattle.std.specs.Str.{bytes_eq}
use Rattle.qasm_form.specs.declared.stmt.Arg.{Arg}
use Rattle.qasm_form.specs.declared.stmt.Stmt.{Stmt}
use Rattle.qasm_form.specs.declared.stmt.Stmt.TheVariants as stmt
use Rattle.qasm_names.specs.Reads.{ReadPlaces, is_at, with_read, with_reads_of, reads_after, no_reads, AreReadsOf}
use Rattle.qasm_names.specs.Applications.{applications, times_by, WasRead}
use Rattle.qasm_names.specs.Names.{Environment, qubit_size, value_or}
use Rattle.qasm_names.specs.Registers.{is_whole, is_single, reads_of}
use Rattle.qasm_names.specs.declared.reads.RegisterReads.{RegisterReads}
use Rattle.qasm_names.proofs.TablesLemmas.{FindsAt}

abbrev pub Registers : Type 0
Registers = List (List ℕ × RegisterReads)

-- equal at each name and place
same_reads : (a b : ReadPlaces) → ((name : List ℕ) → a.whole name ≡ b.whole name) → ((name : List ℕ) (k : ℕ) → a.single name k ≡ b.single name k) → a ≡ b
same_reads a b whole single = λ i. record { whole = λ name. whole name i; single = λ name k. single name k i }

-- a register with one more read, and the others as they were
pub reads_of-written : (word : List ℕ) (index : Option ℕ) (w : RegisterReads) (old new : Registers) → FindsAt word w old new
    → w.whole ≡ (is_none index || is_whole (lookup (bytes_eq word) old))
    → ((k : ℕ) → contains nat_cmp w.places k ≡ (is_at index k || is_single (lookup (bytes_eq word) old) k))
    → reads_of new ≡ with_read (reads_of old) word index
reads_of-written word index w old new finds whole places =
    same_reads (reads_of new) (with_read (reads_of old) word index)
    (λ name. ap is_whole (finds name) ∙ by name (bytes_eq name word) refl)
    (λ name k. ap (λ r. is_single r k) (finds name) ∙ at name k (bytes_eq name word) refl)
  where
    by : (name : List ℕ) (b : Bool) → bytes_eq name word ≡ b → is_whole (cond b (Some w) (lookup (bytes_eq name) old)) ≡ ((b && is_none index) || is_whole (lookup (bytes_eq name) old))
    by name true p = let same : name ≡ word = (bytes_decides name word).0 p in rw same whole
    by name false p = refl

    at : (name : List ℕ) (k : ℕ) (b : Bool) → bytes_eq name word ≡ b → is_single (cond b (Some w) (lookup (bytes_eq name) old)) k ≡ ((b && is_at index k) || is_single (lookup (bytes_eq name) old) k)
    at name k true p = let same : name ≡ word = (bytes_decides name word).0 p in rw same (places k)
    at name k false p = refl

-- a register with the same reads
pub reads_of-kept : (word : List ℕ) (w : RegisterReads) (old new : Registers) → FindsAt word w old new
    → w.whole ≡ is_whole (lookup (bytes_eq word) old)
    → ((k : ℕ) → contains nat_cmp w.places k ≡ is_single (lookup (bytes_eq word) old) k)
    → reads_of new ≡ reads_of old
reads_of-kept word w old new finds whole places =
    same_reads (reads_of new) (reads_of old)
    (λ name. ap is_whole (finds name) ∙ by name (bytes_eq name word) refl)
    (λ name k. ap (λ r. is_single r k) (finds name) ∙ at name k (bytes_eq name word) refl)
  where
    by : (name : List ℕ) (b : Bool) → bytes_eq name word ≡ b → is_whole (cond b (Some w) (lookup (bytes_eq name) old)) ≡ is_whole (lookup (bytes_eq name) old)
    by name true p = let same : name ≡ word = (bytes_decides name word).0 p in rw same whole
    by name false p = refl

    at : (name : List ℕ) (k : ℕ) (b : Bool) → bytes_eq name word ≡ b → is_single (cond b (Some w) (lookup (bytes_eq name) old)) k ≡ is_single (lookup (bytes_eq name) old) k
    at name k true p = let same : name ≡ word = (bytes_decides name word).0 p in rw same (places k)
    at name k false p = refl

-- whether a register was read whole, or one of its places
abbrev pub read_at : ReadPlaces → List ℕ → Option ℕ → Bool
read_at reads name None = reads.whole name
read_at reads name (Some k) = reads.single name k

-- a measurement among the statements reads this, a register or one of its places
pub record IsReadBy (ss : List Stmt) (name : List ℕ) (index : Option ℕ) : Type 0 where
  pub i : ℕ
  pub from : Arg
  pub into : Arg
  pub at : ℕ
  pub measured : slice_get ss i ≡ Some (stmt.Measure from into at)
  pub index_is : from.index ≡ index
  pub word_is : from.word ≡ name

abbrev matches : Option ℕ → Option ℕ → Bool
matches index None = is_none index
matches index (Some k) = is_at index k

matches_same : (index o : Option ℕ) → matches index o ≡ true → index ≡ o
matches_same None None h = refl
matches_same None (Some k) h = absurd (false≢true h)
matches_same (Some j) None h = absurd (false≢true h)
matches_same (Some j) (Some k) h = ap Some (sym (eqb-true k j h))

matches_own : (o : Option ℕ) → matches o o ≡ true
matches_own None = refl
matches_own (Some k) = (Decides-eqb k k).1 refl

and_true : (a b : Bool) → a ≡ true → b ≡ true → (a && b) ≡ true
and_true true b x y = y
and_true false b x y = x

none_is_some : {X : Type 0} {x : X} → None ≡ Some x → ⊥
none_is_some h = cc

some_same : {X : Type 0} {x y : X} → Some x ≡ Some y → x ≡ y
some_same h = cc

pairs : {A B : Type 0} {a c : A} {b d : B} → a ≡ c → b ≡ d → let p : A × B = (a, b) in let q : A × B = (c, d) in p ≡ q
pairs x y = λ i. (x i, y i)

or_cases : (a b : Bool) → (a || b) ≡ true → (a ≡ true) ⊎ (b ≡ true)
or_cases true b h = inl refl
or_cases false b h = inr h

or_right : (a b : Bool) → b ≡ true → (a || b) ≡ true
or_right true b h = refl
or_right false b h = h

and_both : (a b : Bool) → (a && b) ≡ true → (a ≡ true) × (b ≡ true)
and_both true b h = (refl, h)
and_both false b h = absurd (false≢true h)

-- one more read, by its word and index
at_read : (r : ReadPlaces) (word name : List ℕ) (index o : Option ℕ) → read_at (with_read r word index) name o ≡ ((bytes_eq name word && matches index o) || read_at r name o)
at_read r word name index None = refl
at_read r word name index (Some k) = refl

-- what a statement reads
by_statement : (r : ReadPlaces) (s : Stmt) (name : List ℕ) (o : Option ℕ) → read_at (with_reads_of r s) name o ≡ true → (read_at r name o ≡ true) ⊎ IsReadBy (s ∷ []) name o
by_statement r (stmt.Measure from into at) name o h =
    elim (or_cases (bytes_eq name from.word && matches from.index o) (read_at r name o) (sym (at_read r from.word name from.index o) ∙ h)) [
      | inl new ↦ let two = and_both (bytes_eq name from.word) (matches from.index o) new in
          inr (record { i = 0; from = from; into = into; at = at; measured = refl; index_is = matches_same from.index o two.1; word_is = sym ((bytes_decides name from.word).0 two.0) })
      | inr old ↦ inl old
    ]
by_statement r other name o h = inl h

-- what was read stays so
stays_by : (r : ReadPlaces) (s : Stmt) (name : List ℕ) (o : Option ℕ) → read_at r name o ≡ true → read_at (with_reads_of r s) name o ≡ true
stays_by r (stmt.Measure from into at) name o h = at_read r from.word name from.index o ∙ or_right (bytes_eq name from.word && matches from.index o) (read_at r name o) h
stays_by r other name o h = h

stays : (r : ReadPlaces) (ss : List Stmt) (name : List ℕ) (o : Option ℕ) → read_at r name o ≡ true → read_at (reads_after r ss) name o ≡ true
stays r [] name o h = h
stays r (s ∷ ss) name o h = stays (with_reads_of r s) ss name o (stays_by r s name o h)

later : (s : Stmt) (ss : List Stmt) (name : List ℕ) (o : Option ℕ) → IsReadBy ss name o → IsReadBy (s ∷ ss) name o
later s ss name o h = record { i = suc h.i; from = h.from; into = h.into; at = h.at; measured = h.measured; index_is = h.index_is; word_is = h.word_is }

first : (s : Stmt) (ss : List Stmt) (name : List ℕ) (o : Option ℕ) → IsReadBy (s ∷ []) name o → IsReadBy (s ∷ ss) name o
first s ss name o h = by h.i h.measured
  where
    by : (i : ℕ) → slice_get (s ∷ []) i ≡ Some (stmt.Measure h.from h.into h.at) → IsReadBy (s ∷ ss) name o
    by zero m = record { i = 0; from = h.from; into = h.into; at = h.at; measured = m; index_is = h.index_is; word_is = h.word_is }
    by (suc i) m = absurd (none_is_some m)

-- what is read behind statements was read before them, or by a measurement among them
pub from_reads_after : (r : ReadPlaces) (ss : List Stmt) (name : List ℕ) (o : Option ℕ) → read_at (reads_after r ss) name o ≡ true → (read_at r name o ≡ true) ⊎ IsReadBy ss name o
from_reads_after r [] name o h = inl h
from_reads_after r (s ∷ ss) name o h =
    elim (from_reads_after (with_reads_of r s) ss name o h) [
      | inl old ↦ elim (by_statement r s name o old) [ inl before ↦ inl before | inr now ↦ inr (first s ss name o now) ]
      | inr more ↦ inr (later s ss name o more)
    ]

-- each measurement's read is among them
pub to_reads_after : (r : ReadPlaces) (ss : List Stmt) (name : List ℕ) (o : Option ℕ) → IsReadBy ss name o → read_at (reads_after r ss) name o ≡ true
to_reads_after r [] name o h = absurd (none_is_some h.measured)
to_reads_after r (s ∷ ss) name o h = by (to_reads_after (with_reads_of r s) ss name o) h.i h.measured
  where
    by : (IsReadBy ss name o → read_at (reads_after (with_reads_of r s) ss) name o ≡ true) → (i : ℕ) → slice_get (s ∷ ss) i ≡ Some (stmt.Measure h.from h.into h.at) → read_at (reads_after (with_reads_of r s) ss) name o ≡ true
    by rest (suc i) m = rest (record { i = i; from = h.from; into = h.into; at = h.at; measured = m; index_is = h.index_is; word_is = h.word_is })
    by rest zero m =
        let same : s ≡ stmt.Measure h.from h.into h.at = some_same m in
        let noted : read_at (with_read r h.from.word h.from.index) name o ≡ true =
        at_read r h.from.word name h.from.index o ∙ ap (λ b. b || read_at r name o) (and_true (bytes_eq name h.from.word) (matches h.from.index o) ((bytes_decides name h.from.word).1 (sym h.word_is)) (ap (λ x. matches x o) h.index_is ∙ matches_own o)) in
        stays (with_reads_of r s) ss name o (ap (λ x. read_at (with_reads_of r x) name o) same ∙ noted)

-- a place was read: by itself, or with its whole register
abbrev pub IsNoted : ReadPlaces → Environment → List ℕ → ℕ → Type 0
IsNoted r e name k = (r.single name k ≡ true) ⊎ ((r.whole name ≡ true) × (k < value_or (qubit_size e name) 0))

nothing_before : (ss : List Stmt) (name : List ℕ) (o : Option ℕ) → read_at (reads_after no_reads ss) name o ≡ true → IsReadBy ss name o
nothing_before ss name o h = elim (from_reads_after no_reads ss name o h) [ inl old ↦ absurd (none_yet o old) | inr by ↦ by ]
  where
    none_yet : (o : Option ℕ) → read_at no_reads name o ≡ true → ⊥
    none_yet None old = false≢true old
    none_yet (Some k) old = false≢true old

pub WasRead-to : (r : ReadPlaces) (e : Environment) (ss : List Stmt) → AreReadsOf r ss → (name : List ℕ) (k : ℕ) → IsNoted r e name k → WasRead e ss (name, k)
WasRead-to r e ss are name k (inl single) =
    let h = nothing_before ss name (Some k) (sym (are.single name k) ∙ single) in
    record {
      i = h.i;
      k = 0;
      from = h.from;
      into = h.into;
      at = h.at;
      measured = h.measured;
      applies = let P : ℕ → Type 0 = λ n. 0 < n in subst P (sym (ap (λ o. times_by e h.from o 1) h.index_is)) (lit< tt);
      is = pairs (sym h.word_is) (sym (ap (λ o. value_or o 0) h.index_is));
    }
WasRead-to r e ss are name k (inr (whole, below)) =
    let h = nothing_before ss name None (sym (are.whole name) ∙ whole) in
    record {
      i = h.i;
      k = k;
      from = h.from;
      into = h.into;
      at = h.at;
      measured = h.measured;
      applies = let P : ℕ → Type 0 = λ n. k < n in subst P (sym (ap (λ o. times_by e h.from o 1) h.index_is ∙ ap (λ w. value_or (qubit_size e w) 0) h.word_is)) below;
      is = pairs (sym h.word_is) (sym (ap (λ o. value_or o k) h.index_is));
    }

pub WasRead-from : (r : ReadPlaces) (e : Environment) (ss : List Stmt) → AreReadsOf r ss → (name : List ℕ) (k : ℕ) → WasRead e ss (name, k) → IsNoted r e name k
WasRead-from r e ss are name k h = by h.from.index refl
  where
    word : h.from.word ≡ name
    word = sym (ap (λ (q : List ℕ × ℕ). q.0) h.is)

    by : (o : Option ℕ) → h.from.index ≡ o → IsNoted r e name k
    by None p =
        let there : IsReadBy ss name None = record { i = h.i; from = h.from; into = h.into; at = h.at; measured = h.measured; index_is = p; word_is = word } in
        let same : k ≡ h.k = ap (λ (q : List ℕ × ℕ). q.1) h.is ∙ ap (λ o. value_or o h.k) p in
        let size : applications e (h.from ∷ []) ≡ value_or (qubit_size e name) 0 = ap (λ o. times_by e h.from o 1) p ∙ ap (λ w. value_or (qubit_size e w) 0) word in
        let below : h.k < value_or (qubit_size e name) 0 = let P : ℕ → Type 0 = λ n. h.k < n in subst P size h.applies in
        inr (are.whole name ∙ to_reads_after no_reads ss name None there, let Q : ℕ → Type 0 = λ n. n < value_or (qubit_size e name) 0 in subst Q (sym same) below)
    by (Some j) p =
        let same : k ≡ j = ap (λ (q : List ℕ × ℕ). q.1) h.is ∙ ap (λ o. value_or o h.k) p in
        let there : IsReadBy ss name (Some k) = record { i = h.i; from = h.from; into = h.into; at = h.at; measured = h.measured; index_is = p ∙ ap Some (sym same); word_is = word } in
        inl (are.single name k ∙ to_reads_after no_reads ss name (Some k) there)

-- the same reads, where the list of statements is another name for it
pub AreReadsOf-at : (r : ReadPlaces) (ss now : List Stmt) → ss ≡ now → AreReadsOf r ss → AreReadsOf r now
AreReadsOf-at r ss now e h = let P : List Stmt → Type 0 = λ l. AreReadsOf r l in subst P e h

pub value_or-unwrap_or : (o : Option ℕ) (n : ℕ) → unwrap_or o n ≡ value_or o n
value_or-unwrap_or None n = refl
value_or-unwrap_or (Some k) n = refl

reads_after-push : (r : ReadPlaces) (ss : List Stmt) (s : Stmt) → reads_after r (ss ++ s ∷ []) ≡ with_reads_of (reads_after r ss) s
reads_after-push r [] s = refl
reads_after-push r (x ∷ ss) s = reads_after-push (with_reads_of r x) ss s

-- one statement more, with its read
pub AreReadsOf-push : (r new : ReadPlaces) (ss : List Stmt) (s : Stmt) → AreReadsOf r ss → new ≡ with_reads_of r s → AreReadsOf new (ss ++ s ∷ [])
AreReadsOf-push r new ss s are noted =
    let same : r ≡ reads_after no_reads ss = same_reads r (reads_after no_reads ss) are.whole are.single in
    let after : new ≡ reads_after no_reads (ss ++ s ∷ []) = noted ∙ ap (λ x. with_reads_of x s) same ∙ sym (reads_after-push no_reads ss s) in
    record { whole = λ name. ap (λ (x : ReadPlaces). x.whole name) after; single = λ name k. ap (λ (x : ReadPlaces). x.single name k) after }

-- no statements, and no reads
pub AreReadsOf-none : (reads : ReadPlaces) (ss : List Stmt) → reads ≡ no_reads → ss ≡ [] → AreReadsOf reads ss
AreReadsOf-none reads ss r e = record {
  whole = λ name. ap (λ (x : ReadPlaces). x.whole name) (r ∙ ap (λ l. reads_after no_reads l) (sym e));
  single = λ name k. ap (λ (x : ReadPlaces). x.single name k) (r ∙ ap (λ l. reads_after no_reads l) (sym e));
}
