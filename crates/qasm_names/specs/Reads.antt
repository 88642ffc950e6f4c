-- Which places the measurements among some statements have read, by their words.
use Rattle.std.specs.Prelude.{◌≡◌, ℕ, Bool, false, ◌&&◌, ◌||◌, ◌==◌, List, [], ◌∷◌, Option, Some, None, is_none}
use Rattle.std.specs.Str.{bytes_eq}
use Rattle.qasm_form.specs.declared.stmt.Stmt.{Stmt}
use Rattle.qasm_form.specs.declared.stmt.Stmt.TheVariants as stmt

-- The registers that were read whole, and the single places that were read.
pub record ReadPlaces : Type 0 where
  pub whole : List ℕ → Bool
  pub single : List ℕ → ℕ → Bool

-- Nothing was read.
abbrev pub no_reads : ReadPlaces
no_reads = record { whole = λ name. false; single = λ name index. false }

-- The index is there and is this one.
abbrev pub is_at : Option ℕ → ℕ → Bool
is_at None k = false
is_at (Some at) k = k == at

-- What is read behind one more read, of a whole register or of one place.
abbrev pub with_read : ReadPlaces → List ℕ → Option ℕ → ReadPlaces
with_read reads word index = record {
  whole = λ name. (bytes_eq name word && is_none index) || reads.whole name;
  single = λ name k. (bytes_eq name word && is_at index k) || reads.single name k;
}

-- What is read behind a statement: one read more where it is a measurement.
abbrev pub with_reads_of : ReadPlaces → Stmt → ReadPlaces
with_reads_of reads (stmt.Measure from into at) = with_read reads from.word from.index
with_reads_of reads other = reads

-- What is read behind some statements.
abbrev pub reads_after : ReadPlaces → List Stmt → ReadPlaces
reads_after reads [] = reads
reads_after reads (s ∷ ss) = reads_after (with_reads_of reads s) ss

-- These are the places that the measurements among the statements read.
pub record AreReadsOf (reads : ReadPlaces) (statements : List Stmt) : Type 0 where
  pub whole : (name : List ℕ) → reads.whole name ≡ (reads_after no_reads statements).whole name
  pub single : (name : List ℕ) (k : ℕ) → reads.single name k ≡ (reads_after no_reads statements).single name k

-- The statement is a measurement.
abbrev pub IsMeasurement : Stmt → Type 0
IsMeasurement (stmt.Measure from into at) = Unit {0}
IsMeasurement other = ⊥
