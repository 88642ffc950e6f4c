use Rattle.std.proofs.Common.{◌≤◌, ◌-◌, length}
use Rattle.qasm_form.specs.Symbols.{lexemes_of}
use Rattle.qasm_scope.specs.HeaderReading.{IsReadHeader}
use Rattle.qasm_scope.proofs.header.read_statements.Given as goal

abbrev pub invariant-loop-place : goal.invariant-loop-place
invariant-loop-place l = record {
  within : l.place ≤ length l.tokens.tokens;
  read : IsReadHeader (lexemes_of l.source l.tokens.tokens) l.place l.names;
}

abbrev pub decreases-loop-place : goal.decreases-loop-place
decreases-loop-place l = length l.tokens.tokens - l.place
