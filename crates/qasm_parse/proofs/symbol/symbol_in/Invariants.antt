use Rattle.std.proofs.Common.{◌≡◌, drop, map}
use Rattle.qasm_form.specs.Symbols.{symbol_in, row_of}
use Rattle.qasm_parse.proofs.symbol.symbol_in.Given as goal

abbrev pub invariant-loop-row : goal.invariant-loop-row
invariant-loop-row l =
    symbol_in (map row_of (drop l.row-index l.rows)) l.text l.other ≡ symbol_in (map row_of l.rows) l.text l.other
