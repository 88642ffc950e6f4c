-- Inside: what may stand behind an item.
use Rattle.std.specs.Prelude.{Bool, true, false, Option, Some, None, if◌then◌else◌}
use Rattle.qasm_form.specs.declared.symbol.Symbol.{Symbol}
use Rattle.qasm_form.specs.declared.symbol.Symbol.TheVariants as sym
use Rattle.qasm_parse.specs.declared.opening.Follow.{Follow}
use Rattle.qasm_parse.specs.declared.opening.Follow.TheVariants.{Only, Until}
use Rattle.qasm_parse.specs.SameSymbols.{same_symbol}

-- What may stand behind an item: one sign alone, or a comma and that sign.
abbrev pub follows : Follow → Symbol → Option Bool
follows (Only stop) symbol = if same_symbol symbol stop then Some false else None
follows (Until stop) symbol =
    if same_symbol symbol stop then Some false else (if same_symbol symbol sym.Comma then Some true else None)
