use Rattle.std.proofs.Common.{◌≡◌, take}
use Rattle.qasm_names.specs.Environment.{words_of}
use Rattle.qasm_names.proofs.copy.copy_words.Given as goal

abbrev pub invariant-loop-name : goal.invariant-loop-name
invariant-loop-name l = l.copy.items ≡ words_of (take l.name-index l.names)
