use Rattle.std.proofs.Common.{sym, subst, ◌∙◌, Some}
use Rattle.qasm_lex.specs.declared.token.TokenKind.TheVariants.{Word}
use Rattle.qasm_lex.specs.Cuts.{IsLongestFront}
use Rattle.qasm_lex.proofs.Found.{front_is, word_found, blank_found, other_missing}
use Rattle.qasm_lex.proofs.piece.piece.Goals as goal

pub returns-in-Lower : goal.returns-in-Lower
returns-in-Lower c =
    let bytes = c.args.bytes.now in
    front_is bytes _ (Some Word) c.run_length.result c.token.ensures (subst (IsLongestFront bytes (Some Word)) (sym c.run_length.ensures.run) (word_found bytes c.requires (sym c.class_of.ensures ∙ c.in-Lower.is)))

pub returns-in-Blank : goal.returns-in-Blank
returns-in-Blank c = blank_found c.args.bytes.now c.requires (sym c.class_of.ensures ∙ c.in-Blank.is)

pub returns-in-Other : goal.returns-in-Other
returns-in-Other c = other_missing c.args.bytes.now c.requires (sym c.class_of.ensures ∙ c.in-Other.is)
