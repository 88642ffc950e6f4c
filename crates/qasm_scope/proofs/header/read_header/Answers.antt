use Rattle.std.proofs.Common.{sym, subst}
use Rattle.qasm_lex.specs.Cuts.{AreTokensOf}
use Rattle.qasm_scope.proofs.HeaderReadingLemmas.{no_lex_fault}
use Rattle.qasm_scope.proofs.header.read_header.Goals as goal

pub unreachable-requires : goal.unreachable-requires
unreachable-requires c =
    let header = c.one_header.ensures.some in
    let source = c.header_text-source.result.now in
    let tokens = subst (λ s. AreTokensOf s header.1.lexed) (sym c.header_text-source.ensures) header.1.tokens in
    no_lex_fault source header.1.lexed c.in-Err.fault c.in-At.at tokens c.in-Err.ensures.every c.in-At.is
