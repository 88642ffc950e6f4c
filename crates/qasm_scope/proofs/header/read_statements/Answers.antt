use Rattle.std.proofs.Common.{◌≡◌, ◌≤◌, List, length, ap, subst, arith}
use Rattle.qasm_lex.specs.declared.token.Token.{Token}
use Rattle.qasm_form.specs.Statements.{IsStatement}
use Rattle.qasm_form.specs.Symbols.{lexemes_of}
use Rattle.qasm_scope.specs.HeaderReading.{IsReadHeader}
use Rattle.qasm_scope.proofs.HeaderReadingLemmas.{read_none, next_stands, next_admissible, IsReadHeader-push, header_falls, read_all, length-lexemes_of}
use Rattle.qasm_scope.proofs.header.read_statements.Goals as goal

pub loop-place-init : goal.loop-place-init
loop-place-init c = record {
  within = omega arith;
  read = read_none (lexemes_of c.args.source.now c.args.tokens.now.tokens) _ c.new-names.ensures;
}

pub statement_of-requires-clause-stands : goal.statement_of-requires-clause-stands
statement_of-requires-clause-stands c =
    let source = c.args.source.now in
    let tokens = lexemes_of source c.args.tokens.now.tokens in
    let header = c.one_header.ensures.some in
    let falls = header_falls c.tokens_or_one_fault.ensures.one_list source c.args.tokens.now header.0 c.requires.text c.requires.lexed header.1 in
    next_stands tokens c.loop-place.place c.loop-place.names header.0 c.loop-place.invariant.read falls (omega (arith, c.loop-place-test.true, ap (λ (ts : List Token). length ts) c.all.ensures.tokens, length-lexemes_of source c.args.tokens.now.tokens))

pub enter-requires : goal.enter-requires
enter-requires c =
    let source = c.args.source.now in
    let tokens = lexemes_of source c.args.tokens.now.tokens in
    let header = c.one_header.ensures.some in
    let falls = header_falls c.tokens_or_one_fault.ensures.one_list source c.args.tokens.now header.0 c.requires.text c.requires.lexed header.1 in
    next_admissible tokens c.loop-place.place c.loop-place.names header.0 c.loop-place.invariant.read falls c.statement_or_one_fault.ensures.one_statement (c.one_header.ensures.sound header.0 header.1).admissible c.in_ok-stmt.stmt c.in_ok-stmt.next c.in_ok-stmt.ensures

pub loop-place-preserved : goal.loop-place-preserved
loop-place-preserved c =
    let source = c.args.source.now in
    let tokens = lexemes_of source c.args.tokens.now.tokens in
    let is : IsStatement tokens c.loop-place.place c.in_ok-stmt.stmt c.in_ok-stmt.next = c.in_ok-stmt.ensures in
    let within : c.in_ok-stmt.next ≤ length tokens = is.within in
    record {
      within = omega (arith, within, length-lexemes_of source c.args.tokens.now.tokens);
      read = IsReadHeader-push c.statement_or_one_fault.ensures.one_statement tokens c.loop-place.place c.in_ok-stmt.next c.loop-place.names _ c.in_ok-stmt.stmt c.loop-place.invariant.read is c.in_ok-enter.ensures.ok;
    }

pub returns-clause-is_header : goal.returns-clause-is_header
returns-clause-is_header c =
    let source = c.args.source.now in
    let lexed = c.args.tokens.now in
    let end : c.loop-place.place ≡ length lexed.tokens = omega (arith, c.loop-place-test.false, ap (λ (ts : List Token). length ts) c.all.ensures.tokens, c.loop-place.invariant.within) in
    read_all source lexed c.loop-place.names c.requires.text c.requires.lexed (subst (λ n. IsReadHeader (lexemes_of source lexed.tokens) n c.loop-place.names) end c.loop-place.invariant.read)

pub returns-clause-means : goal.returns-clause-means
returns-clause-means c = c.loop-place.invariant.read.means
