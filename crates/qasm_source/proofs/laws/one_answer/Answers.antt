use Rattle.qasm_source.proofs.OneReading.{SourcesAreOne, accepted_once, accepted_or_refused, refused_once}
use Rattle.qasm_source.proofs.SomeReading.{SourcesAreSome, ProgramsAreSome, answered}
use Rattle.qasm_source.proofs.laws.one_answer.Goals as goal

pub returns : goal.returns
returns c =
    let tokens = c.tokens_or_one_fault.ensures in
    let statements = c.statement_or_one_fault.ensures in
    let header = c.one_header.ensures in
    let one : SourcesAreOne = record {
      one_list = tokens.one_list;
      one_lex_fault = tokens.one_fault;
      not_lexed = tokens.not_both;
      one_statement = statements.one_statement;
      one_fault = statements.one_fault;
      not_both = statements.not_both;
      one_way = c.tokens_fall_in_one_way.ensures;
      one_header = header.one;
      one_refusal = c.one_judgement.ensures.one_refusal;
    } in
    let sources : SourcesAreSome = record {
      tokens = tokens.some;
      seen = c.each_token_is_seen.ensures;
      header = header.some;
      end_or_stop = c.tokens_go_to_the_end_or_stop.ensures;
    } in
    let programs : ProgramsAreSome = record {
      sound = header.sound;
      expands = c.each_program_expands.ensures.some;
      limit = c.one_limit.ensures.some;
    } in
    record {
      some = answered sources programs;
      one_program = accepted_once one;
      one_refusal = refused_once one;
      not_both = λ source program k at is refused. accepted_or_refused one source program is k at refused;
    }
