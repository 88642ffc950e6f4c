use Rattle.std.proofs.Common.{refl}
use Rattle.zac_flow.proofs.OneFault.{Laws, ReplaysAreOne, TextsAreOne, served_or_fault, status_once}
use Rattle.zac_flow.proofs.laws.one_status.Goals as goal

pub returns : goal.returns
returns c =
    let cards = c.card_or_one_fault.ensures in
    let source = c.one_answer.ensures in
    let limits = c.one_limit.ensures in
    let read = c.program_or_one_fault.ensures in
    let law : Laws = record {
      cards = record { card = cards.one_card; fault = cards.one_fault; not_both = cards.not_both };
      one_program = source.one_program;
      one_refusal = source.one_refusal;
      not_both = source.not_both;
      one_limit = limits.one_first;
      not_passed = limits.not_both;
    } in
    let texts : TextsAreOne = record { one_line = read.one_line; not_both = read.not_both } in
    let programs : ReplaysAreOne = record {
      one_program = read.one_program;
      one_circuit = c.one_expansion.ensures;
      no_fault = c.replays_have_no_fault.ensures;
    } in
    record {
      one_status = λ inputs fault other left right. status_once law inputs texts fault other left right;
      not_both = λ inputs fault served h. served_or_fault law inputs texts programs inputs.zair refl served fault h;
    }
