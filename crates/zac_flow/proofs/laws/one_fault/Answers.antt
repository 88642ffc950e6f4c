use Rattle.zac_flow.proofs.OneFault.{Laws, fault_once, fits_or_fault}
use Rattle.zac_flow.proofs.SomeFault.{faulty_or_fits}
use Rattle.zac_flow.proofs.laws.one_fault.Goals as goal

pub returns : goal.returns
returns c =
    let cards = c.card_or_one_fault.ensures in
    let source = c.one_answer.ensures in
    let limits = c.one_limit.ensures in
    let law : Laws = record {
      cards = record { card = cards.one_card; fault = cards.one_fault; not_both = cards.not_both };
      one_program = source.one_program;
      one_refusal = source.one_refusal;
      not_both = source.not_both;
      one_limit = limits.one_first;
      not_passed = limits.not_both;
    } in
    record {
      some = faulty_or_fits cards.some source.some;
      one_fault = λ inputs fault other none left right. fault_once law inputs none fault other left right;
      not_both = λ inputs fault none served h. fits_or_fault law inputs none served.0 served.1 served.2 served.3 served.4 fault h;
    }
