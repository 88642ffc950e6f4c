use Rattle.std.proofs.Common.{◌≡◌, ◌++◌, ℕ, List, Some, Contains, ap, ◌∙◌}
use Rattle.serde_json.specs.Written.{compact_text}
use Rattle.zair_text.specs.Lines.{instr_line}
use Rattle.zair_text.specs.Values.{instr_value}
use Rattle.zair_text.proofs.OneLine.{compact_text_one_line}
use Rattle.zair_text.proofs.ReadingBack.{instr_read}
use Rattle.zair_text.proofs.line.line_of.Goals as goal

pub returns-clause-reads_back : goal.returns-clause-reads_back
returns-clause-reads_back c =
    let value = instr_value c.args.instr.now in
    record {
      text = compact_text value;
      ended = c.of.ensures ∙ (c.in_ok-add_line.ensures.line ∙ ap (λ s. s ++ instr_line c.args.instr.now) c.in_ok-bytes.ensures.items);
      one_line = compact_text_one_line value;
      value_read = instr_read c.args.instr.now c.in_ok-add_line.ensures.small;
    }
