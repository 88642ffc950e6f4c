use Rattle.std.proofs.Common.{◌≡◌, ℕ, List, Contains, subst, sym, ◌∙◌}
use Rattle.serde_json.specs.View.{view}
use Rattle.serde_json.specs.Written.{compact_text}
use Rattle.zair_text.proofs.OneLine.{compact_text_one_line}
use Rattle.zair_text.proofs.line.line_from.Goals as goal

pub returns-clause-reads_back : goal.returns-clause-reads_back
returns-clause-reads_back c =
    let text : List ℕ = c.in_ok-bytes.bytes.items in
    let is : text ≡ compact_text (view c.args.value.now) = c.in_ok-bytes.ensures.text c.requires.no_float in
    let P : List ℕ → Type 0 = λ s. ¬ Contains s 10 in
    record {
      text = text;
      ended = c.of.ensures ∙ c.in_ok-push.ensures.items;
      one_line = subst P (sym is) (compact_text_one_line (view c.args.value.now));
      value_read = c.in_ok-bytes.ensures.reads_back c.requires.shallow;
    }
