use Rattle.std.proofs.Common.{◌≤◌, ◌∙◌, sym, ap, subst, List, ℕ, Some, IsUtf8}
use Rattle.serde_json.specs.Data.{Data, depth}
use Rattle.serde_json.specs.Read.{read, max_depth}
use Rattle.serde_json.specs.Written.{has_float, compact_text}
use Rattle.zac_archfile.proofs.Written.{card_no_float, card_shallow}
use Rattle.zac_archfile.proofs.write.write_card.Goals as goal

pub returns-clause-text : goal.returns-clause-text
returns-clause-text c =
    let plain = ap has_float c.in_ok-value.ensures.value ∙ card_no_float c.args.card.now in
    c.of.ensures ∙ c.in_ok-bytes.ensures.text plain ∙ ap compact_text c.in_ok-value.ensures.value

pub returns-clause-reads_back : goal.returns-clause-reads_back
returns-clause-reads_back c =
    let P : Data → Type 0 = λ d. depth d ≤ max_depth in
    let Q : List ℕ → Type 0 = λ s. IsUtf8 s in
    let flat = subst P (sym c.in_ok-value.ensures.value) (card_shallow c.args.card.now) in
    record {
      utf8 = subst Q (sym c.of.ensures) c.in_ok-bytes.ensures.utf8;
      value = ap read c.of.ensures ∙ c.in_ok-bytes.ensures.reads_back flat ∙ ap (λ d. Some d) c.in_ok-value.ensures.value;
      rules = c.in_ok-value.ensures.rules;
    }
