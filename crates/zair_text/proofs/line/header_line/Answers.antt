use Rattle.std.proofs.Common.{◌≡◌, ◌++◌, ◌∷◌, [], codes, refl, ap, ◌∙◌}
use Rattle.std.specs.Fmt.{digits}
use Rattle.std.proofs.lemmas.Result.{IfOk-weaker}
use Rattle.serde_json.proofs.OnLiterals.{serde_json_on_literals}
use Rattle.zair_text.specs.Lines.{line}
use Rattle.zair_text.specs.Values.{header_value}
use Rattle.zair_text.proofs.line.header_line.Goals as goal

pub returns-clause-bytes : goal.returns-clause-bytes
unfolding serde_json_on_literals digits
returns-clause-bytes c =
    let is : line header_value ≡ codes "{\"type\":\"zair\",\"version\":1}" ++ 10 ∷ [] = refl in
    IfOk-weaker c.line_from.result _ _ (λ bytes e. (e ∙ ap line c.in_ok-value.ensures) ∙ is) c.line_from.ensures.line
