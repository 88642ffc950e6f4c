use Rattle.std.proofs.Common.{◌≡◌, ◌++◌, ◌∷◌, [], codes, decimal, ap, ◌∙◌, append_assoc}
use Rattle.std.proofs.lemmas.Result.{IfOk-weaker}
use Rattle.serde_json.specs.Written.{compact_text}
use Rattle.serde_json.proofs.OnLiterals.{serde_json_on_literals}
use Rattle.zair_text.specs.Lines.{line}
use Rattle.zair_text.specs.Values.{end_value}
use Rattle.zair_text.proofs.line.end_line.Goals as goal

pub returns-clause-bytes : goal.returns-clause-bytes
unfolding serde_json_on_literals
returns-clause-bytes c =
    let t = c.args.totals in
    let is : compact_text (end_value t)
    ≡ codes "{\"gates\":" ++ decimal t.gates ++ codes ",\"jobs\":" ++ decimal t.jobs ++ codes ",\"kept\":" ++ decimal t.kept
    ++ codes ",\"moved\":" ++ decimal t.moved ++ codes ",\"pairs\":" ++ decimal t.pairs ++ codes ",\"pulses\":" ++ decimal t.pulses
    ++ codes ",\"qubits\":" ++ decimal t.qubits ++ codes ",\"reads\":" ++ decimal t.reads ++ codes ",\"time\":" ++ decimal t.time
    ++ codes ",\"type\":\"end\"}" = simp append_assoc in
    IfOk-weaker c.line_from.result _ _ (λ bytes e. (e ∙ ap line c.in_ok-value.ensures) ∙ ap (λ s. s ++ 10 ∷ []) is) c.line_from.ensures.line
