use Rattle.std.proofs.Common.{◌≡◌, ◌<◌, ◌^◌, IsTrue, false, Ok, decimal, sym, ap, ◌∙◌, arith}
use Rattle.std.proofs.lemmas.Fmt.{parse-decimal}
use Rattle.zac_flow.proofs.words.number.Goals.{then-n-least-via-then-n-least, then-n-least-via-else-n-least+then-most-n, then-n-least-via-else-n-least+else-most-n+then-not-is_decimal}
use Rattle.zac_flow.proofs.words.number.Goals as goal

pub returns-in_default : goal.returns-in_default
returns-in_default c = λ n from to e.
    let small : n < 2 ^ 32 = omega (arith, c.ranges.most.fits) in
    let wide : n < 2 ^ 64 = omega arith in
    let read : c.parse.result ≡ Ok n = parse-decimal 32 n c.args.word.now c.parse.result small wide e c.parse.ensures.value.0 in
    let is = c.in_default.is in
    absurd (cc)

pub returns-then-n-least : goal.returns-then-n-least
returns-then-n-least c = λ n from to e.
    let small : n < 2 ^ 32 = omega (arith, c.ranges.most.fits) in
    let wide : n < 2 ^ 64 = omega arith in
    let read : c.parse.result ≡ Ok n = parse-decimal 32 n c.args.word.now c.parse.result small wide e c.parse.ensures.value.0 in
    let is = c.in-Ok.is in
    let same : c.in-Ok.n ≡ n = cc in
    elim c.then-n-least.branch [
      | then-n-least-via-then-n-least w ↦ omega (arith, w.if-n-least.true, same, from)
      | then-n-least-via-else-n-least+then-most-n w ↦ omega (arith, w.if-most-n.true, same, to)
      | then-n-least-via-else-n-least+else-most-n+then-not-is_decimal w ↦
          let own : c.args.word.now ≡ decimal c.in-Ok.n = e ∙ ap decimal (sym same) in
          let yes : IsTrue w.is_decimal.result = w.is_decimal.ensures.1 own in
          let no : w.is_decimal.result ≡ false = w.if-not-is_decimal.true in
          absurd (cc)
    ]
