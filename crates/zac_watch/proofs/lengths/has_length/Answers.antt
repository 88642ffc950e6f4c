use Rattle.std.proofs.Common.{◌≡◌, ◌+◌, ◌-◌, ◌≤◌, [], arith, rules, tests, eq-eqb}
use Rattle.zair_form.specs.Steps.{steps_of}
use Rattle.zac_watch.proofs.TimedFacts.{together_same}
use Rattle.zac_watch.proofs.lengths.has_length.Goals as goal

pub returns-in-Some : goal.returns-in-Some
returns-in-Some c =
    let i = c.args.instr.now in
    let rises : i.begin ≤ i.end = c.in-Some.ensures.0 in
    let between : c.in-Some.between ≡ i.end - i.begin = c.in-Some.ensures.1 in
    let plain : c.from.result ≡ c.in-Some.between = c.from.ensures in (
      λ holds.
          let same : c.from.result ≡ c.lasts.result = search (rules, tests) in
          (c.lasts.result, omega arith, c.lasts.ensures),
      λ has.
          let same : has.0 ≡ c.lasts.result = together_same c.args.card.now.figures [] (steps_of i.act) has.0 c.lasts.result has.2 c.lasts.ensures in
          let end : i.end ≡ i.begin + has.0 = has.1 in
          eq-eqb c.from.result c.lasts.result (omega arith),
    )
