use Rattle.std.proofs.Common.{◌≡◌, ◌+◌, ◌-◌, ◌*◌, ◌<◌, inl, inr, false, arith}
use Rattle.std.proofs.lemmas.Bool.{cases_lt}
use Rattle.zac_flags.specs.Flags.{is_unset}
use Rattle.zac_flags.proofs.UnsetFacts.{last_here, none_here}
use Rattle.zac_flags.proofs.flags.Flags.last_unset.Goals as goal

pub returns-in-Some : goal.returns-in-Some
returns-in-Some c =
    last_here c.args.self.now c.args.other.now c.unset.result (c.loop-number.number - 1) c.args.begin c.args.end c.unset.ensures
    c.in-Some.bit c.in-Some.ensures (λ p ge lt past. c.loop-number.invariant.none p ge lt (omega (arith, c.loop-number-test.true)))

pub loop-number-preserved : goal.loop-number-preserved
loop-number-preserved c =
    let number = c.loop-number.number in
    record {
      few = omega (arith, c.loop-number.invariant.few);
      none = λ p ge lt past. elim (cases_lt p (number * 64)) as (λ _. is_unset c.args.self.now c.args.other.now p ≡ false) [
        | inl low ↦ none_here c.args.self.now c.args.other.now c.unset.result (number - 1) c.args.begin c.args.end c.unset.ensures c.in_default.ensures p ge lt past (omega (arith, c.loop-number-test.true))
        | inr high ↦ c.loop-number.invariant.none p ge lt high
      ];
    }
