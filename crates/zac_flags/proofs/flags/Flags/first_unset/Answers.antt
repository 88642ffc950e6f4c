use Rattle.std.proofs.Common.{◌≡◌, ◌*◌, ◌<◌, inl, inr, false}
use Rattle.std.proofs.lemmas.Bool.{cases_lt}
use Rattle.zac_flags.specs.Flags.{is_unset}
use Rattle.zac_flags.proofs.UnsetFacts.{first_here, none_here}
use Rattle.zac_flags.proofs.flags.Flags.first_unset.Goals as goal

pub returns-in-Some : goal.returns-in-Some
returns-in-Some c =
    first_here c.args.self.now c.args.other.now c.unset.result c.loop-number.number c.args.begin c.args.end c.unset.ensures
    c.in-Some.bit c.in-Some.ensures c.loop-number.invariant

pub loop-number-preserved : goal.loop-number-preserved
loop-number-preserved c p ge lt below =
    elim (cases_lt p (c.loop-number.number * 64)) as (λ _. is_unset c.args.self.now c.args.other.now p ≡ false) [
      | inl low ↦ c.loop-number.invariant p ge lt low
      | inr high ↦ none_here c.args.self.now c.args.other.now c.unset.result c.loop-number.number c.args.begin c.args.end c.unset.ensures c.in_default.ensures p ge lt high below
    ]
