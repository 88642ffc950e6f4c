use Rattle.std.proofs.Common.{◌≡◌, ℕ, ◌<◌, ◌^◌, inl, inr, get_or, subst, arith}
use Rattle.std.proofs.lemmas.List.{get_or_default}
use Rattle.zac_group.specs.declared.shift.Shift.{Shift}
use Rattle.std.proofs.lemmas.Bool.{cases_lt}
use Rattle.zac_aod.proofs.lowering.qubits_fit.Goals as goal

pub loop-shift-preserved : goal.loop-shift-preserved
loop-shift-preserved c = λ k d lt.
    let z : Shift = record { q = 0; from = record { 0 = 0 }; to = record { 0 = 0 } } in
    let i = c.loop-shift.shift-index in
    let shifts = c.args.shifts.now in
    let here : (get_or shifts i d).q < 2 ^ 32 = subst (λ (s : Shift). s.q < 2 ^ 32) (get_or_default shifts i z d c.loop-shift-test.true) c.qubit_fits.ensures in
    elim (cases_lt k i) [
      | inl before ↦ c.loop-shift.invariant k d before
      | inr far ↦ let e : i ≡ k = omega arith in subst (λ (n : ℕ). (get_or shifts n d).q < 2 ^ 32) e here
    ]
