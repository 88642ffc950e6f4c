-- The numbers of each pulse of a circuit's stages are those of pairs.
use Rattle.std.proofs.Common.{ℕ, zero, suc, List, [], ◌∷◌, length, sym, subst}
use Rattle.std.specs.List.{AllByRecursion, range_with_len, slice_index_or}
use Rattle.zac_arch.specs.Architecture.{Architecture}
use Rattle.zac_gates.specs.Ops.{NativeCircuit}
use Rattle.zac_stage.specs.Staging.{Staging}
use Rattle.zac_plan.specs.Growth.{IsStagingOf, numbers_at, pulse_before}
use Rattle.zac_plan.proofs.KeptGates.{ArePairNumbers}
use Rattle.zac_plan.proofs.Lists.{contained_in_none}
use Rattle.zac_plan.proofs.Turns.{all_mapped, in_pulse, pulse}

-- what holds of each list, and of none, holds at each place
at_each_place : (P : List ℕ → Type 0) (lists : List (List ℕ)) (t : ℕ) → P [] → AllByRecursion P lists → P (slice_index_or lists t [])
at_each_place P [] t none all = none
at_each_place P (l ∷ ls) zero none all = all.0
at_each_place P (l ∷ ls) (suc t) none all = at_each_place P ls t none all.1

module _ (a : Architecture) (c : NativeCircuit) (s : Staging) (of : IsStagingOf a c s) where
  pulses_are_pairs : AllByRecursion (ArePairNumbers s.circuit.ops) s.pairs
  pulses_are_pairs =
      subst (AllByRecursion (ArePairNumbers s.circuit.ops)) (sym of.right.pairs_are)
      (all_mapped (ArePairNumbers s.circuit.ops) (pulse s) (range_with_len 0 (length s.pairs)) (λ t n listed. (in_pulse s t n listed).pair))

  pub pairs_now : (t : ℕ) → ArePairNumbers c.ops (numbers_at s.pairs t)
  pairs_now t =
      subst (λ (d : NativeCircuit). ArePairNumbers d.ops (numbers_at s.pairs t)) of.circuit
      (at_each_place (ArePairNumbers s.circuit.ops) s.pairs t (λ n listed. absurd (contained_in_none n listed)) pulses_are_pairs)

  -- also those of the pulse before
  pub pairs_before : (t : ℕ) → ArePairNumbers c.ops (pulse_before s.pairs t)
  pairs_before zero n listed = absurd (contained_in_none n listed)
  pairs_before (suc t) n listed = pairs_now t n listed
