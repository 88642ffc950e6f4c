use Rattle.std.proofs.Common.{◌≡◌, ◌+◌, ℕ, List, [], length, refl, sym, ◌∙◌, subst}
use Rattle.std.proofs.lemmas.Option.{get_or_from_slice_get}
use Rattle.zac_gates.specs.Ops.{NativeCircuit}
use Rattle.zac_match.specs.Choice.{EndsBelow}
use Rattle.zac_reuse.specs.Keeping.{IsKeepableNumber, pulse_of}
use Rattle.zac_reuse.specs.Sharing.{IsPulse}
use Rattle.zac_reuse.proofs.KeepingFacts.{SharesNone, pulse_right, ends_below, chosen_below, kept}
use Rattle.zac_reuse.proofs.keeping.keep.Goals as goal

pub edges_between-requires-clause-first : goal.edges_between-requires-clause-first
edges_between-requires-clause-first c =
    let s = c.args.stages.now in
    let staging = c.pulses-pulses.ensures.staging in
    let none : SharesNone s = λ t i j q pulse a b is. c.pulses_share_no_qubit.ensures s t i j q pulse a b staging is in
    pulse_right s c.args.circuit.now c.ops-ops.result.now c.args.t c.pairs-first.result.now staging none c.requires.circuit c.ops-ops.ensures.value c.ops-ops.ensures.few c.pairs-first.ensures

pub edges_between-requires-clause-second : goal.edges_between-requires-clause-second
edges_between-requires-clause-second c =
    let s = c.args.stages.now in
    let staging = c.pulses-pulses.ensures.staging in
    let none : SharesNone s = λ t i j q pulse a b is. c.pulses_share_no_qubit.ensures s t i j q pulse a b staging is in
    pulse_right s c.args.circuit.now c.ops-ops.result.now (c.args.t + 1) c.pairs-second.result.now staging none c.requires.circuit c.ops-ops.ensures.value c.ops-ops.ensures.few c.pairs-second.ensures

pub matching-requires : goal.matching-requires
matching-requires c =
    let edges = c.in_ok-edges.edges in
    let below = ends_below c.ops-ops.result.now c.pairs-first.result.now c.pairs-second.result.now edges.pairs (length c.pairs-second.result.now) c.in_ok-edges.ensures.shared in
    record {
      in_range = subst (λ (n : ℕ). EndsBelow n edges.right edges.pairs) (sym c.in_ok-edges.ensures.left)
          (subst (λ (n : ℕ). EndsBelow (length c.pairs-first.result.now) n edges.pairs) (sym c.in_ok-edges.ensures.right) below);
    }

pub numbers_of-requires : goal.numbers_of-requires
numbers_of-requires c =
    let first = c.pairs-first.result.now in
    let second = c.pairs-second.result.now in
    let edges = c.in_ok-edges.edges in
    let below = ends_below c.ops-ops.result.now first second edges.pairs (length second) c.in_ok-edges.ensures.shared in
    subst (λ (l : List (ℕ × ℕ)). EndsBelow (length first) (length second) l) (sym c.as_slice.ensures)
    (chosen_below (length first) (length second) edges.pairs c.in_ok-matched.matched.pairs below c.in_ok-matched.ensures.choice)

pub returns : goal.returns
returns c =
    let s = c.args.stages.now in
    let t = c.args.t in
    let ops = c.ops-ops.result.now in
    let first = c.pairs-first.result.now in
    let second = c.pairs-second.result.now in
    let edges = c.in_ok-edges.edges.pairs in
    let chosen = c.in_ok-matched.matched.pairs in
    let staging = c.pulses-pulses.ensures.staging in
    let none : SharesNone s = λ t i j q pulse a b is. c.pulses_share_no_qubit.ensures s t i j q pulse a b staging is in
    let one : IsPulse ops first = pulse_right s c.args.circuit.now ops t first staging none c.requires.circuit c.ops-ops.ensures.value c.ops-ops.ensures.few c.pairs-first.ensures in
    let two : IsPulse ops second = pulse_right s c.args.circuit.now ops (t + 1) second staging none c.requires.circuit c.ops-ops.ensures.value c.ops-ops.ensures.few c.pairs-second.ensures in
    let first_is : first ≡ pulse_of s t = sym (get_or_from_slice_get s.pairs t first [] c.pairs-first.ensures) in
    let second_is : second ≡ pulse_of s (t + 1) = sym (get_or_from_slice_get s.pairs (t + 1) second [] c.pairs-second.ensures) in
    let both = kept ops c.args.circuit.now.ops first (pulse_of s t) second (pulse_of s (t + 1)) edges edges chosen c.as_slice.result.now c.of.result c.ops-ops.ensures.value first_is second_is refl c.as_slice.ensures
    (c.of.ensures ∙ c.in_ok-pairs.ensures) one two c.in_ok-edges.ensures.shared c.in_ok-matched.ensures.choice c.in_ok-matched.ensures.greatest in
    record {
      keeping = both.0;
      greatest = both.1;
      keepable = subst (λ (x : NativeCircuit). IsKeepableNumber x.ops (pulse_of s t) (pulse_of s (t + 1)) (length c.of.result)) (sym c.requires.circuit)
          (record { pairs = c.of.result; keeping = both.0; greatest = both.1; size = refl });
    }
