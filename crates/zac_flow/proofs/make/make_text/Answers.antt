use Rattle.std.proofs.Common.{◌≡◌, ℕ, ap, ◌∙◌}
use Rattle.zac_flow.specs.Generator.{next_state, first_of, second_of, made_source}
use Rattle.zac_flow.proofs.Making.{one_more}
use Rattle.zac_flow.proofs.make.make_text.Goals as goal

pub loop-drawn-preserved : goal.loop-drawn-preserved
loop-drawn-preserved c =
    let n = c.args.n in
    let x = c.loop-drawn.state in
    let drawn : c.next_state-state.result ≡ next_state x = c.next_state-state.ensures.value in
    let first : c.first_qubit-first.result ≡ first_of n (next_state x) = c.first_qubit-first.ensures.value ∙ ap (λ (s : ℕ). first_of n s) drawn in
    let state : c.next_state-state-in-loop-drawn.result ≡ next_state (next_state x) =
    c.next_state-state-in-loop-drawn.ensures.value ∙ ap (λ (s : ℕ). next_state s) drawn in
    let second : c.second_qubit.result ≡ second_of n (first_of n (next_state x)) (next_state (next_state x)) =
    c.second_qubit.ensures.value ∙ (λ j. second_of n (first j) (state j)) in
    record {
      made = one_more n c.args.k c.loop-drawn._drawn x c.first_qubit-first.result c.second_qubit.result c.next_state-state-in-loop-drawn.result
          c.loop-drawn.text.items c.add_pair.new.text.items (made_source n c.args.k) c.loop-drawn-test.true c.loop-drawn.invariant.made
          first second state c.in_ok-add_pair.ensures;
    }
