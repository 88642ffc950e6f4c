use Rattle.std.proofs.Common.{◌≡◌, ◌≤◌, List, [], ◌∷◌, ◌++◌, length, refl, sym, ap, ◌∙◌, subst, arith}
use Rattle.std.specs.List.{All}
use Rattle.std.proofs.lemmas.List.{append_assoc, append-nil}
use Rattle.std.proofs.lemmas.List.Elements.{All-weaker}
use Rattle.zac_arch.specs.Rules.{HasFigureRanges}
use Rattle.zair_form.specs.declared.program.Instr.{Instr}
use Rattle.zair_state.specs.Resources.{AreApart}
use Rattle.zac_sched.specs.Ends.{AreEnds}
use Rattle.zac_sched.specs.Schedule.{IsSchedule, start}
use Rattle.zac_sched.specs.Todos.{steps_in_all}
use Rattle.zac_sched.specs.declared.todo.Todo.{Todo}
use Rattle.zac_sched.proofs.Programs.{EndsBy, schedule_apart, schedule_ends, schedule_form, schedule_more, schedule_start, steps_of_part}
use Rattle.zac_sched.proofs.scheduling.schedule.Goals as goal

nothing_left : {X : Type 0} (xs : List X) → length xs ≡ 0 → xs ≡ []
nothing_left [] e = refl
nothing_left (x ∷ xs) e = absurd (omega arith)

pub next-next-requires-clause-few : goal.next-next-requires-clause-few
next-next-requires-clause-few c =
    let rest = c.next.new.self.rest.items in
    let whole : c.loop-one.yielded ++ c.in-Some.one ∷ rest ≡ c.args.todo = ap (λ (l : List Todo). c.loop-one.yielded ++ l) (sym c.in-Some.ensures.steps.0) ∙ c.loop-one.invariant.whole in
    let count = steps_of_part c.loop-one.yielded (c.in-Some.one ∷ rest) in
    let all : steps_in_all (c.loop-one.yielded ++ c.in-Some.one ∷ rest) ≡ steps_in_all c.args.todo = ap steps_in_all whole in
    let few = c.requires.few_steps in
    omega arith

pub next-next-requires-clause-room : goal.next-next-requires-clause-room
next-next-requires-clause-room c =
    let a = c.args.card.now in
    let rules : HasFigureRanges a.figures = subst HasFigureRanges c.figures-figures.ensures.figures c.figures-figures.ensures.ranges in
    let count = steps_of_part c.loop-one.yielded c.loop-one.one-iterator.rest.items in
    let all : steps_in_all (c.loop-one.yielded ++ c.loop-one.one-iterator.rest.items) ≡ steps_in_all c.args.todo = ap steps_in_all c.loop-one.invariant.whole in
    let few = c.requires.few_steps in
    let done : steps_in_all c.loop-one.yielded ≤ 16000000 = omega arith in (
      c.loop-one.instrs.items,
      c.loop-one.invariant.ends,
      All-weaker (EndsBy (steps_in_all c.loop-one.yielded)) (λ (i : Instr). i.end ≤ 16000000000000000) (λ i b. let low = b.1 in omega arith) c.loop-one.instrs.items
          (schedule_ends a rules c.args.homes c.loop-one.yielded c.loop-one.instrs.items c.loop-one.invariant.schedule),
    )

pub loop-one-init : goal.loop-one-init
loop-one-init c =
    let a = c.args.card.now in
    let instrs : c.push.new.self.items ≡ start c.args.homes ∷ [] = c.in_ok-push.ensures.items ∙ ap (λ (l : List Instr). l ++ start c.args.homes ∷ []) c.in_ok-instrs.ensures.items in
    record {
      whole = c.into_iter-one-iterator.ensures.into_iter_gives.0 ∙ c.into_vec-todo.ensures;
      schedule = subst (IsSchedule a c.args.homes []) (sym instrs) (schedule_start a c.args.homes);
      ends = subst (λ (l : List Instr). AreEnds a l c.in_ok-ends.ends) (sym instrs) (c.in_ok-ends.ensures.ends c.args.homes);
      qubits = c.in_ok-ends.ensures.qubits ∙ ap length c.as_slice.ensures;
    }

pub loop-one-preserved : goal.loop-one-preserved
loop-one-preserved c =
    let a = c.args.card.now in
    let instrs : c.push-in-loop-one.new.self.items ≡ c.loop-one.instrs.items ++ c.next-next.result ∷ [] = c.in_ok-push-2.ensures.items in
    record {
      whole = append_assoc c.loop-one.yielded (c.in-Some.one ∷ []) c.next.new.self.rest.items
          ∙ ap (λ (l : List Todo). c.loop-one.yielded ++ l) (sym c.in-Some.ensures.steps.0) ∙ c.loop-one.invariant.whole;
      schedule = subst (IsSchedule a c.args.homes (c.loop-one.yielded ++ c.in-Some.one ∷ [])) (sym instrs)
          (schedule_more a c.args.homes c.loop-one.yielded c.loop-one.instrs.items c.in-Some.one c.next-next.result c.loop-one.invariant.schedule
          (c.next-next.ensures.next c.loop-one.instrs.items c.loop-one.invariant.ends));
      ends = subst (λ (l : List Instr). AreEnds a l c.next-next.new.self) (sym instrs) (c.next-next.ensures.ends c.loop-one.instrs.items c.loop-one.invariant.ends);
      qubits = c.next-next.ensures.qubits ∙ c.loop-one.invariant.qubits;
    }

pub program_of-requires : goal.program_of-requires
program_of-requires c = schedule_form c.args.card.now c.args.homes c.loop-one.yielded c.loop-one.instrs.items c.loop-one.invariant.schedule

pub returns-clause-schedule : goal.returns-clause-schedule
returns-clause-schedule c =
    let a = c.args.card.now in
    let left = c.loop-one.one-iterator.rest in
    let none : left.items ≡ [] = nothing_left left.items (omega (arith, c.in-None.ensures.steps.0, left.ok.0)) in
    let done : c.loop-one.yielded ≡ c.args.todo = sym (append-nil c.loop-one.yielded) ∙ ap (λ (l : List Todo). c.loop-one.yielded ++ l) (sym none) ∙ c.loop-one.invariant.whole in
    subst (IsSchedule a c.args.homes c.args.todo) (sym c.program_of.ensures)
    (subst (λ (ts : List Todo). IsSchedule a c.args.homes ts c.loop-one.instrs.items) done c.loop-one.invariant.schedule)

pub returns-clause-apart : goal.returns-clause-apart
returns-clause-apart c =
    subst (AreApart c.args.card.now) (sym c.program_of.ensures) (schedule_apart c.args.card.now c.args.homes c.loop-one.yielded c.loop-one.instrs.items c.loop-one.invariant.schedule)

pub returns-clause-ends : goal.returns-clause-ends
returns-clause-ends c =
    let a = c.args.card.now in
    let rules : HasFigureRanges a.figures = subst HasFigureRanges c.figures-figures.ensures.figures c.figures-figures.ensures.ranges in
    let left = c.loop-one.one-iterator.rest in
    let none : left.items ≡ [] = nothing_left left.items (omega (arith, c.in-None.ensures.steps.0, left.ok.0)) in
    let done : c.loop-one.yielded ≡ c.args.todo = sym (append-nil c.loop-one.yielded) ∙ ap (λ (l : List Todo). c.loop-one.yielded ++ l) (sym none) ∙ c.loop-one.invariant.whole in
    subst (All (EndsBy (steps_in_all c.args.todo))) (sym c.program_of.ensures)
    (schedule_ends a rules c.args.homes c.args.todo c.loop-one.instrs.items (subst (λ (ts : List Todo). IsSchedule a c.args.homes ts c.loop-one.instrs.items) done c.loop-one.invariant.schedule))
