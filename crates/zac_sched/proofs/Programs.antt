-- Programs whose instructions are each the next behind all before it.
use Rattle.std.proofs.Common.{◌≡◌, ℕ, ◌+◌, ◌*◌, ◌≤◌, inl, inr, not, ◌&&◌, IsTrue, List, [], ◌∷◌, ◌++◌, length, refl, sym, ap, ◌∙◌, subst, arith}
use Rattle.std.specs.List.{All, list_all}
use Rattle.std.proofs.lemmas.Bool.{and_from}
use Rattle.std.proofs.lemmas.List.{append-nil, append_assoc}
use Rattle.std.proofs.lemmas.List.Elements.{All-cons, All-nil, All-push, All-weaker, All-get_or}
use Rattle.std.proofs.lemmas.List.Quantifiers.{all_pairs_push}
use Rattle.zac_arch.specs.Architecture.{Architecture}
use Rattle.zac_arch.specs.Rules.{HasFigureRanges}
use Rattle.zac_arch.specs.declared.place.TrapId.{TrapId}
use Rattle.zair_form.specs.Steps.{has_own_steps, is_init, is_program, may_follow, steps_of}
use Rattle.zair_form.specs.declared.program.Act.{Act}
use Rattle.zair_form.specs.declared.program.Instr.{Instr}
use Rattle.zair_state.specs.Resources.{AreApart, Conflict}
use Rattle.zac_sched.specs.Schedule.{AreNext, IsNext, IsSchedule, start}
use Rattle.zac_sched.specs.Todos.{act_on, steps_in_all}
use Rattle.zac_sched.specs.declared.todo.Todo.{Todo}
use Rattle.zac_sched.proofs.StepCounts.{act_follows, as_many, together_most}

-- one instruction more
pub next_more : (a : Architecture) (earlier : List Instr) (ts : List Todo) (is : List Instr) (t : Todo) (i : Instr) → AreNext a earlier ts is → IsNext a (earlier ++ is) t i
    → AreNext a earlier (ts ++ t ∷ []) (is ++ i ∷ [])
next_more a earlier [] [] t i h n = (subst (λ (l : List Instr). IsNext a l t i) (append-nil earlier) n, refl)
next_more a earlier [] (j ∷ js) t i h n = absurd (cc)
next_more a earlier (s ∷ ts) [] t i h n = absurd h
next_more a earlier (s ∷ ts) (j ∷ js) t i h n =
    (h.0, next_more a (earlier ++ j ∷ []) ts js t i h.1 (subst (λ (l : List Instr). IsNext a l t i) (sym (append_assoc earlier (j ∷ []) js)) n))

-- they are apart
pub next_apart : (a : Architecture) (earlier : List Instr) (ts : List Todo) (is : List Instr) → AreNext a earlier ts is → AreApart a earlier → AreApart a (earlier ++ is)
next_apart a earlier [] [] h apart = subst (AreApart a) (sym (append-nil earlier)) apart
next_apart a earlier [] (j ∷ js) h apart = absurd (cc)
next_apart a earlier (t ∷ ts) [] h apart = absurd h
next_apart a earlier (t ∷ ts) (j ∷ js) h apart =
    subst (AreApart a) (append_assoc earlier (j ∷ []) js)
    (next_apart a (earlier ++ j ∷ []) ts js h.1 (all_pairs_push (λ e i. Conflict a e.act i.act → e.end ≤ i.begin) earlier j apart h.0.begins.all))

-- the instruction ends no earlier than it begins, and by this many seconds
abbrev pub EndsBy : ℕ → Instr → Type 0
EndsBy n i = (i.begin ≤ i.end) × (i.end ≤ 1000000000 * n)

begins_by : (a : Architecture) (earlier : List Instr) (t : Todo) (i : Instr) (m : ℕ) → IsNext a earlier t i → All (EndsBy m) earlier → i.begin ≤ 1000000000 * m
begins_by a earlier t i m n all = elim n.begins.some [
  | inl none ↦ omega arith
  | inr one ↦
      let low : EndsBy m one.1 = subst (EndsBy m) one.3 (All-get_or (EndsBy m) earlier one.0 one.1 one.2 all) in
      let is : one.1.end ≡ i.begin = one.4.1 in
      let most = low.1 in
      omega arith
]

ends_by : (a : Architecture) → HasFigureRanges a.figures → (earlier : List Instr) (t : Todo) (i : Instr) (m : ℕ) → IsNext a earlier t i → All (EndsBy m) earlier
    → EndsBy (m + length (steps_of (act_on 0 t))) i
ends_by a r earlier t i m n all =
    let begin = begins_by a earlier t i m n all in
    let steps : length (steps_of i.act) ≡ length (steps_of (act_on 0 t)) = ap (λ (x : Act). length (steps_of x)) n.does ∙ as_many n.aod t in
    let most = together_most a.figures r [] (steps_of i.act) n.lasts.0 n.lasts.2 in
    let end : i.end ≡ i.begin + n.lasts.0 = n.lasts.1 in
    (omega arith, omega arith)

pub next_ends : (a : Architecture) → HasFigureRanges a.figures → (earlier : List Instr) (ts : List Todo) (is : List Instr) (m n : ℕ) → n ≡ m + steps_in_all ts
    → AreNext a earlier ts is → All (EndsBy m) earlier → All (EndsBy n) (earlier ++ is)
next_ends a r earlier [] [] m n e h all =
    subst (All (EndsBy n)) (sym (append-nil earlier)) (All-weaker (EndsBy m) (EndsBy n) (λ i b. let low = b.1 in (b.0, omega arith)) earlier all)
next_ends a r earlier [] (j ∷ js) m n e h all = absurd (cc)
next_ends a r earlier (t ∷ ts) [] m n e h all = absurd h
next_ends a r earlier (t ∷ ts) (j ∷ js) m n e h all =
    let more : ℕ = m + length (steps_of (act_on 0 t)) in
    let own = ends_by a r earlier t j m h.0 all in
    let before : All (EndsBy more) earlier = All-weaker (EndsBy m) (EndsBy more) (λ i b. let low = b.1 in (b.0, omega arith)) earlier all in
    subst (All (EndsBy n)) (append_assoc earlier (j ∷ []) js)
    (next_ends a r (earlier ++ j ∷ []) ts js more n (omega arith) h.1 (All-push (EndsBy more) earlier j before own))

-- each may stand behind the first instruction
pub next_follow : (a : Architecture) (earlier : List Instr) (ts : List Todo) (is : List Instr) → AreNext a earlier ts is → IsTrue (list_all may_follow is)
next_follow a earlier [] [] h = refl
next_follow a earlier [] (j ∷ js) h = absurd (cc)
next_follow a earlier (t ∷ ts) [] h = absurd h
next_follow a earlier (t ∷ ts) (j ∷ js) h =
    and_from (may_follow j) (list_all may_follow js)
    (subst (λ (x : Act). IsTrue (not (is_init x) && has_own_steps x)) (sym h.0.does) (act_follows h.0.aod t))
    (next_follow a (earlier ++ j ∷ []) ts js h.1)

pub schedule_form : (a : Architecture) (homes : List TrapId) (todo : List Todo) (program : List Instr) → IsSchedule a homes todo program → IsTrue (is_program program)
schedule_form a homes todo program h =
    subst (λ (l : List Instr). IsTrue (is_program l)) (sym h.starts) (next_follow a (start homes ∷ []) todo h.instrs h.next)

start_apart : (a : Architecture) (i : Instr) → AreApart a (i ∷ [])
start_apart a i m n d before within = absurd (omega arith)

pub schedule_apart : (a : Architecture) (homes : List TrapId) (todo : List Todo) (program : List Instr) → IsSchedule a homes todo program → AreApart a program
schedule_apart a homes todo program h =
    subst (AreApart a) (sym h.starts) (next_apart a (start homes ∷ []) todo h.instrs h.next (start_apart a (start homes)))

pub schedule_ends : (a : Architecture) → HasFigureRanges a.figures → (homes : List TrapId) (todo : List Todo) (program : List Instr) → IsSchedule a homes todo program → All (EndsBy (steps_in_all todo)) program
schedule_ends a r homes todo program h =
    subst (All (EndsBy (steps_in_all todo))) (sym h.starts)
    (next_ends a r (start homes ∷ []) todo h.instrs 0 (steps_in_all todo) (omega arith) h.next (All-cons (EndsBy 0) (start homes) [] (omega arith, omega arith) (All-nil (EndsBy 0))))

pub schedule_more : (a : Architecture) (homes : List TrapId) (ts : List Todo) (program : List Instr) (t : Todo) (i : Instr) → IsSchedule a homes ts program → IsNext a program t i
    → IsSchedule a homes (ts ++ t ∷ []) (program ++ i ∷ [])
schedule_more a homes ts program t i h n = record {
  instrs = h.instrs ++ i ∷ [];
  starts = ap (λ (l : List Instr). l ++ i ∷ []) h.starts;
  next = next_more a (start homes ∷ []) ts h.instrs t i h.next (subst (λ (l : List Instr). IsNext a l t i) h.starts n);
}

pub schedule_start : (a : Architecture) (homes : List TrapId) → IsSchedule a homes [] (start homes ∷ [])
schedule_start a homes = record { instrs = []; starts = refl; next = refl }

-- the part that is done has no more steps than the whole
pub steps_of_part : (done left : List Todo) → steps_in_all (done ++ left) ≡ steps_in_all done + steps_in_all left
steps_of_part [] left = omega arith
steps_of_part (t ∷ done) left = let rest = steps_of_part done left in omega arith
