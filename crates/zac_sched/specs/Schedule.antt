-- When instructions begin, and which AOD makes a job.
use Rattle.std.specs.Prelude.{◌≡◌, ℕ, ◌<◌, ◌≤◌, ◌⊎◌, List, [], ◌∷◌, ◌++◌}
use Rattle.std.specs.List.{All, Any}
use Rattle.zac_arch.specs.Architecture.{Architecture}
use Rattle.zac_arch.specs.declared.place.TrapId.{TrapId}
use Rattle.zair_form.specs.Times.{HasLength}
use Rattle.zair_form.specs.declared.program.Act.TheVariants.{Init}
use Rattle.zair_form.specs.declared.program.Instr.{Instr}
use Rattle.zair_state.specs.Resources.{Resource, Uses, Conflict}
use Rattle.zair_state.specs.Resources.{Resource as resource}
use Rattle.zac_sched.specs.Todos.{act_on}
use Rattle.zac_sched.specs.declared.todo.Todo.{Todo}

-- The greatest end of those instructions that use the resource; 0 where none does.
pub record IsLastEnd (a : Architecture) (earlier : List Instr) (r : Resource) (end : ℕ) : Type 0 where
  pub all : All (λ i. Uses a i.act r → i.end ≤ end) earlier
  pub some : (end ≡ 0) ⊎ Any (λ i. Uses a i.act r × (i.end ≡ end)) earlier

-- Of the card's AODs this one's last end is the least, and of those of least last end it has the least number.
pub record IsFreeFirst (a : Architecture) (earlier : List Instr) (aod : ℕ) : Type 0 where
  pub known : aod < a.figures.aods
  pub end : ℕ
  pub its_end : IsLastEnd a earlier (resource.Aod aod) end
  pub least : (other last : ℕ) → other < a.figures.aods → IsLastEnd a earlier (resource.Aod other) last →
      (end < last) ⊎ ((end ≡ last) × (aod ≤ other))

-- The instruction begins at the greatest end of an earlier one that conflicts with it; at 0 where none does.
pub record BeginsWhenFree (a : Architecture) (earlier : List Instr) (i : Instr) : Type 0 where
  pub all : All (λ e. Conflict a e.act i.act → e.end ≤ i.begin) earlier
  pub some : (i.begin ≡ 0) ⊎ Any (λ e. Conflict a e.act i.act × (e.end ≡ i.begin)) earlier

-- The instruction behind the earlier ones that does this: a job on the AOD that is free first; it begins as soon as all
-- that it uses is free, and takes as long as its steps.
pub record IsNext (a : Architecture) (earlier : List Instr) (todo : Todo) (i : Instr) : Type 0 where
  pub aod : ℕ
  pub free_first : IsFreeFirst a earlier aod
  pub does : i.act ≡ act_on aod todo
  pub begins : BeginsWhenFree a earlier i
  pub lasts : HasLength a.figures i

-- One instruction for each thing that is to be done, in this order, each the next behind all before it.
abbrev pub AreNext : Architecture → List Instr → List Todo → List Instr → Type 0
AreNext a earlier [] instrs = instrs ≡ []
AreNext a earlier (t ∷ ts) [] = ⊥
AreNext a earlier (t ∷ ts) (i ∷ is) = IsNext a earlier t i × AreNext a (earlier ++ i ∷ []) ts is

-- The first instruction: the qubits rest in their homes at moment 0.
abbrev pub start : List TrapId → Instr
start homes = record { begin = 0; end = 0; act = Init homes }

-- The program of what is to be done, from these homes.
pub record IsSchedule (a : Architecture) (homes : List TrapId) (todo : List Todo) (program : List Instr) : Type 0 where
  pub instrs : List Instr
  pub starts : program ≡ start homes ∷ instrs
  pub next : AreNext a (start homes ∷ []) todo instrs
