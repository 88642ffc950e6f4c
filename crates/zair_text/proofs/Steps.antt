-- Each job of a program has steps of its own.
use Rattle.std.proofs.Common.{◌≡◌, true, not, List, [], ◌∷◌, IsTrue, refl, sym, true≢false}
use Rattle.std.specs.List.{list_all}
use Rattle.std.proofs.lemmas.Bool.{and_parts, and_from}
use Rattle.zair_form.specs.declared.program.Act.{Act}
use Rattle.zair_form.specs.declared.program.Act.TheVariants.{Init, Gates, Rydberg, Job, Readout}
use Rattle.zair_form.specs.declared.program.Instr.{Instr}
use Rattle.zair_form.specs.Steps.{is_init, has_own_steps, may_follow, is_program}

init_has_own_steps : (a : Act) → is_init a ≡ true → has_own_steps a ≡ true
init_has_own_steps (Init homes) h = refl
init_has_own_steps (Gates ones) h = absurd (true≢false (sym h))
init_has_own_steps (Rydberg pairs) h = absurd (true≢false (sym h))
init_has_own_steps (Job aod steps) h = absurd (true≢false (sym h))
init_has_own_steps (Readout reads) h = absurd (true≢false (sym h))

followers : (is : List Instr) → list_all may_follow is ≡ true → list_all (λ i. has_own_steps i.act) is ≡ true
followers [] h = refl
followers (i ∷ is) h =
    let p = and_parts (may_follow i) _ h in
    and_from _ _ (and_parts (not (is_init i.act)) _ p.0).1 (followers is p.1)

pub own_steps_in_program : (is : List Instr) → IsTrue (is_program is) → IsTrue (list_all (λ i. has_own_steps i.act) is)
own_steps_in_program [] h = absurd (true≢false (sym h))
own_steps_in_program (i ∷ is) h =
    let p = and_parts (is_init i.act) _ h in
    and_from _ _ (init_has_own_steps i.act p.0) (followers is p.1)
