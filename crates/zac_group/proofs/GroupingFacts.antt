-- Groups that are made of fitted moves, one after another.
use Rattle.std.proofs.Common.{◌≡◌, ℕ, ◌+◌, inl, inr, Some, None, List, [], ◌∷◌, ◌++◌, length, slice_get, refl, sym, ap, ◌∙◌, subst, arith}
use Rattle.std.specs.List.{AllPairs}
use Rattle.std.specs.List.Sorted.{IsPermutation}
use Rattle.std.proofs.lemmas.Bool.{cases_lt}
use Rattle.std.proofs.lemmas.List.{get_or_append_left, get_or_push, length_push}
use Rattle.std.proofs.lemmas.List.Elements.{All-push}
use Rattle.std.proofs.lemmas.Option.{get_or_from_slice_get, slice_get-get_or, slice_get_within}
use Rattle.zac_arch.specs.Architecture.{Architecture}
use Rattle.zac_group.specs.declared.members.Members.{Members}
use Rattle.zac_group.specs.declared.shift.Shift.{Shift}
use Rattle.zac_group.specs.FirstFit.{IsGrouping, IsTakenBefore}
use Rattle.zac_group.specs.Fitting.{IsFitting, shifts_at}
use Rattle.zac_group.specs.Groups.{IsGroup, IsPhase, MoveGroup}
use Rattle.zac_group.specs.Made.{AreMadeOf}
use Rattle.zac_group.proofs.Phases.{phase_members, phase_permutes}

pub made_none : (a : Architecture) (fitted : List Members) → AreMadeOf a fitted 0 []
made_none a fitted = record {
  long = refl;
  cards = λ k d lt. absurd (omega arith);
  shifts_are = λ n g got. absurd (let x : None ≡ Some g = got in cc);
  kept = λ k d lt. absurd (omega arith);
}

pub made_more : (a : Architecture) (fitted : List Members) (n : ℕ) (gs new : List MoveGroup) (g : MoveGroup) → AreMadeOf a fitted n gs →
    g.card ≡ a → IsPermutation (shifts_at fitted n) g.shifts → IsGroup g → new ≡ gs ++ g ∷ [] → AreMadeOf a fitted (n + 1) new
made_more a fitted n gs new g h card shifts kept is =
    let long = h.long in
    subst (λ (l : List MoveGroup). AreMadeOf a fitted (n + 1) l) (sym is)
    (record {
      long = omega (arith, length_push gs g);
      cards = All-push (λ (x : MoveGroup). x.card ≡ a) gs g h.cards card;
      shifts_are = λ k x got.
          elim (cases_lt k n) as (λ _. IsPermutation (shifts_at fitted k) x.shifts) [
            | inl lt ↦
                let here : slice_get gs k ≡ Some x =
                slice_get-get_or gs k g (omega arith) ∙ ap (λ (y : MoveGroup). Some y) (sym (get_or_append_left gs (g ∷ []) g k (omega arith)) ∙ get_or_from_slice_get (gs ++ g ∷ []) k x g got) in
                h.shifts_are k x here
            | inr ge ↦
                let within = slice_get_within (gs ++ g ∷ []) k x got in
                let at : n ≡ k = omega (arith, length_push gs g) in
                let last : g ≡ x = sym (get_or_push gs g g k (omega arith)) ∙ get_or_from_slice_get (gs ++ g ∷ []) k x g got in
                subst (λ (m : ℕ). IsPermutation (shifts_at fitted m) x.shifts) at (subst (λ (y : MoveGroup). IsPermutation (shifts_at fitted n) y.shifts) last shifts)
          ];
      kept = All-push IsGroup gs g h.kept kept;
    })

pub fitting_phases : (a : Architecture) (shifts ordered : List Shift) (fitted : List Members) → IsPhase a shifts → IsPermutation shifts ordered → IsFitting a ordered fitted →
    (n : ℕ) → IsPhase a (shifts_at fitted n)
fitting_phases a shifts ordered fitted phase permutes h n =
    subst (λ (l : List Shift). IsPhase a l) (sym (h.groups_are n)) (phase_members a ordered h.numbers n (phase_permutes a shifts ordered permutes phase))

pub grouping_made : (a : Architecture) (shifts ordered : List Shift) (fitted : List Members) (gs : List MoveGroup) → IsPermutation shifts ordered → AllPairs (IsTakenBefore a) ordered →
    IsFitting a ordered fitted → AreMadeOf a fitted (length fitted) gs → IsGrouping a shifts gs
grouping_made a shifts ordered fitted gs permutes in_order h made =
    let long = made.long in
    record {
      ordered = ordered;
      numbers = h.numbers;
      permutes = permutes;
      in_order = in_order;
      first_fit = h.first_fit;
      below = λ k lt. let low = h.below k lt in omega arith;
      cards = made.cards;
      shifts_are = λ n g got. subst (λ (l : List Shift). IsPermutation l g.shifts) (h.groups_are n) (made.shifts_are n g got);
      kept = made.kept;
    }
