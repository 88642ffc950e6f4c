-- Watches that are shown the steps of the named order, so far and one step more.
use Rattle.std.proofs.Common.{◌≡◌, ℕ, zero, suc, ◌+◌, ◌-◌, ◌^◌, ◌<◌, ◌≤◌, inr, min, List, [], ◌∷◌, ◌++◌, Some, length, take, get_or, slice_get, refl, ap, sym, ◌∙◌, subst, arith}
use Rattle.std.specs.List.{sum_by}
use Rattle.std.proofs.lemmas.List.{length-map, take_all}
use Rattle.std.proofs.lemmas.List.Sums.{sum_by-append}
use Rattle.std.proofs.lemmas.Option.{slice_get_within}
use Rattle.zac_arch.specs.Architecture.{Architecture}
use Rattle.zair_form.specs.declared.step.Step.{Step}
use Rattle.zair_form.specs.declared.program.Instr.{Instr}
use Rattle.zair_form.specs.Steps.{IsStepAt, homes}
use Rattle.zair_form.specs.Times.{Timed}
use Rattle.zair_machine.specs.Machine.{Running}
use Rattle.zair_state.specs.Orders.{IsNamedOrder}
use Rattle.zair_state.specs.Performs.{steps_in}
use Rattle.zair_state.specs.FirstFault.{IsFirstFault}
use Rattle.zair_state.specs.Run.{IsLegalRun, after_all}
use Rattle.zair_state.specs.State.{opening}
use Rattle.zac_watch.specs.declared.kind.Kind.{Kind}
use Rattle.zac_watch.specs.declared.fault.WatchFault.{WatchFault}
use Rattle.zac_watch.specs.declared.fault.WatchFault.TheVariants.{Home, Machine, Memory}
use Rattle.zac_watch.specs.Named.{places_in}
use Rattle.zac_watch.specs.Shown.{WereShown, sum_after}
use Rattle.zac_watch.specs.Watching.{HasHomes, IsShowFault, IsWatchFault, WasStepShown, WasWatched}
use Rattle.zac_watch.specs.Weights.{weight}
use Rattle.zac_watch.proofs.RunFacts.{IsRunSoFar, LegalBreaksNothing, at_place, not_legal, one_more_run}

-- the steps before this number were done and shown
pub record IsShownSoFar (a : Architecture) (program : List Instr) (places : List (ℕ × ℕ)) (k : ℕ) (m : Running) (Shown : List Step → Type 0) : Type 0 where
  pub order : List Timed
  pub named : IsNamedOrder a.figures program order
  pub places_are : places ≡ places_in order
  pub run : IsRunSoFar a program order k m
  pub shown : Shown (take k (steps_in order))

get_some : {X : Type 0} (xs ys : List X) (k : ℕ) (x : X) → length ys ≡ length xs → slice_get xs k ≡ Some x → (y : X) × (slice_get ys k ≡ Some y)
get_some [] ys k x same is = absurd (let e : length ys ≡ 0 = same in let w = slice_get_within [] k x is in omega arith)
get_some (z ∷ xs) [] k x same is = absurd (omega arith)
get_some (z ∷ xs) (y ∷ ys) zero x same is = (y, refl)
get_some (z ∷ xs) (y ∷ ys) (suc k) x same is = get_some xs ys k x (omega arith) is

saturated : (a b c : ℕ) → min c (min c a + b) ≡ min c (a + b)
saturated a b c = omega arith

sum_after_more : (kind : Kind) (sum : ℕ) (steps : List Step) (s : Step) → sum_after kind (sum_after kind sum steps) (s ∷ []) ≡ sum_after kind sum (steps ++ s ∷ [])
sum_after_more kind sum [] s = refl
sum_after_more kind sum (t ∷ steps) s =
    let all : sum_by (weight kind) ((t ∷ steps) ++ s ∷ []) ≡ sum_by (weight kind) (t ∷ steps) + sum_by (weight kind) (s ∷ []) = sum_by-append (weight kind) (t ∷ steps) (s ∷ []) in
    saturated (sum + sum_by (weight kind) (t ∷ steps)) (sum_by (weight kind) (s ∷ [])) (2 ^ 128 - 1)
    ∙ ap (min (2 ^ 128 - 1)) (omega (arith, all))

-- watches that were shown steps and then one more
pub shown_more : {W : Type 0} (kind : W → Kind) (sum : W → ℕ) (old mid new : List W) (steps : List Step) (s : Step) →
    WereShown kind sum old mid steps → WereShown kind sum mid new (s ∷ []) → WereShown kind sum old new (steps ++ s ∷ [])
shown_more {W} kind sum old mid new steps s first second = record {
  number = second.number ∙ first.number;
  each = λ k before after old_is new_is.
      let between = get_some new mid k after (sym second.number) new_is in
      let m : W = between.0 in
      let one = first.each k before m old_is between.1 in
      let other = second.each k m after between.1 new_is in (
        other.0 ∙ one.0,
        other.1 ∙ ap (λ (d : Kind). sum_after d (sum m) (s ∷ [])) one.0 ∙ ap (λ (n : ℕ). sum_after (kind before) n (s ∷ [])) one.1
            ∙ sum_after_more (kind before) (sum before) steps s,
      );
}

-- watches that were shown steps and then nothing
pub shown_same : {W : Type 0} (kind : W → Kind) (sum : W → ℕ) (old mid new : List W) (steps : List Step) →
    WereShown kind sum old mid steps → WereShown kind sum mid new [] → WereShown kind sum old new steps
shown_same {W} kind sum old mid new steps first second = record {
  number = second.number ∙ first.number;
  each = λ k before after old_is new_is.
      let between = get_some new mid k after (sym second.number) new_is in
      let m : W = between.0 in
      let one = first.each k before m old_is between.1 in
      let other = second.each k m after between.1 new_is in
      (other.0 ∙ one.0, other.1 ∙ one.1);
}

-- one step more
pub watch_more : {W : Type 0} (kind : W → Kind) (sum : W → ℕ) (old mid new : List W) (a : Architecture) (program : List Instr) (places : List (ℕ × ℕ)) (k : ℕ) (d : ℕ × ℕ) (m m' : Running) →
    IsShownSoFar a program places k m (WereShown kind sum old mid) → k < length places →
    ((s : Step) → IsStepAt program (get_or places k d).0 (get_or places k d).1 s → WasStepShown m m' s (WereShown kind sum mid new)) →
    IsShownSoFar a program places (k + 1) m' (WereShown kind sum old new)
watch_more kind sum old mid new a program places k d m m' so_far within done =
    let found = at_place a.figures program so_far.order places k d so_far.named so_far.places_are within in
    let did = done found.step found.at in
    record {
      order = so_far.order;
      named = so_far.named;
      places_are = so_far.places_are;
      run = one_more_run a program so_far.order k m m' found.step so_far.run found.more did.legal did.machine;
      shown = subst (WereShown kind sum old new) (sym found.more) (shown_more kind sum old mid new (take k (steps_in so_far.order)) found.step so_far.shown did.shown);
    }

-- a step that isn't shown
pub watch_ended : {W : Type 0} (kind : W → Kind) (sum : W → ℕ) (old mid new : List W) (a : Architecture) (program : List Instr) (places : List (ℕ × ℕ)) (k : ℕ) (d : ℕ × ℕ) (m : Running) (fault : WatchFault) →
    LegalBreaksNothing a → HasHomes a program → IsShownSoFar a program places k m (WereShown kind sum old mid) → k < length places →
    ((s : Step) → IsStepAt program (get_or places k d).0 (get_or places k d).1 s → IsShowFault m k s (WereShown kind sum mid new) fault) →
    IsWatchFault a program (WereShown kind sum old new) fault
watch_ended kind sum old mid new a program places k d m (Home q) law have so_far within told =
    let found = at_place a.figures program so_far.order places k d so_far.named so_far.places_are within in
    absurd (told found.step found.at)
watch_ended kind sum old mid new a program places k d m (Machine n fault) law have so_far within told =
    let found = at_place a.figures program so_far.order places k d so_far.named so_far.places_are within in
    let why = told found.step found.at in
    let all : List Step = steps_in so_far.order in
    let is : k ≡ n = sym why.0 in
    let wrong : IsFirstFault a (after_all (opening a (homes program)) (take n all)) found.step fault =
    subst (λ (i : ℕ). IsFirstFault a (after_all (opening a (homes program)) (take i all)) found.step fault) is
    (subst (λ (r : Running). IsFirstFault r.card r.state found.step fault) so_far.run.machine why.1) in
    record {
      homes_are = have;
      order = so_far.order;
      named = so_far.named;
      illegal = record {
        step = found.step;
        here = ap (slice_get all) (sym is) ∙ found.here;
        before = subst (λ (i : ℕ). IsLegalRun a (opening a (homes program)) (take i all)) is so_far.run.legal;
        illegal = not_legal a (after_all (opening a (homes program)) (take n all)) found.step fault law wrong;
        wrong = wrong;
      };
      shown = subst (λ (i : ℕ). WereShown kind sum old new (take i all)) is (shown_same kind sum old mid new (take k all) so_far.shown why.2);
    }
watch_ended kind sum old mid new a program places k d m Memory law have so_far within told =
    let found = at_place a.figures program so_far.order places k d so_far.named so_far.places_are within in
    inr (so_far.order, k, so_far.named, shown_same kind sum old mid new (take k (steps_in so_far.order)) so_far.shown (told found.step found.at))

-- all steps
pub watch_whole : {W : Type 0} (kind : W → Kind) (sum : W → ℕ) (old new : List W) (a : Architecture) (program : List Instr) (places : List (ℕ × ℕ)) (k : ℕ) (m : Running) →
    HasHomes a program → IsShownSoFar a program places k m (WereShown kind sum old new) → length places ≤ k → WasWatched a program (WereShown kind sum old new)
watch_whole kind sum old new a program places k m have so_far whole =
    let all : List Step = steps_in so_far.order in
    let long : length all ≡ length places = length-map so_far.order (λ t. t.step) ∙ sym (ap length so_far.places_are ∙ length-map so_far.order (λ t. (t.instr, t.place))) in
    let same : take k all ≡ all = take_all k all (omega arith) in
    record {
      homes_are = have;
      order = so_far.order;
      named = so_far.named;
      legal = subst (IsLegalRun a (opening a (homes program))) same so_far.run.legal;
      shown = subst (WereShown kind sum old new) same so_far.shown;
    }
