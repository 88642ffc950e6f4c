-- What is seen of a panel that was shown steps.
use Rattle.std.proofs.Common.{◌≡◌, ℕ, ◌⊎◌, inl, inr, List, [], Option, None, Some, map, length, take, refl, sym, ap, ◌∙◌, subst}
use Rattle.std.specs.List.{slice_get}
use Rattle.std.specs.Option.{option_map}
use Rattle.std.proofs.lemmas.List.{length-map}
use Rattle.std.proofs.lemmas.Option.{slice_get-map}
use Rattle.std.proofs.Math.Seq.{take-length}
use Rattle.zac_arch.specs.Architecture.{Architecture}
use Rattle.zac_arch.specs.declared.card.Figures.{Figures}
use Rattle.zac_watch.specs.Shown.{WereShown, sum_after}
use Rattle.zac_watch.specs.Watching.{WasWatched, IsWatchFault}
use Rattle.zac_watch.specs.declared.fault.WatchFault.{WatchFault}
use Rattle.zac_watch.specs.declared.fault.WatchFault.TheVariants.{Memory}
use Rattle.zac_watch.specs.declared.kind.Kind.{Kind}
use Rattle.zac_io.specs.Outside.{NamedFiles}
use Rattle.zair_form.specs.Times.{Timed}
use Rattle.zair_form.specs.declared.program.Instr.{Instr}
use Rattle.zair_form.specs.declared.step.Step.{Step}
use Rattle.zair_state.specs.Orders.{IsNamedOrder}
use Rattle.zair_state.specs.Performs.{steps_in}
use Rattle.zair_text.specs.Tally.{totals_of}
use Rattle.zair_text.specs.declared.counts.Totals.{Totals}
use Rattle.zac_flow.specs.Compiled.{CompilesTo, MayCompileTo}
use Rattle.zac_flow.specs.Due.{IsDue, two_files}
use Rattle.zac_flow.specs.Inputs.{Gives}
use Rattle.zac_flow.specs.Panel.{Reading, readings, AreShown, IsShownAll, IsShownPart, MayBeShownPart}
use Rattle.zac_flow.specs.Texts.{report_text}
use Rattle.zac_flow.specs.Words.{FileWords, Report}
use Rattle.zac_flow.specs.declared.inputs.Inputs.{Inputs}

-- a place holds one thing
one_at : {X : Type 0} (o : Option X) (x y : X) → o ≡ Some x → o ≡ Some y → y ≡ x
one_at o x y is other = cc

-- a panel that is as it was was shown nothing
pub shown_nothing : (panel : List Reading) → AreShown panel panel []
shown_nothing panel = record {
  number = refl;
  each = λ k before after at later.
      let same : after ≡ before = one_at (slice_get panel k) before after at later in
      (ap (λ (r : Reading). r.kind) same, ap (λ (r : Reading). r.sum) same);
}

module _ {W : Type 0} (kind : W → Kind) (sum : W → ℕ) where
  -- what a watch says
  abbrev reading : W → Reading
  reading w = record { kind = kind w; sum = sum w }

  -- the watch behind a reading
  behind : (o : Option W) (r : Reading) → option_map reading o ≡ Some r → (w : W) × (o ≡ Some w) × (r ≡ reading w)
  behind None r e = absurd (cc)
  behind (Some w) r e = (w, refl, (cc))

  -- watches that were shown steps have readings that are so
  pub shown_readings : (old new : List W) (steps : List Step) → WereShown kind sum old new steps → AreShown (readings kind sum old) (readings kind sum new) steps
  shown_readings old new steps h = record {
    number = length-map new reading ∙ h.number ∙ sym (length-map old reading);
    each = λ k before after at later.
        let b = behind (slice_get old k) before (sym (slice_get-map reading old k) ∙ at) in
        let a = behind (slice_get new k) after (sym (slice_get-map reading new k) ∙ later) in
        let e = h.each k b.0 a.0 b.1 a.1 in (
          ap (λ (r : Reading). r.kind) a.2 ∙ e.0 ∙ sym (ap (λ (r : Reading). r.kind) b.2),
          ap (λ (r : Reading). r.sum) a.2 ∙ e.1 ∙ sym (ap (λ (r : Reading). sum_after r.kind r.sum steps) b.2),
        );
  }

  -- a program that was watched was shown whole
  pub shown_whole : (a : Architecture) (program : List Instr) (old new : List W) → WasWatched a program (WereShown kind sum old new) →
      IsShownAll a.figures program (readings kind sum old) (readings kind sum new)
  shown_whole a program old new h = (h.order, h.named, shown_readings old new (steps_in h.order) h.shown)

  -- where memory was wanting, nothing or a part was shown
  pub shown_part : (f : Figures) (program : List Instr) (old new : List W) →
      WereShown kind sum old new [] ⊎ ((order : List Timed) × (number : ℕ) × IsNamedOrder f program order × WereShown kind sum old new (take number (steps_in order))) →
      AreShown (readings kind sum old) (readings kind sum new) [] ⊎ IsShownPart f program (readings kind sum old) (readings kind sum new)
  shown_part f program old new (inl none) = inl (shown_readings old new [] none)
  shown_part f program old new (inr some) = inr (some.0, some.2, some.1, shown_readings old new (take some.1 (steps_in some.0)) some.3)

  -- so a watching that found no memory left it
  pub shown_in_want : (a : Architecture) (program : List Instr) (old new : List W) (fault : WatchFault) → fault ≡ Memory →
      IsWatchFault a program (WereShown kind sum old new) fault →
      AreShown (readings kind sum old) (readings kind sum new) [] ⊎ IsShownPart a.figures program (readings kind sum old) (readings kind sum new)
  shown_in_want a program old new fault is h =
      shown_part a.figures program old new (subst (λ (f : WatchFault). IsWatchFault a program (WereShown kind sum old new) f) is h)

-- a fault that is told is that of the watching
pub as_told : (a : Architecture) (program : List Instr) (Shown : List Step → Type 0) (fault told : WatchFault) → fault ≡ told → IsWatchFault a program Shown fault →
    IsWatchFault a program Shown told
as_told a program Shown fault told is h = subst (λ (f : WatchFault). IsWatchFault a program Shown f) is h

module _ (files : Option NamedFiles) (words : FileWords) (i : Inputs) (program : List Instr) (given : Gives files words i) (is : CompilesTo i program) where
  abbrev compiles : MayCompileTo files words program
  compiles = (i, given, is)

  -- a part of the steps of what was compiled
  pub part_of_compiled : (a : Architecture) (old new : List Reading) → is.card ≡ a → AreShown old new [] ⊎ IsShownPart a.figures program old new →
      MayBeShownPart files words old new
  part_of_compiled a old new same (inl none) = inl none
  part_of_compiled a old new same (inr some) =
      inr (program, compiles, subst (λ (b : Architecture). IsShownPart b.figures program old new) (sym same) some)

  -- all of them are a part
  pub all_of_compiled : (a : Architecture) (old new : List Reading) → is.card ≡ a → IsShownAll a.figures program old new → MayBeShownPart files words old new
  all_of_compiled a old new same all =
      let steps : List Step = steps_in all.0 in
      part_of_compiled a old new same
      (inr (all.0, all.1, length steps, subst (λ (l : List Step). AreShown old new l) (sym (take-length steps)) all.2))

-- the report of what was compiled
pub report_due : {W : Type 0} (kind : W → Kind) (sum : W → ℕ) (files : Option NamedFiles) (card source : List ℕ) (i : Inputs) (program : List Instr) (given : Gives files (two_files card source) i) (is : CompilesTo i program) (a : Architecture)
    (old new shown : List W) (totals : Totals) (text : List ℕ) → is.card ≡ a → IsShownAll a.figures program (readings kind sum old) (readings kind sum new) → totals ≡ totals_of program → shown ≡ new →
    text ≡ report_text totals (readings kind sum shown) → IsDue files (Report card source) (readings kind sum old) (readings kind sum new) text
report_due kind sum files card source i program given is a old new shown totals text same all count seen told = (
  program,
  (i, given, is),
  subst (λ (b : Architecture). IsShownAll b.figures program (readings kind sum old) (readings kind sum new)) (sym same) all,
  told ∙ (λ j. report_text (count j) (readings kind sum (seen j))),
)
