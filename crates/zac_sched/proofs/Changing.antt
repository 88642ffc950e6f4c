-- How the last ends change behind one instruction.
use Rattle.std.proofs.Common.{◌≡◌, ℕ, ◌<◌, ◌≤◌, ◌⊎◌, inl, inr, List, [], ◌∷◌, ◌++◌, length, get_or, max, sym, ◌∙◌, subst, arith}
use Rattle.std.specs.List.{All}
use Rattle.std.proofs.lemmas.List.Elements.{All-push, All-weaker}
use Rattle.zac_arch.specs.Architecture.{Architecture}
use Rattle.zair_form.specs.declared.program.Act.{Act}
use Rattle.zair_form.specs.declared.program.Act.TheVariants.{Init, Gates, Rydberg, Job, Readout}
use Rattle.zair_form.specs.declared.program.Instr.{Instr}
use Rattle.zair_state.specs.Resources.{Conflict, Uses}
use Rattle.zair_state.specs.Resources.{Resource}
use Rattle.zair_state.specs.Resources.Resource.{Laser, Aod, Qubit, Trap}
use Rattle.zac_sched.specs.Ends.{AreMarked, IsLatest, IsPulseOrInit, TakesTrap, TakesZoneTrap}
use Rattle.zac_sched.specs.Schedule.{IsLastEnd}
use Rattle.zac_sched.specs.declared.ends.Ends.{Ends}
use Rattle.zac_sched.proofs.Latest.{any_last, any_before, any_weaker, latest_more, latest_kept}
use Rattle.zac_sched.proofs.Marking.{Noted}

pub as_last_end : (a : Architecture) (earlier : List Instr) (r : Resource) (end : ℕ) → IsLatest (λ x. Uses a x r) earlier end → IsLastEnd a earlier r end
as_last_end a earlier r end h = record { all = h.all; some = h.some }

pub as_latest : (a : Architecture) (earlier : List Instr) (r : Resource) (end : ℕ) → IsLastEnd a earlier r end → IsLatest (λ x. Uses a x r) earlier end
as_latest a earlier r end h = record { all = h.all; some = h.some }

-- it is such a one, and the new end counts; or it is not, and the old end stays
abbrev pub Told : Type 0 → ℕ → ℕ → ℕ → Type 0
Told Such end old new = (Such × (new ≡ end)) ⊎ ((¬ Such) × (new ≡ old))

-- what the last ends are behind an instruction with this act and this end
pub record Changes (a : Architecture) (old : Ends) (act : Act) (end : ℕ) (new : Ends) : Type 0 where
  pub laser : Told (Uses a act Laser) end old.laser new.laser
  pub aods_are : length new.aods.items ≡ length old.aods.items
  pub aods : (n : ℕ) → n < length old.aods.items → Noted (Uses a act (Aod n)) end old.aods.items new.aods.items n
  pub qubits_are : length new.qubits.items ≡ length old.qubits.items
  pub qubits : (q : ℕ) → q < length old.qubits.items → Noted (Uses a act (Qubit q)) end old.qubits.items new.qubits.items q
  pub traps_are : length new.traps.items ≡ length old.traps.items
  pub traps : (t : ℕ) → t < length old.traps.items → Noted (TakesTrap a t act) end old.traps.items new.traps.items t
  pub zones : Told (TakesZoneTrap a act) (max old.zones end) old.zones new.zones
  pub pulse : Told (IsPulseOrInit act) end old.pulse new.pulse

-- an instruction more: the new end where it is such a one, else the old one
told_more : (P : Act → Type 0) (earlier : List Instr) (i : Instr) (old new : ℕ) → All (λ e. P e.act → P i.act → e.end ≤ i.end) earlier → Told (P i.act) i.end old new → IsLatest P earlier old → IsLatest P (earlier ++ i ∷ []) new
told_more P earlier i old new before (inl here) h =
    subst (λ (m : ℕ). IsLatest P (earlier ++ i ∷ []) m) (sym here.1)
    (latest_more P earlier i (All-weaker (λ e. P e.act → P i.act → e.end ≤ i.end) (λ e. P e.act → e.end ≤ i.end) (λ e f p. f p here.0) earlier before) here.0)
told_more P earlier i old new before (inr not_here) h =
    subst (λ (m : ℕ). IsLatest P (earlier ++ i ∷ []) m) (sym not_here.1) (latest_kept P earlier old i not_here.0 h)

max_of : (m n : ℕ) → (max m n ≡ m) ⊎ (max m n ≡ n)
max_of m n = grind arith

-- where it is such a one and may end before others, the greater end counts
greater_more : (P : Act → Type 0) (earlier : List Instr) (i : Instr) (old : ℕ) → P i.act → IsLatest P earlier old → IsLatest P (earlier ++ i ∷ []) (max old i.end)
greater_more P earlier i old here h = record {
  all = All-push (λ e. P e.act → e.end ≤ max old i.end) earlier i
      (All-weaker (λ e. P e.act → e.end ≤ old) (λ e. P e.act → e.end ≤ max old i.end) (λ e f p. let le = f p in omega arith) earlier h.all) (λ p. omega arith);
  some = elim (max_of old i.end) [
    | inl left ↦ elim h.some [
      | inl none ↦ inl (left ∙ none)
      | inr one ↦ inr (any_before (λ e. P e.act × (e.end ≡ max old i.end)) earlier i (any_weaker (λ e. P e.act × (e.end ≡ old)) (λ e. P e.act × (e.end ≡ max old i.end)) (λ e p. (p.0, p.1 ∙ sym left)) earlier one))
    ]
    | inr right ↦ inr (any_last (λ e. P e.act × (e.end ≡ max old i.end)) earlier i (here, sym right))
  ];
}

zones_more : (P : Act → Type 0) (earlier : List Instr) (i : Instr) (old new : ℕ) → Told (P i.act) (max old i.end) old new → IsLatest P earlier old → IsLatest P (earlier ++ i ∷ []) new
zones_more P earlier i old new (inl here) h = subst (λ (m : ℕ). IsLatest P (earlier ++ i ∷ []) m) (sym here.1) (greater_more P earlier i old here.0 h)
zones_more P earlier i old new (inr not_here) h = subst (λ (m : ℕ). IsLatest P (earlier ++ i ∷ []) m) (sym not_here.1) (latest_kept P earlier old i not_here.0 h)

takes_uses : (a : Architecture) (t : ℕ) (x : Act) → TakesTrap a t x → Uses a x (Trap t)
takes_uses a t (Init homes) h = tt
takes_uses a t (Gates ones) h = absurd h
takes_uses a t (Rydberg pairs) h = absurd h
takes_uses a t (Job aod steps) h = h
takes_uses a t (Readout reads) h = absurd h

pulse_uses : (a : Architecture) (x : Act) → IsPulseOrInit x → Uses a x Laser
pulse_uses a (Init homes) h = tt
pulse_uses a (Gates ones) h = absurd h
pulse_uses a (Rydberg pairs) h = tt
pulse_uses a (Job aod steps) h = absurd h
pulse_uses a (Readout reads) h = absurd h

-- two such acts conflict, so the earlier one ends first
ends_first : (a : Architecture) (P : Act → Type 0) (r : Resource) → ((x : Act) → P x → Uses a x r) → (earlier : List Instr) (i : Instr) → All (λ e. Conflict a e.act i.act → e.end ≤ i.end) earlier
    → All (λ e. P e.act → P i.act → e.end ≤ i.end) earlier
ends_first a P r uses earlier i h = All-weaker (λ e. Conflict a e.act i.act → e.end ≤ i.end) (λ e. P e.act → P i.act → e.end ≤ i.end) (λ e f p q. f (r, uses e.act p, uses i.act q)) earlier h

pub changes_mark : (a : Architecture) (old : Ends) (act : Act) (end : ℕ) (new : Ends) → Changes a old act end new → AreMarked a old act end new
changes_mark a old act end new ch earlier begin h before =
    let i : Instr = record { begin = begin; end = end; act = act } in
    record {
      laser = as_last_end a (earlier ++ i ∷ []) Laser new.laser
          (told_more (λ x. Uses a x Laser) earlier i old.laser new.laser (ends_first a (λ x. Uses a x Laser) Laser (λ x u. u) earlier i before) ch.laser (as_latest a earlier Laser old.laser h.laser));
      aods_are = ch.aods_are ∙ h.aods_are;
      aods = λ n within.
          let inside : n < length old.aods.items = omega (arith, h.aods_are) in
          as_last_end a (earlier ++ i ∷ []) (Aod n) (get_or new.aods.items n 0)
          (told_more (λ x. Uses a x (Aod n)) earlier i (get_or old.aods.items n 0) (get_or new.aods.items n 0) (ends_first a (λ x. Uses a x (Aod n)) (Aod n) (λ x u. u) earlier i before)
          (ch.aods n inside) (as_latest a earlier (Aod n) (get_or old.aods.items n 0) (h.aods n within)));
      qubits = λ q within.
          let inside : q < length old.qubits.items = omega (arith, ch.qubits_are) in
          as_last_end a (earlier ++ i ∷ []) (Qubit q) (get_or new.qubits.items q 0)
          (told_more (λ x. Uses a x (Qubit q)) earlier i (get_or old.qubits.items q 0) (get_or new.qubits.items q 0) (ends_first a (λ x. Uses a x (Qubit q)) (Qubit q) (λ x u. u) earlier i before)
          (ch.qubits q inside) (as_latest a earlier (Qubit q) (get_or old.qubits.items q 0) (h.qubits q inside)));
      traps_are = ch.traps_are ∙ h.traps_are;
      traps = λ t within.
          let inside : t < length old.traps.items = omega (arith, h.traps_are) in
          told_more (TakesTrap a t) earlier i (get_or old.traps.items t 0) (get_or new.traps.items t 0) (ends_first a (TakesTrap a t) (Trap t) (takes_uses a t) earlier i before) (ch.traps t inside) (h.traps t within);
      zones = zones_more (TakesZoneTrap a) earlier i old.zones new.zones ch.zones h.zones;
      pulse = told_more IsPulseOrInit earlier i old.pulse new.pulse (ends_first a IsPulseOrInit Laser (pulse_uses a) earlier i before) ch.pulse h.pulse;
    }
