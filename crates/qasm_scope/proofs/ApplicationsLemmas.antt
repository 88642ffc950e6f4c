-- How often a call is applied, and on what.
use Rattle.std.proofs.Common.{◌≡◌, ℕ, ◌+◌, ◌<◌, ◌≤◌, ◌↔◌, List, length, get_or, drop, Option, Some, None, unwrap_or, is_some, Bool, true, false, IsTrue, refl, sym, ◌∙◌, ap, subst}
use Rattle.std.specs.List.{Any}
use Rattle.std.proofs.lemmas.Bool.{false≢true}
use Rattle.std.proofs.lemmas.List.{at_drop_more, at_drop_all}
use Rattle.qasm_form.specs.declared.stmt.Arg.{Arg}
use Rattle.qasm_form.specs.declared.stmt.Stmt.{Stmt}
use Rattle.qasm_names.specs.Names.{Environment, qubit_size, value_or}
use Rattle.qasm_names.specs.Applications.{applications, times_by}
use Rattle.qasm_scope.specs.Judged.{MeetWithin, TouchesReadBy}
use Rattle.qasm_names.specs.Refusals.{SomeTwo, RepeatsQubit, TouchesRead}

times_by-indexed : (e : Environment) (arg : Arg) (o : Option ℕ) (others : ℕ) → is_some o ≡ true → times_by e arg o others ≡ others
times_by-indexed e arg None others h = absurd (false≢true h)
times_by-indexed e arg (Some i) others h = refl

times_by-whole : (e : Environment) (arg : Arg) (o : Option ℕ) (others : ℕ) → is_some o ≡ false → times_by e arg o others ≡ value_or (qubit_size e arg.word) 0
times_by-whole e arg None others h = refl
times_by-whole e arg (Some i) others h = absurd (false≢true (sym h))

unwrap_or-value_or : (o : Option ℕ) (n : ℕ) → unwrap_or o n ≡ value_or o n
unwrap_or-value_or None n = refl
unwrap_or-value_or (Some x) n = refl

module _ (e : Environment) (args : List Arg) where
  step : (i : ℕ) (arg : Arg) → i < length args → arg ≡ get_or args i arg → applications e (drop i args) ≡ times_by e arg arg.index (applications e (drop (i + 1) args))
  step i arg l is =
      at_drop_more (applications e) args i arg l ∙ ap (λ (x : Arg). times_by e x x.index (applications e (drop (i + 1) args))) (sym is)

  pub applications_more : (i : ℕ) (arg : Arg) → i < length args → arg ≡ get_or args i arg → is_some arg.index ≡ true → applications e (drop i args) ≡ applications e args → applications e (drop (i + 1) args) ≡ applications e args
  applications_more i arg l is indexed h =
      sym (times_by-indexed e arg arg.index (applications e (drop (i + 1) args)) indexed) ∙ sym (step i arg l is) ∙ h

  pub applications_whole : (i : ℕ) (arg : Arg) (size : Option ℕ) (result : ℕ) → i < length args → arg ≡ get_or args i arg → is_some arg.index ≡ false → applications e (drop i args) ≡ applications e args → size ≡ qubit_size e arg.word → result ≡ unwrap_or size 0 → result ≡ applications e args
  applications_whole i arg size result l is whole h of_size of_result =
      of_result ∙ unwrap_or-value_or size 0 ∙ ap (λ o. value_or o 0) of_size ∙ sym (times_by-whole e arg arg.index (applications e (drop (i + 1) args)) whole) ∙ sym (step i arg l is) ∙ h

  pub applications_none : (i : ℕ) → length args ≤ i → applications e (drop i args) ≡ applications e args → 1 ≡ applications e args
  applications_none i l h = sym (at_drop_all (applications e) args i l) ∙ h

  pub repeats_from : {b : Bool} {n : ℕ} → n ≡ applications e args → (IsTrue b ↔ SomeTwo (MeetWithin n) args) → (IsTrue b ↔ RepeatsQubit e args)
  repeats_from {b} {n} same h = (to, from) where
    to : IsTrue b → RepeatsQubit e args
    to t =
        let w : SomeTwo (MeetWithin n) args = h.0 t in
        (w.7.0, subst (λ m. w.7.0 < m) same w.7.1, (w.0, w.1, w.2, w.3, w.4, w.5, w.6, w.7.2))

    from : RepeatsQubit e args → IsTrue b
    from r =
        let w = r.2 in
        h.1 (w.0, w.1, w.2, w.3, w.4, w.5, w.6, (r.0, subst (λ m. r.0 < m) (sym same) r.1, w.7))

  pub touches_from : (before : List Stmt) {b : Bool} {n : ℕ} → n ≡ applications e args → (IsTrue b ↔ Any (TouchesReadBy e before n) args) → (IsTrue b ↔ TouchesRead e before args)
  touches_from before {b} {n} same h = (to, from) where
    to : IsTrue b → TouchesRead e before args
    to t =
        let w : Any (TouchesReadBy e before n) args = h.0 t in
        (w.4.0, subst (λ m. w.4.0 < m) same w.4.1, (w.0, w.1, w.2, w.3, w.4.2))

    from : TouchesRead e before args → IsTrue b
    from r =
        let w = r.2 in
        h.1 (w.0, w.1, w.2, w.3, (r.0, subst (λ m. r.0 < m) (sym same) r.1, w.4))
