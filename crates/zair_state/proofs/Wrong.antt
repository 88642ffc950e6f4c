-- Why the wrong beams and the wrong atoms aren't legal.
use Rattle.std.proofs.Common.{◌≡◌, ℕ, ◌+◌, ◌<◌, ◌≤◌, ◌≢◌, inl, inr, List, [], ◌∷◌, refl, arith, subst, zero, suc, sym, ap, lit<, lit≤, Some}
use Rattle.zac_arch.specs.Architecture.{StandsAt}
use Rattle.zac_arch.specs.Tiny.{tiny_architecture}
use Rattle.zac_arch.specs.declared.place.Point.{Point}
use Rattle.zac_arch.specs.declared.place.TrapId.{TrapId}
use Rattle.zair_form.specs.declared.step.Beam.{Beam}
use Rattle.zair_form.specs.declared.step.PairOf.{PairOf}
use Rattle.zair_form.specs.declared.step.Step.TheVariants.{Activate, Deactivate, Move, One, Pulse}
use Rattle.zair_state.specs.declared.place.Place.TheVariants.{Trap}
use Rattle.zair_state.specs.State.{IsClear, crossing}
use Rattle.zair_state.specs.Legal.{IsLegal, CarriesOverEmptyTrap}
use Rattle.zair_state.specs.Examples.{trap, start, beam, held, raised, rows_alone, cross_at_zero, hadamard}
use Rattle.zair_state.proofs.Closed.{no_element, is_one, some_is, trap_is}
use Rattle.zair_state.proofs.Entangling.{lit_site}

pub unknown : ¬ IsLegal tiny_architecture start (Activate 2 [] [] [])
unknown h = let lt = h.known in absurd (omega arith)

pub twice : ¬ IsLegal tiny_architecture start (rows_alone (beam 0 0 ∷ beam 0 10 ∷ []))
twice h = h.rows_fresh.once 0 1 0 (lit< tt) (lit< tt) refl

pub active : ¬ IsLegal tiny_architecture held (rows_alone (beam 0 50 ∷ []))
active h = h.rows_fresh.inactive 0 (beam 0 0) (lit< tt) (0, lit< tt, refl)

pub inactive : ¬ IsLegal tiny_architecture start (Move 0 (beam 0 0 ∷ []) [])
inactive h = no_element 0 (h.rows_listed.only 0 (beam 0 0) (lit< tt))

pub left_out : ¬ IsLegal tiny_architecture held (Move 0 (beam 0 100 ∷ []) [])
left_out h = no_element 0 (h.columns_listed.all 0 (beam 0 0) (lit< tt))

pub many : ¬ IsLegal tiny_architecture start (rows_alone (beam 0 0 ∷ beam 1 10 ∷ beam 2 20 ∷ beam 3 30 ∷ beam 4 40 ∷ []))
many h = let few : 5 ≤ 4 = h.few_rows in absurd (omega arith)

pub far : ¬ IsLegal tiny_architecture start (rows_alone (beam 0 1000001 ∷ []))
far h = let on : 1000001 ≤ 1000000 = h.rows_placed.on_the_field 0 (beam 0 0) (lit< tt) in absurd (omega arith)

pub order : ¬ IsLegal tiny_architecture start (rows_alone (beam 0 0 ∷ beam 1 0 ∷ []))
order h = let apart : 0 + 10 ≤ 0 = h.rows_placed.spaced 0 (beam 0 0) (lit< tt) in absurd (omega arith)

pub gap : ¬ IsLegal tiny_architecture start (rows_alone (beam 0 0 ∷ beam 1 5 ∷ []))
gap h = let apart : 0 + 10 ≤ 5 = h.rows_placed.spaced 0 (beam 0 0) (lit< tt) in absurd (omega arith)

pub touch : ¬ IsLegal tiny_architecture start (cross_at_zero [])
touch h =
    let clear = h.clear (beam 0 0) (beam 0 0) (0, lit< tt, refl) (0, lit< tt, refl) (inl (0, lit< tt, refl)) (λ a. let lt = a.2 in absurd (omega arith)) in
    let off : 25 < 0 = clear.off_traps 0 (record { x = 0; y = 0 }) (lit< tt) in
    absurd (omega arith)

-- trap 1 doesn't stand where x is 0
off_one : (t : TrapId) (p : Point) → 1 ≡ t.0 → p.x ≡ 0 → ¬ StandsAt tiny_architecture t.0 p
off_one t p z x e =
    let first = subst (λ (n : ℕ). StandsAt tiny_architecture n p) (sym z) e in
    let at : 30 ≡ p.x = ap (λ (p : Point). p.x) (some_is _ p first) in
    absurd (omega arith)

pub pick : ¬ IsLegal tiny_architecture start (cross_at_zero (record { q = 1; row = 0; column = 0 } ∷ []))
pick h =
    let p = h.picks 0 (record { q = 1; row = 0; column = 0 }) (lit< tt) in
    let at : 0 ≡ p.column.at = ap (λ (b : Beam). b.at) (is_one (beam 0 0) p.column p.column_active) in
    off_one p.trap (crossing p.row p.column) (trap_is (trap 1) p.trap p.rests) (sym at) p.exact

pub drop_none : ¬ IsLegal tiny_architecture held (Deactivate 0 (0 ∷ []) (0 ∷ []) [])
drop_none h = let some = h.all 0 0 0 refl (inl (0, lit< tt, refl)) in let lt = some.2 in absurd (omega arith)

not_clear : ¬ IsClear tiny_architecture held 0 (record { x = 30; y = 0 })
not_clear h = let off : 25 < 0 = h.off_traps 1 (record { x = 0; y = 0 }) (lit< tt) in absurd (omega arith)

elsewhere : (p : Point) → Some p ≡ Some (record { x = 30; y = 0 }) → p.x ≢ 30 → ⊥
elsewhere p e ne = ne (ap (λ (q : Point). q.x) (some_is p (record { x = 30; y = 0 }) e))

-- the trap at (30, 0) is trap 1
trap_there : (n : ℕ) → StandsAt tiny_architecture n (record { x = 30; y = 0 }) → n ≡ 1
trap_there zero e = absurd (elsewhere _ e (λ z. absurd (omega arith)))
trap_there (suc zero) e = refl
trap_there (suc (suc zero)) e = absurd (elsewhere _ e (λ z. absurd (omega arith)))
trap_there (suc (suc (suc zero))) e = absurd (elsewhere _ e (λ z. absurd (omega arith)))
trap_there (suc (suc (suc (suc zero)))) e = absurd (elsewhere _ e (λ z. absurd (omega arith)))
trap_there (suc (suc (suc (suc (suc zero))))) e = absurd (elsewhere _ e (λ z. absurd (omega arith)))
trap_there (suc (suc (suc (suc (suc (suc zero)))))) e = absurd (elsewhere _ e (λ z. absurd (omega arith)))
trap_there (suc (suc (suc (suc (suc (suc (suc zero))))))) e = absurd (elsewhere _ e (λ z. absurd (omega arith)))
trap_there (suc (suc (suc (suc (suc (suc (suc (suc n)))))))) e = absurd (cc)

not_empty : ¬ CarriesOverEmptyTrap tiny_architecture held 0 (beam 0 0) (beam 0 30)
not_empty h = h.empty 1 (ap (λ (n : ℕ). Some (Trap (record { 0 = n }))) (sym (trap_there h.trap.0 h.exact)))

pub full : ¬ IsLegal tiny_architecture held (Move 0 (beam 0 0 ∷ []) (beam 0 30 ∷ []))
full h = elim (h.crossings (beam 0 0) (beam 0 30) (0, lit< tt, refl) (0, lit< tt, refl)) [ inl clear ↦ not_clear clear | inr carries ↦ not_empty carries ]

pub gate : ¬ IsLegal tiny_architecture raised (One (record { op = 0; q = 0; angles = hadamard }))
gate h = let e = h.1 in absurd (cc)

pub light : (pairs : List PairOf) → ¬ IsLegal tiny_architecture raised (Pulse pairs)
light pairs h = h.dark 0 (beam 0 100) (beam 0 0) (0, lit< tt, refl) (0, lit< tt, refl) (lit_site 0 (lit≤ tt))
