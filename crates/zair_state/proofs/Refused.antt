-- Why the wrong examples aren't legal.
use Rattle.std.proofs.Common.{◌≡◌, ℕ, ◌+◌, ◌<◌, ◌≤◌, inl, inr, List, [], ◌∷◌, refl, arith, subst, zero, suc, sym, ap, lit<, lit≤}
use Rattle.std.specs.List.{Contains}
use Rattle.zac_arch.specs.Architecture.{IsLit, StandsAt}
use Rattle.zac_arch.specs.Tiny.{tiny_architecture}
use Rattle.zac_arch.specs.declared.card.Zone.{Zone}
use Rattle.zac_arch.specs.declared.place.Point.{Point}
use Rattle.zac_arch.specs.declared.place.TrapId.{TrapId}
use Rattle.zair_form.specs.declared.step.Beam.{Beam}
use Rattle.zair_form.specs.declared.step.PairOf.{PairOf}
use Rattle.zair_state.specs.State.{State, RestsLit, AreInRange, crossing}
use Rattle.zair_state.specs.Legal.{IsLegal}
use Rattle.zair_state.specs.Run.{after_all}
use Rattle.zair_form.specs.declared.step.Step.TheVariants.{Pulse}
use Rattle.zair_state.specs.Examples.{trap, start, drop_both, entangle, catch_none, carry_one}
use Rattle.zair_state.proofs.Closed.{is_one, is_one_of_two, some_is, trap_is}
use Rattle.zair_state.proofs.Entangling.{caught, carried, row, left, new_right, lit_site}

-- no crossing stands on trap 6 after the move
off_six : (r c : Beam) → Contains (left ∷ new_right ∷ []) c → StandsAt tiny_architecture 6 (crossing r c) → ⊥
off_six r c h e =
    let x : 120 ≡ c.at = ap (λ (p : Point). p.x) (some_is _ (crossing r c) e) in
    elim (is_one_of_two left new_right c h) [ inl p ↦ let a : 0 ≡ c.at = ap (λ (b : Beam). b.at) p in absurd (omega arith) | inr p ↦ let a : 20 ≡ c.at = ap (λ (b : Beam). b.at) p in absurd (omega arith) ]

pub astray : ¬ IsLegal tiny_architecture carried (drop_both 6)
astray h =
    let d = h.drops 1 (record { q = 1; trap = trap 6 }) (lit< tt) in
    off_six d.row d.column d.column_active d.exact

-- nor one on trap 4 before it
off_four : (r c : Beam) → Contains (row ∷ []) r → StandsAt tiny_architecture 4 (crossing r c) → ⊥
off_four r c h e =
    let y : 100 ≡ r.at = ap (λ (p : Point). p.y) (some_is _ (crossing r c) e) in
    let a : 0 ≡ r.at = ap (λ (b : Beam). b.at) (is_one row r h) in
    absurd (omega arith)

pub stays : ¬ IsLegal tiny_architecture caught (drop_both 5)
stays h =
    let d = h.drops 0 (record { q = 0; trap = trap 4 }) (lit< tt) in
    off_four d.row d.column d.row_active d.exact

-- nothing below 40 along y is lit
pub dark_below : (p : Point) → p.y < 40 → ¬ IsLit tiny_architecture p
dark_below p h (zero, z, lt, e, (kind, box)) = absurd (cc)
dark_below p h (suc zero, z, lt, e, (kind, box)) = let bottom : 100 ≤ p.y + 60 = subst (λ (w : Zone). w.y ≤ p.y + 60) (sym e) box.bottom in absurd (omega arith)
dark_below p h (suc (suc n), z, lt, e, lit) = absurd (omega arith)

-- an atom in trap 0 or trap 1 isn't lit
dark_zero : (t : TrapId) (p : Point) → 0 ≡ t.0 → StandsAt tiny_architecture t.0 p → ¬ IsLit tiny_architecture p
dark_zero t p z e =
    let first = subst (λ (n : ℕ). StandsAt tiny_architecture n p) (sym z) e in
    let y : 0 ≡ p.y = ap (λ (p : Point). p.y) (some_is _ p first) in
    dark_below p (omega arith)

dark_one : (t : TrapId) (p : Point) → 1 ≡ t.0 → StandsAt tiny_architecture t.0 p → ¬ IsLit tiny_architecture p
dark_one t p z e =
    let first = subst (λ (n : ℕ). StandsAt tiny_architecture n p) (sym z) e in
    let y : 0 ≡ p.y = ap (λ (p : Point). p.y) (some_is _ p first) in
    dark_below p (omega arith)

pub in_storage : ¬ IsLegal tiny_architecture start entangle
in_storage h =
    let near = h.in_range.only 0 (record { op = 1; a = 0; b = 1 }) (lit< tt) in
    let rests = near.q_rests in
    dark_zero rests.0 near.q_at (trap_is (trap 0) rests.0 rests.1) rests.2 rests.3

-- the state after one atom was carried to the first site
abbrev pub lone : State
lone = after_all start carry_one

lit_is_zero : (q : ℕ) (p : Point) → RestsLit tiny_architecture lone q p → q ≡ 0
lit_is_zero zero p h = refl
lit_is_zero (suc zero) p h = absurd (dark_one h.0 p (trap_is (trap 1) h.0 h.1) h.2 h.3)
lit_is_zero (suc (suc n)) p h = let e = h.1 in absurd (cc)

pub alone : (pairs : List PairOf) → ¬ IsLegal tiny_architecture lone (Pulse pairs)
alone pairs h =
    let one = h.none_alone 0 (record { x = 0; y = 100 }) (trap 4, refl, refl, lit_site 0 (lit≤ tt)) in
    let near = subst (λ (pair : PairOf). AreInRange tiny_architecture lone pair.a pair.b) one.3 (h.in_range.only one.0 one.1 one.2) in
    let a = lit_is_zero one.1.a near.q_at near.q_rests in
    let b = lit_is_zero one.1.b near.r_at near.r_rests in
    near.two (omega arith)

pub none_caught : ¬ IsLegal tiny_architecture start catch_none
none_caught h =
    let clear = h.clear row left (0, lit< tt, refl) (0, lit< tt, refl) (inl (0, lit< tt, refl)) (λ a. let lt = a.2 in absurd (omega arith)) in
    let far : 25 < 0 = clear.off_traps 0 (record { x = 0; y = 0 }) (lit< tt) in
    absurd (omega arith)
