-- The index from crossings to qubits, and how a step keeps it.
use Rattle.std.proofs.Common.{◌≡◌, ℕ, zero, suc, ◌*◌, ◌<◌, inl, inr, List, [], ◌∷◌, Some, length, map, ◌∙◌, arith, slice_get}
use Rattle.std.specs.List.{All, Contains}
use Rattle.std.proofs.lemmas.Bool.{cases_eq}
use Rattle.std.proofs.lemmas.List.Elements.{All-contains}
use Rattle.zac_arch.specs.Architecture.{Architecture}
use Rattle.zac_arch.specs.declared.place.TrapId.{TrapId}
use Rattle.zair_form.specs.declared.step.Beam.{Beam}
use Rattle.zair_form.specs.declared.step.Caught.{Caught}
use Rattle.zair_form.specs.declared.step.Dropped.{Dropped}
use Rattle.zair_form.specs.declared.step.Step.TheVariants.{Activate}
use Rattle.zair_state.specs.declared.place.Place.{Place}
use Rattle.zair_state.specs.declared.place.Place.TheVariants.{Trap, Held}
use Rattle.zair_state.specs.Invariant.{IsSound}
use Rattle.zair_state.specs.Legal.{IsLegal, Picks}
use Rattle.zair_state.specs.Result.{after, after_catching, after_dropping, with_beams}
use Rattle.zair_state.specs.State.{State, IsAt, beams_of}
use Rattle.zair_machine.specs.Crossings.{crossing_number}
use Rattle.zair_machine.specs.Machine.{after_writing, TellsCrossings}
use Rattle.zair_machine.proofs.Noting.{written_elsewhere, written_there}
use Rattle.zair_state.proofs.Deciding.{told_contained}
use Rattle.zair_state.proofs.Picking.{held_same}
use Rattle.zair_state.proofs.Placing.{after_catching_at, after_dropping_at, caught_is_held}

-- crossings whose ids are below 256 have one number only where they are one
number_same : (k r c l u v : ℕ) → r < 256 → c < 256 → u < 256 → v < 256 → crossing_number k r c ≡ crossing_number l u v → (k ≡ l) × (r ≡ u) × (c ≡ v)
number_same k r c l u v r_in c_in u_in v_in e = (omega arith, omega arith, omega arith)

-- dropped atoms leave their crossings, and the index of crossings stays
pub crossings_dropped : (atoms : List Dropped) (places : List Place) (index : List ℕ) → TellsCrossings places index → TellsCrossings (after_dropping atoms places) index
crossings_dropped atoms places index told q aod row column h = elim (after_dropping_at atoms places q (Held aod row column) h) [
  | inl x ↦ let e = x.3 in absurd (cc)
  | inr old ↦ told q aod row column old.1
]

never_held : (homes : List TrapId) (q aod row column : ℕ) → ¬ (slice_get (map (λ (h : TrapId). Trap h) homes) q ≡ Some (Held aod row column))
never_held [] q aod row column h = absurd (cc)
never_held (x ∷ xs) zero aod row column h = absurd (cc)
never_held (x ∷ xs) (suc q) aod row column h = never_held xs q aod row column h

-- atoms at rest are at no crossing
pub crossings_opening : (homes : List TrapId) (index : List ℕ) → TellsCrossings (map (λ (h : TrapId). Trap h) homes) index
crossings_opening homes index q aod row column h = absurd (never_held homes q aod row column h)

module _ (a : Architecture) (s : State) (aod : ℕ) (rows columns : List Beam) (atoms : List Caught) (legal : IsLegal a s (Activate aod rows columns atoms)) (sound : IsSound a (after s (Activate aod rows columns atoms))) (ids : All (λ (c : Caught). (c.row < 256) × (c.column < 256)) atoms) where
  abbrev number : Caught → ℕ
  number c = crossing_number aod c.row c.column

  -- a listed atom is held at its crossing
  now_held : (c : Caught) → Contains atoms c → IsAt (after s (Activate aod rows columns atoms)) c.q (Held aod c.row c.column)
  now_held c listed =
      let p = All-contains (Picks a s aod rows columns (with_beams rows (beams_of s aod).rows) (with_beams columns (beams_of s aod).columns)) atoms c legal.picks listed in
      caught_is_held aod atoms s.places c (Trap p.trap) (λ i j d lt within. (legal.once i j d lt within).0) listed p.rests

  pub crossings_caught : (index : List ℕ) → length index ≡ length s.aods * 65536 → TellsCrossings s.places index → TellsCrossings (after_catching aod atoms s.places) (after_writing (λ (c : Caught). crossing_number aod c.row c.column) (λ (c : Caught). c.q) atoms index)
  crossings_caught index len told q k row column h = elim (after_catching_at aod atoms s.places q (Held k row column) h) [
    | inl x ↦
        let same = held_same aod x.0.row x.0.column k row column x.3 in
        let in_ids = All-contains (λ (c : Caught). (c.row < 256) × (c.column < 256)) atoms x.0 ids x.1 in
        let at : number x.0 ≡ crossing_number k row column = omega (arith, same.0, same.1, same.2) in
        (omega (arith, same.1, in_ids.0), omega (arith, same.2, in_ids.1), there q k row column (omega (arith, same.1, in_ids.0)) (omega (arith, same.2, in_ids.1)) h (within k row column (omega (arith, same.0, legal.known)) (omega (arith, same.1, in_ids.0)) (omega (arith, same.2, in_ids.1))) (x.0, x.1, at))
    | inr old ↦
        let before = told q k row column old.1 in (
          before.0,
          before.1,
          elim (told_contained (λ (c : Caught). number c ≡ crossing_number k row column) atoms (λ c. cases_eq (number c) (crossing_number k row column))) [
            | inl x ↦ absurd (old.0 (x.0, x.1, one q k row column before.0 before.1 h x.0 x.1 x.2))
            | inr none ↦ written_elsewhere number (λ (c : Caught). c.q) atoms index (crossing_number k row column) (λ c listed e. none (c, listed, e)) ∙ before.2
          ],
        )
  ]
    where
      -- a listed atom with the number of a crossing is the one that is held there
      one : (q k row column : ℕ) → row < 256 → column < 256 → IsAt (after s (Activate aod rows columns atoms)) q (Held k row column) → (c : Caught) → Contains atoms c → number c ≡ crossing_number k row column → c.q ≡ q
      one q k row column r_in c_in at c listed e =
          let in_ids = All-contains (λ (c : Caught). (c.row < 256) × (c.column < 256)) atoms c ids listed in
          let same = number_same aod c.row c.column k row column in_ids.0 in_ids.1 r_in c_in e in
          let here : IsAt (after s (Activate aod rows columns atoms)) c.q (Held k row column) = rw (← same.0, ← same.1, ← same.2) (now_held c listed) in
          sound.apart c.q q (Held k row column) here at

      within : (k row column : ℕ) → k < length s.aods → row < 256 → column < 256 → crossing_number k row column < length index
      within k row column lt r_in c_in = omega (arith, len)

      there : (q k row column : ℕ) → row < 256 → column < 256 → IsAt (after s (Activate aod rows columns atoms)) q (Held k row column) → crossing_number k row column < length index → ((c : Caught) × Contains atoms c × (number c ≡ crossing_number k row column)) → slice_get (after_writing number (λ (c : Caught). c.q) atoms index) (crossing_number k row column) ≡ Some q
      there q k row column r_in c_in at lt x = written_there number (λ (c : Caught). c.q) atoms index (crossing_number k row column) q lt (one q k row column r_in c_in at) x
