-- Before the first pulse nothing leaves, and before a later one what leaves the pulse before it is sent home.
use Rattle.std.proofs.Common.{◌≡◌, ◌≢◌, ℕ, zero, suc, ◌+◌, ◌-◌, ◌<◌, List, [], ◌∷◌, Some, length, refl, sym, ap, ◌∙◌, subst, arith, slice_get}
use Rattle.std.specs.List.{All}
use Rattle.std.proofs.lemmas.List.Elements.{All-nil}
use Rattle.std.proofs.lemmas.List.Sorted.{IsPermutation-refl}
use Rattle.std.proofs.lemmas.Option.{get_or_from_slice_get, slice_get_within}
use Rattle.zac_arch.specs.Architecture.{Architecture}
use Rattle.zac_arch.specs.declared.place.TrapId.{TrapId}
use Rattle.zac_gates.specs.declared.circuit.Op.{Op}
use Rattle.zac_group.specs.FirstFit.{IsGrouping, IsTakenBefore}
use Rattle.zac_group.specs.Groups.{IsGroup, MoveGroup}
use Rattle.zac_place.specs.Placing.{IsLeastPlacing}
use Rattle.zac_reuse.specs.Keeping.{IsGreatest, IsKeeping, MayKeep}
use Rattle.zac_world.specs.Places.{Places}
use Rattle.zair_form.specs.declared.step.PairOf.{PairOf}
use Rattle.zac_plan.specs.declared.agenda.Agenda.{Agenda}
use Rattle.zac_plan.specs.Growth.{GrowsByReturns, IsSentHome, numbers_at, pulse_before}
use Rattle.zac_plan.specs.Seats.{CanReturn}
use Rattle.zac_plan.proofs.Growing.{goes_nowhere}
use Rattle.zac_plan.proofs.Lists.{contained_in_none, pairs_none}
use Rattle.zac_plan.proofs.Worlds.{places_of_world}

-- no gate is kept where no pulse is before
keeps_none : (ops : List Op) (pulse : List ℕ) → IsKeeping ops [] pulse []
keeps_none ops pulse = record { each = All-nil (MayKeep ops [] pulse); no_gate_twice = pairs_none (λ a b. (a.0 ≢ b.0) × (a.1 ≢ b.1)) }

keeps_none_at_most : (ops : List Op) (pulse : List ℕ) → IsGreatest ops [] pulse []
keeps_none_at_most ops pulse [] keeping = omega arith
keeps_none_at_most ops pulse (k ∷ ks) keeping = absurd (contained_in_none k.0 (keeping.each 0 k (omega arith)).old)

-- no moves have no groups
no_groups : (a : Architecture) → IsGrouping a [] []
no_groups a = record {
  ordered = [];
  numbers = [];
  permutes = IsPermutation-refl [];
  in_order = pairs_none (IsTakenBefore a);
  first_fit = record {
    each = refl;
    fits = λ k s at. cc;
    passed = λ k group s at. cc;
    in_turn = λ k group within. absurd (omega arith);
  };
  below = λ k within. absurd (omega arith);
  cards = All-nil (λ (g : MoveGroup). g.card ≡ a);
  shifts_are = λ n g at. cc;
  kept = All-nil IsGroup;
}

least_of_none : (cost : ℕ → ℕ → ℕ) (offered : List ℕ) → IsLeastPlacing cost offered 0 []
least_of_none cost offered = record {
  placing = record { each_row = refl; offers = All-nil _; distinct = pairs_none (λ a b. a ≢ b) };
  least = λ others placing. omega arith;
}

-- nothing leaves where no pulse is before
pub none_leave : (a : Architecture) (ops : List Op) (pulse : List ℕ) (t : Agenda) (world : Places) → world.architecture ≡ a → IsSentHome a ops [] pulse t t world world
none_leave a ops pulse t world its_card = record {
  kept = [];
  keeping = keeps_none ops pulse;
  greatest = keeps_none_at_most ops pulse;
  grows = record {
    targets = [];
    chosen = least_of_none _ _;
    grows = record {
      jobs = [];
      are = record { groups = []; grouping = no_groups a; jobs = refl };
      goes_on = goes_nowhere t;
    };
    moved = sym (places_of_world a world its_card);
  };
}

pub none_leave_at_first : (a : Architecture) (ops : List Op) (pulses : List (List ℕ)) (k : ℕ) (pulse : List ℕ) (t : Agenda) (world : Places) → k ≡ 0 → world.architecture ≡ a →
    IsSentHome a ops (pulse_before pulses k) pulse t t world world
none_leave_at_first a ops pulses k pulse t world first its_card =
    subst (λ n. IsSentHome a ops (pulse_before pulses n) pulse t t world world) (sym first) (none_leave a ops pulse t world its_card)

-- the pulse before a later one
before_later : (pulses : List (List ℕ)) (t : ℕ) → t ≢ 0 → numbers_at pulses (t - 1) ≡ pulse_before pulses t
before_later pulses zero later = absurd (later refl)
before_later pulses (suc t) later = let back : suc t - 1 ≡ t = omega arith in ap (numbers_at pulses) back

-- is found there
pub found_before : (pulses : List (List ℕ)) (t : ℕ) (numbers : List ℕ) → t ≢ 0 → slice_get pulses (t - 1) ≡ Some numbers → numbers ≡ pulse_before pulses t
found_before pulses t numbers later at = sym (get_or_from_slice_get pulses (t - 1) numbers [] at) ∙ before_later pulses t later

-- what holds of the pulses t - 1 and t
pub of_both : (P : List ℕ → List ℕ → Type 0) (pulses : List (List ℕ)) (t : ℕ) → t ≢ 0 → P (numbers_at pulses (t - 1)) (numbers_at pulses (t - 1 + 1)) →
    P (pulse_before pulses t) (numbers_at pulses t)
of_both P pulses t later h =
    let here : t - 1 + 1 ≡ t = omega arith in
    subst (λ (l : List ℕ). P l (numbers_at pulses t)) (before_later pulses t later) (subst (λ n. P (numbers_at pulses (t - 1)) (numbers_at pulses n)) here h)

-- the ops of kept gates exist
pub kept_in : (ops : List Op) (before pulse : List ℕ) (kept : List (ℕ × ℕ)) → IsKeeping ops before pulse kept → All (λ k. (k.0 < length ops) × (k.1 < length ops)) kept
kept_in ops before pulse kept keeping k d within =
    let shared = (keeping.each k d within).shared in
    (slice_get_within ops _ shared.a shared.a_is, slice_get_within ops _ shared.b shared.b_is)

-- the same ops, pairs and kept gates by other names
module _ (a : Architecture) (ops these : List Op) (before those : List PairOf) (kept chosen : List (ℕ × ℕ)) (same_ops : these ≡ ops) (same_pairs : those ≡ before) (same_kept : chosen ≡ kept) where
  pub can_return_by_names : (rests : List TrapId) → CanReturn a ops rests before kept → CanReturn a these rests those chosen
  can_return_by_names rests h =
      subst (λ (l : List Op). CanReturn a l rests those chosen) (sym same_ops)
      (subst (λ (l : List PairOf). CanReturn a ops rests l chosen) (sym same_pairs) (subst (CanReturn a ops rests before) (sym same_kept) h))

  pub grows_by_names : (old new : Agenda) (from to : Places) → GrowsByReturns a these those chosen old new from to → GrowsByReturns a ops before kept old new from to
  grows_by_names old new from to h =
      subst (λ (l : List (ℕ × ℕ)). GrowsByReturns a ops before l old new from to) same_kept
      (subst (λ (l : List PairOf). GrowsByReturns a ops l chosen old new from to) same_pairs (subst (λ (l : List Op). GrowsByReturns a l those chosen old new from to) same_ops h))
