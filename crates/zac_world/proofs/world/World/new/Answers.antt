use Rattle.std.proofs.Common.{rules, true, Bool, is_some, map, ◌≡◌, ◌+◌, ◌<◌, ℕ, List, Option, Some, None, length, get_or, set, sym, ap, ◌∙◌, subst, arith}
use Rattle.std.proofs.lemmas.List.{length-map, length-set, map-set}
use Rattle.zac_arch.specs.declared.place.TrapId.{TrapId}
use Rattle.zac_pairing.specs.Pairing.{mate, freed, free_count}
use Rattle.zac_pairing.proofs.PairingFacts.{free_count-set_free}
use Rattle.zac_world.specs.Places.{Places}
use Rattle.zac_world.proofs.PlacesFacts.{AreHomed, home_free, homed_more, traps_are_homes, placed_all}
use Rattle.zac_world.proofs.TakenFacts.{none_taken}
use Rattle.zac_world.proofs.world.World.new.Goals as goal
use Rattle.zac_arch.specs.Architecture.{trap_count}

pub join-requires-clause-free : goal.join-requires-clause-free
join-requires-clause-free c =
    let p = c.loop-q.pairing in
    home_free c.args.homes.now p.left.items p.right.items c.loop-q.q _ c.requires.distinct p.pairing c.loop-q.invariant.homed c.loop-q-test.true

pub set-requires : goal.set-requires
set-requires c =
    omega (arith, c.requires.in_range c.loop-q.q (record { 0 = 0 }) c.loop-q-test.true, ap (λ (l : List Bool). length l) c.loop-q.invariant.taken, length-map c.loop-q.pairing.right.items is_some, c.loop-q.invariant.right_len)

pub loop-q-init : goal.loop-q-init
loop-q-init c =
    let p = c.in_ok-pairing.pairing in
    let n = trap_count c.args.card.now in
    let right_len : length p.right.items ≡ n = search rules in
    let right_many : length p.right.items ≡ c.traps-traps.result = search rules in
    record {
      homed = record {
        len = search rules;
        placed = λ k d lt. absurd (omega arith);
        later = λ k _. c.in_ok-pairing.ensures.alone k;
      };
      right_len = right_len;
      taken = c.in_ok-taken.ensures ∙ none_taken p.left.items p.right.items c.traps-traps.result p.pairing c.in_ok-pairing.ensures.alone right_many;
      free = search rules;
    }

pub loop-q-preserved : goal.loop-q-preserved
loop-q-preserved c =
    let homes = c.args.homes.now in
    let p = c.loop-q.pairing in
    let q = c.loop-q.q in
    let e : TrapId = record { 0 = 0 } in
    let home = (get_or homes q e).0 in
    let homed = c.loop-q.invariant.homed in
    let none : mate p.left.items q ≡ None = homed.later q (omega arith) in
    let free : mate p.right.items home ≡ None = home_free homes p.left.items p.right.items q e c.requires.distinct p.pairing homed c.loop-q-test.true in
    let home_in : home < length p.right.items = omega (arith, c.requires.in_range q e c.loop-q-test.true, c.loop-q.invariant.right_len) in
    let right : c.join.new.self.right.items ≡ set p.right.items home (Some q) = c.join.ensures.right ∙ ap (λ (o : Option ℕ). set (freed p.right.items o) home (Some q)) none in
    let size : length c.join.new.self.right.items ≡ length p.right.items = ap (λ (l : List (Option ℕ)). length l) right ∙ length-set p.right.items home (Some q) in
    let fewer : free_count c.join.new.self.right.items + 1 ≡ free_count p.right.items = ap (λ (l : List (Option ℕ)). free_count l + 1) right ∙ free_count-set_free p.right.items home q home_in free in
    record {
      homed = subst (λ (l : List (Option ℕ)). AreHomed homes l (q + 1)) (sym c.join.ensures.left) (homed_more homes p.left.items q e homed c.loop-q-test.true);
      right_len = size ∙ c.loop-q.invariant.right_len;
      free = omega (arith, fewer, size, c.loop-q.invariant.free);
      taken = c.set.ensures ∙ ap (λ (l : List Bool). set l home true) c.loop-q.invariant.taken ∙ sym (map-set is_some p.right.items home (Some q)) ∙ ap (map is_some) (sym right);
    }

pub invariant_of-result : goal.invariant_of-result
invariant_of-result c =
    record {
      placed = placed_all c.args.card.now c.args.homes.now c.loop-q.pairing.left.items c.loop-q.pairing.right.items c.loop-q.q c.loop-q.invariant.homed (omega arith) c.loop-q.invariant.right_len;
      blocks_are = c.in_ok-blocks.ensures;
      taken_are = c.loop-q.invariant.taken;
    }

pub returns : goal.returns
returns c =
    let homed = c.loop-q.invariant.homed in
    ap (λ (l : List ℕ). let v : Places = record { architecture = c.args.card.now; traps = l } in v)
    (traps_are_homes c.args.homes.now c.loop-q.pairing.left.items homed.len (λ k d lt. homed.placed k d (omega arith)))
