use Rattle.std.proofs.Common.{◌≡◌, ◌<◌, ℕ, Bool, true, is_some, map, List, length, Option, Some, set, sym, ap, ◌∙◌, subst, IsTrue, arith}
use Rattle.zac_arch.specs.Architecture.{trap_count}
use Rattle.zac_pairing.specs.Pairing.{mate, freed}
use Rattle.zac_pairing.proofs.PairingFacts.{mate_in}
use Rattle.std.proofs.lemmas.List.{length-map}
use Rattle.zac_world.specs.Places.{ArePlaced, Places, is_empty, traps_of}
use Rattle.zac_world.specs.Worlds.{cleared}
use Rattle.zac_world.proofs.TakenFacts.{length-cleared, taken_after}
use Rattle.zac_world.proofs.PlacesFacts.{none_from_empty, placed_after, traps_put}
use Rattle.zac_world.proofs.world.World.put.Goals as goal

pub join-left-requires-clause-free : goal.join-left-requires-clause-free
join-left-requires-clause-free c =
    let p = c.self.inside.pairing in
    none_from_empty p.left.items p.right.items c.args.t.0 p.pairing
    (subst (λ (v : Places). IsTrue (is_empty v.traps c.args.t.0)) (sym c.self.view_is) c.requires.empty)

pub clear_flag-requires : goal.clear_flag-requires
clear_flag-requires c t is =
    let p = c.self.inside.pairing in
    omega (arith, mate_in p.right.items t c.args.q (p.pairing.there c.args.q t (sym c.join-left.ensures.before ∙ is)), ap (λ (l : List Bool). length l) c.self.invariant.taken_are, length-map p.right.items is_some)

pub set-requires : goal.set-requires
set-requires c =
    let p = c.self.inside.pairing in
    omega (
      arith,
      c.requires.t_in,
      ap (λ (v : Places). trap_count v.architecture) c.self.view_is,
      c.self.invariant.placed.all_traps,
      ap (λ (l : List Bool). length l) c.self.invariant.taken_are,
      length-map p.right.items is_some,
      ap (λ (l : List Bool). length l) c.clear_flag.ensures,
      length-cleared c.self.inside.taken c.join-left.result,
    )

pub invariant_of-self : goal.invariant_of-self
invariant_of-self c =
    let own = c.self.inside.card.now in
    let p = c.self.inside.pairing in
    let q = c.args.q in
    let t = c.args.t.0 in
    let before = mate p.left.items q in
    let blocks = c.self.inside.blocks.items in
    let flags : c.set.new.self ≡ map is_some c.join-left.new.self.right.items =
    c.set.ensures ∙ ap (λ (l : List Bool). set l t true) (c.clear_flag.ensures ∙ ap (cleared c.self.inside.taken) c.join-left.ensures.before ∙ ap (λ (l : List Bool). cleared l before) c.self.invariant.taken_are)
    ∙ taken_after p.right.items before t q ∙ ap (map is_some) (sym c.join-left.ensures.right) in
    let placed : ArePlaced own c.join-left.new.self.left.items c.join-left.new.self.right.items =
    subst (λ (l : List (Option ℕ)). ArePlaced own l c.join-left.new.self.right.items) (sym c.join-left.ensures.left)
    (subst (ArePlaced own (set p.left.items q (Some t))) (sym c.join-left.ensures.right) (placed_after own p.left.items p.right.items q t c.self.invariant.placed)) in
    record {
      placed = placed;
      blocks_are = c.self.invariant.blocks_are;
      taken_are = flags;
    }

pub returns : goal.returns
returns c =
    let own = c.self.inside.card.now in
    let p = c.self.inside.pairing in
    ap (λ (l : List (Option ℕ)). let v : Places = record { architecture = own; traps = traps_of l } in v) c.join-left.ensures.left
    ∙ ap (λ (l : List ℕ). let v : Places = record { architecture = own; traps = l } in v) (traps_put p.left.items c.args.q c.args.t.0)
    ∙ ap (λ (v : Places). let w : Places = record { architecture = v.architecture; traps = set v.traps c.args.q c.args.t.0 } in w) c.self.view_is
