use Rattle.std.proofs.Common.{◌≡◌, ◌+◌, ◌<◌, ℕ, List, Some, ◌++◌, ◌∷◌, [], length, get_or, set, refl, sym, ap, ◌∙◌, subst, ⊎_elim, ◌⊎◌, arith}
use Rattle.std.specs.List.{slice_get}
use Rattle.std.proofs.lemmas.Option.{slice_get_read}
use Rattle.std.proofs.lemmas.Grind.{get_or_default_zero}
use Rattle.zac_gates.specs.declared.circuit.Op.{Op}
use Rattle.zac_gates.specs.declared.circuit.Op.TheVariants.{One, Two, Fence, Read}
use Rattle.zac_stage.specs.Rooms.{AreRooms, IsRaised}
use Rattle.zac_stage.specs.Tops.{AreNumbered, AreTops}
use Rattle.zac_stage.proofs.WalkFacts.{one_step, pair_step, fence_step, read_step, fence_within, top_of_within}
use Rattle.zac_stage.proofs.numbering.Walk.step.Goals as goal

pub index-top-requires : goal.index-top-requires
index-top-requires c =
    let is = slice_get_read c.args.ops.now (length c.args.ops.now) c.args.i c.index-ops-i.result refl c.requires.i_in c.index-ops-i.is ∙ ap (λ (o : Op). Some o) c.in-One.is in
    (c.requires.in_range c.args.i _ (c.in-One.q, c.in-One.q) is refl).0

pub index-requires : goal.index-requires
index-requires c =
    let is = slice_get_read c.args.ops.now (length c.args.ops.now) c.args.i c.index-ops-i.result refl c.requires.i_in c.index-ops-i.is ∙ ap (λ (o : Op). Some o) c.in-Two.is in
    (c.requires.in_range c.args.i _ (c.in-Two.a, c.in-Two.b) is refl).0

pub index-requires-in-Two : goal.index-requires-in-Two
index-requires-in-Two c =
    let is = slice_get_read c.args.ops.now (length c.args.ops.now) c.args.i c.index-ops-i.result refl c.requires.i_in c.index-ops-i.is ∙ ap (λ (o : Op). Some o) c.in-Two.is in
    (c.requires.in_range c.args.i _ (c.in-Two.a, c.in-Two.b) is refl).1

pub least-pulse-requires-clause-floor_in : goal.least-pulse-requires-clause-floor_in
least-pulse-requires-clause-floor_in c =
    let ops = c.args.ops.now in
    let w = c.args.self.now in
    let walk = c.requires.walk in
    let is = slice_get_read ops (length ops) c.args.i c.index-ops-i.result refl c.requires.i_in c.index-ops-i.is ∙ ap (λ (o : Op). Some o) c.in-Two.is in
    let range = c.requires.in_range c.args.i _ (c.in-Two.a, c.in-Two.b) is refl in
    let a_in : c.in-Two.a < length w.tops.items = omega (arith, range.0) in
    let b_in : c.in-Two.b < length w.tops.items = omega (arith, range.1) in
    let at_a = c.index.ensures ∙ get_or_default_zero w.tops.items c.in-Two.a c.index.result.now a_in in
    let at_b = c.index-in-Two.ensures ∙ get_or_default_zero w.tops.items c.in-Two.b c.index-in-Two.result.now b_in in
    let all = walk.tops in
    let fence_in = fence_within ops w.numbers.items w.rooms.counts.items w.tops.items w.fence c.args.i all in
    let left_in = top_of_within ops w.numbers.items w.rooms.counts.items w.tops.items w.fence c.args.i c.in-Two.a all a_in in
    let right_in = top_of_within ops w.numbers.items w.rooms.counts.items w.tops.items w.fence c.args.i c.in-Two.b all b_in in
    ⊎_elim (λ e. omega (arith, e, fence_in)) (λ other. ⊎_elim (λ e. omega (arith, e, at_a, left_in)) (λ e. omega (arith, e, at_b, right_in)) other) c.greatest-floor.ensures.one_of

pub index_mut-requires : goal.index_mut-requires
index_mut-requires c =
    let is = slice_get_read c.args.ops.now (length c.args.ops.now) c.args.i c.index-ops-i.result refl c.requires.i_in c.index-ops-i.is ∙ ap (λ (o : Op). Some o) c.in-Two.is in
    (c.requires.in_range c.args.i _ (c.in-Two.a, c.in-Two.b) is refl).0

pub index_mut-requires-in-Two : goal.index_mut-requires-in-Two
index_mut-requires-in-Two c =
    let is = slice_get_read c.args.ops.now (length c.args.ops.now) c.args.i c.index-ops-i.result refl c.requires.i_in c.index-ops-i.is ∙ ap (λ (o : Op). Some o) c.in-Two.is in
    (c.requires.in_range c.args.i _ (c.in-Two.a, c.in-Two.b) is refl).1

pub returns-in_ok-push-in-One-clause-walk : goal.returns-in_ok-push-in-One-clause-walk
returns-in_ok-push-in-One-clause-walk c =
    let ops = c.args.ops.now in
    let w = c.args.self.now in
    let walk = c.requires.walk in
    let n = c.greatest.result in
    let q = c.in-One.q in
    let is : slice_get ops c.args.i ≡ Some (One q c.in-One.angles) = slice_get_read ops (length ops) c.args.i c.index-ops-i.result refl c.requires.i_in c.index-ops-i.is ∙ ap (λ (o : Op). Some o) c.in-One.is in
    let range = c.requires.in_range c.args.i (One q c.in-One.angles) (q, q) is refl in
    let q_in : q < length w.tops.items = omega (arith, range.0) in
    let top : c.index-top.result.now ≡ get_or w.tops.items q 0 = c.index-top.ensures ∙ get_or_default_zero w.tops.items q c.index-top.result.now q_in in
    let which : (n ≡ w.fence) ⊎ ((n ≡ get_or w.tops.items q 0) ⊎ (n ≡ get_or w.tops.items q 0)) = subst (λ (v : ℕ). (n ≡ w.fence) ⊎ ((n ≡ v) ⊎ (n ≡ v))) top c.greatest.ensures.one_of in
    let step = one_step ops w.rooms.sites w.numbers.items w.rooms.counts.items w.tops.items w.fence c.args.i n walk.numbered walk.tops q c.in-One.angles is q_in c.greatest.ensures.above_a (omega (arith, c.greatest.ensures.above_b, top)) which in
    let items : c.push.new.self.items ≡ w.numbers.items ++ n ∷ [] = c.in_ok-push-in-One.ensures.items in
    record {
      sites_are = refl;
      numbered = subst (λ (l : List ℕ). AreNumbered ops w.rooms.sites l (c.args.i + 1)) (sym items) step.0;
      rooms = walk.rooms;
      tops = subst (λ (l : List ℕ). AreTops ops l w.rooms.counts.items w.tops.items w.fence (c.args.i + 1)) (sym items) step.1;
      few = omega (arith, walk.few);
    }

pub returns-in_ok-push-in-Two-clause-walk : goal.returns-in_ok-push-in-Two-clause-walk
returns-in_ok-push-in-Two-clause-walk c =
    let ops = c.args.ops.now in
    let w = c.args.self.now in
    let walk = c.requires.walk in
    let floor = c.greatest-floor.result in
    let n = c.least-pulse.result in
    let a = c.in-Two.a in
    let b = c.in-Two.b in
    let counts = w.rooms.counts.items in
    let later = c.add.new.self.counts.items in
    let is : slice_get ops c.args.i ≡ Some (Two a b) = slice_get_read ops (length ops) c.args.i c.index-ops-i.result refl c.requires.i_in c.index-ops-i.is ∙ ap (λ (o : Op). Some o) c.in-Two.is in
    let range = c.requires.in_range c.args.i (Two a b) (a, b) is refl in
    let a_in : a < length w.tops.items = omega (arith, range.0) in
    let b_in : b < length w.tops.items = omega (arith, range.1) in
    let at_a : c.index.result.now ≡ get_or w.tops.items a 0 = c.index.ensures ∙ get_or_default_zero w.tops.items a c.index.result.now a_in in
    let at_b : c.index-in-Two.result.now ≡ get_or w.tops.items b 0 = c.index-in-Two.ensures ∙ get_or_default_zero w.tops.items b c.index-in-Two.result.now b_in in
    let which : (floor ≡ w.fence) ⊎ ((floor ≡ get_or w.tops.items a 0) ⊎ (floor ≡ get_or w.tops.items b 0)) =
    subst (λ (v : ℕ). (floor ≡ w.fence) ⊎ ((floor ≡ get_or w.tops.items a 0) ⊎ (floor ≡ v))) at_b (subst (λ (v : ℕ). (floor ≡ w.fence) ⊎ ((floor ≡ v) ⊎ (floor ≡ c.index-in-Two.result.now))) at_a c.greatest-floor.ensures.one_of) in
    let same : c.least-pulse.new.self.counts.items ≡ counts = ap (λ v. v.items) c.least-pulse.ensures.counts in
    let raised : IsRaised counts later n = subst (λ (l : List ℕ). IsRaised l later n) same c.in_ok-add-in-Two.ensures.raised in
    let step = pair_step ops w.rooms.sites w.numbers.items counts w.tops.items w.fence c.args.i n walk.numbered walk.tops a b floor later is a_in b_in c.greatest-floor.ensures.above_a
    (omega (arith, c.greatest-floor.ensures.above_b, at_a)) (omega (arith, c.greatest-floor.ensures.above_c, at_b)) which c.least-pulse.ensures.least raised in
    let items : c.push-in-Two.new.self.items ≡ w.numbers.items ++ n ∷ [] = c.in_ok-push-in-Two.ensures.items in
    let sites : c.add.new.self.sites ≡ w.rooms.sites = c.add.ensures.sites ∙ c.least-pulse.ensures.sites in
    record {
      sites_are = sites;
      numbered = subst (λ (l : List ℕ). AreNumbered ops w.rooms.sites l (c.args.i + 1)) (sym items) step.0;
      rooms = subst (λ (s : ℕ). AreRooms later c.add.new.self.links.items s) sites c.in_ok-add-in-Two.ensures.rooms;
      tops = subst (λ (l : List ℕ). AreTops ops l later (set (set w.tops.items a (n + 1)) b (n + 1)) w.fence (c.args.i + 1)) (sym items) step.1;
      few = ⊎_elim (λ e. omega (arith, e, walk.few)) (λ e. omega (arith, e, walk.few, c.least-pulse.ensures.least.within)) raised.size;
    }

pub returns-in_ok-push-in-Fence-clause-walk : goal.returns-in_ok-push-in-Fence-clause-walk
returns-in_ok-push-in-Fence-clause-walk c =
    let ops = c.args.ops.now in
    let w = c.args.self.now in
    let walk = c.requires.walk in
    let is : slice_get ops c.args.i ≡ Some Fence = slice_get_read ops (length ops) c.args.i c.index-ops-i.result refl c.requires.i_in c.index-ops-i.is ∙ ap (λ (o : Op). Some o) c.in-Fence.is in
    let step = fence_step ops w.rooms.sites w.numbers.items w.rooms.counts.items w.tops.items w.fence c.args.i 0 walk.numbered walk.tops is refl in
    let items : c.push-in-Fence.new.self.items ≡ w.numbers.items ++ 0 ∷ [] = c.in_ok-push-in-Fence.ensures.items in
    let count : c.len.result ≡ length w.rooms.counts.items = omega (arith, c.len.ensures) in
    record {
      sites_are = refl;
      numbered = subst (λ (l : List ℕ). AreNumbered ops w.rooms.sites l (c.args.i + 1)) (sym items) step.0;
      rooms = walk.rooms;
      tops = subst (λ (f : ℕ). AreTops ops c.push-in-Fence.new.self.items w.rooms.counts.items w.tops.items f (c.args.i + 1)) (sym count)
          (subst (λ (l : List ℕ). AreTops ops l w.rooms.counts.items w.tops.items (length w.rooms.counts.items) (c.args.i + 1)) (sym items) step.1);
      few = omega (arith, walk.few);
    }

pub returns-in_ok-push-in-Read-clause-walk : goal.returns-in_ok-push-in-Read-clause-walk
returns-in_ok-push-in-Read-clause-walk c =
    let ops = c.args.ops.now in
    let w = c.args.self.now in
    let walk = c.requires.walk in
    let is : slice_get ops c.args.i ≡ Some (Read c.in-Read.q c.in-Read.bit) = slice_get_read ops (length ops) c.args.i c.index-ops-i.result refl c.requires.i_in c.index-ops-i.is ∙ ap (λ (o : Op). Some o) c.in-Read.is in
    let step = read_step ops w.rooms.sites w.numbers.items w.rooms.counts.items w.tops.items w.fence c.args.i 0 walk.numbered walk.tops c.in-Read.q c.in-Read.bit is refl in
    let items : c.push-in-Read.new.self.items ≡ w.numbers.items ++ 0 ∷ [] = c.in_ok-push-in-Read.ensures.items in
    record {
      sites_are = refl;
      numbered = subst (λ (l : List ℕ). AreNumbered ops w.rooms.sites l (c.args.i + 1)) (sym items) step.0;
      rooms = walk.rooms;
      tops = subst (λ (l : List ℕ). AreTops ops l w.rooms.counts.items w.tops.items w.fence (c.args.i + 1)) (sym items) step.1;
      few = omega (arith, walk.few);
    }
