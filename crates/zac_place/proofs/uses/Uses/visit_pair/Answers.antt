use Rattle.std.proofs.Common.{true, length, ap, arith, subst}
use Rattle.std.proofs.lemmas.List.{length-set}
use Rattle.zac_place.specs.Uses.{IsVisited}
use Rattle.zac_place.proofs.UseFacts.{AreUsed-pair, AreUsed-other, pair_below}
use Rattle.zac_place.proofs.uses.Uses.visit_pair.Goals as goal

pub visit-requires : goal.visit-requires
visit-requires c =
    let below = pair_below c.args.ops.now c.args.self.now.seen.len c.args.i c.index-ops-i.result c.requires.i_in c.index-ops-i.is c.in-Two.a c.in-Two.b c.requires.in_range c.in-Two.is in
    omega arith

pub visit-requires-in-Two : goal.visit-requires-in-Two
visit-requires-in-Two c =
    let below = pair_below c.args.ops.now c.args.self.now.seen.len c.args.i c.index-ops-i.result c.requires.i_in c.index-ops-i.is c.in-Two.a c.in-Two.b c.requires.in_range c.in-Two.is in
    let visited = c.in_ok-visit.ensures in
    omega (arith, ap length visited.seen, length-set c.args.self.now.seen.items c.min.result true)

pub returns-in_ok-visit-2 : goal.returns-in_ok-visit-2
returns-in_ok-visit-2 c =
    let old = c.args.self.now in
    let mid = c.visit.new.self in
    let new = c.visit-in-Two.new.self in
    let below = pair_below c.args.ops.now c.args.self.now.seen.len c.args.i c.index-ops-i.result c.requires.i_in c.index-ops-i.is c.in-Two.a c.in-Two.b c.requires.in_range c.in-Two.is in
    let used = AreUsed-pair c.args.ops.now old.seen.len c.args.i c.index-ops-i.result c.requires.i_in c.index-ops-i.is c.in-Two.a c.in-Two.b old mid new c.in-Two.is below.0 below.1 c.requires.used
    (subst (IsVisited old mid) c.min.ensures c.in_ok-visit.ensures) (subst (IsVisited mid new) c.max.ensures c.in_ok-visit-2.ensures) in
    record {
      used = used;
      qubits = omega (arith, used.len);
    }

pub returns-in_default : goal.returns-in_default
returns-in_default c =
    record {
      used = AreUsed-other c.args.ops.now c.args.self.now.seen.len c.args.i c.index-ops-i.result c.requires.i_in c.index-ops-i.is c.args.self.now c.in_default.not-Two c.requires.used;
      qubits = omega arith;
    }
