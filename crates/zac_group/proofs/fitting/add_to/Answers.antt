use Rattle.std.proofs.Common.{List, All, arith, rules, subst, sym}
use Rattle.std.proofs.lemmas.List.Elements.{All-push, All-set}
use Rattle.zac_group.specs.declared.members.Members.{Members}
use Rattle.zac_group.specs.Members.{IsMembers}
use Rattle.zac_group.proofs.FirstFitFacts.{set_adds}
use Rattle.zac_group.proofs.fitting.add_to.Goals as goal

pub returns-in_ok-add-clause-members : goal.returns-in_ok-add-clause-members
returns-in_ok-add-clause-members c =
    All-set (IsMembers c.args.card.now) c.args.groups.now.items c.args.number c.add.new.self c.in_ok-add.ensures.members c.requires.members

pub returns-in_ok-add-clause-adds : goal.returns-in_ok-add-clause-adds
returns-in_ok-add-clause-adds c =
    set_adds c.args.groups.now.items c.args.number c.index_mut-group.result.now c.add.new.self c.args.route.shift
    (omega arith) (search rules) c.in_ok-add.ensures.moves

pub returns-in_ok-push-clause-members : goal.returns-in_ok-push-clause-members
returns-in_ok-push-clause-members c =
    subst (λ (l : List Members). All (IsMembers c.args.card.now) l) (sym c.in_ok-push.ensures.items)
    (All-push (IsMembers c.args.card.now) c.args.groups.now.items c.in_ok-of.field-0 c.requires.members c.in_ok-of.ensures.members)
