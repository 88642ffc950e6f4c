use Rattle.std.proofs.Common.{List, subst, sym}
use Rattle.zac_group.specs.declared.shift.Shift.{Shift}
use Rattle.zac_group.specs.Groups.{IsPhase}
use Rattle.lower_speed.proofs.MovesFacts.{moves_phase}
use Rattle.lower_speed.proofs.lowered.Goals as goal

pub groups-requires : goal.groups-requires
groups-requires c =
    record {
      phase = subst (λ (l : List Shift). IsPhase c.args.card.now l) (sym c.of-shifts.ensures)
          (moves_phase c.args.card.now c.args.traps c.in_ok-moved.moved.items c.requires.storage c.requires.traps c.in_ok-moved.ensures);
    }
