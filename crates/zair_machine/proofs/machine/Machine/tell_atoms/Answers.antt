use Rattle.std.proofs.Common.{subst}
use Rattle.zair_state.specs.FirstFault.{Tells}
use Rattle.zair_machine.proofs.Told.{met_more, end_told}
use Rattle.zair_machine.proofs.machine.Machine.tell_atoms.Goals as goal

pub tell_lit_alone-requires : goal.tell_lit_alone-requires
tell_lit_alone-requires c =
    let a = c.args.self.now.card in
    let s = c.args.self.now.state in
    let step = c.args.step.now in
    let dropped = met_more a s step 8 c.requires.met (subst (Tells a s step 8) c.in_default.is c.tell_drop.ensures) in
    let full = met_more a s step 9 dropped (subst (Tells a s step 9) c.in_default-tell_full.is c.tell_full.ensures) in
    record { met = met_more a s step 10 full (subst (Tells a s step 10) c.in_default-tell_pair.is c.tell_pair.ensures) }

pub returns : goal.returns
returns c =
    let a = c.args.self.now.card in
    let s = c.args.self.now.state in
    let step = c.args.step.now in
    let dropped = met_more a s step 8 c.requires.met (subst (Tells a s step 8) c.in_default.is c.tell_drop.ensures) in
    let full = met_more a s step 9 dropped (subst (Tells a s step 9) c.in_default-tell_full.is c.tell_full.ensures) in
    let paired = met_more a s step 10 full (subst (Tells a s step 10) c.in_default-tell_pair.is c.tell_pair.ensures) in
    let alone = met_more a s step 11 paired (subst (Tells a s step 11) c.in_default-tell_lit_alone.is c.tell_lit_alone.ensures) in
    end_told a s step 12 c.tell_rest.result alone c.tell_rest.ensures
