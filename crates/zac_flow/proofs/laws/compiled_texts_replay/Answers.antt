use Rattle.std.proofs.Common.{refl}
use Rattle.zair_text.specs.Lines.{program_text}
use Rattle.zac_flow.specs.Compiled.{AreReadAs}
use Rattle.zac_flow.specs.Inputs.{with_text}
use Rattle.zac_flow.proofs.laws.compiled_texts_replay.Goals as goal

pub returns : goal.returns
returns c = λ inputs program compiles short.
    let again = c.performing_programs_replay.ensures compiles.card compiles.circuit program compiles.performs in
    let text = program_text program in
    let was = compiles.is.is in
    let is : AreReadAs (with_text inputs text) compiles.card compiles.is.source = record {
      short = record { card = was.short.card; source = was.short.source; zair = short };
      card = was.card;
      accepted = was.accepted;
    } in (
      program,
      again.0,
      record {
        card = compiles.card;
        circuit = compiles.circuit;
        is = record { source = compiles.is.source; is = is; limits = compiles.is.limits; expansion = compiles.is.expansion };
        bytes = text;
        zair = refl;
        text = c.written_reads_back.ensures program compiles.performs.form compiles.ranges;
        replays = again.1;
      },
    )
