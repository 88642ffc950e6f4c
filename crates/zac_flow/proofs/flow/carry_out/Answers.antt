use Rattle.std.proofs.Common.{[]}
use Rattle.zac_flow.specs.Words.{Report, Replay, Make, Drill}
use Rattle.zac_flow.proofs.Carrying.{carried_done, carried_leaves, memory_not_write, report_part}
use Rattle.zac_flow.proofs.flow.carry_out.Goals as goal

pub returns-in-Compile-clause-done : goal.returns-in-Compile-clause-done
returns-in-Compile-clause-done g c = rw c.in-Compile.is (c.compile_files.ensures.done [] [])

pub returns-in-Report-clause-done : goal.returns-in-Report-clause-done
returns-in-Report-clause-done g c =
    let files = g.S.Shelf.files c.args.shelf.now in
    rw c.in-Report.is (carried_done files (Report c.in-Report.card.now c.in-Report.source.now) _ _
    c.report_of.result (λ text. text.items) c.write_made.result (g.K.Sink.written c.args.out.now) (g.K.Sink.written c.write_made.new.out) c.write_made.ensures.ends c.report_of.ensures.due)

pub returns-in-Report-clause-leaves : goal.returns-in-Report-clause-leaves
returns-in-Report-clause-leaves g c =
    let files = g.S.Shelf.files c.args.shelf.now in
    rw c.in-Report.is (carried_leaves files (Report c.in-Report.card.now c.in-Report.source.now) _ _
    c.report_of.result (λ text. text.items) c.write_made.result (g.K.Sink.written c.args.out.now) (g.K.Sink.written c.write_made.new.out) c.write_made.ensures.ends c.report_of.ensures.due c.report_of.ensures.no_write)

pub returns-in-Report-clause-part : goal.returns-in-Report-clause-part
returns-in-Report-clause-part g c =
    let files = g.S.Shelf.files c.args.shelf.now in
    rw c.in-Report.is (report_part files c.in-Report.card.now c.in-Report.source.now _ _
    c.report_of.result (λ text. text.items) c.write_made.result (g.K.Sink.written c.args.out.now) (g.K.Sink.written c.write_made.new.out) c.write_made.ensures.ends c.report_of.ensures.part)

pub returns-in-Replay-clause-done : goal.returns-in-Replay-clause-done
returns-in-Replay-clause-done g c =
    let files = g.S.Shelf.files c.args.shelf.now in
    rw c.in-Replay.is (carried_done files (Replay c.in-Replay.card.now c.in-Replay.source.now c.in-Replay.zair.now) [] []
    c.verdict_of.result (λ text. text.items) c.write_made-in-Replay.result (g.K.Sink.written c.args.out.now) (g.K.Sink.written c.write_made-in-Replay.new.out) c.write_made-in-Replay.ensures.ends (c.verdict_of.ensures.due []))

pub returns-in-Replay-clause-leaves : goal.returns-in-Replay-clause-leaves
returns-in-Replay-clause-leaves g c =
    let files = g.S.Shelf.files c.args.shelf.now in
    rw c.in-Replay.is (carried_leaves files (Replay c.in-Replay.card.now c.in-Replay.source.now c.in-Replay.zair.now) [] []
    c.verdict_of.result (λ text. text.items) c.write_made-in-Replay.result (g.K.Sink.written c.args.out.now) (g.K.Sink.written c.write_made-in-Replay.new.out) c.write_made-in-Replay.ensures.ends (c.verdict_of.ensures.due []) c.verdict_of.ensures.no_write)

pub returns-in-Make-clause-done : goal.returns-in-Make-clause-done
returns-in-Make-clause-done g c =
    let files = g.S.Shelf.files c.args.shelf.now in
    rw c.in-Make.is (carried_done files (Make c.in-Make.qubits c.in-Make.pairs) [] []
    c.made_of.result (λ text. text.items) c.write_made-in-Make.result (g.K.Sink.written c.args.out.now) (g.K.Sink.written c.write_made-in-Make.new.out) c.write_made-in-Make.ensures.ends (c.made_of.ensures.due files []))

pub returns-in-Make-clause-leaves : goal.returns-in-Make-clause-leaves
returns-in-Make-clause-leaves g c =
    let files = g.S.Shelf.files c.args.shelf.now in
    rw c.in-Make.is (carried_leaves files (Make c.in-Make.qubits c.in-Make.pairs) [] []
    c.made_of.result (λ text. text.items) c.write_made-in-Make.result (g.K.Sink.written c.args.out.now) (g.K.Sink.written c.write_made-in-Make.new.out) c.write_made-in-Make.ensures.ends (c.made_of.ensures.due files []) (memory_not_write c.made_of.result c.made_of.ensures.fault))

pub returns-in-Drill-clause-done : goal.returns-in-Drill-clause-done
returns-in-Drill-clause-done g c =
    let files = g.S.Shelf.files c.args.shelf.now in
    rw c.in-Drill.is (carried_done files (Drill c.in-Drill.qubits c.in-Drill.pairs) [] []
    c.drill_of.result (λ text. text.items) c.write_made-in-Drill.result (g.K.Sink.written c.args.out.now) (g.K.Sink.written c.write_made-in-Drill.new.out) c.write_made-in-Drill.ensures.ends (c.drill_of.ensures.due files []))

pub returns-in-Drill-clause-leaves : goal.returns-in-Drill-clause-leaves
returns-in-Drill-clause-leaves g c =
    let files = g.S.Shelf.files c.args.shelf.now in
    rw c.in-Drill.is (carried_leaves files (Drill c.in-Drill.qubits c.in-Drill.pairs) [] []
    c.drill_of.result (λ text. text.items) c.write_made-in-Drill.result (g.K.Sink.written c.args.out.now) (g.K.Sink.written c.write_made-in-Drill.new.out) c.write_made-in-Drill.ensures.ends (c.drill_of.ensures.due files []) (memory_not_write c.drill_of.result c.drill_of.ensures.fault))
