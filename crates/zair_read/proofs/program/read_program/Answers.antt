use Rattle.std.proofs.Common.{◌+◌, subst, sym, ap, ◌∙◌}
use Rattle.std.specs.Bool.{MatchBool}
use Rattle.zair_text.specs.Values.{header_value}
use Rattle.zair_read.specs.Kinds.{IsKind, may_stand}
use Rattle.zair_read.specs.Texts.{IsTextOf}
use Rattle.zair_read.proofs.Walk.{IsReadTo, begun, no_feed, no_header, no_more, wrong_instr, wrong_kind, one_more, ended_well, ended_ill}
use Rattle.zair_read.proofs.program.read_program.Goals as goal

pub returns-in_default-clause-fault : goal.returns-in_default-clause-fault
returns-in_default-clause-fault c = no_feed c.args.bytes.now c.in_default.ensures

pub returns-then-not-branch-clause-fault : goal.returns-then-not-branch-clause-fault
returns-then-not-branch-clause-fault c =
    let first = c.in-Some.first.now in
    no_header c.args.bytes.now first c.in-Some.rest.now c.in-Some.ensures.0 c.in-Some.ensures.1
    (subst (λ b. MatchBool b (IsTextOf header_value first) (¬ IsTextOf header_value first)) c.if-not-branch.true c.in_ok-is_header_text.ensures)

pub lines-init : goal.lines-init
lines-init c =
    let first = c.in-Some.first.now in
    let rest = c.in-Some.rest.now in
    let header = subst (λ b. MatchBool b (IsTextOf header_value first) (¬ IsTextOf header_value first)) c.if-not-branch.false c.in_ok-is_header_text.ensures in
    subst (λ is. IsReadTo c.args.bytes.now rest is 1) (sym c.new-instrs.ensures.items) (begun c.args.bytes.now first rest c.in-Some.ensures.0 c.in-Some.ensures.1 header)

pub returns-then-not-may_stand-clause-fault : goal.returns-then-not-may_stand-clause-fault
returns-then-not-may_stand-clause-fault c =
    let text = c.in-Some-first_line.text.now in
    let instr = c.in-Instr.instr in
    wrong_instr c.args.bytes.now c.lines.rest.now c.lines.instrs.items c.lines.line c.lines.invariant text c.in-Some-first_line.later.now
    c.in-Some-first_line.ensures.0 c.in-Some-first_line.ensures.1 instr (subst (IsKind text) c.in-Instr.is c.in_ok-instr.ensures)
    (sym (c.if-not-may_stand.ensures ∙ ap (λ is. may_stand is instr) c.as_slice.ensures.value))

pub returns-in-End-clause-program : goal.returns-in-End-clause-program
returns-in-End-clause-program c =
    let text = c.in-Some-first_line.text.now in
    ended_well c.args.bytes.now c.lines.rest.now c.lines.instrs.items c.lines.line c.lines.invariant text c.in-Some-first_line.later.now
    c.in-Some-first_line.ensures.0 c.in-Some-first_line.ensures.1 c.in-End.totals (subst (IsKind text) c.in-End.is c.in_ok-instr.ensures)
    c.whole.result c.whole.ensures.program

pub returns-in-End-clause-fault : goal.returns-in-End-clause-fault
returns-in-End-clause-fault c =
    let text = c.in-Some-first_line.text.now in
    ended_ill c.args.bytes.now c.lines.rest.now c.lines.instrs.items c.lines.line c.lines.invariant text c.in-Some-first_line.later.now
    c.in-Some-first_line.ensures.0 c.in-Some-first_line.ensures.1 c.in-End.totals (subst (IsKind text) c.in-End.is c.in_ok-instr.ensures)
    c.whole.result c.whole.ensures.fault

pub returns-in-Neither-clause-fault : goal.returns-in-Neither-clause-fault
returns-in-Neither-clause-fault c =
    let text = c.in-Some-first_line.text.now in
    wrong_kind c.args.bytes.now c.lines.rest.now c.lines.instrs.items c.lines.line c.lines.invariant text c.in-Some-first_line.later.now
    c.in-Some-first_line.ensures.0 c.in-Some-first_line.ensures.1 (subst (IsKind text) c.in-Neither.is c.in_ok-instr.ensures)

pub lines-preserved : goal.lines-preserved
lines-preserved c =
    let text = c.in-Some-first_line.text.now in
    let later = c.in-Some-first_line.later.now in
    let instr = c.in-Instr.instr in
    let before = c.lines.instrs.items in
    subst (λ is. IsReadTo c.args.bytes.now later is (c.lines.line + 1)) (sym c.in_ok-push-in-Instr.ensures.items)
    (one_more c.args.bytes.now c.lines.rest.now before c.lines.line c.lines.invariant text later
    c.in-Some-first_line.ensures.0 c.in-Some-first_line.ensures.1 instr (subst (IsKind text) c.in-Instr.is c.in_ok-instr.ensures)
    (sym (c.if-not-may_stand.ensures ∙ ap (λ is. may_stand is instr) c.as_slice.ensures.value)))

pub returns-clause-fault : goal.returns-clause-fault
returns-clause-fault c = no_more c.args.bytes.now c.lines.rest.now c.lines.instrs.items c.lines.line c.lines.invariant c.in_default-first_line.ensures
