use Rattle.std.proofs.Common.{◌∙◌, ◌++◌, ◌∷◌, [], ap, sym, take, arith, rules, tests}
use Rattle.std.proofs.lemmas.List.{take_more}
use Rattle.zair_form.specs.Times.{HasLength}
use Rattle.zair_form.specs.declared.program.Instr.{Instr}
use Rattle.zac_watch.proofs.Prefixes.{all_more, all_whole}
use Rattle.zac_watch.proofs.lengths.first_wrong_length.Goals as goal

pub loop-number-preserved : goal.loop-number-preserved
loop-number-preserved c =
    let instrs = c.args.instrs.now in
    let k = c.loop-number.number in
    let i = c.index-instrs-number.result in
    all_more (HasLength c.args.card.now.figures) instrs k i
    (take_more instrs k i c.loop-number-test.true ∙ ap (λ (x : Instr). take k instrs ++ x ∷ []) (sym c.index-instrs-number.is)) c.loop-number.invariant
    (c.has_length.ensures.0 (search (rules, tests)))

pub returns : goal.returns
returns c = all_whole (HasLength c.args.card.now.figures) c.args.instrs.now c.loop-number.number (omega (arith, c.loop-number-test.false)) c.loop-number.invariant
