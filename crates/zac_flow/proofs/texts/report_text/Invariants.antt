use Rattle.std.proofs.Common.{◌≡◌, ◌++◌, map, drop}
use Rattle.zair_text.specs.Lines.{joined}
use Rattle.zac_flow.specs.Texts.{report_text, watch_line}
use Rattle.zac_flow.proofs.texts.report_text.Given as goal

-- the watches from the place on are not yet reported
abbrev pub invariant-loop-watch : goal.invariant-loop-watch
invariant-loop-watch g l = record {
  is : l.text.items ++ joined (map watch_line (map (λ w. record { kind = (goal.Watch-dyn g (w.vtable, w.value)).kind w.value; sum = (goal.Watch-dyn g (w.vtable, w.value)).sum w.value }) (drop l.watch-index l.fn.panel)))
      ≡ report_text l.fn.totals (map (λ w. record { kind = (goal.Watch-dyn g (w.vtable, w.value)).kind w.value; sum = (goal.Watch-dyn g (w.vtable, w.value)).sum w.value }) l.fn.panel);
}
