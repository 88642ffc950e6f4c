use Rattle.std.proofs.Common.{◌≡◌, ◌++◌, ◌-◌}
use Rattle.zac_flow.specs.Generator.{made_lines, made_source}
use Rattle.zac_flow.proofs.make.make_text.Given as goal

-- the pairs so far are made
abbrev pub invariant-loop-drawn : goal.invariant-loop-drawn
invariant-loop-drawn l = record {
  made : l.text.items ++ made_lines l.fn.n (l.fn.k - l._drawn) l.state ≡ made_source l.fn.n l.fn.k;
}
