use Rattle.std.proofs.Common.{◌≡◌, ℕ, List, ◌++◌, map, drop}
use Rattle.zac_io.specs.Outside.{Appends}
use Rattle.zair_text.specs.Lines.{joined}
use Rattle.zac_fault.specs.Parts.{part_bytes}
use Rattle.zac_fault.proofs.refusal.tell_parts.Given as goal

-- the parts up to the place are written
abbrev pub invariant-loop-part : goal.invariant-loop-part
invariant-loop-part g l = record {
  said : List ℕ;
  is : said ++ joined (map part_bytes (drop l.part-index l.fn.parts)) ≡ joined (map part_bytes l.fn.parts);
  grown : Appends (g.E.Sink.written l.initial.err) (g.E.Sink.written l.err) said;
  calm : g.E.Sink.faults l.err ≡ g.E.Sink.faults l.initial.err;
}
