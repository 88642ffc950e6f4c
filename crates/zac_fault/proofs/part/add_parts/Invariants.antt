use Rattle.std.proofs.Common.{◌≡◌, ℕ, List, ◌++◌, map, drop}
use Rattle.zair_text.specs.Lines.{joined}
use Rattle.zac_fault.specs.Parts.{part_bytes}
use Rattle.zac_fault.proofs.part.add_parts.Given as goal

-- the parts up to the place are added
abbrev pub invariant-loop-part : goal.invariant-loop-part
invariant-loop-part l = record {
  said : List ℕ;
  is : said ++ joined (map part_bytes (drop l.part-index l.fn.parts)) ≡ joined (map part_bytes l.fn.parts);
  grown : l.text.items ≡ l.initial.text.items ++ said;
}
