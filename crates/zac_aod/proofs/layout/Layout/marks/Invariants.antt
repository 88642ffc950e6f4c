use Rattle.std.proofs.Common.{◌≡◌, ◌<◌, ◌==◌, ℕ, Bool, length, take, get_or}
use Rattle.std.specs.List.{list_any}
use Rattle.zac_aod.specs.declared.atom.Atom.{Atom}
use Rattle.zac_aod.proofs.layout.Layout.marks.Given as goal

abbrev pub invariant-loop-atom : goal.invariant-loop-atom
invariant-loop-atom l = record {
  len : length l.marks.items ≡ length l.self.columns.items;
  each : (k : ℕ) (b : Bool) → k < length l.self.columns.items → get_or l.marks.items k b ≡ list_any (λ (t : Atom). t.column == k) (take l.atom-index l.atom-items);
}
