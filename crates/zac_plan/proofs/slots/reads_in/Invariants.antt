use Rattle.std.proofs.Common.{◌≡◌}
use Rattle.std.specs.List.{AllByRecursion, filter_map, range_with_len, slice_get}
use Rattle.std.specs.Option.{option_and_then}
use Rattle.zac_plan.specs.Plan.{read_of}
use Rattle.zair_form.specs.Ranges.{ReadFits}
use Rattle.zac_plan.proofs.slots.reads_in.Given as goal

abbrev pub invariant-loop-number : goal.invariant-loop-number
invariant-loop-number l = record {
  reads : l.reads.items ≡ filter_map (λ n. option_and_then (read_of n) (slice_get l.ops n)) (range_with_len 0 l.number);
  fit : AllByRecursion ReadFits l.reads.items;
}
