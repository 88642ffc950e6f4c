use Rattle.std.proofs.Common.{sym, ◌∙◌}
use Rattle.zac_arch.proofs.Broken.{breaks_1, breaks_2, breaks_3, breaks_4, breaks_5, breaks_6, breaks_7}
use Rattle.zac_arch.proofs.rules.least_broken_rule.Goals as goal

pub returns-then-not-zones_are_few : goal.returns-then-not-zones_are_few
returns-then-not-zones_are_few c = breaks_1 _ (sym (c.zones_are_few.ensures c.args.figures) ∙ c.if-not-zones_are_few.true)

pub returns-then-not-parks_clear : goal.returns-then-not-parks_clear
returns-then-not-parks_clear c = breaks_2 _ (sym (c.zones_are_few.ensures c.args.figures) ∙ c.if-not-zones_are_few.false) (sym c.parks_clear.ensures ∙ c.if-not-parks_clear.true)

pub returns-then-not-zones_leave_room : goal.returns-then-not-zones_leave_room
returns-then-not-zones_leave_room c = breaks_3 _ (sym (c.zones_are_few.ensures c.args.figures) ∙ c.if-not-zones_are_few.false) (sym c.parks_clear.ensures ∙ c.if-not-parks_clear.false) (sym c.zones_leave_room.ensures ∙ c.if-not-zones_leave_room.true)

pub returns-then-not-zones_block_pairs : goal.returns-then-not-zones_block_pairs
returns-then-not-zones_block_pairs c = breaks_4 _ (sym (c.zones_are_few.ensures c.args.figures) ∙ c.if-not-zones_are_few.false) (sym c.parks_clear.ensures ∙ c.if-not-parks_clear.false) (sym c.zones_leave_room.ensures ∙ c.if-not-zones_leave_room.false) (sym c.zones_block_pairs.ensures ∙ c.if-not-zones_block_pairs.true)

pub returns-then-not-all_apart : goal.returns-then-not-all_apart
returns-then-not-all_apart c = breaks_5 _ (sym (c.zones_are_few.ensures c.args.figures) ∙ c.if-not-zones_are_few.false) (sym c.parks_clear.ensures ∙ c.if-not-parks_clear.false) (sym c.zones_leave_room.ensures ∙ c.if-not-zones_leave_room.false) (sym c.zones_block_pairs.ensures ∙ c.if-not-zones_block_pairs.false) (sym c.all_apart.ensures ∙ c.if-not-all_apart.true)

pub returns-then-not-zones_on_the_field : goal.returns-then-not-zones_on_the_field
returns-then-not-zones_on_the_field c = breaks_6 _ (sym (c.zones_are_few.ensures c.args.figures) ∙ c.if-not-zones_are_few.false) (sym c.parks_clear.ensures ∙ c.if-not-parks_clear.false) (sym c.zones_leave_room.ensures ∙ c.if-not-zones_leave_room.false) (sym c.zones_block_pairs.ensures ∙ c.if-not-zones_block_pairs.false) (sym c.all_apart.ensures ∙ c.if-not-all_apart.false) (sym c.zones_on_the_field.ensures ∙ c.if-not-zones_on_the_field.true)

pub returns-then-not-numbers_fit : goal.returns-then-not-numbers_fit
returns-then-not-numbers_fit c = breaks_7 _ (sym (c.zones_are_few.ensures c.args.figures) ∙ c.if-not-zones_are_few.false) (sym c.parks_clear.ensures ∙ c.if-not-parks_clear.false) (sym c.zones_leave_room.ensures ∙ c.if-not-zones_leave_room.false) (sym c.zones_block_pairs.ensures ∙ c.if-not-zones_block_pairs.false) (sym c.all_apart.ensures ∙ c.if-not-all_apart.false) (sym c.zones_on_the_field.ensures ∙ c.if-not-zones_on_the_field.false) (sym c.numbers_fit.ensures ∙ c.if-not-numbers_fit.true)

pub returns : goal.returns
returns c = record {
  few_zones = sym (c.zones_are_few.ensures c.args.figures) ∙ c.if-not-zones_are_few.false;
  parking = sym c.parks_clear.ensures ∙ c.if-not-parks_clear.false;
  spacing = sym c.zones_leave_room.ensures ∙ c.if-not-zones_leave_room.false;
  blockade = sym c.zones_block_pairs.ensures ∙ c.if-not-zones_block_pairs.false;
  separation = sym c.all_apart.ensures ∙ c.if-not-all_apart.false;
  extent = sym c.zones_on_the_field.ensures ∙ c.if-not-zones_on_the_field.false;
  ranges = sym c.numbers_fit.ensures ∙ c.if-not-numbers_fit.false;
  order = c.requires;
}
