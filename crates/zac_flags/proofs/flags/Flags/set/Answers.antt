use Rattle.std.proofs.Common.{refl, length, ◌≡◌, ℕ, ◌*◌, ◌/◌, ◌%◌, ◌^◌, ◌<◌, Bool, true, List, get_or, set, ap, ◌∙◌, arith, bit_and, bit_or, w64}
use Rattle.std.specs.Int.{bit_not}
use Rattle.std.proofs.lemmas.List.{get_or_read_under}
use Rattle.zac_flags.proofs.FlagFacts.{IsChanged, flag_changed, in_list, set_changes, still_kept}
use Rattle.zac_flags.proofs.flags.Flags.set.Goals as goal

pub index_mut-requires : goal.index_mut-requires
index_mut-requires c =
    omega (arith, c.self.invariant.enough, in_list c.self.inside.words.items c.self.inside.count c.args.place c.args.self.now c.self.view_is c.requires)

pub invariant_of-self : goal.invariant_of-self
invariant_of-self c =
    let words = c.self.inside.words.items in
    let count = c.self.inside.count in
    let p = c.args.place in
    let new = (bit_or c.index_mut.result.now (1 * 2 ^ (c.args.place % 64) % 2 ^ 64)) in
    let within : p < count = in_list words count p c.args.self.now c.self.view_is c.requires in
    let read : c.index_mut.result.now ≡ get_or words (p / 64) 0 = get_or_read_under words (p / 64) (length words) c.index_mut.result.now 0 c.index_mut.ensures.value (omega (arith, c.self.invariant.enough, within)) refl in
    let changed : IsChanged (get_or words (p / 64) 0) new (p % 64) true = set_changes (get_or words (p / 64) 0) c.index_mut.result.now (p % 64) read (omega arith) in
    still_kept words count p new true c.self.invariant within changed

pub returns : goal.returns
returns c =
    let words = c.self.inside.words.items in
    let count = c.self.inside.count in
    let p = c.args.place in
    let new = (bit_or c.index_mut.result.now (1 * 2 ^ (c.args.place % 64) % 2 ^ 64)) in
    let within : p < count = in_list words count p c.args.self.now c.self.view_is c.requires in
    let read : c.index_mut.result.now ≡ get_or words (p / 64) 0 = get_or_read_under words (p / 64) (length words) c.index_mut.result.now 0 c.index_mut.ensures.value (omega (arith, c.self.invariant.enough, within)) refl in
    let changed : IsChanged (get_or words (p / 64) 0) new (p % 64) true = set_changes (get_or words (p / 64) 0) c.index_mut.result.now (p % 64) read (omega arith) in
    flag_changed words count p new true c.self.invariant within changed ∙ ap (λ (l : List Bool). set l p true) c.self.view_is
