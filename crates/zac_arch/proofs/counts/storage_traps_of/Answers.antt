use Rattle.std.proofs.Common.{◌≡◌, true, sym, ◌∙◌}
use Rattle.zac_arch.specs.Architecture.{is_storage}
use Rattle.zac_arch.proofs.Walks.{storage_places}
use Rattle.zac_arch.proofs.counts.storage_traps_of.Goals as goal

pub returns-then-is_for_storage : goal.returns-then-is_for_storage
returns-then-is_for_storage c =
    let is : is_storage c.args.z.kind ≡ true = sym c.is_for_storage.ensures ∙ c.if-is_for_storage.true in
    rw is (c.places_of.ensures ∙ storage_places c.args.z is)
