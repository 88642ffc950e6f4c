use Rattle.std.proofs.Common.{◌≡◌, IsTrue, List, ◌∙◌, sym, ap₂, subst, inr}
use Rattle.serde_json.specs.View.{view}
use Rattle.zac_archfile.specs.declared.field.Field.TheVariants.{Storage, Entangling}
use Rattle.zac_archfile.specs.Entries.{zones_at}
use Rattle.zac_archfile.specs.Fields.{figure_fields, storage_fields, entangling_fields}
use Rattle.zac_archfile.proofs.Formed.{formed, small_numbers, small_zones}
use Rattle.zac_archfile.specs.Texts.{IsCardText}
use Rattle.zac_archfile.specs.Values.{architecture_of}
use Rattle.zac_archfile.proofs.Canon.{card_canon, zones_order}
use Rattle.zac_archfile.proofs.Faulty.{fault_of_form_told}
use Rattle.zac_arch.specs.Architecture.{Architecture}
use Rattle.zac_arch.specs.Rules.{KeepsRules, passes_pairs, stands_in_order}
use Rattle.zac_arch.specs.declared.card.Figures.{Figures}
use Rattle.zac_arch.specs.declared.card.Zone.{Zone}
use Rattle.zac_archfile.proofs.read.read_card.Goals as goal

abbrev made : Figures → List Zone → Architecture
made figures zones = record { figures = figures; zones = zones }

pub zones_in-requires-clause-storage : goal.zones_in-requires-clause-storage
zones_in-requires-clause-storage c =
    let d = view c.in_ok-value.value in
    small_zones storage_fields (zones_at d Storage) (formed d (sym c.in_default.ensures)).storages

pub zones_in-requires-clause-entangling : goal.zones_in-requires-clause-entangling
zones_in-requires-clause-entangling c =
    let d = view c.in_ok-value.value in
    small_zones entangling_fields (zones_at d Entangling) (formed d (sym c.in_default.ensures)).entanglings

pub figures_in-requires : goal.figures_in-requires
figures_in-requires c =
    let d = view c.in_ok-value.value in
    small_numbers figure_fields d (formed d (sym c.in_default.ensures)).figures

pub new-requires : goal.new-requires
new-requires c =
    let P : List Zone → Type 0 = λ zones. IsTrue (passes_pairs stands_in_order zones) in
    record { storage_first = subst P (sym c.in_ok-zones.ensures) (zones_order (view c.in_ok-value.value)) }

pub returns-in-Some-clause-fault : goal.returns-in-Some-clause-fault
returns-in-Some-clause-fault c =
    inr (fault_of_form_told c.args.bytes.now (view c.in_ok-value.value) c.in-Some.fault c.in_ok-value.ensures.object (sym c.in-Some.ensures))

pub returns-in-Ok-clause-card : goal.returns-in-Ok-clause-card
returns-in-Ok-clause-card c =
    let d = view c.in_ok-value.value in
    let P : Architecture → Type 0 = λ a. IsCardText c.args.bytes.now a in
    let R : Architecture → Type 0 = λ a. KeepsRules a in
    let same : record { figures = c.figures_in.result; zones = c.in_ok-zones.zones.items } ≡ architecture_of d = ap₂ made c.figures_in.ensures c.in_ok-zones.ensures in
    subst P (sym (c.in-Ok.ensures.0 ∙ same))
    (card_canon c.args.bytes.now d c.in_ok-value.ensures.object (sym c.in_default.ensures) (subst R same c.in-Ok.ensures.1))
