-- The kinds of zones: a zone has storage traps alone, or none.
use Rattle.std.proofs.Common.{◌≡◌, ℕ, ◌<◌, inl, inr, Bool, slice_get, sym, ap, ◌∙◌, subst}
use Rattle.std.proofs.lemmas.Bool.{cases_lt, false≢true}
use Rattle.zac_arch.specs.declared.place.Point.{Point}
use Rattle.zac_arch.specs.declared.card.Zone.{Zone}
use Rattle.zac_arch.specs.declared.card.ZoneKind.{ZoneKind}
use Rattle.zac_arch.specs.declared.card.ZoneKind.TheVariants.{Storage, Entangling}
use Rattle.zac_arch.specs.Architecture.{Architecture, StandsAt, IsInZone, is_storage, storage_count}
use Rattle.zac_arch.specs.Rules.{KeepsRules}
use Rattle.zac_arch.proofs.Geometry.{same_item}
use Rattle.zac_arch.proofs.Sites.{kind_above, kind_below}
use Rattle.zac_arch.proofs.Spacing.{in_zone, one_zone}
use Rattle.zac_arch.proofs.Zones.{Located, locate}

-- the zone of a trap, as found by its point
number_of_zone : (a : Architecture) (t n : ℕ) (p : Point) → IsInZone a t n → (l : Located a.zones t p) → l.number ≡ n
number_of_zone a t n p i l =
    let here : IsInZone a t l.number = subst (λ k. IsInZone a k l.number) (sym l.is_trap) (in_zone a l.number l.place l.zone l.is_zone l.place_in) in
    one_zone a t l.number n here i

-- a zone with a storage trap has no other traps
pub one_kind : (a : Architecture) → KeepsRules a → (n t u : ℕ) (p q : Point) → IsInZone a t n → IsInZone a u n → StandsAt a t p → StandsAt a u q → t < storage_count a → u < storage_count a
one_kind a h n t u p q i j s r lt =
    let l = locate a.zones t p s in
    let m = locate a.zones u q r in
    let number : l.number ≡ m.number = number_of_zone a t n p i l ∙ sym (number_of_zone a u n q j m) in
    let same : l.zone ≡ m.zone = same_item a.zones l.number m.number l.zone m.zone number l.is_zone m.is_zone in
    elim (cases_lt u (storage_count a)) as (λ _. u < storage_count a) [
      | inl less ↦ less
      | inr more ↦
          let kinds : Storage ≡ Entangling = sym (kind_below a h t p lt l) ∙ ap (λ (z : Zone). z.kind) same ∙ kind_above a h u q more m in
          absurd (false≢true (sym (ap is_storage kinds)))
    ]
