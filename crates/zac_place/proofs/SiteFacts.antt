-- Sites by rising number.
use Rattle.std.proofs.Common.{ℕ, zero, suc, ◌≢◌, ◌<◌, ◌≤◌, List, length, map, get_or, arith}
use Rattle.std.specs.Prelude.{All}
use Rattle.std.specs.List.{AllPairs}
use Rattle.std.proofs.lemmas.List.{length-map, get_or-map}
use Rattle.zac_arch.specs.declared.place.SiteId.{SiteId}
use Rattle.zac_place.specs.Tables.{site_number}

-- some site
abbrev pub first_site : SiteId
first_site = record { 0 = 0 }

at_least : (sites : List SiteId) → AllPairs (λ s t. s.0 < t.0) sites → (k : ℕ) → k < length sites → k ≤ (get_or sites k first_site).0
at_least sites rising zero h = omega arith
at_least sites rising (suc k) h =
    let before = at_least sites rising k (omega arith) in
    let next = rising k (suc k) first_site (omega arith) h in
    omega arith

-- sites that rise are no more than there are
pub few_sites : (sites : List SiteId) (count : ℕ) → AllPairs (λ s t. s.0 < t.0) sites → All (λ s. s.0 < count) sites → length sites ≤ count
few_sites sites count rising below = by_length (length sites) (omega arith)
  where
    by_length : (n : ℕ) → n ≤ length sites → n ≤ count
    by_length zero le = omega arith
    by_length (suc n) le =
        let last = at_least sites rising n (omega arith) in
        let within = below n first_site (omega arith) in
        omega arith

-- none of their numbers comes twice
pub apart_sites : (sites : List SiteId) → AllPairs (λ s t. s.0 < t.0) sites → AllPairs (λ a b. a ≢ b) (map site_number sites)
apart_sites sites rising i j d lt j_in same =
    let len = length-map sites site_number in
    let at_i = get_or-map site_number sites i first_site d (omega arith) in
    let at_j = get_or-map site_number sites j first_site d (omega arith) in
    let less = rising i j first_site lt (omega arith) in
    omega arith
