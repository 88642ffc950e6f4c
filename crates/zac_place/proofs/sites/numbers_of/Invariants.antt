use Rattle.std.proofs.Common.{◌≡◌, map, take}
use Rattle.zac_place.specs.Tables.{site_number}
use Rattle.zac_place.proofs.sites.numbers_of.Given as goal

-- the numbers of the sites so far
abbrev pub invariant-loop-site : goal.invariant-loop-site
invariant-loop-site l = l.numbers.items ≡ map site_number (take l.site-index l.sites)
