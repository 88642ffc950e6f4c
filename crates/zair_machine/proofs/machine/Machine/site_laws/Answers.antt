use Rattle.std.proofs.Common.{subst}
use Rattle.zair_machine.specs.Sites.{HasSiteLaws}
use Rattle.zair_machine.proofs.machine.Machine.site_laws.Goals as goal

pub returns : goal.returns
returns c =
    let t = c.laws_of_traps.ensures in
    let laws : HasSiteLaws c.card.result.now = record {
      counts = t.counts;
      dark = t.storage_dark;
      lit = t.sites_lit;
      within = t.site_within;
      one = t.one_site;
    } in
    subst HasSiteLaws c.card.ensures laws
