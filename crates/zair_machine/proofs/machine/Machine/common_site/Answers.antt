use Rattle.std.proofs.Common.{◌<◌, ℕ}
use Rattle.zac_arch.specs.Architecture.{site_count}
use Rattle.zair_machine.specs.Sites.{RestsAtSite}
use Rattle.zair_state.proofs.Minima.{at_none}
use Rattle.zair_machine.proofs.machine.Machine.common_site.Goals as goal

pub returns-in_default : goal.returns-in_default
returns-in_default c = λ site h. at_none ((site : ℕ) → ¬ RestsAtSite c.args.self.now.card c.args.self.now.state site c.args.r) (λ (site : ℕ). (site < site_count c.args.self.now.card) × RestsAtSite c.args.self.now.card c.args.self.now.state site c.args.r) c.site_of-2.result c.in_default.is-1 c.site_of-2.ensures site h.2

pub returns-in_default-2 : goal.returns-in_default-2
returns-in_default-2 c = λ site h. at_none ((site : ℕ) → ¬ RestsAtSite c.args.self.now.card c.args.self.now.state site c.args.q) (λ (site : ℕ). (site < site_count c.args.self.now.card) × RestsAtSite c.args.self.now.card c.args.self.now.state site c.args.q) c.site_of.result c.in_default.is-0 c.site_of.ensures site h.1
