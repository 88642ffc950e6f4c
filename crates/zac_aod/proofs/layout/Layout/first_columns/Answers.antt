use Rattle.std.proofs.Common.{not, rules}
use Rattle.zac_aod.specs.Lowering.{is_used_before}
use Rattle.zac_aod.specs.declared.line.Line.{Line}
use Rattle.zac_aod.proofs.layout.Layout.first_columns.Goals as goal

pub returns : goal.returns
returns c = c.columns_in.ensures (λ (l : Line). not (is_used_before c.args.self.now.card.now c.args.self.now.shifts.now c.args.row l)) (λ (l : Line). l.from) (λ k d r lt p. search rules)
