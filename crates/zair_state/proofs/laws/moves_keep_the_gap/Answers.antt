use Rattle.zair_state.proofs.SoundMove.{rows_keep_gap, columns_keep_gap}
use Rattle.zair_state.proofs.laws.moves_keep_the_gap.Goals as goal

pub returns : goal.returns
returns c = record { rows = rows_keep_gap; columns = columns_keep_gap }
