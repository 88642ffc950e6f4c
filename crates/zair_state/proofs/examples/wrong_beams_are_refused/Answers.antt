use Rattle.zair_state.proofs.Wrong.{unknown, twice, active, inactive, left_out, many, far, order, gap}
use Rattle.zair_state.proofs.examples.wrong_beams_are_refused.Goals as goal

pub returns : goal.returns
returns c = record { unknown = unknown; twice = twice; active = active; inactive = inactive; left_out = left_out; many = many; far = far; order = order; gap = gap }
