use Rattle.qasm_form.proofs.NumberBytes.{number_fits}
use Rattle.qasm_form.proofs.laws.numbers_have_angle_bytes.Goals as goal

pub returns : goal.returns
returns c = number_fits
