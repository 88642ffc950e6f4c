use Rattle.zac_flow.proofs.Naming.{some_name, one_name}
use Rattle.zac_flow.proofs.laws.words_name_one_command.Goals as goal

pub returns-clause-some : goal.returns-clause-some
returns-clause-some c = some_name

pub returns-clause-one : goal.returns-clause-one
returns-clause-one c = one_name
