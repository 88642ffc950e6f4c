use Rattle.zair_text.proofs.OneText.{text_same}
use Rattle.zair_text.proofs.laws.one_text_one_program.Goals as goal

pub returns : goal.returns
returns c = text_same
