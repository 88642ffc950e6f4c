use Rattle.zac_flow.proofs.Naming.{one_name}
use Rattle.zac_flow.proofs.flow.run.Goals as goal

pub returns-clause-done : goal.returns-clause-done
returns-clause-done g c = λ command is. rw (one_name _ command _ is c.read_words.ensures.name) c.answer.ensures.done

pub returns-clause-refused : goal.returns-clause-refused
returns-clause-refused g c = λ command is. rw (one_name _ command _ is c.read_words.ensures.name) c.answer.ensures.refused

pub returns-clause-exact : goal.returns-clause-exact
returns-clause-exact g c = λ command is. rw (one_name _ command _ is c.read_words.ensures.name) c.answer.ensures.exact

pub returns-clause-part : goal.returns-clause-part
returns-clause-part g c = λ command is. rw (one_name _ command _ is c.read_words.ensures.name) c.answer.ensures.part

pub returns-clause-untouched : goal.returns-clause-untouched
returns-clause-untouched g c = λ command is. rw (one_name _ command _ is c.read_words.ensures.name) c.answer.ensures.untouched

pub returns-clause-strays : goal.returns-clause-strays
returns-clause-strays g c = λ command is. rw (one_name _ command _ is c.read_words.ensures.name) c.answer.ensures.strays
