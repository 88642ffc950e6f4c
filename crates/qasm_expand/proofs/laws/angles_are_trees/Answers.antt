use Rattle.qasm_expand.proofs.TreesLemmas.{tree_of_postfix, postfix_tree_of, postfix_is_postfix, substitute_postfix}
use Rattle.qasm_expand.proofs.laws.angles_are_trees.Goals as goal

pub returns-clause-reads : goal.returns-clause-reads
returns-clause-reads c = tree_of_postfix

pub returns-clause-each : goal.returns-clause-each
returns-clause-each c = postfix_tree_of

pub returns-clause-is_expression : goal.returns-clause-is_expression
returns-clause-is_expression c = postfix_is_postfix

pub returns-clause-substituted : goal.returns-clause-substituted
returns-clause-substituted c = substitute_postfix
