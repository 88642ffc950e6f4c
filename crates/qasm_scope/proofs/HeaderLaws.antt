-- What is known of the header, by what its text computes to.
use Rattle.std.proofs.Common.{◌≡◌, ℕ, List, length, Some, true, refl, subst}
use Rattle.qasm_lex.specs.Cuts.{AreTokensOf}
use Rattle.qasm_lex.specs.Cutting.{cut, front_of}
use Rattle.qasm_lex.specs.Lexed.{Lexed}
use Rattle.qasm_parse.specs.Computing.{computed_statements, statements_in}
use Rattle.qasm_parse.specs.Readings.{name_then, plain_then, index_then, arg_then, expr_then, names_until, args_until, exprs_until, perhaps_names, perhaps_exprs, gate_u, gate_cx, arguments, with_angles, call, after_body_verb, body_operation, body_item, body_ops, argument_names, with_params, signature, gate, after_opening, statement_at, version_at}
use Rattle.qasm_form.specs.Statements.{FallInto}
use Rattle.qasm_form.specs.Symbols.{Lexeme, lexemes_of}
use Rattle.qasm_form.specs.declared.stmt.Stmt.{Stmt}
use Rattle.qasm_names.specs.Header.{IsHeader, header_text}
use Rattle.qasm_names.specs.Scopes.{IsSoundHeader}
use Rattle.qasm_scope.specs.FineHeader.{is_fine_header}
use Rattle.qasm_scope.proofs.FineLemmas.{fine_header}

-- the header's text computes to statements that pass the tests
computes : is_fine_header (computed_statements 3000 header_text) ≡ true
unfolding cut front_of computed_statements statements_in name_then plain_then index_then arg_then expr_then names_until args_until exprs_until perhaps_names perhaps_exprs gate_u gate_cx arguments with_angles call after_body_verb body_operation body_item body_ops argument_names with_params signature gate after_opening statement_at version_at
computes = refl

-- what is promised of statements that a proof computes
abbrev ComputedStand : Type 0
ComputedStand =
    (n : ℕ) (source : List ℕ) (ss : List Stmt) → computed_statements n source ≡ Some ss → (lexed : Lexed) × AreTokensOf source lexed × FallInto (lexemes_of source lexed.tokens) 0 ss (length lexed.tokens)

-- there is a header, and it is sound
pub some_header : ComputedStand → (header : List Stmt) × IsHeader header × IsSoundHeader header
some_header stand =
    let fine = fine_header (computed_statements 3000 header_text) computes in
    let stands = stand 3000 header_text fine.0 fine.1 in
    (fine.0, record { lexed = stands.0; tokens = stands.1; statements = stands.2 }, fine.2)

-- there is one header
pub one_header : ((source : List ℕ) (one other : Lexed) → AreTokensOf source one → AreTokensOf source other → one ≡ other) → ((tokens : List Lexeme) (from : ℕ) (ss ts : List Stmt) (to : ℕ) → FallInto tokens from ss to → FallInto tokens from ts to → ss ≡ ts) → (one other : List Stmt) → IsHeader one → IsHeader other → one ≡ other
one_header one_list one_way one other left right =
    let same = one_list header_text right.lexed left.lexed right.tokens left.tokens in
    one_way (lexemes_of header_text left.lexed.tokens) 0 one other (length left.lexed.tokens) left.statements (subst (λ (l : Lexed). FallInto (lexemes_of header_text l.tokens) 0 other (length l.tokens)) same right.statements)
