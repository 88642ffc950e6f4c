-- What each reader leaves is spelt as what it was given.
use Rattle.std.proofs.Common.{◌≡◌, ℕ, List, Option, Some, Ok, Bool, refl, subst}
use Rattle.qasm_form.specs.declared.stmt.BodyOp.{BodyOp}
use Rattle.qasm_form.specs.declared.stmt.Expr.{Expr}
use Rattle.qasm_form.specs.declared.stmt.Named.{Named}
use Rattle.qasm_parse.specs.declared.opening.Follow.TheVariants.{Until}
use Rattle.qasm_form.specs.declared.symbol.Symbol.{Symbol}
use Rattle.qasm_form.specs.declared.symbol.Symbol.TheVariants as sym
use Rattle.qasm_form.specs.Symbols.{Lexeme}
use Rattle.qasm_form.specs.Numbers.{AreSpelt}
use Rattle.qasm_form.specs.Languages.{Language, Token, OneOf}
use Rattle.qasm_parse.specs.Readers.{Reader, token, one_of}
use Rattle.qasm_form.specs.Grammar.{Expression, BodyOperation, Signature}
use Rattle.qasm_parse.specs.Readings.{expr_then, body_item, signature, condition}
use Rattle.qasm_parse.proofs.DecidesLemmas.{Agrees, Decides, decides_token, decides_one_of}
use Rattle.qasm_parse.proofs.SameLemmas.{ItemThen, Item}
use Rattle.qasm_parse.proofs.PartLemmas.{decides_expr}
use Rattle.qasm_parse.proofs.StatementLemmas.{no_operator, decides_item, decides_signature, Condition, decides_condition}
use Rattle.qasm_parse.proofs.SpeltLemmas.{spelt_rest}

left_by : {V : Type 0} (L : Language V) (end : ℕ) (r : Reader V) → Decides L end r → (ts : List Lexeme) (v : V) (rest : List Lexeme) → r ts ≡ Ok (v, rest) → AreSpelt ts → AreSpelt rest
left_by L end r decides ts v rest is spelt =
    let h = subst (Agrees L end ts) is (decides.right ts) in
    spelt_rest h.0 rest (subst AreSpelt h.1 spelt)

pub token_left : (end : ℕ) (s : Symbol) (ts : List Lexeme) (x : Lexeme) (rest : List Lexeme) → token end s ts ≡ Ok (x, rest) → AreSpelt ts → AreSpelt rest
token_left end s = left_by (Token s) end (token end s) (decides_token end s)

pub one_of_left : {V : Type 0} (end : ℕ) (class : Symbol → Option V) (s : Symbol) (w : V) → class s ≡ Some w → (ts : List Lexeme) (v : V × Lexeme) (rest : List Lexeme) → one_of end class ts ≡ Ok (v, rest) → AreSpelt ts → AreSpelt rest
one_of_left end class s w some = left_by (OneOf class) end (one_of end class) (decides_one_of end class s w some)

pub expr_left : (end : ℕ) (ts : List Lexeme) (v : Expr × Bool) (rest : List Lexeme) → expr_then end (Until sym.CloseParen) ts ≡ Ok (v, rest) → AreSpelt ts → AreSpelt rest
expr_left end = left_by (ItemThen Expression (Until sym.CloseParen)) end (expr_then end (Until sym.CloseParen)) (decides_expr end (Until sym.CloseParen) no_operator)

pub item_left : (end : ℕ) (ts : List Lexeme) (v : List BodyOp × Bool) (rest : List Lexeme) → body_item end ts ≡ Ok (v, rest) → AreSpelt ts → AreSpelt rest
item_left end = left_by (Item BodyOperation sym.CloseBrace) end (body_item end) (decides_item end)

pub signature_left : (end : ℕ) (ts : List Lexeme) (v : List Named × List Named) (rest : List Lexeme) → signature end sym.OpenBrace ts ≡ Ok (v, rest) → AreSpelt ts → AreSpelt rest
signature_left end = left_by (Signature sym.OpenBrace) end (signature end sym.OpenBrace) (decides_signature end sym.OpenBrace refl)

pub condition_left : (end : ℕ) (ts : List Lexeme) (x : Lexeme) (rest : List Lexeme) → condition end ts ≡ Ok (x, rest) → AreSpelt ts → AreSpelt rest
condition_left end = left_by Condition end (condition end) (decides_condition end)
