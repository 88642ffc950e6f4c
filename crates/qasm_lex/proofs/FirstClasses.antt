-- What a byte's class says of the byte.
use Rattle.std.proofs.Common.{◌≡◌, ℕ, true}
use Rattle.std.specs.Prelude.{◌||◌, ◌==◌}
use Rattle.std.specs.Char.{is_ascii_digit, is_ascii_lowercase, is_ascii_uppercase}
use Rattle.std.proofs.lemmas.Bool.{cond_both, eqb-true}
use Rattle.qasm_lex.specs.Bytes.{is_blank}
use Rattle.qasm_lex.specs.Classes.{is_mark, class_of}
use Rattle.qasm_lex.specs.declared.piece.Class.{Class}
use Rattle.qasm_lex.specs.declared.piece.Class.TheVariants.{Lower, Numeric, Upper, Blank, Slash, Quote, Mark, Other}

abbrev pub Means : Class → ℕ → Type 0
Means Lower b = is_ascii_lowercase b ≡ true
Means Numeric b = Unit {0}
Means Upper b = Unit {0}
Means Blank b = is_blank b ≡ true
Means Slash b = b ≡ 47
Means Quote b = b ≡ 34
Means Mark b = is_mark b ≡ true
Means Other b = Unit {0}

pub means : (b : ℕ) → Means (class_of b) b
means b =
    let P : Class → Type 0 = λ c. Means c b in
    cond_both (is_ascii_lowercase b) _ _ P (λ e. e) (λ _. cond_both (is_ascii_digit b || b == 46) _ _ P (λ _. tt) (λ _. cond_both (is_ascii_uppercase b) _ _ P (λ _. tt) (λ _. cond_both (is_blank b) _ _ P (λ e. e) (λ _. cond_both (b == 47) _ _ P (λ e. eqb-true b 47 e) (λ _. cond_both (b == 34) _ _ P (λ e. eqb-true b 34 e) (λ _. cond_both (is_mark b) _ _ P (λ e. e) (λ _. tt)))))))
