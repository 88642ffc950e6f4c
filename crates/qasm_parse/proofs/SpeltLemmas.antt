-- Where the numbers among some tokens are spelt as such, they are among the tokens that are left.
use Rattle.std.proofs.Common.{ℕ, zero, suc, List, [], ◌∷◌, ◌++◌, drop}
use Rattle.qasm_form.specs.Symbols.{Lexeme}
use Rattle.qasm_form.specs.Numbers.{AreSpelt}

pub spelt_front : (front rest : List Lexeme) → AreSpelt (front ++ rest) → AreSpelt front
spelt_front [] rest spelt = tt
spelt_front (x ∷ front) rest spelt = (spelt.0, spelt_front front rest spelt.1)

pub spelt_rest : (front rest : List Lexeme) → AreSpelt (front ++ rest) → AreSpelt rest
spelt_rest [] rest spelt = spelt
spelt_rest (x ∷ front) rest spelt = spelt_rest front rest spelt.1

pub spelt_drop : (n : ℕ) (ts : List Lexeme) → AreSpelt ts → AreSpelt (drop n ts)
spelt_drop zero ts spelt = spelt
spelt_drop (suc n) [] spelt = tt
spelt_drop (suc n) (x ∷ ts) spelt = spelt_drop n ts spelt.1
