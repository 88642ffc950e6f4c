-- A made source: pairs of qubits that are drawn by a linear congruence, each behind a gate `t`.
use Rattle.std.specs.Prelude.{ℕ, zero, suc, ◌+◌, ◌-◌, ◌*◌, ◌/◌, ◌%◌, List, [], ◌∷◌, ◌++◌, codes, decimal, nat_lt, if◌then◌else◌}
use Rattle.zair_text.specs.Lines.{joined}

-- The state of the generator after a draw: the rest of x * 1103515245 + 12345 by 2^31.
abbrev pub next_state : ℕ → ℕ
next_state x = (x * 1103515245 + 12345) % 2147483648

-- What is drawn at a state.
abbrev pub drawn : ℕ → ℕ
drawn x = x / 65536

-- The first qubit of a pair of n qubits, and the second one, which is another: the draws at two states.
abbrev pub first_of : ℕ → ℕ → ℕ
first_of n x = drawn x % n

abbrev pub second_of : ℕ → ℕ → ℕ → ℕ
second_of n a y = if nat_lt (drawn y % (n - 1)) a then drawn y % (n - 1) else drawn y % (n - 1) + 1

-- The two lines of a pair.
abbrev pub pair_lines : ℕ → ℕ → List ℕ
pair_lines a b = joined (codes "t q[" ∷ decimal a ∷ codes "];\ncx q[" ∷ decimal a ∷ codes "],q[" ∷ decimal b ∷ codes "];\n" ∷ [])

-- The lines of so many pairs of n qubits, drawn behind a state.
abbrev pub made_lines : ℕ → ℕ → ℕ → List ℕ
made_lines n zero x = []
made_lines n (suc k) x =
    pair_lines (first_of n (next_state x)) (second_of n (first_of n (next_state x)) (next_state (next_state x)))
    ++ made_lines n k (next_state (next_state x))

-- The source of n qubits and k pairs: the version, the header, one register, and the pairs that are drawn behind state 1.
abbrev pub made_source : ℕ → ℕ → List ℕ
made_source n k =
    joined (codes "OPENQASM 2.0;\ninclude \"qelib1.inc\";\nqreg q[" ∷ decimal n ∷ codes "];\n" ∷ []) ++ made_lines n k 1
