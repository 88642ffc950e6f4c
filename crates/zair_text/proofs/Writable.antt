-- Instructions whose lines were made are writable.
use Rattle.std.proofs.Common.{◌≡◌, ℕ, zero, suc, ◌+◌, ◌<◌, List, [], ◌∷◌, length, get_or, take, IsTrue, subst, sym, arith}
use Rattle.std.specs.List.{list_all}
use Rattle.std.proofs.lemmas.Bool.{and_parts}
use Rattle.zair_form.specs.declared.program.Instr.{Instr}
use Rattle.zair_form.specs.Steps.{has_own_steps}
use Rattle.zair_text.specs.Ranges.{HasSmallNumbers, IsWritable, AreWritable}
use Rattle.zair_text.specs.Values.{instr_value}

own_at : (xs : List Instr) (i : ℕ) (x : Instr) → i < length xs → x ≡ get_or xs i x → IsTrue (list_all (λ y. has_own_steps y.act) xs) → IsTrue (has_own_steps x.act)
own_at [] i x h e own = absurd (omega arith)
own_at (y ∷ ys) zero x h e own = let P : Instr → Type 0 = λ z. IsTrue (has_own_steps z.act) in subst P (sym e) (and_parts (has_own_steps y.act) _ own).0
own_at (y ∷ ys) (suc i) x h e own = own_at ys i x (omega arith) e (and_parts (has_own_steps y.act) _ own).1

more : (xs : List Instr) (i : ℕ) (x : Instr) → i < length xs → x ≡ get_or xs i x → IsWritable x → AreWritable (take i xs) → AreWritable (take (i + 1) xs)
more [] i x h e writable before = absurd (omega arith)
more (y ∷ ys) zero x h e writable before = (subst IsWritable e writable, tt)
more (y ∷ ys) (suc i) x h e writable before =
    let next : suc i + 1 ≡ suc (i + 1) = omega arith in
    rw next (before.0, more ys i x (omega arith) e writable before.1)

-- one more of them
pub writable_more : (xs : List Instr) (i : ℕ) (x : Instr) → i < length xs → x ≡ get_or xs i x → IsTrue (list_all (λ y. has_own_steps y.act) xs)
    → HasSmallNumbers (instr_value x) → AreWritable (take i xs) → AreWritable (take (i + 1) xs)
writable_more xs i x h e own small before = more xs i x h e (record { own = own_at xs i x h e own; small = small }) before
