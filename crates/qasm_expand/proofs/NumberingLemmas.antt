-- The numbers of places, by registers: in range, and each of one place.
use Rattle.std.proofs.Common.{◌≡◌, ℕ, ◌+◌, ◌<◌, Bool, true, false, cond, List, [], ◌∷◌, Option, Some, None, refl, ap, sym, ◌∙◌, arith, add_assoc, zero-add, add-zero}
use Rattle.std.specs.Map.{lookup}
use Rattle.std.specs.Option.{option_map}
use Rattle.std.specs.Str.{bytes_eq}
use Rattle.std.proofs.lemmas.Slice.Eq.{bytes_eq-Decides}
use Rattle.qasm_form.specs.declared.stmt.Stmt.{Stmt}
use Rattle.qasm_form.specs.declared.stmt.Stmt.TheVariants as stmt
use Rattle.qasm_names.specs.Applications.{Place}
use Rattle.qasm_expand.specs.declared.extent.Extent.{Extent}
use Rattle.qasm_expand.specs.declared.kind.RegisterKind.{RegisterKind}
use Rattle.qasm_expand.specs.declared.kind.RegisterKind.TheVariants as register
use Rattle.qasm_expand.specs.Items.{qubit_number, bit_number}
use Rattle.qasm_expand.specs.Numbering.{extents_from, extent_of}
use Rattle.qasm_expand.specs.RegisterKinds.{registers_in, registers_of, place_number, place_count, IsPlaceIn}
use Rattle.qasm_expand.proofs.ExtentLemmas.{bytes_eq-sym, total, place_count-cons, total-append}

-- the number of the first place of a register
abbrev pub first_in : List (List ℕ × ℕ) → List ℕ → ℕ
first_in [] name = 0
first_in (r ∷ rs) name = cond (bytes_eq name r.0) 0 (r.1 + first_in rs name)

-- the extent of a register has its first number and its size
abbrev pub extent_at : ℕ → ℕ → Extent
extent_at start size = record { start = start; size = size }

moved : (start size first : ℕ) (o : Option ℕ) → option_map (extent_at (start + size + first)) o ≡ option_map (extent_at (start + (size + first))) o
moved start size first o = ap (λ n. option_map (extent_at n) o) (add_assoc start size first)

chosen : (b : Bool) (start size first : ℕ) (o : Option ℕ) (p : Option Extent) → p ≡ option_map (extent_at (start + size + first)) o → cond b (Some (extent_at start size)) p ≡ option_map (extent_at (start + cond b 0 (size + first))) (cond b (Some size) o)
chosen true start size first o p e = ap (λ n. Some (extent_at n size)) (sym (add-zero start))
chosen false start size first o p e = e ∙ moved start size first o

pub lookup-extents_from : (start : ℕ) (rs : List (List ℕ × ℕ)) (name : List ℕ) → lookup (bytes_eq name) (extents_from start rs) ≡ option_map (extent_at (start + first_in rs name)) (lookup (bytes_eq name) rs)
lookup-extents_from start [] name = refl
lookup-extents_from start (r ∷ rs) name =
    chosen (bytes_eq name r.0) start r.1 (first_in rs name) (lookup (bytes_eq name) rs) (lookup (bytes_eq name) (extents_from (start + r.1) rs)) (lookup-extents_from (start + r.1) rs name)

-- the number of a place is its index behind that
chosen_number : (b : Bool) (i size first : ℕ) → cond b i (size + (first + i)) ≡ cond b 0 (size + first) + i
chosen_number true i size first = sym (zero-add i)
chosen_number false i size first = sym (add_assoc size first i)

register_number : (name word : List ℕ) (i size first rest : ℕ) → rest ≡ first + i → cond (bytes_eq name word) i (size + rest) ≡ cond (bytes_eq word name) 0 (size + first) + i
register_number name word i size first rest e =
    ap (λ b. cond b i (size + rest)) (bytes_eq-sym name word) ∙ ap (λ n. cond (bytes_eq word name) i (size + n)) e ∙ chosen_number (bytes_eq word name) i size first

pub number_is : (kind : RegisterKind) (ss : List Stmt) (p : Place) → place_number kind ss p ≡ first_in (registers_of kind ss) p.0 + p.1
number_is register.Qubit [] p = sym (zero-add p.1)
number_is register.Qubit (stmt.Qreg name size at ∷ ss) p = register_number name p.0 p.1 size (first_in (registers_of register.Qubit ss) p.0) (qubit_number ss p) (number_is register.Qubit ss p)
number_is register.Qubit (other ∷ ss) p = number_is register.Qubit ss p
number_is register.Bit [] p = sym (zero-add p.1)
number_is register.Bit (stmt.Creg name size at ∷ ss) p = register_number name p.0 p.1 size (first_in (registers_of register.Bit ss) p.0) (bit_number ss p) (number_is register.Bit ss p)
number_is register.Bit (other ∷ ss) p = number_is register.Bit ss p

pub count_is : (kind : RegisterKind) (ss : List Stmt) → place_count kind ss ≡ total (registers_of kind ss)
unfolding total
count_is register.Qubit [] = refl
count_is register.Bit [] = refl
count_is kind (s ∷ ss) =
    place_count-cons kind s ss ∙ ap (λ n. total (registers_in kind s) + n) (count_is kind ss) ∙ sym (total-append (registers_in kind s) (registers_of kind ss))

-- a place of a register that is declared there has a number below the count
first_below : (b : Bool) (size s t i first : ℕ) (o : Option ℕ) → cond b (Some size) o ≡ Some s → i < s → (o ≡ Some s → first + i < t) → cond b 0 (size + first) + i < size + t
first_below true size s t i first o e h below = let same : size ≡ s = cc in omega arith
first_below false size s t i first o e h below = let least = below e in omega (arith, least)

pub first_in-below : (rs : List (List ℕ × ℕ)) (name : List ℕ) (s i : ℕ) → lookup (bytes_eq name) rs ≡ Some s → i < s → first_in rs name + i < total rs
unfolding total
first_in-below [] name s i e h = cc
first_in-below (r ∷ rs) name s i e h =
    first_below (bytes_eq name r.0) r.1 s (total rs) i (first_in rs name) (lookup (bytes_eq name) rs) e h (λ d. first_in-below rs name s i d h)

pub number-below : (kind : RegisterKind) (ss : List Stmt) (p : Place) → IsPlaceIn kind ss p → place_number kind ss p < place_count kind ss
number-below kind ss p at =
    let below = first_in-below (registers_of kind ss) p.0 at.size p.1 at.declared at.within in
    rw (number_is kind ss p, count_is kind ss) below

-- two places with one number are one place
one_cases : (b c : Bool) (w m n : List ℕ) (size s t i j f g : ℕ) (o p : Option ℕ) → (b ≡ true → m ≡ w) → (c ≡ true → n ≡ w) → cond b (Some size) o ≡ Some s → cond c (Some size) p ≡ Some t → i < s → j < t → cond b 0 (size + f) + i ≡ cond c 0 (size + g) + j → (o ≡ Some s → p ≡ Some t → f + i ≡ g + j → (m ≡ n) × (i ≡ j)) → (m ≡ n) × (i ≡ j)
one_cases true true w m n size s t i j f g o p mw nw d e h k same rest = (mw refl ∙ sym (nw refl), omega arith)
one_cases true false w m n size s t i j f g o p mw nw d e h k same rest = let s_is : size ≡ s = cc in absurd (omega arith)
one_cases false true w m n size s t i j f g o p mw nw d e h k same rest = let t_is : size ≡ t = cc in absurd (omega arith)
one_cases false false w m n size s t i j f g o p mw nw d e h k same rest = rest d e (omega arith)

pub first_in-one : (rs : List (List ℕ × ℕ)) (m n : List ℕ) (s t i j : ℕ) → lookup (bytes_eq m) rs ≡ Some s → lookup (bytes_eq n) rs ≡ Some t → i < s → j < t → first_in rs m + i ≡ first_in rs n + j → (m ≡ n) × (i ≡ j)
first_in-one [] m n s t i j d e h k same = cc
first_in-one (r ∷ rs) m n s t i j d e h k same =
    one_cases (bytes_eq m r.0) (bytes_eq n r.0) r.0 m n r.1 s t i j (first_in rs m) (first_in rs n) (lookup (bytes_eq m) rs) (lookup (bytes_eq n) rs) (bytes_eq-Decides m r.0).0 (bytes_eq-Decides n r.0).0 d e h k same (λ o p more. first_in-one rs m n s t i j o p h k more)

pair_is : (p q : Place) → p.0 ≡ q.0 → p.1 ≡ q.1 → p ≡ q
pair_is (m, i) (n, j) e h = cc

pub number-one : (kind : RegisterKind) (ss : List Stmt) (p q : Place) → IsPlaceIn kind ss p → IsPlaceIn kind ss q → place_number kind ss p ≡ place_number kind ss q → p ≡ q
number-one kind ss p q a b same =
    let one : (p.0 ≡ q.0) × (p.1 ≡ q.1) = first_in-one (registers_of kind ss) p.0 q.0 a.size b.size p.1 q.1 a.declared b.declared a.within b.within (sym (number_is kind ss p) ∙ same ∙ number_is kind ss q) in
    pair_is p q one.0 one.1

-- what the extent of a register says of its size
size_of : (start : ℕ) (o : Option ℕ) (e : Extent) → option_map (extent_at start) o ≡ Some e → Some e.size ≡ o
size_of start None e h = cc
size_of start (Some size) e h = let same : extent_at start size ≡ e = cc in ap (λ (x : Extent). Some x.size) (sym same)

pub extent-size : (kind : RegisterKind) (ss : List Stmt) (name : List ℕ) (e : Extent) → Some e ≡ extent_of kind ss name → Some e.size ≡ lookup (bytes_eq name) (registers_of kind ss)
extent-size kind ss name e h =
    size_of (0 + first_in (registers_of kind ss) name) (lookup (bytes_eq name) (registers_of kind ss)) e (sym (h ∙ lookup-extents_from 0 (registers_of kind ss) name))

none_of : (start : ℕ) (o : Option ℕ) → option_map (extent_at start) o ≡ None → None ≡ o
none_of start None h = refl
none_of start (Some size) h = cc

pub extent-none : (kind : RegisterKind) (ss : List Stmt) (name : List ℕ) → None ≡ extent_of kind ss name → None ≡ lookup (bytes_eq name) (registers_of kind ss)
extent-none kind ss name h =
    none_of (0 + first_in (registers_of kind ss) name) (lookup (bytes_eq name) (registers_of kind ss)) (sym (h ∙ lookup-extents_from 0 (registers_of kind ss) name))

-- the extent of a place's register
pub record HasExtent (kind : RegisterKind) (ss : List Stmt) (p : Place) (e : Extent) : Type 0 where
  pub number : e.start + p.1 ≡ place_number kind ss p
  pub below : e.start + p.1 < place_count kind ss

pub extent-number : (kind : RegisterKind) (ss : List Stmt) (p : Place) (e : Extent) → Some e ≡ extent_of kind ss p.0 → IsPlaceIn kind ss p → HasExtent kind ss p e
extent-number kind ss p e h at =
    let rs = registers_of kind ss in
    let found : Some e ≡ Some (extent_at (0 + first_in rs p.0) at.size) = h ∙ lookup-extents_from 0 rs p.0 ∙ ap (option_map (extent_at (0 + first_in rs p.0))) at.declared in
    let same : e ≡ extent_at (0 + first_in rs p.0) at.size = cc in
    let number : e.start + p.1 ≡ place_number kind ss p = ap (λ (x : Extent). x.start + p.1) same ∙ ap (λ n. n + p.1) (zero-add (first_in rs p.0)) ∙ sym (number_is kind ss p) in
    record { number = number; below = rw number (number-below kind ss p at) }

pub no_extent : (kind : RegisterKind) (ss : List Stmt) (p : Place) → None ≡ extent_of kind ss p.0 → IsPlaceIn kind ss p → ⊥
no_extent kind ss p h at =
    let none : None ≡ lookup (bytes_eq p.0) (registers_of kind ss) = extent-none kind ss p.0 h in
    let some = at.declared in
    cc
