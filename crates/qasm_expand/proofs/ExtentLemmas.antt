-- The numbers of registers, in a map by their names.
use Rattle.std.proofs.Common.{◌≡◌, ℕ, ◌+◌, ◌<◌, Bool, true, false, cond, List, [], ◌∷◌, ◌++◌, length, drop, get_or, Option, Some, None, is_some, refl, ap, sym, ◌∙◌, add_assoc, zero-add, add-zero}
use Rattle.std.specs.HashMap.{UpdatesBy}
use Rattle.std.specs.Map.{lookup}
use Rattle.std.specs.Option.{option_or}
use Rattle.std.specs.Str.{bytes_eq}
use Rattle.std.proofs.lemmas.Bool.Decides.{same_from_decides, Decides-like}
use Rattle.std.proofs.lemmas.List.{at_drop_more}
use Rattle.std.proofs.lemmas.Map.Text.{hash_map_updates_str}
use Rattle.std.proofs.lemmas.Slice.Eq.{bytes_eq-Decides}
use Rattle.qasm_form.specs.declared.stmt.Stmt.{Stmt}
use Rattle.qasm_form.specs.declared.stmt.Stmt.TheVariants as stmt
use Rattle.qasm_expand.specs.Items.{qubit_count, bit_count}
use Rattle.qasm_expand.specs.declared.extent.Extent.{Extent}
use Rattle.qasm_expand.specs.declared.kind.RegisterKind.{RegisterKind}
use Rattle.qasm_expand.specs.declared.kind.RegisterKind.TheVariants as register
use Rattle.qasm_expand.specs.Numbering.{Extents, extent_in, extents_from}
use Rattle.qasm_expand.specs.RegisterKinds.{registers_in, registers_of, place_count}

pub bytes_eq-sym : (a b : List ℕ) → bytes_eq a b ≡ bytes_eq b a
bytes_eq-sym a b =
    same_from_decides (bytes_eq a b) (bytes_eq b a) (bytes_eq-Decides a b) (Decides-like (bytes_eq b a) (λ e. sym e) (λ e. sym e) (bytes_eq-Decides b a))

-- a register at the end of what was found before
put_last : (b : Bool) (old w : Option Extent) → (b ≡ true → old ≡ None) → cond b w old ≡ option_or old (cond b w None)
put_last true old w h = ap (λ o. option_or o w) (sym (h refl))
put_last false None w h = refl
put_last false (Some x) w h = refl

-- a register that is added where none of its name is there
pub noted : (m n : Extents) (name : List ℕ) (e : Extent) → extent_in m name ≡ None → UpdatesBy (λ x y. bytes_eq x.now y.now) (λ k. bytes_eq name k.now) m n (Some e) → (q : List ℕ) → extent_in n q ≡ option_or (extent_in m q) (cond (bytes_eq q name) (Some e) None)
noted m n name e absent updates q =
    let same : bytes_eq name q ≡ true → extent_in m q ≡ None = λ h. ap (extent_in m) (sym ((bytes_eq-Decides name q).0 h)) ∙ absent in
    hash_map_updates_str name m n (Some e) updates q ∙ put_last (bytes_eq name q) (extent_in m q) (Some e) same ∙ ap (λ b. option_or (extent_in m q) (cond b (Some e) None)) (bytes_eq-sym name q)

-- what was found before goes before the rest
found_first : (b : Bool) (old w rest : Option Extent) → option_or (option_or old (cond b w None)) rest ≡ option_or old (option_or (cond b w None) rest)
found_first b None w rest = refl
found_first b (Some x) w rest = refl

one_then : (b : Bool) (e : Extent) (rest : Option Extent) → option_or (cond b (Some e) None) rest ≡ cond b (Some e) rest
one_then true e rest = refl
one_then false e rest = refl

-- the registers from place i on are those of the statement there and those behind it
registers_at : (kind : RegisterKind) (xs : List Stmt) (i : ℕ) (x : Stmt) → i < length xs → x ≡ get_or xs i x → registers_of kind (drop i xs) ≡ registers_in kind x ++ registers_of kind (drop (i + 1) xs)
registers_at kind xs i x h is =
    at_drop_more (registers_of kind) xs i x h ∙ ap (λ y. registers_in kind y ++ registers_of kind (drop (i + 1) xs)) (sym is)

-- one step over a statement that declares a register, and over another
pub extents_some : (kind : RegisterKind) (xs : List Stmt) (i : ℕ) (x : Stmt) (name : List ℕ) (size start : ℕ) (q : List ℕ) (old : Option Extent) → i < length xs → x ≡ get_or xs i x → (name, size) ∷ [] ≡ registers_in kind x → option_or (option_or old (cond (bytes_eq q name) (Some (record { start = start; size = size })) None)) (lookup (bytes_eq q) (extents_from (start + size) (registers_of kind (drop (i + 1) xs)))) ≡ option_or old (lookup (bytes_eq q) (extents_from start (registers_of kind (drop i xs))))
extents_some kind xs i x name size start q old h is named =
    let b = bytes_eq q name in
    let e : Extent = record { start = start; size = size } in
    let behind = registers_of kind (drop (i + 1) xs) in
    let rest = lookup (bytes_eq q) (extents_from (start + size) behind) in
    found_first b old (Some e) rest ∙ ap (λ o. option_or old o) (one_then b e rest) ∙ ap (λ rs. option_or old (lookup (bytes_eq q) (extents_from start rs))) (ap (λ r. r ++ behind) named ∙ sym (registers_at kind xs i x h is))

pub extents_none : (kind : RegisterKind) (xs : List Stmt) (i : ℕ) (x : Stmt) (start : ℕ) (q : List ℕ) (old : Option Extent) → i < length xs → x ≡ get_or xs i x → [] ≡ registers_in kind x → option_or old (lookup (bytes_eq q) (extents_from start (registers_of kind (drop (i + 1) xs)))) ≡ option_or old (lookup (bytes_eq q) (extents_from start (registers_of kind (drop i xs))))
extents_none kind xs i x start q old h is none =
    let behind = registers_of kind (drop (i + 1) xs) in
    ap (λ rs. option_or old (lookup (bytes_eq q) (extents_from start rs))) (ap (λ r. r ++ behind) none ∙ sym (registers_at kind xs i x h is))

-- the sizes of all registers
unfoldable pub total : List (List ℕ × ℕ) → ℕ
total [] = 0
total (r ∷ rs) = r.1 + total rs

pub total-append : (rs ts : List (List ℕ × ℕ)) → total (rs ++ ts) ≡ total rs + total ts
unfolding total
total-append [] ts = sym (zero-add (total ts))
total-append (r ∷ rs) ts = ap (λ n. r.1 + n) (total-append rs ts) ∙ sym (add_assoc r.1 (total rs) (total ts))

none_more : (n : ℕ) → n ≡ total [] + n
unfolding total
none_more n = sym (zero-add n)

one_more : (name : List ℕ) (size n : ℕ) → size + n ≡ total ((name, size) ∷ []) + n
unfolding total
one_more name size n = ap (λ m. m + n) (sym (add-zero size))

-- a statement adds the sizes of its registers
pub place_count-cons : (kind : RegisterKind) (x : Stmt) (xs : List Stmt) → place_count kind (x ∷ xs) ≡ total (registers_in kind x) + place_count kind xs
place_count-cons register.Qubit (stmt.Qreg name size at) xs = one_more name size (qubit_count xs)
place_count-cons register.Qubit other xs = none_more (qubit_count xs)
place_count-cons register.Bit (stmt.Creg name size at) xs = one_more name size (bit_count xs)
place_count-cons register.Bit other xs = none_more (bit_count xs)

count_at : (kind : RegisterKind) (xs : List Stmt) (i : ℕ) (x : Stmt) → i < length xs → x ≡ get_or xs i x → place_count kind (drop i xs) ≡ total (registers_in kind x) + place_count kind (drop (i + 1) xs)
count_at kind xs i x h is =
    at_drop_more (place_count kind) xs i x h ∙ ap (λ y. place_count kind (y ∷ drop (i + 1) xs)) (sym is) ∙ place_count-cons kind x (drop (i + 1) xs)

-- the size of a register that is declared there, and none
pub count_some : (kind : RegisterKind) (xs : List Stmt) (i : ℕ) (x : Stmt) (name : List ℕ) (size : ℕ) → i < length xs → x ≡ get_or xs i x → (name, size) ∷ [] ≡ registers_in kind x → place_count kind (drop i xs) ≡ size + place_count kind (drop (i + 1) xs)
count_some kind xs i x name size h is named =
    count_at kind xs i x h is ∙ ap (λ rs. total rs + place_count kind (drop (i + 1) xs)) (sym named) ∙ sym (one_more name size (place_count kind (drop (i + 1) xs)))

pub count_none : (kind : RegisterKind) (xs : List Stmt) (i : ℕ) (x : Stmt) → i < length xs → x ≡ get_or xs i x → [] ≡ registers_in kind x → place_count kind (drop i xs) ≡ place_count kind (drop (i + 1) xs)
count_none kind xs i x h is none =
    count_at kind xs i x h is ∙ ap (λ rs. total rs + place_count kind (drop (i + 1) xs)) (sym none) ∙ sym (none_more (place_count kind (drop (i + 1) xs)))

pub none_from_test : {X : Type 0} (o : Option X) → is_some o ≡ false → o ≡ None
none_from_test None h = refl
none_from_test (Some x) h = cc

pub stepped : (new old w rest : Option Extent) → new ≡ option_or old w → option_or new rest ≡ option_or (option_or old w) rest
stepped new old w rest e = ap (λ o. option_or o rest) e
