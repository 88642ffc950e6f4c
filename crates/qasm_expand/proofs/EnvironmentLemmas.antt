-- What names stand for behind statements: a register's size stays, and is that of the program's register of that name.
use Rattle.std.proofs.Common.{◌≡◌, ℕ, Bool, true, false, cond, List, [], ◌∷◌, ◌++◌, length, Option, Some, None, refl, ap, sym, ◌∙◌, subst, codes}
use Rattle.std.specs.Map.{lookup}
use Rattle.std.specs.Option.{option_or}
use Rattle.std.specs.Str.{bytes_eq}
use Rattle.std.proofs.lemmas.List.{append-nil}
use Rattle.qasm_form.specs.declared.stmt.Stmt.{Stmt}
use Rattle.qasm_form.specs.declared.stmt.Stmt.TheVariants as stmt
use Rattle.qasm_names.specs.declared.meaning.Meaning.{Meaning}
use Rattle.qasm_names.specs.declared.meaning.Meaning.TheVariants as means
use Rattle.qasm_names.specs.Names.{Environment, Declarations, own_meaning, meaning, qubit_size, bit_size, qubits_in, bits_in}
use Rattle.qasm_names.specs.Environment.{enter, enter_all, opening_names, no_names, environment}
use Rattle.qasm_expand.specs.declared.kind.RegisterKind.{RegisterKind}
use Rattle.qasm_expand.specs.declared.kind.RegisterKind.TheVariants as register
use Rattle.qasm_expand.specs.RegisterKinds.{registers_in, registers_of}

-- what a statement declares
abbrev pub declared : Environment → Stmt → Declarations
declared e (stmt.Qreg name size at) = (name, means.Qubits size) ∷ []
declared e (stmt.Creg name size at) = (name, means.Bits size) ∷ []
declared e (stmt.Gate name params args body at) = (name, means.Gate (length e.gates) (length params) (length args)) ∷ []
declared e (stmt.Opaque name params args at) = (name, means.Opaque) ∷ []
declared e other = []

own-enter : (e : Environment) (s : Stmt) → (enter e s).own ≡ e.own ++ declared e s
own-enter e (stmt.Qreg name size at) = refl
own-enter e (stmt.Creg name size at) = refl
own-enter e (stmt.Gate name params args body at) = refl
own-enter e (stmt.Opaque name params args at) = refl
own-enter e other = sym (append-nil e.own)

header-enter : (e : Environment) (s : Stmt) → (enter e s).header ≡ e.header
header-enter e (stmt.Gate name params args body at) = refl
header-enter e other = refl

pub header-after : (e : Environment) (ss : List Stmt) → (enter_all e ss).header ≡ e.header
header-after e [] = refl
header-after e (s ∷ ss) = header-after (enter e s) ss ∙ header-enter e s

pub after-append : (e : Environment) (xs ys : List Stmt) → enter_all e (xs ++ ys) ≡ enter_all (enter_all e xs) ys
after-append e [] ys = refl
after-append e (x ∷ xs) ys = after-append (enter e x) xs ys

lookup_chosen : {X : Type 0} (b : Bool) (m : X) (o p : Option X) → cond b (Some m) (option_or o p) ≡ option_or (cond b (Some m) o) p
lookup_chosen true m o p = refl
lookup_chosen false m o p = refl

pub lookup-append : {X : Type 0} (test : List ℕ → Bool) (xs ys : List (List ℕ × X)) → lookup test (xs ++ ys) ≡ option_or (lookup test xs) (lookup test ys)
lookup-append test [] ys = refl
lookup-append test (x ∷ xs) ys =
    ap (λ o. cond (test x.0) (Some x.1) o) (lookup-append test xs ys) ∙ lookup_chosen (test x.0) x.1 (lookup test xs) (lookup test ys)

lookup-enter : (e : Environment) (s : Stmt) (test : List ℕ → Bool) → lookup test (enter e s).own ≡ option_or (lookup test e.own) (lookup test (declared e s))
lookup-enter e s test = ap (λ d. lookup test d) (own-enter e s) ∙ lookup-append test e.own (declared e s)

no_size : (n : ℕ) → None ≡ Some n → ⊥
no_size n h = cc

-- what is declared stays
pub own_stays : (e : Environment) (ss : List Stmt) (test : List ℕ → Bool) (m : Meaning) → lookup test e.own ≡ Some m → lookup test (enter_all e ss).own ≡ Some m
own_stays e [] test m h = h
own_stays e (s ∷ ss) test m h =
    own_stays (enter e s) ss test m (lookup-enter e s test ∙ ap (λ o. option_or o (lookup test (declared e s))) h)

-- a register as what its name stands for
abbrev pub as_register : RegisterKind → ℕ → Meaning
as_register register.Qubit size = means.Qubits size
as_register register.Bit size = means.Bits size

some_qubits : (b : Bool) (size n : ℕ) → cond b (Some (means.Qubits size)) None ≡ Some (means.Qubits n) → cond b (Some size) None ≡ Some n
some_qubits true size n h = cc
some_qubits false size n h = cc

some_bits : (b : Bool) (size n : ℕ) → cond b (Some (means.Bits size)) None ≡ Some (means.Bits n) → cond b (Some size) None ≡ Some n
some_bits true size n h = cc
some_bits false size n h = cc

no_qubits : (b : Bool) (size n : ℕ) → cond b (Some (means.Bits size)) None ≡ Some (means.Qubits n) → ⊥
no_qubits true size n h = cc
no_qubits false size n h = cc

no_bits : (b : Bool) (size n : ℕ) → cond b (Some (means.Qubits size)) None ≡ Some (means.Bits n) → ⊥
no_bits true size n h = cc
no_bits false size n h = cc

no_gate : (kind : RegisterKind) (b : Bool) (place params args n : ℕ) → cond b (Some (means.Gate place params args)) None ≡ Some (as_register kind n) → ⊥
no_gate register.Qubit true place params args n h = cc
no_gate register.Qubit false place params args n h = cc
no_gate register.Bit true place params args n h = cc
no_gate register.Bit false place params args n h = cc

no_opaque : (kind : RegisterKind) (b : Bool) (n : ℕ) → cond b (Some means.Opaque) None ≡ Some (as_register kind n) → ⊥
no_opaque register.Qubit true n h = cc
no_opaque register.Qubit false n h = cc
no_opaque register.Bit true n h = cc
no_opaque register.Bit false n h = cc

no_name : (kind : RegisterKind) (n : ℕ) → None ≡ Some (as_register kind n) → ⊥
no_name register.Qubit n h = cc
no_name register.Bit n h = cc

-- a register that a statement declares
found_in : (kind : RegisterKind) (e : Environment) (s : Stmt) (name : List ℕ) (n : ℕ) → lookup (bytes_eq name) (declared e s) ≡ Some (as_register kind n) → lookup (bytes_eq name) (registers_in kind s) ≡ Some n
found_in register.Qubit e (stmt.Qreg word size at) name n h = some_qubits (bytes_eq name word) size n h
found_in register.Qubit e (stmt.Creg word size at) name n h = absurd (no_qubits (bytes_eq name word) size n h)
found_in register.Bit e (stmt.Qreg word size at) name n h = absurd (no_bits (bytes_eq name word) size n h)
found_in register.Bit e (stmt.Creg word size at) name n h = some_bits (bytes_eq name word) size n h
found_in kind e (stmt.Gate word params args body at) name n h = absurd (no_gate kind (bytes_eq name word) _ _ _ n h)
found_in kind e (stmt.Opaque word params args at) name n h = absurd (no_opaque kind (bytes_eq name word) n h)
found_in kind e other name n h = absurd (no_name kind n h)

none_both : {X Y : Type 0} (b : Bool) (x : X) (y : Y) → cond b (Some x) None ≡ None → cond b (Some y) None ≡ None
none_both true x y h = cc
none_both false x y h = refl

none_in : (kind : RegisterKind) (e : Environment) (s : Stmt) (name : List ℕ) → lookup (bytes_eq name) (declared e s) ≡ None → lookup (bytes_eq name) (registers_in kind s) ≡ None
none_in register.Qubit e (stmt.Qreg word size at) name h = none_both (bytes_eq name word) (means.Qubits size) size h
none_in register.Bit e (stmt.Creg word size at) name h = none_both (bytes_eq name word) (means.Bits size) size h
none_in register.Qubit e other name h = refl
none_in register.Bit e other name h = refl

-- the register that a name stands for is the program's register of that name
found_step : (kind : RegisterKind) (e : Environment) (s : Stmt) (ss : List Stmt) (name : List ℕ) (n : ℕ) (d : Option Meaning) → lookup (bytes_eq name) (declared e s) ≡ d → lookup (bytes_eq name) e.own ≡ None → lookup (bytes_eq name) (enter_all (enter e s) ss).own ≡ Some (as_register kind n) → (lookup (bytes_eq name) (enter e s).own ≡ None → lookup (bytes_eq name) (registers_of kind ss) ≡ Some n) → lookup (bytes_eq name) (registers_of kind (s ∷ ss)) ≡ Some n
found_step kind e s ss name n None is none found rest =
    let test = bytes_eq name in
    let still = lookup-enter e s test ∙ ap (λ o. option_or o (lookup test (declared e s))) none ∙ is in
    lookup-append test (registers_in kind s) (registers_of kind ss) ∙ ap (λ o. option_or o (lookup test (registers_of kind ss))) (none_in kind e s name is) ∙ rest still
found_step kind e s ss name n (Some m) is none found rest =
    let test = bytes_eq name in
    let now = lookup-enter e s test ∙ ap (λ o. option_or o (lookup test (declared e s))) none ∙ is in
    let same : m ≡ as_register kind n = cc (own_stays (enter e s) ss test m now, found) in
    lookup-append test (registers_in kind s) (registers_of kind ss) ∙ ap (λ o. option_or o (lookup test (registers_of kind ss))) (found_in kind e s name n (is ∙ ap (λ x. Some x) same))

pub register_found : (kind : RegisterKind) (ss : List Stmt) (e : Environment) (name : List ℕ) (n : ℕ) → lookup (bytes_eq name) e.own ≡ None → lookup (bytes_eq name) (enter_all e ss).own ≡ Some (as_register kind n) → lookup (bytes_eq name) (registers_of kind ss) ≡ Some n
register_found kind [] e name n none found = absurd (no_name kind n (sym none ∙ found))
register_found kind (s ∷ ss) e name n none found =
    found_step kind e s ss name n (lookup (bytes_eq name) (declared e s)) refl none found (λ still. register_found kind ss (enter e s) name n still found)

-- no name stands for a register
abbrev pub NoRegisters : Declarations → Type 0
NoRegisters ds = (kind : RegisterKind) (name : List ℕ) (n : ℕ) → lookup (bytes_eq name) ds ≡ Some (as_register kind n) → ⊥

-- the header declares no registers
abbrev pub IsBare : List Stmt → Type 0
IsBare header = (kind : RegisterKind) → registers_of kind header ≡ []

native_last : (kind : RegisterKind) (b : Bool) (n : ℕ) (o : Option Meaning) → option_or o (cond b (Some means.Native) None) ≡ Some (as_register kind n) → o ≡ Some (as_register kind n)
native_last kind b n (Some m) h = h
native_last register.Qubit true n None h = cc
native_last register.Qubit false n None h = cc
native_last register.Bit true n None h = cc
native_last register.Bit false n None h = cc

pub bare_header : (header : List Stmt) → IsBare header → NoRegisters (opening_names header).header
bare_header header bare kind name n h =
    let test = bytes_eq name in
    let own = (enter_all no_names header).own in
    let found = native_last kind (test (codes "cz")) n (lookup test own) (sym (lookup-append test own ((codes "cz", means.Native) ∷ [])) ∙ h) in
    no_size n (sym (ap (λ rs. lookup test rs) (bare kind)) ∙ register_found kind header no_names name n refl found)

-- the size of a register is what the file declares
qubits_from : (o : Option Meaning) (n : ℕ) → qubits_in o ≡ Some n → o ≡ Some (means.Qubits n)
qubits_from None n h = cc
qubits_from (Some (means.Qubits size)) n h = cc
qubits_from (Some other) n h = cc

bits_from : (o : Option Meaning) (n : ℕ) → bits_in o ≡ Some n → o ≡ Some (means.Bits n)
bits_from None n h = cc
bits_from (Some (means.Bits size)) n h = cc
bits_from (Some other) n h = cc

own_first : (own header : Option Meaning) (m : Meaning) → option_or own header ≡ Some m → (header ≡ Some m → ⊥) → own ≡ Some m
own_first (Some x) header m h not = h
own_first None header m h not = absurd (not h)

included_not : (b : Bool) (o : Option Meaning) (m : Meaning) → (o ≡ Some m → ⊥) → cond b o None ≡ Some m → ⊥
included_not true o m not h = not h
included_not false o m not h = cc

abbrev pub size_in : RegisterKind → Environment → List ℕ → Option ℕ
size_in register.Qubit = qubit_size
size_in register.Bit = bit_size

pub size_own : (kind : RegisterKind) (e : Environment) (name : List ℕ) (n : ℕ) → NoRegisters e.header → size_in kind e name ≡ Some n → own_meaning e name ≡ Some (as_register kind n)
size_own register.Qubit e name n none h =
    let found = lookup (bytes_eq name) e.header in
    own_first (own_meaning e name) (cond e.included found None) (means.Qubits n) (qubits_from (meaning e name) n h) (included_not e.included found (means.Qubits n) (none register.Qubit name n))
size_own register.Bit e name n none h =
    let found = lookup (bytes_eq name) e.header in
    own_first (own_meaning e name) (cond e.included found None) (means.Bits n) (bits_from (meaning e name) n h) (included_not e.included found (means.Bits n) (none register.Bit name n))

own_size : (kind : RegisterKind) (e : Environment) (name : List ℕ) (n : ℕ) → own_meaning e name ≡ Some (as_register kind n) → size_in kind e name ≡ Some n
own_size register.Qubit e name n h = ap (λ o. qubits_in (option_or o (cond e.included (lookup (bytes_eq name) e.header) None))) h
own_size register.Bit e name n h = ap (λ o. bits_in (option_or o (cond e.included (lookup (bytes_eq name) e.header) None))) h

-- it stays
pub size_stays : (kind : RegisterKind) (e : Environment) (ss : List Stmt) (name : List ℕ) (n : ℕ) → NoRegisters e.header → size_in kind e name ≡ Some n → size_in kind (enter_all e ss) name ≡ Some n
size_stays kind e ss name n none h = own_size kind (enter_all e ss) name n (own_stays e ss (bytes_eq name) (as_register kind n) (size_own kind e name n none h))

pub header_is : (header pre : List Stmt) → IsBare header → NoRegisters (environment header pre).header
header_is header pre bare = subst NoRegisters (sym (header-after (opening_names header) pre)) (bare_header header bare)

-- the size of a register behind some statements is that of the program's register of that name
pub size_declared : (kind : RegisterKind) (header pre suf : List Stmt) (name : List ℕ) (n : ℕ) → IsBare header → size_in kind (environment header pre) name ≡ Some n → lookup (bytes_eq name) (registers_of kind (pre ++ suf)) ≡ Some n
size_declared kind header pre suf name n bare h =
    let e = environment header pre in
    let own = own_stays e suf (bytes_eq name) (as_register kind n) (size_own kind e name n (header_is header pre bare) h) in
    register_found kind (pre ++ suf) (opening_names header) name n refl (ap (λ (x : Environment). lookup (bytes_eq name) x.own) (after-append (opening_names header) pre suf) ∙ own)
