-- How often a call is applied, by the registers that the statements declare.
use Rattle.std.proofs.Common.{◌≡◌, ℕ, ◌+◌, ◌<◌, Bool, true, false, cond, List, [], ◌∷◌, length, drop, get_or, Option, Some, None, is_some, unwrap_or, refl, ap, sym, ◌∙◌}
use Rattle.std.specs.Map.{lookup}
use Rattle.std.specs.Option.{option_or, option_map}
use Rattle.std.specs.Str.{bytes_eq}
use Rattle.std.proofs.lemmas.List.{at_drop_more}
use Rattle.qasm_form.specs.declared.stmt.Arg.{Arg}
use Rattle.qasm_form.specs.declared.stmt.Stmt.{Stmt}
use Rattle.qasm_names.specs.declared.meaning.Meaning.{Meaning}
use Rattle.qasm_names.specs.declared.meaning.Meaning.TheVariants as means
use Rattle.qasm_names.specs.Names.{qubit_size, qubits_in, value_or}
use Rattle.qasm_names.specs.Applications.{applications, times_by}
use Rattle.qasm_expand.specs.declared.kind.RegisterKind.{RegisterKind}
use Rattle.qasm_expand.specs.declared.kind.RegisterKind.TheVariants as register
use Rattle.qasm_expand.specs.RegisterKinds.{registers_of}
use Rattle.qasm_expand.specs.Sized.{declared_as, sized}

in_declared : (b : Bool) (size : ℕ) (o : Option ℕ) (p : Option Meaning) → p ≡ option_map (λ n. means.Qubits n) o → cond b (Some (means.Qubits size)) p ≡ option_map (λ n. means.Qubits n) (cond b (Some size) o)
in_declared true size o p e = refl
in_declared false size o p e = e

lookup-declared_as : (test : List ℕ → Bool) (rs : List (List ℕ × ℕ)) → lookup test (declared_as rs) ≡ option_map (λ n. means.Qubits n) (lookup test rs)
lookup-declared_as test [] = refl
lookup-declared_as test (r ∷ rs) = in_declared (test r.0) r.1 (lookup test rs) (lookup test (declared_as rs)) (lookup-declared_as test rs)

qubits_there : (o : Option ℕ) → qubits_in (option_or (option_map (λ n. means.Qubits n) o) None) ≡ o
qubits_there None = refl
qubits_there (Some n) = refl

pub qubit_size-sized : (ss : List Stmt) (name : List ℕ) → qubit_size (sized ss) name ≡ lookup (bytes_eq name) (registers_of register.Qubit ss)
qubit_size-sized ss name =
    let rs = registers_of register.Qubit ss in
    ap (λ o. qubits_in (option_or o None)) (lookup-declared_as (bytes_eq name) rs) ∙ qubits_there (lookup (bytes_eq name) rs)

pub value_or_is : {X : Type 0} (o : Option X) (d : X) → value_or o d ≡ unwrap_or o d
value_or_is None d = refl
value_or_is (Some x) d = refl

none_from_is : {X : Type 0} (o : Option X) → is_some o ≡ false → o ≡ None
none_from_is None h = refl
none_from_is (Some x) h = cc

-- the first whole register
pub first_whole : (ss : List Stmt) (args : List Arg) (i : ℕ) (arg : Arg) (kind : RegisterKind) (own : List Stmt) (size : Option ℕ) → i < length args → arg ≡ get_or args i arg → is_some arg.index ≡ false → kind ≡ register.Qubit → own ≡ ss → size ≡ lookup (bytes_eq arg.word) (registers_of kind own) → unwrap_or size 0 ≡ applications (sized ss) (drop i args)
first_whole ss args i arg kind own size h is none qubit same found =
    let e = sized ss in
    let rest = applications e (drop (i + 1) args) in
    let size_is : size ≡ qubit_size e arg.word = found ∙ ap (λ k. lookup (bytes_eq arg.word) (registers_of k own)) qubit ∙ ap (λ s. lookup (bytes_eq arg.word) (registers_of register.Qubit s)) same ∙ sym (qubit_size-sized ss arg.word) in
    ap (λ o. unwrap_or o 0) size_is ∙ sym (value_or_is (qubit_size e arg.word) 0) ∙ ap (λ o. times_by e arg o rest) (sym (none_from_is arg.index none)) ∙ ap (λ (a : Arg). times_by e a a.index rest) is ∙ sym (at_drop_more (applications e) args i arg h)

-- a measurement of a whole register
pub times_whole : (ss : List Stmt) (from : Arg) (kind : RegisterKind) (own : List Stmt) (size : Option ℕ) → from.index ≡ None → kind ≡ register.Qubit → own ≡ ss → size ≡ lookup (bytes_eq from.word) (registers_of kind own) → unwrap_or size 0 ≡ times_by (sized ss) from from.index 1
times_whole ss from kind own size none qubit same found =
    let e = sized ss in
    let size_is : size ≡ qubit_size e from.word = found ∙ ap (λ k. lookup (bytes_eq from.word) (registers_of k own)) qubit ∙ ap (λ s. lookup (bytes_eq from.word) (registers_of register.Qubit s)) same ∙ sym (qubit_size-sized ss from.word) in
    ap (λ o. unwrap_or o 0) size_is ∙ sym (value_or_is (qubit_size e from.word) 0) ∙ ap (λ o. times_by e from o 1) (sym none)
