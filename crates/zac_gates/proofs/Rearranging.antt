-- What the logs that realise a list have in common.
use Rattle.std.proofs.Common.{◌≡◌, ◌≢◌, ℕ, suc, ◌+◌, ◌<◌, ◌≤◌, Bool, true, false, not, cond, List, [], ◌∷◌, Some, length, get_or, filter, count_by, refl, sym, ap, ◌∙◌, subst, ⊎_elim, arith, slice_get}
use Rattle.std.specs.List.Sorted.{IsPermutation}
use Rattle.std.proofs.lemmas.Bool.{cases_lt}
use Rattle.std.proofs.lemmas.List.Elements.{All-contains}
use Rattle.std.proofs.lemmas.List.Sums.{length-filter}
use Rattle.std.proofs.lemmas.List.Sorted.{length_permutation, IsPermutation-sym, IsPermutation-trans}
use Rattle.std.proofs.lemmas.Option.{same_Some, slice_get_within, get_or_from_slice_get}
use Rattle.zac_gates.specs.declared.circuit.Op.{Op}
use Rattle.zac_gates.specs.declared.circuit.Op.TheVariants.{One, Two, Fence, Read}
use Rattle.zac_gates.specs.Ops.{IsGate, IsRead, MustFollow, is_fence}
use Rattle.zac_gates.specs.Log.{Entry, Realises, entries_from, entries_in_order}
use Rattle.zac_gates.proofs.Lists.{rearranged, Contains-filter}
use Rattle.zac_gates.proofs.Realising.{entries_have, passing_at_number, passing_pass, passing_rise}

no_fence_passes : (op : Op) → op ≢ Fence → not (is_fence op) ≡ true
no_fence_passes (One q angles) fence = refl
no_fence_passes (Two a b) fence = refl
no_fence_passes Fence fence = absurd (fence refl)
no_fence_passes (Read q bit) fence = refl

passes_no_fence : (op : Op) → not (is_fence op) ≡ true → op ≢ Fence
passes_no_fence (One q angles) passes is = cc
passes_no_fence (Two a b) passes is = cc
passes_no_fence Fence passes is = cc
passes_no_fence (Read q bit) passes is = cc

-- A log that realises a list has the list's ops other than fences, each once, in some order.
pub realised_rearranges : (ops : List Op) (log : List Entry) → Realises ops log → IsPermutation (entries_in_order ops) log
realised_rearranges ops log realised =
    let test : Op → Bool = λ op. not (is_fence op) in
    let Is : Entry → Type 0 = λ e. slice_get ops e.op ≡ Some e.what in
    rearranged (entries_in_order ops) log
    (λ i j d lt in' same. let rise = passing_rise ops test i j d lt in' in let number = ap (λ (e : Entry). e.op) same in omega (arith, rise, number))
    (λ i j d lt in' same. realised.once i j d lt in' (ap (λ (e : Entry). e.op) same))
    (λ x in'. realised.whole x.op x.what (All-contains Is (entries_in_order ops) x (passing_at_number ops test) in')
    (passes_no_fence x.what (All-contains (λ (e : Entry). test e.what ≡ true) (entries_in_order ops) x (passing_pass ops test) in')))
    (λ x in'.
    let here = All-contains (λ (e : Entry). (slice_get ops e.op ≡ Some e.what) × (e.what ≢ Fence)) log x realised.listed in' in
    Contains-filter (λ (e : Entry). test e.what) (entries_from 0 ops) x (no_fence_passes x.what here.1) (entries_have ops x.op x.what here.0))

length-kept : {X Y : Type 0} (b : Bool) (x : X) (y : Y) (xs : List X) (ys : List Y) → length xs ≡ length ys → length (cond b (x ∷ xs) xs) ≡ length (cond b (y ∷ ys) ys)
length-kept true x y xs ys same = ap suc same
length-kept false x y xs ys same = same

length-entries : (n : ℕ) (ops : List Op) → length (filter (λ (e : Entry). not (is_fence e.what)) (entries_from n ops)) ≡ length (filter (λ op. not (is_fence op)) ops)
length-entries n [] = refl
length-entries n (x ∷ ops) =
    length-kept (not (is_fence x)) (record { op = n; what = x }) x _ _ (length-entries (n + 1) ops)

-- It is as long as the list without its fences.
pub length-realised : (ops : List Op) (log : List Entry) → Realises ops log → length log ≡ count_by (λ op. not (is_fence op)) ops
length-realised ops log realised =
    length_permutation (entries_in_order ops) log (realised_rearranges ops log realised)
    ∙ length-entries 0 ops
    ∙ length-filter (λ op. not (is_fence op)) ops

-- Two logs that realise one list rearrange each other.
pub realised_alike : (ops : List Op) (log other : List Entry) → Realises ops log → Realises ops other → IsPermutation log other
realised_alike ops log other one two =
    IsPermutation-trans log (entries_in_order ops) other
    (IsPermutation-sym (entries_in_order ops) log (realised_rearranges ops log one))
    (realised_rearranges ops other two)

no_gate_reads : (op : Op) → IsRead op → IsGate op → ⊥
no_gate_reads (One q angles) read gate = read
no_gate_reads (Two a b) read gate = read
no_gate_reads Fence read gate = read
no_gate_reads (Read q bit) read gate = gate

-- no op must follow itself
follows_another : (ops : List Op) (n : ℕ) → MustFollow ops n n → ⊥
follows_another ops n must =
    let same : must.a ≡ must.b = same_Some must.a must.b (sym must.a_is ∙ must.b_is) in
    ⊎_elim (λ gates. omega (arith, gates.2))
    (λ reads. ⊎_elim (λ gate. no_gate_reads must.b reads.0 (subst IsGate same gate)) (λ both. omega (arith, both.1)) reads.1)
    must.reason

-- An op that must follow another stands behind it.
pub stands_behind : (ops : List Op) (log : List Entry) → Realises ops log → (first second : ℕ) → MustFollow ops first second →
    (i j : ℕ) (a b : Op) → slice_get log i ≡ Some (record { op = first; what = a }) → slice_get log j ≡ Some (record { op = second; what = b }) → i < j
stands_behind ops log realised first second must i j a b a_is b_is =
    let x : Entry = record { op = first; what = a } in
    let y : Entry = record { op = second; what = b } in
    let at_i : (get_or log i x).op ≡ first = ap (λ (e : Entry). e.op) (get_or_from_slice_get log i x x a_is) in
    let at_j : (get_or log j x).op ≡ second = ap (λ (e : Entry). e.op) (get_or_from_slice_get log j y x b_is) in
    ⊎_elim (λ (l : i < j). l)
    (λ (g : j ≤ i). ⊎_elim
    (λ (l : j < i). absurd (realised.in_order j i x l (slice_get_within log i x a_is)
    (subst (λ (n : ℕ). MustFollow ops n (get_or log j x).op) (sym at_i) (subst (λ (n : ℕ). MustFollow ops first n) (sym at_j) must))))
    (λ (h : i ≤ j).
    let here : i ≡ j = omega arith in
    let same : first ≡ second = sym at_i ∙ ap (λ (k : ℕ). (get_or log k x).op) here ∙ at_j in
    absurd (follows_another ops second (subst (λ (n : ℕ). MustFollow ops n second) same must)))
    (cases_lt j i))
    (cases_lt i j)
