-- The ops of calls on distinct qubits in range, none of which was read before, are valid.
use Rattle.std.proofs.Common.{◌≡◌, ◌≢◌, ℕ, zero, suc, ◌<◌, List, [], ◌∷◌, ◌++◌, Some, refl, sym, subst, inl, inr, arith}
use Rattle.std.specs.List.{AllByRecursion, flat_map, slice_get}
use Rattle.zac_gates.specs.declared.circuit.Op.{Op}
use Rattle.zac_gates.specs.declared.circuit.Op.TheVariants.{One, Two, Fence, Read}
use Rattle.zac_gates.specs.Ops.{Names, IsInRange, IsValid}
use Rattle.qasm_form.specs.declared.stmt.Node.{Node}
use Rattle.qasm_form.specs.declared.stmt.Stmt.{Stmt}
use Rattle.qasm_names.specs.declared.gate.GateDef.{GateDef}
use Rattle.qasm_names.specs.declared.gate.Target.{Target}
use Rattle.qasm_names.specs.declared.gate.Target.TheVariants as target
use Rattle.qasm_expand.specs.Items.{Item, qubit_count, bit_count}
use Rattle.qasm_expand.specs.Items.Item.{Applied, Barrier, Measured}
use Rattle.qasm_expand.specs.Native.{ops_on, native_ops, native_circuit}
use Rattle.qasm_expand.proofs.SoundItems.{Among, AreDistinct, qubits_of, IsSound, Spares, AllSpare, AreSound, all_among, all_join, all_mapped, all_of}

-- the op is on these qubits, and reads none
abbrev pub IsOn : List ℕ → Op → Type 0
IsOn qubits (One q angles) = Among q qubits
IsOn qubits (Two a b) = Among a qubits × (Among b qubits × (a ≢ b))
IsOn qubits Fence = Unit {0}
IsOn qubits (Read q bit) = ⊥

ops_on_these : (t : Target) (angles : List (List Node)) (qubits : List ℕ) → AreDistinct qubits → AllByRecursion (IsOn qubits) (ops_on t angles qubits)
ops_on_these target.U (theta ∷ phi ∷ lambda ∷ []) (q ∷ []) h = (inl refl, tt)
ops_on_these target.Cx [] (c ∷ t ∷ []) h = (inr (inl refl), ((inl refl, (inr (inl refl), h.0.0)), (inr (inl refl), tt)))
ops_on_these target.Cz [] (a ∷ b ∷ []) h = ((inl refl, (inr (inl refl), h.0.0)), tt)
ops_on_these target.Barrier angles qubits h = (tt, tt)
ops_on_these other angles qubits h = tt

on_in_range : (n m : ℕ) (qubits : List ℕ) → AllByRecursion (λ q. q < n) qubits → (op : Op) → IsOn qubits op → IsInRange n m op
on_in_range n m qubits low (One q angles) h = all_among (λ x. x < n) qubits low q h
on_in_range n m qubits low (Two a b) h = (all_among (λ x. x < n) qubits low a h.0, all_among (λ x. x < n) qubits low b h.1.0, h.1.1)
on_in_range n m qubits low Fence h = tt
on_in_range n m qubits low (Read q bit) h = absurd h

on_names : (qubits : List ℕ) (op : Op) (q : ℕ) → IsOn qubits op → Names op q → Among q qubits
on_names qubits (One p angles) q h e = subst (λ x. Among x qubits) e h
on_names qubits (Two a b) q h (inl e) = subst (λ x. Among x qubits) e h.0
on_names qubits (Two a b) q h (inr e) = subst (λ x. Among x qubits) e h.1.0
on_names qubits Fence q h e = absurd e
on_names qubits (Read p bit) q h e = absurd h

-- the later op has no qubit that the earlier one reads
abbrev pub SparesOp : Op → Op → Type 0
SparesOp (Read q bit) later = Names later q → ⊥
SparesOp (One q angles) later = Unit {0}
SparesOp (Two a b) later = Unit {0}
SparesOp Fence later = Unit {0}

abbrev pub AllSpareOps : List Op → Type 0
AllSpareOps [] = Unit {0}
AllSpareOps (a ∷ ops) = AllByRecursion (SparesOp a) ops × AllSpareOps ops

abbrev pub CrossOps : List Op → List Op → Type 0
CrossOps xs ys = AllByRecursion (λ x. AllByRecursion (SparesOp x) ys) xs

on_spares : (qubits : List ℕ) (op : Op) → IsOn qubits op → (later : Op) → SparesOp op later
on_spares qubits (One p angles) h later = tt
on_spares qubits (Two a b) h later = tt
on_spares qubits Fence h later = tt
on_spares qubits (Read p bit) h later = absurd h

on_spare : (qubits : List ℕ) (ops : List Op) → AllByRecursion (IsOn qubits) ops → AllSpareOps ops
on_spare qubits [] h = tt
on_spare qubits (a ∷ ops) h = (all_of (SparesOp a) (on_spares qubits a h.0) ops, on_spare qubits ops h.1)

-- the ops of one call
item_in_range : (gates : List GateDef) (n m : ℕ) (x : Item) → IsSound gates n m x → AllByRecursion (IsInRange n m) (native_ops x)
item_in_range gates n m (Applied to angles qubits) h = all_mapped (IsOn qubits) (IsInRange n m) (on_in_range n m qubits h.0) (ops_on to angles qubits) (ops_on_these to angles qubits h.1.0)
item_in_range gates n m Barrier h = (tt, tt)
item_in_range gates n m (Measured q bit) h = ((h.0, h.1), tt)

item_spare : (gates : List GateDef) (n m : ℕ) (x : Item) → IsSound gates n m x → AllSpareOps (native_ops x)
item_spare gates n m (Applied to angles qubits) h = on_spare qubits (ops_on to angles qubits) (ops_on_these to angles qubits h.1.0)
item_spare gates n m Barrier h = (tt, tt)
item_spare gates n m (Measured q bit) h = (tt, tt)

item_names : (gates : List GateDef) (n m : ℕ) (y : Item) (q : ℕ) → IsSound gates n m y → (Among q (qubits_of y) → ⊥) → AllByRecursion (λ b. Names b q → ⊥) (native_ops y)
item_names gates n m (Applied to angles qubits) q h not = all_mapped (IsOn qubits) (λ b. Names b q → ⊥) (λ b on e. not (on_names qubits b q on e)) (ops_on to angles qubits) (ops_on_these to angles qubits h.1.0)
item_names gates n m Barrier q h not = (λ e. e, tt)
item_names gates n m (Measured p bit) q h not = (λ e. not (inl (sym e)), tt)

item_cross : (gates : List GateDef) (n m : ℕ) (x y : Item) → IsSound gates n m x → IsSound gates n m y → Spares x y → CrossOps (native_ops x) (native_ops y)
item_cross gates n m (Applied to angles qubits) y h k s = all_mapped (IsOn qubits) (λ a. AllByRecursion (SparesOp a) (native_ops y)) (λ a on. all_of (SparesOp a) (on_spares qubits a on) (native_ops y)) (ops_on to angles qubits) (ops_on_these to angles qubits h.1.0)
item_cross gates n m Barrier y h k s = (all_of (SparesOp Fence) (λ later. tt) (native_ops y), tt)
item_cross gates n m (Measured q bit) y h k s = (item_names gates n m y q k s, tt)

-- and of several
spare_ops_join : (xs ys : List Op) → AllSpareOps xs → AllSpareOps ys → CrossOps xs ys → AllSpareOps (xs ++ ys)
spare_ops_join [] ys h k c = k
spare_ops_join (x ∷ xs) ys h k c = (all_join (SparesOp x) xs ys h.0 c.0, spare_ops_join xs ys h.1 k c.1)

cross_ops_join : (xs ys zs : List Op) → CrossOps xs ys → CrossOps xs zs → CrossOps xs (ys ++ zs)
cross_ops_join [] ys zs h k = tt
cross_ops_join (x ∷ xs) ys zs h k = (all_join (SparesOp x) ys zs h.0 k.0, cross_ops_join xs ys zs h.1 k.1)

cross_ops_none : (xs : List Op) → CrossOps xs []
cross_ops_none [] = tt
cross_ops_none (x ∷ xs) = (tt, cross_ops_none xs)

items_in_range : (gates : List GateDef) (n m : ℕ) (items : List Item) → AllByRecursion (IsSound gates n m) items → AllByRecursion (IsInRange n m) (flat_map native_ops items)
items_in_range gates n m [] h = tt
items_in_range gates n m (x ∷ items) h = all_join (IsInRange n m) (native_ops x) (flat_map native_ops items) (item_in_range gates n m x h.0) (items_in_range gates n m items h.1)

items_cross : (gates : List GateDef) (n m : ℕ) (x : Item) (items : List Item) → IsSound gates n m x → AllByRecursion (IsSound gates n m) items → AllByRecursion (Spares x) items → CrossOps (native_ops x) (flat_map native_ops items)
items_cross gates n m x [] h k s = cross_ops_none (native_ops x)
items_cross gates n m x (y ∷ items) h k s = cross_ops_join (native_ops x) (native_ops y) (flat_map native_ops items) (item_cross gates n m x y h k.0 s.0) (items_cross gates n m x items h k.1 s.1)

items_spare : (gates : List GateDef) (n m : ℕ) (items : List Item) → AllByRecursion (IsSound gates n m) items → AllSpare items → AllSpareOps (flat_map native_ops items)
items_spare gates n m [] h s = tt
items_spare gates n m (x ∷ items) h s = spare_ops_join (native_ops x) (flat_map native_ops items) (item_spare gates n m x h.0) (items_spare gates n m items h.1 s.1) (items_cross gates n m x items h.0 h.1 s.0)

-- by their places
pub get_all : {X : Type 0} (P : X → Type 0) (xs : List X) (i : ℕ) (x : X) → AllByRecursion P xs → slice_get xs i ≡ Some x → P x
get_all P [] i x h e = cc
get_all P (y ∷ xs) zero x h e = let same : y ≡ x = cc in subst P same h.0
get_all P (y ∷ xs) (suc i) x h e = get_all P xs i x h.1 e

spares_get : (ops : List Op) (i k : ℕ) (a b : Op) → AllSpareOps ops → i < k → slice_get ops i ≡ Some a → slice_get ops k ≡ Some b → SparesOp a b
spares_get [] i k a b h less e f = cc
spares_get (x ∷ ops) zero zero a b h less e f = absurd (omega arith)
spares_get (x ∷ ops) zero (suc k) a b h less e f = let same : x ≡ a = cc in subst (λ y. SparesOp y b) same (get_all (SparesOp x) ops k b h.0 f)
spares_get (x ∷ ops) (suc i) zero a b h less e f = absurd (omega arith)
spares_get (x ∷ ops) (suc i) (suc k) a b h less e f = spares_get ops i k a b h.1 (omega arith) e f

valid_ops : (n m : ℕ) (ops : List Op) → AllByRecursion (IsInRange n m) ops → AllSpareOps ops → IsValid (record { qubits = n; bits = m; ops = ops })
valid_ops n m ops h s = λ k op at. record {
  in_range = get_all (IsInRange n m) ops k op h at;
  unread = λ q named (i, bit, less, is). spares_get ops i k (Read q bit) op s less is at named;
}

pub sound_valid : (gates : List GateDef) (ss : List Stmt) (items : List Item) → AreSound gates (qubit_count ss) (bit_count ss) items → IsValid (native_circuit ss items)
sound_valid gates ss items h =
    valid_ops (qubit_count ss) (bit_count ss) (flat_map native_ops items) (items_in_range gates (qubit_count ss) (bit_count ss) items h.each) (items_spare gates (qubit_count ss) (bit_count ss) items h.each h.spare)
