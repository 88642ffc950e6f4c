-- One op more of a slot, of a pulse, or of the reads.
use Rattle.std.proofs.Common.{◌≡◌, ℕ, zero, suc, ◌+◌, ◌<◌, List, [], ◌∷◌, ◌++◌, Option, Some, None, length, get_or, take, refl, sym, ap, ◌∙◌, append-nil, arith, slice_get}
use Rattle.std.specs.List.{cons_option, filter_map, range_with_len}
use Rattle.std.specs.Option.{option_and_then}
use Rattle.std.proofs.lemmas.List.{take_more}
use Rattle.std.proofs.lemmas.List.Elements.{filter_map-append}
use Rattle.zac_gates.specs.declared.angle.Angles.{Angles}
use Rattle.zac_gates.specs.declared.circuit.Op.{Op}
use Rattle.zac_gates.specs.declared.circuit.Op.TheVariants.{One, Two, Fence, Read}
use Rattle.zac_plan.specs.Plan.{gate_of, pair_of, read_of}

-- one item more that a map may leave out
taken_more : {Y : Type 0} (h : ℕ → Option Y) (numbers : List ℕ) (k : ℕ) → k < length numbers →
    filter_map h (take (k + 1) numbers) ≡ filter_map h (take k numbers) ++ cons_option (h (get_or numbers k 0)) []
taken_more h numbers k within = ap (filter_map h) (take_more numbers k 0 within) ∙ filter_map-append h (take k numbers) (get_or numbers k 0 ∷ [])

-- the items that a map of ops keeps, with those of one op more
module _ (Y : Type 0) (at : ℕ → Op → Option Y) (ops : List Op) where
  kept : List ℕ → List Y
  kept numbers = filter_map (λ n. option_and_then (at n) (slice_get ops n)) numbers

  pub kept_more : (numbers : List ℕ) (k : ℕ) (op : Op) (before : List Y) → k < length numbers → slice_get ops (get_or numbers k 0) ≡ Some op →
      before ≡ filter_map (λ n. option_and_then (at n) (slice_get ops n)) (take k numbers) →
      before ++ cons_option (at (get_or numbers k 0) op) [] ≡ filter_map (λ n. option_and_then (at n) (slice_get ops n)) (take (k + 1) numbers)
  kept_more numbers k op before within there e =
      ap (λ (l : List Y). l ++ cons_option (at (get_or numbers k 0) op) []) e
      ∙ ap (λ (o : Option Op). filter_map (λ n. option_and_then (at n) (slice_get ops n)) (take k numbers) ++ cons_option (option_and_then (at (get_or numbers k 0)) o) []) (sym there)
      ∙ sym (taken_more (λ n. option_and_then (at n) (slice_get ops n)) numbers k within)

-- an op of another kind gives none
pub no_gate : (n : ℕ) (op : Op) → ((q : ℕ) (angles : Angles) → op ≡ One q angles → ⊥) → gate_of n op ≡ None
no_gate n (One q angles) h = absurd (h q angles refl)
no_gate n (Two a b) h = refl
no_gate n Fence h = refl
no_gate n (Read q bit) h = refl

pub no_pair : (n : ℕ) (op : Op) → ((a b : ℕ) → op ≡ Two a b → ⊥) → pair_of n op ≡ None
no_pair n (One q angles) h = refl
no_pair n (Two a b) h = absurd (h a b refl)
no_pair n Fence h = refl
no_pair n (Read q bit) h = refl

pub no_read : (n : ℕ) (op : Op) → ((q bit : ℕ) → op ≡ Read q bit → ⊥) → read_of n op ≡ None
no_read n (One q angles) h = refl
no_read n (Two a b) h = refl
no_read n Fence h = refl
no_read n (Read q bit) h = absurd (h q bit refl)

-- the list after an op that gives one item, and after one that gives none
module _ (Y : Type 0) (at : ℕ → Op → Option Y) (ops : List Op) (numbers : List ℕ) (k : ℕ) (op : Op) (before after : List Y)
    (within : k < length numbers) (there : slice_get ops (get_or numbers k 0) ≡ Some op)
    (e : before ≡ filter_map (λ n. option_and_then (at n) (slice_get ops n)) (take k numbers)) where
  pub took_one : (y : Y) → at (get_or numbers k 0) op ≡ Some y → after ≡ before ++ y ∷ [] → after ≡ filter_map (λ n. option_and_then (at n) (slice_get ops n)) (take (k + 1) numbers)
  took_one y gives pushed =
      pushed
      ∙ ap (λ (o : Option Y). before ++ cons_option o []) (sym gives)
      ∙ kept_more Y at ops numbers k op before within there e

  pub took_none : at (get_or numbers k 0) op ≡ None → after ≡ before → after ≡ filter_map (λ n. option_and_then (at n) (slice_get ops n)) (take (k + 1) numbers)
  took_none gives same =
      same
      ∙ sym (append-nil before)
      ∙ ap (λ (o : Option Y). before ++ cons_option o []) (sym gives)
      ∙ kept_more Y at ops numbers k op before within there e

range_more : (from n to : ℕ) → from + n ≡ to → range_with_len from (n + 1) ≡ range_with_len from n ++ to ∷ []
range_more from zero to e = let here : from ≡ to = omega arith in ap (λ (m : ℕ). m ∷ []) here
range_more from (suc n) to e =
    let count : suc n + 1 ≡ suc (n + 1) = omega arith in
    let there : (from + 1) + n ≡ to = omega arith in
    ap (range_with_len from) count ∙ ap (λ (l : List ℕ). from ∷ l) (range_more (from + 1) n to there)

-- the same at the numbers from 0 on
module _ (Y : Type 0) (at : ℕ → Op → Option Y) (ops : List Op) (n : ℕ) (op : Op) (before after : List Y)
    (there : slice_get ops n ≡ Some op) (e : before ≡ filter_map (λ m. option_and_then (at m) (slice_get ops m)) (range_with_len 0 n)) where
  next : filter_map (λ m. option_and_then (at m) (slice_get ops m)) (range_with_len 0 (n + 1)) ≡
      filter_map (λ m. option_and_then (at m) (slice_get ops m)) (range_with_len 0 n) ++ cons_option (at n op) []
  next =
      ap (filter_map (λ m. option_and_then (at m) (slice_get ops m))) (range_more 0 n n (omega arith))
      ∙ filter_map-append (λ m. option_and_then (at m) (slice_get ops m)) (range_with_len 0 n) (n ∷ [])
      ∙ ap (λ (o : Option Op). filter_map (λ m. option_and_then (at m) (slice_get ops m)) (range_with_len 0 n) ++ cons_option (option_and_then (at n) o) []) there

  pub read_one : (y : Y) → at n op ≡ Some y → after ≡ before ++ y ∷ [] → after ≡ filter_map (λ m. option_and_then (at m) (slice_get ops m)) (range_with_len 0 (n + 1))
  read_one y gives pushed =
      pushed
      ∙ ap (λ (o : Option Y). before ++ cons_option o []) (sym gives)
      ∙ ap (λ (l : List Y). l ++ cons_option (at n op) []) e
      ∙ sym next

  pub read_none : at n op ≡ None → after ≡ before → after ≡ filter_map (λ m. option_and_then (at m) (slice_get ops m)) (range_with_len 0 (n + 1))
  read_none gives same =
      same
      ∙ sym (append-nil before)
      ∙ ap (λ (o : Option Y). before ++ cons_option o []) (sym gives)
      ∙ ap (λ (l : List Y). l ++ cons_option (at n op) []) e
      ∙ sym next
