-- The greatest ends of instructions, and how another instruction changes them.
use Rattle.std.proofs.Common.{◌≡◌, ℕ, zero, suc, ◌+◌, ◌<◌, ◌≤◌, ◌⊎◌, inl, inr, List, [], ◌∷◌, ◌++◌, length, get_or, take, map, fold, max, refl, sym, ap, ◌∙◌, subst, arith}
use Rattle.std.specs.List.{All, Any}
use Rattle.std.proofs.lemmas.List.{take_more}
use Rattle.std.proofs.lemmas.List.Elements.{All-push, All-get_or, All-weaker, All-head, All-tail}
use Rattle.std.proofs.lemmas.List.Sums.{fold-append}
use Rattle.zair_form.specs.declared.program.Act.{Act}
use Rattle.zair_form.specs.declared.program.Instr.{Instr}
use Rattle.zac_sched.specs.Ends.{IsLatest}

-- a fold over one item more
pub fold_more : {X Y : Type 0} (f : Y → X → Y) (y : Y) (xs : List X) (k : ℕ) (d : X) → k < length xs → fold f y (take (k + 1) xs) ≡ f (fold f y (take k xs)) (get_or xs k d)
fold_more f y xs k d lt = ap (fold f y) (take_more xs k d lt) ∙ fold-append f y (take k xs) (get_or xs k d ∷ [])

-- some item behind another one
pub any_later : {X : Type 0} (P : X → Type 0) (x : X) (xs : List X) → Any P xs → Any P (x ∷ xs)
any_later P x xs h = (suc h.0, h.1, omega (arith, h.2), h.3, h.4)

pub any_here : {X : Type 0} (P : X → Type 0) (x : X) (xs : List X) → P x → Any P (x ∷ xs)
any_here P x xs h = (0, x, omega arith, refl, h)

any_at : {X : Type 0} (P : X → Type 0) (x : X) (xs : List X) (k : ℕ) (y : X) → k < length (x ∷ xs) → get_or (x ∷ xs) k y ≡ y → P y → P x ⊎ Any P xs
any_at P x xs zero y within is h = inl (subst P (sym is) h)
any_at P x xs (suc k) y within is h = inr (k, y, omega arith, is, h)

pub any_cases : {X : Type 0} (P : X → Type 0) (x : X) (xs : List X) → Any P (x ∷ xs) → P x ⊎ Any P xs
any_cases P x xs h = any_at P x xs h.0 h.1 h.2 h.3 h.4

pub any_none : {X : Type 0} (P : X → Type 0) → ¬ Any P []
any_none P h = absurd (omega (arith, h.2))

pub any_weaker : {X : Type 0} (P Q : X → Type 0) → ((x : X) → P x → Q x) → (xs : List X) → Any P xs → Any Q xs
any_weaker P Q f xs h = (h.0, h.1, h.2, h.3, f h.1 h.4)

pub any_before : {X : Type 0} (P : X → Type 0) (xs : List X) (y : X) → Any P xs → Any P (xs ++ y ∷ [])
any_before P [] y h = absurd (any_none P h)
any_before P (x ∷ xs) y h = elim (any_cases P x xs h) [
  | inl p ↦ any_here P x (xs ++ y ∷ []) p
  | inr later ↦ any_later P x (xs ++ y ∷ []) (any_before P xs y later)
]

pub any_last : {X : Type 0} (P : X → Type 0) (xs : List X) (y : X) → P y → Any P (xs ++ y ∷ [])
any_last P [] y h = any_here P y [] h
any_last P (x ∷ xs) y h = any_later P x (xs ++ y ∷ []) (any_last P xs y h)

-- the greatest end of other such instructions is the same
pub latest_alike : (P Q : Act → Type 0) → ((x : Act) → P x → Q x) → ((x : Act) → Q x → P x) → (earlier : List Instr) (end : ℕ) → IsLatest P earlier end → IsLatest Q earlier end
latest_alike P Q there back earlier end h = record {
  all = All-weaker (λ i. P i.act → i.end ≤ end) (λ i. Q i.act → i.end ≤ end) (λ i f q. f (back i.act q)) earlier h.all;
  some = elim h.some [
    | inl none ↦ inl none
    | inr one ↦ inr (any_weaker (λ i. P i.act × (i.end ≡ end)) (λ i. Q i.act × (i.end ≡ end)) (λ i p. (there i.act p.0, p.1)) earlier one)
  ];
}

-- of instructions of two sorts together
abbrev pub Either : (P Q : Act → Type 0) → Act → Type 0
Either P Q x = P x ⊎ Q x

max_of : (m n : ℕ) → (max m n ≡ m) ⊎ (max m n ≡ n)
max_of m n = grind arith

below_max : (P Q : Act → Type 0) (m n : ℕ) (i : Instr) → (P i.act → i.end ≤ m) → (Q i.act → i.end ≤ n) → Either P Q i.act → i.end ≤ max m n
below_max P Q m n i f g (inl p) = let h = f p in omega arith
below_max P Q m n i f g (inr q) = let h = g q in omega arith

pub latest_either : (P Q : Act → Type 0) (earlier : List Instr) (m n : ℕ) → IsLatest P earlier m → IsLatest Q earlier n → IsLatest (Either P Q) earlier (max m n)
latest_either P Q earlier m n h g = record {
  all = λ k d within. below_max P Q m n (get_or earlier k d) (h.all k d within) (g.all k d within);
  some = elim (max_of m n) [
    | inl left ↦ elim h.some [
      | inl none ↦ inl (left ∙ none)
      | inr one ↦ inr (any_weaker (λ i. P i.act × (i.end ≡ m)) (λ i. Either P Q i.act × (i.end ≡ max m n)) (λ i p. (inl p.0, p.1 ∙ sym left)) earlier one)
    ]
    | inr right ↦ elim g.some [
      | inl none ↦ inl (right ∙ none)
      | inr one ↦ inr (any_weaker (λ i. Q i.act × (i.end ≡ n)) (λ i. Either P Q i.act × (i.end ≡ max m n)) (λ i p. (inr p.0, p.1 ∙ sym right)) earlier one)
    ]
  ];
}

-- of the first sort, and of the sorts of all these items
pub latest_of_all : {X : Type 0} (Q : Act → Type 0) (P : X → Act → Type 0) (end_of : X → ℕ) (earlier : List Instr) (from : ℕ) (xs : List X)
    → IsLatest Q earlier from → All (λ x. IsLatest (P x) earlier (end_of x)) xs
    → IsLatest (λ act. Q act ⊎ Any (λ x. P x act) xs) earlier (fold max from (map end_of xs))
latest_of_all Q P end_of earlier from [] first rest =
    latest_alike Q (λ act. Q act ⊎ Any (λ x. P x act) []) (λ x q. inl q) (λ x h. elim h [ inl q ↦ q | inr none ↦ absurd (any_none (λ y. P y x) none) ]) earlier from first
latest_of_all {X} Q P end_of earlier from (x ∷ xs) first rest =
    let more = latest_either Q (P x) earlier from (end_of x) first (All-head (λ (y : X). IsLatest (P y) earlier (end_of y)) x xs rest) in
    let whole = latest_of_all (Either Q (P x)) P end_of earlier (max from (end_of x)) xs more (All-tail (λ (y : X). IsLatest (P y) earlier (end_of y)) x xs rest) in
    latest_alike (λ act. Either Q (P x) act ⊎ Any (λ y. P y act) xs) (λ act. Q act ⊎ Any (λ y. P y act) (x ∷ xs))
    (λ act h. elim h [
      | inl one ↦ elim one [ inl q ↦ inl q | inr p ↦ inr (any_here (λ y. P y act) x xs p) ]
      | inr later ↦ inr (any_later (λ y. P y act) x xs later)
    ])
    (λ act h. elim h [
      | inl q ↦ inl (inl q)
      | inr one ↦ elim (any_cases (λ y. P y act) x xs one) [ inl p ↦ inl (inr p) | inr later ↦ inr later ]
    ])
    earlier (fold max (max from (end_of x)) (map end_of xs)) whole

-- one instruction more that is such a one, and ends no earlier than the others
pub latest_more : (P : Act → Type 0) (earlier : List Instr) (i : Instr) → All (λ e. P e.act → e.end ≤ i.end) earlier → P i.act → IsLatest P (earlier ++ i ∷ []) i.end
latest_more P earlier i before such = record {
  all = All-push (λ e. P e.act → e.end ≤ i.end) earlier i before (λ _. omega arith);
  some = inr (any_last (λ e. P e.act × (e.end ≡ i.end)) earlier i (such, refl));
}

-- one instruction more that is not
pub latest_kept : (P : Act → Type 0) (earlier : List Instr) (end : ℕ) (i : Instr) → ¬ P i.act → IsLatest P earlier end → IsLatest P (earlier ++ i ∷ []) end
latest_kept P earlier end i not_such h = record {
  all = All-push (λ e. P e.act → e.end ≤ end) earlier i h.all (λ such. absurd (not_such such));
  some = elim h.some [
    | inl none ↦ inl none
    | inr one ↦ inr (any_before (λ e. P e.act × (e.end ≡ end)) earlier i one)
  ];
}

-- there is but one greatest end
latest_below : (P : Act → Type 0) (earlier : List Instr) (m n : ℕ) → IsLatest P earlier m → IsLatest P earlier n → m ≤ n
latest_below P earlier m n h g = elim h.some [
  | inl none ↦ omega arith
  | inr one ↦
      let least : one.1.end ≤ n = (subst (λ (i : Instr). P i.act → i.end ≤ n) one.3 (All-get_or (λ i. P i.act → i.end ≤ n) earlier one.0 one.1 one.2 g.all)) one.4.0 in
      let is : one.1.end ≡ m = one.4.1 in
      omega arith
]

pub one_latest : (P : Act → Type 0) (earlier : List Instr) (m n : ℕ) → IsLatest P earlier m → IsLatest P earlier n → m ≡ n
one_latest P earlier m n h g = let le = latest_below P earlier m n h g in let ge = latest_below P earlier n m g h in omega arith

-- it is at most what all ends are
pub latest_most : (P : Act → Type 0) (earlier : List Instr) (m most : ℕ) → All (λ i. i.end ≤ most) earlier → IsLatest P earlier m → m ≤ most
latest_most P earlier m most all h = elim h.some [
  | inl none ↦ omega arith
  | inr one ↦
      let below : one.1.end ≤ most = subst (λ (i : Instr). i.end ≤ most) one.3 (All-get_or (λ i. i.end ≤ most) earlier one.0 one.1 one.2 all) in
      let is : one.1.end ≡ m = one.4.1 in
      omega arith
]
