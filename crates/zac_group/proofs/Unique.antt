-- One grouping of moves at most.
use Rattle.std.proofs.Common.{◌≡◌, ℕ, zero, suc, ◌+◌, ◌<◌, ◌≤◌, ◌==◌, inl, inr, cond, Some, List, [], ◌∷◌, ◌++◌, length, take, get_or, slice_get, refl, sym, ap, ◌∙◌, subst, arith}
use Rattle.std.specs.List.{AllPairs}
use Rattle.std.specs.List.Sorted.{IsPermutation}
use Rattle.std.proofs.lemmas.Bool.{cases_Bool, cases_lt, cases_order}
use Rattle.std.proofs.lemmas.Bool.Decides.{Decides-eqb}
use Rattle.std.proofs.lemmas.List.{same_lists, take_all, take_more}
use Rattle.std.proofs.lemmas.List.Sorted.{Contains-permutation, IsPermutation-sym, length_permutation}
use Rattle.std.proofs.lemmas.Option.{slice_get-get_or}
use Rattle.zac_arch.specs.Architecture.{Architecture}
use Rattle.zac_group.specs.declared.shift.Shift.{Shift}
use Rattle.zac_group.specs.FirstFit.{Fits, IsFirstFit, IsGrouping, IsTakenBefore, members, members_before}
use Rattle.zac_group.specs.Groups.{MoveGroup, StartsBefore}
use Rattle.zac_group.proofs.Orders.{ordered_same}

-- the orders go one way
taken_one_way : (a : Architecture) (s t : Shift) → IsTakenBefore a s t → ¬ IsTakenBefore a t s
taken_one_way a s t (inl h) (inl k) = omega arith
taken_one_way a s t (inl h) (inr k) = let e = k.0 in omega arith
taken_one_way a s t (inr h) (inl k) = let e = h.0 in omega arith
taken_one_way a s t (inr h) (inr k) = let x = h.1 in let y = k.1 in omega arith

starts_one_way : (a : Architecture) (s t : Shift) → StartsBefore a s t → ¬ StartsBefore a t s
starts_one_way a s t (inl h) (inl k) = omega arith
starts_one_way a s t (inl h) (inr k) = let e = k.0 in omega arith
starts_one_way a s t (inr h) (inl k) = let e = h.0 in omega arith
starts_one_way a s t (inr h) (inr k) = let x = h.1 in let y = k.1 in omega arith

-- two orders of one list, each by one relation that goes one way
one_order : (R : Shift → Shift → Type 0) → ((s t : Shift) → R s t → ¬ R t s) → (ss xs ys : List Shift) → IsPermutation ss xs → IsPermutation ss ys → AllPairs R xs → AllPairs R ys → xs ≡ ys
one_order R one_way ss xs ys to_xs to_ys x_rises y_rises =
    ordered_same Shift R one_way xs ys x_rises y_rises
    (λ s c. Contains-permutation ss ys s to_ys (Contains-permutation xs ss s (IsPermutation-sym ss xs to_xs) c))
    (λ s c. Contains-permutation ss xs s to_xs (Contains-permutation ys ss s (IsPermutation-sym ss ys to_ys) c))

-- which moves of a front are in a group is told by their numbers
members_front : (k : ℕ) (ms : List Shift) (ns : List ℕ) (g : ℕ) → members (take k ms) ns g ≡ members (take k ms) (take k ns) g
members_front zero ms ns g = refl
members_front (suc k) [] ns g = refl
members_front (suc k) (m ∷ ms) [] g = refl
members_front (suc k) (m ∷ ms) (n ∷ ns) g = ap (λ (l : List Shift). cond (n == g) (m ∷ l) l) (members_front k ms ns g)

not_less : (a : Architecture) (ms : List Shift) (ns os : List ℕ) (k : ℕ) → IsFirstFit a ms ns → IsFirstFit a ms os → take k ns ≡ take k os → k < length ms → ¬ (get_or ns k 0 < get_or os k 0)
not_less a ms ns os k h j same lt less =
    let some : Shift = get_or ms k (record { q = 0; from = record { 0 = 0 }; to = record { 0 = 0 } }) in
    let got : slice_get ms k ≡ Some some = slice_get-get_or ms k (record { q = 0; from = record { 0 = 0 }; to = record { 0 = 0 } }) lt in
    let n : ℕ = get_or ns k 0 in
    let before : members_before ms ns k n ≡ members_before ms os k n =
    members_front k ms ns n ∙ ap (λ (l : List ℕ). members (take k ms) l n) same ∙ sym (members_front k ms os n) in
    j.passed k n some got less (subst (λ (l : List Shift). Fits a l some) before (h.fits k some got))

same_fronts : (a : Architecture) (ms : List Shift) (ns os : List ℕ) → IsFirstFit a ms ns → IsFirstFit a ms os → (k : ℕ) → k ≤ length ms → take k ns ≡ take k os
same_fronts a ms ns os h j zero le = refl
same_fronts a ms ns os h j (suc k) le =
    let rest = same_fronts a ms ns os h j k (omega arith) in
    let long = h.each in
    let long_too = j.each in
    let same : get_or ns k 0 ≡ get_or os k 0 =
    elim (cases_order (get_or ns k 0) (get_or os k 0)) [
      | inl e ↦ e
      | inr w ↦ elim w [
        | inl lt ↦ absurd (not_less a ms ns os k h j rest (omega arith) lt)
        | inr gt ↦ absurd (not_less a ms os ns k j h (sym rest) (omega arith) gt)
      ]
    ] in
    let e : k + 1 ≡ suc k = omega arith in
    subst (λ (m : ℕ). take m ns ≡ take m os) e
    (take_more ns k 0 (omega arith) ∙ ap (λ (l : List ℕ). l ++ get_or ns k 0 ∷ []) rest ∙ ap (λ (n : ℕ). take k os ++ n ∷ []) same ∙ sym (take_more os k 0 (omega arith)))

pub one_numbering : (a : Architecture) (ms : List Shift) (ns os : List ℕ) → IsFirstFit a ms ns → IsFirstFit a ms os → ns ≡ os
one_numbering a ms ns os h j =
    let long = h.each in
    let long_too = j.each in
    sym (take_all (length ms) ns (omega arith)) ∙ same_fronts a ms ns os h j (length ms) (omega arith) ∙ take_all (length ms) os (omega arith)

-- a group that has a move has the number of one
numbered : (ms : List Shift) (ns : List ℕ) (g : ℕ) → 1 ≤ length (members ms ns g) → (k : ℕ) × (k < length ns) × (get_or ns k 0 ≡ g)
numbered [] ns g some = absurd (omega arith)
numbered (m ∷ ms) [] g some = absurd (omega arith)
numbered (m ∷ ms) (n ∷ ns) g some =
    elim (cases_Bool (n == g)) [
      | inl here ↦ (zero, omega arith, (Decides-eqb n g).0 here)
      | inr other ↦
          let fewer : 1 ≤ length (members ms ns g) = subst (λ b. 1 ≤ length (cond b (m ∷ members ms ns g) (members ms ns g))) other some in
          let rest = numbered ms ns g fewer in
          (suc rest.0, omega (arith, rest.1), rest.2)
    ]

nothing : MoveGroup
nothing = record { card = record { figures = record { gap = 0; park = 0; reach = 0; radius = 0; accel = 0; activate = 0; deactivate = 0; one = 0; pulse = 0; readout = 0; aods = 0; rows = 0; columns = 0 }; zones = [] }; shifts = [] }

as_many : (a : Architecture) (shifts : List Shift) (gs hs : List MoveGroup) (g : IsGrouping a shifts gs) (h : IsGrouping a shifts hs) → g.numbers ≡ h.numbers → length gs ≤ length hs
as_many a shifts gs hs g h same =
    elim (cases_lt (length hs) (length gs)) [
      | inr le ↦ le
      | inl more ↦
          let n : ℕ = length hs in
          let group : MoveGroup = get_or gs n nothing in
          let got : slice_get gs n ≡ Some group = slice_get-get_or gs n nothing more in
          let permutes = g.shifts_are n group got in
          let some = (g.kept n nothing more).some in
          let k = numbered g.ordered g.numbers n (omega (arith, length_permutation (members g.ordered g.numbers n) group.shifts permutes)) in
          let k_in = k.1 in
          let it : get_or h.numbers k.0 0 ≡ n = ap (λ (l : List ℕ). get_or l k.0 0) (sym same) ∙ k.2 in
          let low = h.below k.0 (omega (arith, ap length same)) in
          absurd (omega arith)
    ]

pub one_grouping : (a : Architecture) (shifts : List Shift) (gs hs : List MoveGroup) → IsGrouping a shifts gs → IsGrouping a shifts hs → gs ≡ hs
one_grouping a shifts gs hs g h =
    let ordered : g.ordered ≡ h.ordered =
    one_order (IsTakenBefore a) (taken_one_way a) shifts g.ordered h.ordered g.permutes h.permutes g.in_order h.in_order in
    let numbers : g.numbers ≡ h.numbers =
    one_numbering a h.ordered g.numbers h.numbers (subst (λ (l : List Shift). IsFirstFit a l g.numbers) ordered g.first_fit) h.first_fit in
    let most = as_many a shifts gs hs g h numbers in
    let least = as_many a shifts hs gs h g (sym numbers) in
    same_lists gs hs (omega arith)
    (λ k d lt.
    let x : MoveGroup = get_or gs k d in
    let y : MoveGroup = get_or hs k d in
    let x_got : slice_get gs k ≡ Some x = slice_get-get_or gs k d lt in
    let y_got : slice_get hs k ≡ Some y = slice_get-get_or hs k d (omega arith) in
    let x_card : x.card ≡ a = g.cards k d lt in
    let y_card : y.card ≡ a = h.cards k d (omega arith) in
    let same : members h.ordered h.numbers k ≡ members g.ordered g.numbers k =
    ap (λ (l : List Shift). members l h.numbers k) (sym ordered) ∙ ap (λ (l : List ℕ). members g.ordered l k) (sym numbers) in
    let shifts_same : x.shifts ≡ y.shifts =
    one_order (StartsBefore a) (starts_one_way a) (members g.ordered g.numbers k) x.shifts y.shifts (g.shifts_are k x x_got)
    (subst (λ (l : List Shift). IsPermutation l y.shifts) same (h.shifts_are k y y_got))
    (subst (λ (b : Architecture). AllPairs (StartsBefore b) x.shifts) x_card (g.kept k d lt).in_order)
    (subst (λ (b : Architecture). AllPairs (StartsBefore b) y.shifts) y_card (h.kept k d (omega arith)).in_order) in
    let card_same : x.card ≡ y.card = x_card ∙ sym y_card in
    λ i. record { card = card_same i; shifts = shifts_same i })
