-- A program has one named order.
use Rattle.std.proofs.Common.{◌≡◌, ℕ, ◌+◌, ◌⊎◌, inl, inr, List, [], ◌∷◌, ◌++◌, refl, ap, sym, ◌∙◌, subst, arith}
use Rattle.std.specs.List.{AllByRecursion, Contains}
use Rattle.zac_arch.specs.declared.card.Figures.{Figures}
use Rattle.zair_form.specs.declared.step.Step.{Step}
use Rattle.zair_form.specs.declared.program.Instr.{Instr}
use Rattle.zair_form.specs.Steps.{steps_of}
use Rattle.zair_form.specs.Times.{Timed, AreTimed, AreTimedSteps}
use Rattle.zair_state.specs.Orders.{IsNamedBefore, IsNamedOrder, IsOrderOf}
use Rattle.zair_state.proofs.Ordering.{EachLater, each_later_from_AllPairs}
use Rattle.zair_state.proofs.OneDuration.{Lasts-same}
use Rattle.zair_state.proofs.Membership.{contains_none, contains_here, contains_later, contains_cases}

-- timed steps of the same steps are the same
timed_same : (f : Figures) (n : ℕ) (earlier : List Step) (from : ℕ) (ss : List Step) (ts us : List Timed) →
    AreTimed f n earlier from ss ts → AreTimed f n earlier from ss us → ts ≡ us
timed_same f n earlier from [] [] [] one other = refl
timed_same f n earlier from [] (t ∷ ts) us one other = absurd one
timed_same f n earlier from [] [] (u ∷ us) one other = absurd other
timed_same f n earlier from (s ∷ ss) [] us one other = absurd one
timed_same f n earlier from (s ∷ ss) (t ∷ ts) [] one other = absurd other
timed_same f n earlier from (s ∷ ss) (t ∷ ts) (u ∷ us) one other =
    let lasts = Lasts-same f earlier s one.0.duration other.0.duration one.0.lasts other.0.lasts in
    let instr : t.instr ≡ u.instr = one.0.instr ∙ sym other.0.instr in
    let place : t.place ≡ u.place = one.0.place ∙ sym other.0.place in
    let step : t.step ≡ u.step = one.0.step ∙ sym other.0.step in
    let begin : t.begin ≡ u.begin = one.0.begin ∙ sym other.0.begin in
    let end : t.end ≡ u.end = one.0.end ∙ ap (λ (d : ℕ). from + d) lasts ∙ sym other.0.end in
    let head : t ≡ u = λ k. record { instr = instr k; place = place k; step = step k; begin = begin k; end = end k } in
    let rest = timed_same f n (earlier ++ s ∷ []) u.end ss ts us (subst (λ (m : ℕ). AreTimed f n (earlier ++ s ∷ []) m ss ts) end one.1) other.1 in
    λ k. head k ∷ rest k

steps_same : (f : Figures) (p : ℕ) (program : List Instr) (ts us : List Timed) → AreTimedSteps f p program ts → AreTimedSteps f p program us → ts ≡ us
steps_same f p [] ts us one other = one ∙ sym other
steps_same f p (i ∷ is) ts us one other =
    let own = timed_same f p [] i.begin (steps_of i.act) one.0 other.0 one.3 other.3 in
    let rest = steps_same f (p + 1) is one.1 other.1 one.4 other.4 in
    one.2 ∙ (λ k. own k ++ rest k) ∙ sym other.2

-- an order has the members of the list
has_middle : {X : Type 0} (before : List X) (x : X) (behind : List X) → Contains (before ++ x ∷ behind) x
has_middle [] x behind = contains_here x behind
has_middle (y ∷ before) x behind = contains_later y x (before ++ x ∷ behind) (has_middle before x behind)

has_others : {X : Type 0} (before : List X) (x y : X) (behind : List X) → Contains (before ++ behind) y → Contains (before ++ x ∷ behind) y
has_others [] x y behind h = contains_later x y behind h
has_others (z ∷ before) x y behind h = elim (contains_cases z y (before ++ behind) h) [
  | inl same ↦ subst (λ v. Contains (z ∷ (before ++ x ∷ behind)) v) same (contains_here z (before ++ x ∷ behind))
  | inr later ↦ contains_later z y (before ++ x ∷ behind) (has_others before x y behind later)
]

has_no_more : {X : Type 0} (before : List X) (x y : X) (behind : List X) → Contains (before ++ x ∷ behind) y → (x ≡ y) ⊎ Contains (before ++ behind) y
has_no_more [] x y behind h = contains_cases x y behind h
has_no_more (z ∷ before) x y behind h = elim (contains_cases z y (before ++ x ∷ behind) h) [
  | inl same ↦ inr (subst (λ v. Contains (z ∷ (before ++ behind)) v) same (contains_here z (before ++ behind)))
  | inr later ↦ elim (has_no_more before x y behind later) [
    | inl here ↦ inl here
    | inr there ↦ inr (contains_later z y (before ++ behind) there)
  ]
]

in_order : (xs order : List Timed) (x : Timed) → IsOrderOf xs order → Contains xs x → Contains order x
in_order [] order x same h = absurd (contains_none x h)
in_order (z ∷ xs) order x same h =
    subst (λ (l : List Timed). Contains l x) (sym same.2)
    (elim (contains_cases z x xs h) [
      | inl here ↦ subst (λ v. Contains (same.0 ++ z ∷ same.1) v) here (has_middle same.0 z same.1)
      | inr later ↦ has_others same.0 z x same.1 (in_order xs (same.0 ++ same.1) x same.3 later)
    ])

from_order : (xs order : List Timed) (x : Timed) → IsOrderOf xs order → Contains order x → Contains xs x
from_order [] order x same h = subst (λ (l : List Timed). Contains l x) same h
from_order (z ∷ xs) order x same h = elim (has_no_more same.0 z x same.1 (subst (λ (l : List Timed). Contains l x) same.2 h)) [
  | inl here ↦ subst (λ v. Contains (z ∷ xs) v) here (contains_here z xs)
  | inr there ↦ contains_later z x xs (from_order xs (same.0 ++ same.1) x same.3 there)
]

all_at : {X : Type 0} (P : X → Type 0) (xs : List X) (x : X) → AllByRecursion P xs → Contains xs x → P x
all_at P [] x all h = absurd (contains_none x h)
all_at P (z ∷ xs) x all h = elim (contains_cases z x xs h) [
  | inl here ↦ subst P here all.0
  | inr later ↦ all_at P xs x all.1 later
]

-- no step is named before one that is named before it
not_both : (x y : Timed) → IsNamedBefore x y → IsNamedBefore y x → ⊥
not_both x y one other = elim one [
  | inl less ↦ elim other [ inl more ↦ omega arith | inr same ↦ omega (arith, same.0) ]
  | inr level ↦ elim other [
    | inl more ↦ omega (arith, level.0)
    | inr same ↦ elim level.1 [
      | inl less ↦ elim same.1 [ inl more ↦ omega arith | inr last ↦ omega (arith, last.0) ]
      | inr here ↦ elim same.1 [ inl more ↦ omega (arith, here.0) | inr last ↦ omega (arith, here.1, last.1) ]
    ]
  ]
]

-- two lists with the same members, each member named before the later ones, are the same
sorted_same : (xs ys : List Timed) → EachLater IsNamedBefore xs → EachLater IsNamedBefore ys →
    ((x : Timed) → Contains xs x → Contains ys x) → ((x : Timed) → Contains ys x → Contains xs x) → xs ≡ ys
sorted_same [] [] one other right left = refl
sorted_same [] (y ∷ ys) one other right left = absurd (contains_none y (left y (contains_here y ys)))
sorted_same (x ∷ xs) [] one other right left = absurd (contains_none x (right x (contains_here x xs)))
sorted_same (x ∷ xs) (y ∷ ys) one other right left =
    let head : x ≡ y = elim (contains_cases y x ys (right x (contains_here x xs))) [
      | inl same ↦ sym same
      | inr later ↦ elim (contains_cases x y xs (left y (contains_here y ys))) [
        | inl same ↦ same
        | inr behind ↦ absurd (not_both x y (all_at (IsNamedBefore x) xs y one.0 behind) (all_at (IsNamedBefore y) ys x other.0 later))
      ]
    ] in
    let rest = sorted_same xs ys one.1 other.1
    (λ z h. elim (contains_cases y z ys (right z (contains_later x z xs h))) [
      | inl same ↦
          let before : IsNamedBefore x z = all_at (IsNamedBefore x) xs z one.0 h in
          absurd (let is : x ≡ z = head ∙ same in not_both x z before (subst (λ v. IsNamedBefore z v) (sym is) (subst (λ v. IsNamedBefore v z) is before)))
      | inr later ↦ later
    ])
    (λ z h. elim (contains_cases x z xs (left z (contains_later y z ys h))) [
      | inl same ↦
          let before : IsNamedBefore y z = all_at (IsNamedBefore y) ys z other.0 h in
          absurd (let is : y ≡ z = sym head ∙ same in not_both y z before (subst (λ v. IsNamedBefore z v) (sym is) (subst (λ v. IsNamedBefore v z) is before)))
      | inr later ↦ later
    ]) in
    λ k. head k ∷ rest k

pub named_orders_same : (f : Figures) (program : List Instr) (one other : List Timed) → IsNamedOrder f program one → IsNamedOrder f program other → one ≡ other
named_orders_same f program one other first second =
    let same : first.steps ≡ second.steps = steps_same f 0 program first.steps second.steps first.timed second.timed in
    let first_same : IsOrderOf second.steps one = subst (λ (l : List Timed). IsOrderOf l one) same first.same in
    sorted_same one other (each_later_from_AllPairs IsNamedBefore one first.named) (each_later_from_AllPairs IsNamedBefore other second.named)
    (λ x h. in_order second.steps other x second.same (from_order second.steps one x first_same h))
    (λ x h. in_order second.steps one x first_same (from_order second.steps other x second.same h))
