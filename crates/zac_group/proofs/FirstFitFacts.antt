-- First fit, with one more move.
use Rattle.std.proofs.Common.{◌≡◌, ◌≢◌, ℕ, ◌+◌, ◌<◌, ◌≤◌, ◌==◌, Bool, true, false, inl, inr, cond, None, Some, List, [], ◌∷◌, ◌++◌, length, take, map, All, get_or, set, slice_get, refl, sym, ap, ◌∙◌, subst, arith}
use Rattle.std.proofs.lemmas.Bool.{cases_eq, cases_lt, eq-eqb, ne_eqb}
use Rattle.std.proofs.lemmas.List.{get_or_append_left, get_or_push, length_push, take-append-le, take_all, length-take-le, append-nil, get_or-map, map-set, get_or-set_same, get_or-set_other, get_or_past, map_more, length-map, length-set}
use Rattle.std.proofs.lemmas.Option.{slice_get_within, slice_get-get_or, get_or_from_slice_get}
use Rattle.zac_arch.specs.Architecture.{Architecture}
use Rattle.zac_group.specs.declared.members.Members.{Members}
use Rattle.zac_group.specs.declared.route.Route.{Route}
use Rattle.zac_group.specs.declared.shift.Shift.{Shift}
use Rattle.zac_group.specs.FirstFit.{Fits, IsFirstFit, members, members_before}
use Rattle.zac_group.specs.Members.{IsMembers, moves}
use Rattle.zac_group.specs.Fitting.{AddsTo, IsFitting, shifts_at}

-- further numbers tell nothing of these moves
members_more : (ms : List Shift) (ns ts : List ℕ) (g : ℕ) → length ms ≤ length ns → members ms (ns ++ ts) g ≡ members ms ns g
members_more [] ns ts g le = refl
members_more (m ∷ ms) [] ts g le = absurd (omega arith)
members_more (m ∷ ms) (n ∷ ns) ts g le =
    ap (λ (l : List Shift). cond (n == g) (m ∷ l) l) (members_more ms ns ts g (omega arith))

-- one more move
members_push : (ms : List Shift) (ns : List ℕ) (s : Shift) (n g : ℕ) → length ns ≡ length ms → members (ms ++ s ∷ []) (ns ++ n ∷ []) g ≡ members ms ns g ++ cond (n == g) (s ∷ []) []
members_push [] [] s n g same = refl
members_push [] (o ∷ ns) s n g same = absurd (omega arith)
members_push (m ∷ ms) [] s n g same = absurd (omega arith)
members_push (m ∷ ms) (o ∷ ns) s n g same = go (o == g) (members_push ms ns s n g (omega arith))
  where
    go : (b : Bool) → members (ms ++ s ∷ []) (ns ++ n ∷ []) g ≡ members ms ns g ++ cond (n == g) (s ∷ []) [] →
        cond b (m ∷ members (ms ++ s ∷ []) (ns ++ n ∷ []) g) (members (ms ++ s ∷ []) (ns ++ n ∷ []) g) ≡ cond b (m ∷ members ms ns g) (members ms ns g) ++ cond (n == g) (s ∷ []) []
    go true e = ap (λ (l : List Shift). m ∷ l) e
    go false e = e

-- the members before a place are those of the shorter list
before_same : (ms : List Shift) (ns : List ℕ) (s : Shift) (n k g : ℕ) → length ns ≡ length ms → k ≤ length ms → members_before (ms ++ s ∷ []) (ns ++ n ∷ []) k g ≡ members_before ms ns k g
before_same ms ns s n k g same le =
    ap (λ (l : List Shift). members l (ns ++ n ∷ []) g) (take-append-le k ms (s ∷ []) le)
    ∙ members_more (take k ms) ns (n ∷ []) g (omega (arith, length-take-le k ms le))

all_before : (ms : List Shift) (ns : List ℕ) (s : Shift) (n k g : ℕ) → length ns ≡ length ms → k ≡ length ms → members_before (ms ++ s ∷ []) (ns ++ n ∷ []) k g ≡ members ms ns g
all_before ms ns s n k g same e =
    before_same ms ns s n k g same (omega arith) ∙ ap (λ (l : List Shift). members l ns g) (take_all k ms (omega arith))

get_left : (ms : List Shift) (s x : Shift) (k : ℕ) → k < length ms → slice_get (ms ++ s ∷ []) k ≡ Some x → slice_get ms k ≡ Some x
get_left ms s x k lt got =
    slice_get-get_or ms k s lt ∙ ap (λ (t : Shift). Some t) (sym (get_or_append_left ms (s ∷ []) s k lt) ∙ get_or_from_slice_get (ms ++ s ∷ []) k x s got)

get_last : (ms : List Shift) (s x : Shift) (k : ℕ) → length ms ≡ k → slice_get (ms ++ s ∷ []) k ≡ Some x → s ≡ x
get_last ms s x k e got = sym (get_or_push ms s s k e) ∙ get_or_from_slice_get (ms ++ s ∷ []) k x s got

last_place : (ms : List Shift) (s x : Shift) (k : ℕ) → slice_get (ms ++ s ∷ []) k ≡ Some x → k < length ms + 1
last_place ms s x k got = omega (arith, slice_get_within (ms ++ s ∷ []) k x got, length_push ms s)

pub first_fit_push : (a : Architecture) (ms : List Shift) (ns : List ℕ) (s : Shift) (n : ℕ) → IsFirstFit a ms ns →
    Fits a (members ms ns n) s → ((g : ℕ) → g < n → ¬ Fits a (members ms ns g) s) → ((g : ℕ) → g < n → (j : ℕ) × (j < length ns) × (get_or ns j 0 ≡ g)) →
    IsFirstFit a (ms ++ s ∷ []) (ns ++ n ∷ [])
first_fit_push a ms ns s n h fits passed turn =
    let same : length ns ≡ length ms = h.each in
    record {
      each = omega (arith, length_push ns n, length_push ms s);
      fits = λ k x got. elim (cases_lt k (length ms)) as (λ _. Fits a (members_before (ms ++ s ∷ []) (ns ++ n ∷ []) k (get_or (ns ++ n ∷ []) k 0)) x) [
        | inl lt ↦
            let number : get_or (ns ++ n ∷ []) k 0 ≡ get_or ns k 0 = get_or_append_left ns (n ∷ []) 0 k (omega arith) in
            subst (λ (g : ℕ). Fits a (members_before (ms ++ s ∷ []) (ns ++ n ∷ []) k g) x) (sym number)
            (subst (λ (l : List Shift). Fits a l x) (sym (before_same ms ns s n k (get_or ns k 0) same (omega arith))) (h.fits k x (get_left ms s x k lt got)))
        | inr ge ↦
            let last : k ≡ length ms = omega (arith, last_place ms s x k got) in
            let number : get_or (ns ++ n ∷ []) k 0 ≡ n = get_or_push ns n 0 k (omega arith) in
            subst (λ (g : ℕ). Fits a (members_before (ms ++ s ∷ []) (ns ++ n ∷ []) k g) x) (sym number)
            (subst (λ (l : List Shift). Fits a l x) (sym (all_before ms ns s n k n same last)) (subst (λ (t : Shift). Fits a (members ms ns n) t) (get_last ms s x k (sym last) got) fits))
      ];
      passed = λ k g x got less fit. elim (cases_lt k (length ms)) as (λ _. ⊥) [
        | inl lt ↦
            let number : get_or (ns ++ n ∷ []) k 0 ≡ get_or ns k 0 = get_or_append_left ns (n ∷ []) 0 k (omega arith) in
            h.passed k g x (get_left ms s x k lt got) (omega arith) (subst (λ (l : List Shift). Fits a l x) (before_same ms ns s n k g same (omega arith)) fit)
        | inr ge ↦
            let last : k ≡ length ms = omega (arith, last_place ms s x k got) in
            let number : get_or (ns ++ n ∷ []) k 0 ≡ n = get_or_push ns n 0 k (omega arith) in
            passed g (omega arith)
            (subst (λ (t : Shift). Fits a (members ms ns g) t) (sym (get_last ms s x k (sym last) got)) (subst (λ (l : List Shift). Fits a l x) (all_before ms ns s n k g same last) fit))
      ];
      in_turn = λ k g k_in less. elim (cases_lt k (length ms)) as (λ _. (j : ℕ) × (j < k) × (get_or (ns ++ n ∷ []) j 0 ≡ g)) [
        | inl lt ↦
            let number : get_or (ns ++ n ∷ []) k 0 ≡ get_or ns k 0 = get_or_append_left ns (n ∷ []) 0 k (omega arith) in
            let earlier = h.in_turn k g lt (omega arith) in
            (earlier.0, earlier.1, get_or_append_left ns (n ∷ []) 0 earlier.0 (omega (arith, earlier.1)) ∙ earlier.2)
        | inr ge ↦
            let number : get_or (ns ++ n ∷ []) k 0 ≡ n = get_or_push ns n 0 k (omega (arith, length_push ms s)) in
            let earlier = turn g (omega arith) in
            (earlier.0, omega (arith, earlier.1), get_or_append_left ns (n ∷ []) 0 earlier.0 earlier.1 ∙ earlier.2)
      ];
    }

pub fitting_step : (a : Architecture) (ms : List Shift) (old new : List Members) (s : Shift) (n : ℕ) → IsFitting a ms old →
    n ≤ length old → Fits a (shifts_at old n) s → ((g : ℕ) → g < n → ¬ Fits a (shifts_at old g) s) →
    All (IsMembers a) new → AddsTo old new n s → IsFitting a (ms ++ s ∷ []) new
fitting_step a ms old new s n h le fits passed counted adds =
    let ns = h.numbers in
    let same : length ns ≡ length ms = h.first_fit.each in
    let sizes : (length old ≤ length new) × (n < length new) × ((g : ℕ) → g < length new → g ≢ n → g < length old) =
    elim (cases_lt n (length old)) [
      | inl lt ↦ let kept = adds.kept lt in (omega arith, omega arith, λ g g_in apart. omega arith)
      | inr ge ↦ let longer = adds.longer (omega arith) in (omega arith, omega arith, λ g g_in apart. omega arith)
    ] in
    let more : length old ≤ length new = sizes.0 in
    let n_in : n < length new = sizes.1 in
    record {
      numbers = ns ++ n ∷ [];
      first_fit = first_fit_push a ms ns s n h.first_fit
          (subst (λ (l : List Shift). Fits a l s) (h.groups_are n) fits)
          (λ g less fit. passed g less (subst (λ (l : List Shift). Fits a l s) (sym (h.groups_are g)) fit))
          (λ g less. h.used g (omega arith));
      counted = counted;
      groups_are = λ g.
          elim (cases_eq g n) as (λ _. shifts_at new g ≡ members (ms ++ s ∷ []) (ns ++ n ∷ []) g) [
            | inl e ↦
                ap (shifts_at new) e ∙ adds.here
                ∙ ap (λ (l : List Shift). l ++ s ∷ []) (ap (shifts_at old) (sym e) ∙ h.groups_are g)
                ∙ ap (λ b. members ms ns g ++ cond b (s ∷ []) []) (sym (eq-eqb n g (sym e)))
                ∙ sym (members_push ms ns s n g same)
            | inr apart ↦
                adds.others g apart ∙ h.groups_are g ∙ sym (append-nil (members ms ns g))
                ∙ ap (λ b. members ms ns g ++ cond b (s ∷ []) []) (sym (ne_eqb n g (λ e. apart (sym e))))
                ∙ sym (members_push ms ns s n g same)
          ];
      below = λ k k_in. elim (cases_lt k (length ns)) as (λ _. get_or (ns ++ n ∷ []) k 0 < length new) [
        | inl lt ↦ omega (arith, get_or_append_left ns (n ∷ []) 0 k lt, h.below k lt)
        | inr ge ↦ omega (arith, get_or_push ns n 0 k (omega (arith, length_push ns n)))
      ];
      used = λ g g_in.
          elim (cases_eq g n) as (λ _. (k : ℕ) × (k < length (ns ++ n ∷ [])) × (get_or (ns ++ n ∷ []) k 0 ≡ g)) [
            | inl e ↦ (length ns, omega (arith, length_push ns n), get_or_push ns n 0 (length ns) refl ∙ sym e)
            | inr apart ↦
                let before = h.used g (sizes.2 g g_in apart) in
                (before.0, omega (arith, length_push ns n, before.1), get_or_append_left ns (n ∷ []) 0 before.0 before.1 ∙ before.2)
          ];
    }

pub fitting_none : (a : Architecture) → IsFitting a [] []
fitting_none a = record {
  numbers = [];
  first_fit = record {
    each = refl;
    fits = λ k s got. absurd (let x : None ≡ Some s = got in cc);
    passed = λ k g s got. absurd (let x : None ≡ Some s = got in cc);
    in_turn = λ k g lt. absurd (omega arith);
  };
  counted = λ k d lt. absurd (omega arith);
  groups_are = λ n. refl;
  below = λ k lt. absurd (omega arith);
  used = λ n lt. absurd (omega arith);
}

pub fitting_more : (a : Architecture) (ordered : List Route) (k : ℕ) (r : Route) (old new : List Members) (n : ℕ) → k < length ordered → r ≡ get_or ordered k r →
    IsFitting a (moves (take k ordered)) old → n ≤ length old → Fits a (shifts_at old n) r.shift → ((g : ℕ) → g < n → ¬ Fits a (shifts_at old g) r.shift) →
    All (IsMembers a) new → AddsTo old new n r.shift → IsFitting a (moves (take (k + 1) ordered)) new
fitting_more a ordered k r old new n lt is h le fits passed counted adds =
    let longer : moves (take (k + 1) ordered) ≡ moves (take k ordered) ++ r.shift ∷ [] =
    map_more (λ (x : Route). x.shift) ordered k r lt ∙ ap (λ (x : Route). moves (take k ordered) ++ x.shift ∷ []) (sym is) in
    subst (λ (l : List Shift). IsFitting a l new) (sym longer) (fitting_step a (moves (take k ordered)) old new r.shift n h le fits passed counted adds)

-- a group's moves, as they stand in the list of groups
abbrev moves_of : Members → List Shift
moves_of m = moves m.routes.items

pub shifts_here : (gs : List Members) (n : ℕ) (d : Members) → n < length gs → shifts_at gs n ≡ moves (get_or gs n d).routes.items
shifts_here gs n d lt = get_or-map moves_of gs n d [] lt

pub shifts_past : (gs : List Members) (n : ℕ) → length gs ≤ n → shifts_at gs n ≡ []
shifts_past gs n ge = get_or_past (map moves_of gs) n [] (omega (arith, length-map gs moves_of))

pub set_adds : (gs : List Members) (n : ℕ) (m new : Members) (s : Shift) → n < length gs → m ≡ get_or gs n m → moves new.routes.items ≡ moves m.routes.items ++ s ∷ [] →
    AddsTo gs (set gs n new) n s
set_adds gs n m new s lt is more =
    record {
      here = ap (λ (l : List (List Shift)). get_or l n []) (map-set moves_of gs n new)
          ∙ get_or-set_same (map moves_of gs) n (moves_of new) [] (omega (arith, length-map gs moves_of))
          ∙ more ∙ ap (λ (l : List Shift). l ++ s ∷ []) (ap moves_of is ∙ sym (shifts_here gs n m lt));
      others = λ k apart. ap (λ (l : List (List Shift)). get_or l k []) (map-set moves_of gs n new)
          ∙ get_or-set_other (map moves_of gs) n k (moves_of new) [] apart;
      kept = λ _. length-set gs n new;
      longer = λ e. absurd (omega arith);
    }

pub push_adds : (gs : List Members) (n : ℕ) (new : Members) (s : Shift) → n ≡ length gs → moves new.routes.items ≡ s ∷ [] →
    AddsTo gs (gs ++ new ∷ []) n s
push_adds gs n new s e one =
    let long = length_push gs new in
    record {
      here = shifts_here (gs ++ new ∷ []) n new (omega arith)
          ∙ ap moves_of (get_or_push gs new new n (sym e)) ∙ one
          ∙ ap (λ (l : List Shift). l ++ s ∷ []) (sym (shifts_past gs n (omega arith)));
      others = λ k apart. elim (cases_lt k n) as (λ _. shifts_at (gs ++ new ∷ []) k ≡ shifts_at gs k) [
        | inl lt ↦
            shifts_here (gs ++ new ∷ []) k new (omega arith)
            ∙ ap moves_of (get_or_append_left gs (new ∷ []) new k (omega arith)) ∙ sym (shifts_here gs k new (omega arith))
        | inr ge ↦
            shifts_past (gs ++ new ∷ []) k (omega arith) ∙ sym (shifts_past gs k (omega arith))
      ];
      kept = λ lt. absurd (omega arith);
      longer = λ _. long;
    }
