-- What is left of the bodies that are being performed.
use Rattle.std.proofs.Common.{◌≡◌, ℕ, zero, suc, ◌+◌, ◌<◌, ◌≤◌, List, [], ◌∷◌, ◌++◌, length, get_or, take, drop, Option, Some, inl, inr, refl, sym as flip, ◌∙◌, ap, subst, arith, add-one}
use Rattle.std.specs.Prelude.{map, zip, reverse}
use Rattle.std.specs.List.{AllByRecursion, slice_get}
use Rattle.std.proofs.lemmas.List.{length-reverse}
use Rattle.std.proofs.lemmas.Option.{slice_get_read}
use Rattle.qasm_form.specs.declared.stmt.Node.{Node}
use Rattle.qasm_names.specs.declared.gate.Bound.{Bound}
use Rattle.qasm_names.specs.declared.gate.GateDef.{GateDef}
use Rattle.qasm_names.specs.declared.gate.Target.{Target}
use Rattle.qasm_names.specs.declared.gate.Target.TheVariants as target
use Rattle.qasm_expand.specs.declared.walk.Walk.{Walk}
use Rattle.qasm_expand.specs.declared.frame.Frame.{Frame}
use Rattle.qasm_expand.specs.declared.fault.ExpandFault.{ExpandFault}
use Rattle.qasm_expand.specs.Faults.{IsFault}
use Rattle.qasm_expand.specs.Limits.{passed_by_calls}
use Rattle.qasm_expand.specs.Calls.{Visit, opened, within}
use Rattle.qasm_expand.specs.Items.{Item}
use Rattle.qasm_expand.specs.Items.Item.{Applied}
use Rattle.qasm_expand.specs.Replacing.{inner, body_call, body_of}
use Rattle.qasm_expand.specs.Walks.{AreFit, OpensFrame, Steps, VisitsCall, VisitsFirst, angles_in, behind_call, call_of, pending, rest_of}
use Rattle.qasm_form.specs.declared.stmt.Expr.{Expr}
use Rattle.qasm_expand.specs.AngleNodes.{HasNoNames, IsExprOver}
use Rattle.qasm_names.specs.Bound.{IsWellBound}
use Rattle.qasm_expand.specs.Fit.{IsFit, Suits}
use Rattle.qasm_expand.specs.Top.{HaveShortNumbers}
use Rattle.qasm_expand.proofs.BodyLemmas.{BodyCall, body_call_at}
use Rattle.qasm_expand.proofs.AngleNodesLemmas.{angles_closed}

some_same : {X : Type 0} {x y : X} → Some x ≡ Some y → x ≡ y
some_same e = cc

pub drop_first : {X : Type 0} (xs : List X) (i : ℕ) (x : X) → slice_get xs i ≡ Some x → drop i xs ≡ x ∷ drop (suc i) xs
drop_first [] i x h = absurd (cc)
drop_first (y ∷ ys) zero x h = ap (λ z. z ∷ ys) (some_same h)
drop_first (y ∷ ys) (suc i) x h = drop_first ys i x h

pub drop_none : {X : Type 0} (xs : List X) (i : ℕ) → length xs ≤ i → drop i xs ≡ []
drop_none [] zero h = refl
drop_none [] (suc i) h = refl
drop_none (y ∷ ys) zero h = absurd (omega (arith, h))
drop_none (y ∷ ys) (suc i) h = drop_none ys i (omega (arith, h))

pub get_map : {X Y : Type 0} (f : X → Y) (xs : List X) (i : ℕ) (x : X) → slice_get xs i ≡ Some x → slice_get (map f xs) i ≡ Some (f x)
get_map f [] i x h = absurd (cc)
get_map f (y ∷ ys) zero x h = ap (λ z. Some (f z)) (some_same h)
get_map f (y ∷ ys) (suc i) x h = get_map f ys i x h

pub length_map : {X Y : Type 0} (f : X → Y) (xs : List X) → length (map f xs) ≡ length xs
length_map f [] = refl
length_map f (x ∷ xs) = ap suc (length_map f xs)

pub gate_at : (gates : List GateDef) (place m n : ℕ) (g : GateDef) → Suits gates (target.Gate place) m n → slice_get gates place ≡ Some g → (m ≡ length g.params) × (n ≡ g.args)
gate_at gates place m n g h k =
    let same : h.1 ≡ g = some_same (flip h.2 ∙ k) in
    (h.3 ∙ ap (λ (x : GateDef). length x.params) same, h.4 ∙ ap (λ (x : GateDef). x.args) same)

-- the first call that is left of a body, and those behind it
pub rest_first : (gates : List GateDef) (below : ℕ) (f : Frame) (g : GateDef) (b : Bound) → slice_get gates f.place ≡ Some g → slice_get g.body f.next ≡ Some b → rest_of gates below f ≡ record { depth = suc (suc below); item = body_call (zip g.params f.angles) f.qubits.items b } ∷ rest_of gates below (behind_call f)
rest_first gates below f g b is call =
    let open_of : Option GateDef → List Visit = λ o. opened o (suc below) f.angles f.qubits.items in
    let at : Item → Visit = λ i. record { depth = suc (suc below); item = i } in
    let found : slice_get (open_of (Some g)) f.next ≡ Some (at (body_call (zip g.params f.angles) f.qubits.items b)) = get_map at (body_of g f.angles f.qubits.items) f.next _ (get_map (body_call (zip g.params f.angles) f.qubits.items) g.body f.next b call) in
    ap (λ o. drop f.next (open_of o)) is ∙ drop_first (open_of (Some g)) f.next _ found ∙ ap (λ (n : ℕ). at (body_call (zip g.params f.angles) f.qubits.items b) ∷ drop n (open_of (Some g))) (flip (add-one f.next)) ∙ ap (λ o. at (body_call (zip g.params f.angles) f.qubits.items b) ∷ drop (f.next + 1) (open_of o)) (flip is)

-- nothing is left
pub rest_none : (gates : List GateDef) (below : ℕ) (f : Frame) (g : GateDef) → slice_get gates f.place ≡ Some g → length g.body ≤ f.next → rest_of gates below f ≡ []
rest_none gates below f g is all =
    let open_of : Option GateDef → List Visit = λ o. opened o (suc below) f.angles f.qubits.items in
    let at : Item → Visit = λ i. record { depth = suc (suc below); item = i } in
    let many : length (open_of (Some g)) ≡ length g.body = length_map at (body_of g f.angles f.qubits.items) ∙ length_map (body_call (zip g.params f.angles) f.qubits.items) g.body in
    ap (λ o. drop f.next (open_of o)) is ∙ drop_none (open_of (Some g)) f.next (omega (arith, many, all))

-- a call's own body comes first
pub pending_opens : (gates : List GateDef) (t : Target) (angles : List (List Node)) (qubits : List ℕ) (before after : List Frame) → OpensFrame before t angles qubits after → pending gates after ≡ within gates (suc (length before)) (inner t angles qubits) ++ pending gates before
pending_opens gates (target.Gate place) angles qubits before after (f, p, n, a, q, e) =
    let d = suc (length before) in
    ap (pending gates) e ∙ ap (λ (i : ℕ). drop i (opened (slice_get gates f.place) d f.angles f.qubits.items) ++ pending gates before) n ∙ ap (λ (i : ℕ). opened (slice_get gates i) d f.angles f.qubits.items ++ pending gates before) p ∙ ap (λ x. opened (slice_get gates place) d x f.qubits.items ++ pending gates before) a ∙ ap (λ x. opened (slice_get gates place) d angles x ++ pending gates before) q
pending_opens gates target.U angles qubits before after h = ap (pending gates) h
pending_opens gates target.Cx angles qubits before after h = ap (pending gates) h
pending_opens gates target.Cz angles qubits before after h = ap (pending gates) h
pending_opens gates target.Barrier angles qubits before after h = ap (pending gates) h

pub opens_length : (t : Target) (angles : List (List Node)) (qubits : List ℕ) (before after : List Frame) → OpensFrame before t angles qubits after → length after ≤ suc (length before)
opens_length (target.Gate place) angles qubits before after (f, p, n, a, q, e) = omega (arith, ap (λ fs. length fs) e)
opens_length target.U angles qubits before after h = omega (arith, ap (λ fs. length fs) h)
opens_length target.Cx angles qubits before after h = omega (arith, ap (λ fs. length fs) h)
opens_length target.Cz angles qubits before after h = omega (arith, ap (λ fs. length fs) h)
opens_length target.Barrier angles qubits before after h = omega (arith, ap (λ fs. length fs) h)

pub opens_fit : (gates : List GateDef) (t : Target) (angles : List (List Node)) (qubits : List ℕ) (before after : List Frame) → OpensFrame before t angles qubits after → AreFit gates before → AllByRecursion HasNoNames angles → Suits gates t (length angles) (length qubits) → AreFit gates after
opens_fit gates (target.Gate place) angles qubits before after (f, p, n, a, q, e) fit closed suits =
    let same : Applied (target.Gate place) angles qubits ≡ call_of f = ap (λ (i : ℕ). Applied (target.Gate i) angles qubits) (flip p) ∙ ap (λ x. Applied (target.Gate f.place) x qubits) (flip a) ∙ ap (λ x. Applied (target.Gate f.place) f.angles x) (flip q) in
    subst (AreFit gates) (flip e) (subst (IsFit gates) same (closed, suits), fit)
opens_fit gates target.U angles qubits before after h fit closed suits = subst (AreFit gates) (flip h) fit
opens_fit gates target.Cx angles qubits before after h fit closed suits = subst (AreFit gates) (flip h) fit
opens_fit gates target.Cz angles qubits before after h fit closed suits = subst (AreFit gates) (flip h) fit
opens_fit gates target.Barrier angles qubits before after h fit closed suits = subst (AreFit gates) (flip h) fit

pub inner_fit : (gates : List GateDef) (t : Target) (angles : List (List Node)) (qubits : List ℕ) → AllByRecursion HasNoNames angles → Suits gates t (length angles) (length qubits) → IsFit gates (inner t angles qubits)
inner_fit gates target.Barrier angles qubits closed suits = tt
inner_fit gates (target.Gate place) angles qubits closed suits = (closed, suits)
inner_fit gates target.U angles qubits closed suits = (closed, suits)
inner_fit gates target.Cx angles qubits closed suits = (closed, suits)
inner_fit gates target.Cz angles qubits closed suits = (closed, suits)

-- a step that visits a call
module _ (gates : List GateDef) (bound : (place : ℕ) → IsWellBound gates place) (short : HaveShortNumbers gates) (old new : Walk) (f : Frame) (others after : List Frame) (g : GateDef) (b : Bound) (fit : AreFit gates (f ∷ others)) (is : slice_get gates f.place ≡ Some g) (call : slice_get g.body f.next ≡ Some b) where
  of_gate : (length f.angles ≡ length g.params) × (length f.qubits.items ≡ g.args)
  of_gate = gate_at gates f.place _ _ g fit.0.1 is

  of_call : BodyCall gates g b
  of_call = body_call_at gates f.place g f.next b bound short is call

  pub call_over : AllByRecursion (λ (e : Expr). IsExprOver g.params e) b.exprs
  call_over = of_call.over

  pub call_below : AllByRecursion (λ i. i < length f.qubits.items) b.args
  call_below = subst (λ n. AllByRecursion (λ i. i < n) b.args) (flip of_gate.1) of_call.below

  pub call_closed : AllByRecursion HasNoNames (angles_in g.params f.angles b.exprs)
  call_closed = angles_closed g.params f.angles b.exprs of_gate.0 fit.0.0 of_call.over

  pub call_suits : Suits gates b.target (length (angles_in g.params f.angles b.exprs)) (length (map (λ i. get_or f.qubits.items i 0) b.args))
  call_suits =
      subst (λ n. Suits gates b.target n (length (map (λ i. get_or f.qubits.items i 0) b.args))) (flip (length_map _ b.exprs)) (subst (Suits gates b.target (length b.exprs)) (flip (length_map _ b.args)) of_call.suits)

  pub step_visits : (d : ℕ) → d ≡ suc (suc (length others)) → OpensFrame (behind_call f ∷ others) b.target (angles_in g.params f.angles b.exprs) (map (λ i. get_or f.qubits.items i 0) b.args) after → VisitsCall old new (record { depth = d; item = body_call (zip g.params f.angles) f.qubits.items b }) → Steps gates old new (f ∷ others) after
  step_visits d same opens visits =
      let angles = angles_in g.params f.angles b.exprs in
      let qubits = map (λ i. get_or f.qubits.items i 0) b.args in
      let item = body_call (zip g.params f.angles) f.qubits.items b in
      let v : VisitsCall old new (record { depth = suc (suc (length others)); item = item }) = subst (λ (n : ℕ). VisitsCall old new (record { depth = n; item = item })) same visits in
      let behind = pending gates (behind_call f ∷ others) in
      let first : VisitsFirst gates old new (pending gates (f ∷ others)) (pending gates after) = record {
        visit = record { depth = suc (suc (length others)); item = item };
        others = behind;
        first = ap (λ xs. xs ++ pending gates others) (rest_first gates (length others) f g b is call);
        opens = pending_opens gates b.target angles qubits (behind_call f ∷ others) after opens;
        fit = inner_fit gates b.target angles qubits call_closed call_suits;
        visits = v;
      } in
      record {
        fit = opens_fit gates b.target angles qubits (behind_call f ∷ others) after opens fit call_closed call_suits;
        less = omega (arith, visits.counted, opens_length b.target angles qubits (behind_call f ∷ others) after opens);
        goes = inr first;
      }

-- a step that leaves a body
pub step_leaves : (gates : List GateDef) (walk : Walk) (f : Frame) (others : List Frame) (g : GateDef) → AreFit gates (f ∷ others) → slice_get gates f.place ≡ Some g → length g.body ≤ f.next → Steps gates walk walk (f ∷ others) others
step_leaves gates walk f others g fit is all = record {
  fit = fit.1;
  less = omega arith;
  goes = inl (ap (λ xs. xs ++ pending gates others) (rest_none gates (length others) f g is all), refl);
}

-- the gate of a call that is fit
pub gate_read : (gates : List GateDef) (f : Frame) (g : GateDef) → IsFit gates (call_of f) → g ≡ get_or gates f.place g → slice_get gates f.place ≡ Some g
gate_read gates f g fit is =
    slice_get_read gates (length gates) f.place g refl fit.1.0 is

pub call_read : (g : GateDef) (body : List Bound) (i : ℕ) (b : Bound) → body ≡ g.body → i < length body → b ≡ get_or body i b → slice_get g.body i ≡ Some b
call_read g body i b same lt is =
    subst (λ (bs : List Bound). slice_get bs i ≡ Some b) same (slice_get_read body (length body) i b refl lt is)

-- the first call passes a limit
pub step_fails : (gates : List GateDef) (old : Walk) (f : Frame) (others : List Frame) (g : GateDef) (b : Bound) (d : ℕ) (e : ExpandFault) → slice_get gates f.place ≡ Some g → slice_get g.body f.next ≡ Some b → d ≡ suc (suc (length others)) → IsFault (passed_by_calls old.calls old.nodes (record { depth = d; item = body_call (zip g.params f.angles) f.qubits.items b } ∷ [])) e → IsFault (passed_by_calls old.calls old.nodes (take 1 (pending gates (f ∷ others)))) e
step_fails gates old f others g b d e is call same h =
    let item = body_call (zip g.params f.angles) f.qubits.items b in
    let first : take 1 (pending gates (f ∷ others)) ≡ record { depth = suc (suc (length others)); item = item } ∷ [] = ap (λ xs. take 1 (xs ++ pending gates others)) (rest_first gates (length others) f g b is call) in
    subst (λ xs. IsFault (passed_by_calls old.calls old.nodes xs) e) (flip first) (subst (λ (n : ℕ). IsFault (passed_by_calls old.calls old.nodes (record { depth = n; item = item } ∷ [])) e) same h)

-- the number of frames does not depend on their order
pub depth_of_frames : (frames : List Frame) → length frames + 2 ≡ suc (suc (length (reverse frames)))
depth_of_frames frames = omega (arith, length-reverse frames)
