-- What one more gate does to the places and to the edges.
use Rattle.std.proofs.Common.{◌≡◌, ◌≢◌, ℕ, ◌+◌, ◌<◌, ◌⊎◌, inl, inr, ⊎_elim, List, [], ◌∷◌, ◌++◌, Option, Some, None, length, get_or, refl, sym, ap, ◌∙◌, subst, arith, MatchOption}
use Rattle.std.specs.List.{All, Contains, slice_get}
use Rattle.std.proofs.lemmas.Bool.{cases_eq}
use Rattle.std.proofs.lemmas.List.Elements.{All-nil, All-push, All-same, All-weaker, Contains-append_left, Contains-push}
use Rattle.std.proofs.lemmas.Option.{same_Some}
use Rattle.zac_gates.specs.declared.circuit.Op.{Op}
use Rattle.zac_gates.specs.declared.circuit.Op.TheVariants.{Two}
use Rattle.zac_gates.specs.Ops.{Names}
use Rattle.zac_reuse.specs.Sharing.{IsOn, IsPulse, ArePlaces, IsShared, AreShared}

-- a pair is on its two qubits, and on no other
pub on_first : (ops : List Op) (pulse : List ℕ) (n a b : ℕ) → n < length pulse → slice_get ops (get_or pulse n 0) ≡ Some (Two a b) → IsOn ops pulse a n
on_first ops pulse n a b within is = record { within = within; op = Two a b; op_is = is; names = inl refl }

pub on_second : (ops : List Op) (pulse : List ℕ) (n a b : ℕ) → n < length pulse → slice_get ops (get_or pulse n 0) ≡ Some (Two a b) → IsOn ops pulse b n
on_second ops pulse n a b within is = record { within = within; op = Two a b; op_is = is; names = inr refl }

pub named : (ops : List Op) (pulse : List ℕ) (n a b q : ℕ) → slice_get ops (get_or pulse n 0) ≡ Some (Two a b) → IsOn ops pulse q n → (a ≡ q) ⊎ (b ≡ q)
named ops pulse n a b q is on =
    subst (λ (op : Op). Names op q) (same_Some on.op (Two a b) (sym on.op_is ∙ is)) on.names

-- nothing is found of the first 0 places
pub ArePlaces-none : (ops : List Op) (pulse : List ℕ) (found : ℕ → Option ℕ) → ((q : ℕ) → found q ≡ None) → ArePlaces ops pulse found 0
ArePlaces-none ops pulse found none =
    record { sound = λ q i is. absurd (let e : None ≡ Some i = sym (none q) ∙ is in cc); complete = λ q i on lt. absurd (omega arith) }

module _ (ops : List Op) (pulse : List ℕ) (old new : ℕ → Option ℕ) (n a b : ℕ) (right : IsPulse ops pulse) (within : n < length pulse) (is : slice_get ops (get_or pulse n 0) ≡ Some (Two a b)) (at_a : new a ≡ Some n) (at_b : new b ≡ Some n) (others : (q : ℕ) → q ≢ a → q ≢ b → new q ≡ old q) (places : ArePlaces ops pulse old n) where
  -- a qubit is one of the pair's, or another
  which : (q : ℕ) → (IsOn ops pulse q n × (new q ≡ Some n)) ⊎ (new q ≡ old q)
  which q =
      ⊎_elim
      (λ (e : q ≡ a). inl (subst (λ (x : ℕ). IsOn ops pulse x n × (new x ≡ Some n)) (sym e) (on_first ops pulse n a b within is, at_a)))
      (λ (d : q ≢ a). ⊎_elim
      (λ (e : q ≡ b). inl (subst (λ (x : ℕ). IsOn ops pulse x n × (new x ≡ Some n)) (sym e) (on_second ops pulse n a b within is, at_b)))
      (λ (e : q ≢ b). inr (others q d e))
      (cases_eq q b))
      (cases_eq q a)

  sound : (q i : ℕ) → new q ≡ Some i → IsOn ops pulse q i × (i < n + 1)
  sound q i e =
      ⊎_elim
      (λ here. let same : n ≡ i = same_Some n i (sym here.1 ∙ e) in (subst (λ (x : ℕ). IsOn ops pulse q x) same here.0, omega arith))
      (λ same. let was = places.sound q i (sym same ∙ e) in (was.0, omega (arith, was.1)))
      (which q)

  here : (q : ℕ) → IsOn ops pulse q n → new q ≡ Some n
  here q on =
      ⊎_elim
      (λ (e : a ≡ q). ap new (sym e) ∙ at_a)
      (λ (e : b ≡ q). ap new (sym e) ∙ at_b)
      (named ops pulse n a b q is on)

  complete : (q i : ℕ) → IsOn ops pulse q i → i < n + 1 → new q ≡ Some i
  complete q i on lt =
      ⊎_elim
      (λ (e : i ≡ n). here q (subst (λ (x : ℕ). IsOn ops pulse q x) e on) ∙ ap Some (sym e))
      (λ (d : i ≢ n). ⊎_elim
      (λ here. absurd (d (right.apart q i n on here.0)))
      (λ same. same ∙ places.complete q i on (omega arith))
      (which q))
      (cases_eq i n)

  -- the place of one more pair is noted
  pub ArePlaces-note : ArePlaces ops pulse new (n + 1)
  ArePlaces-note = record { sound = sound; complete = complete }

-- the edge to a place from what was found, if anything
abbrev pub Links : Option ℕ → ℕ → List (ℕ × ℕ) → List (ℕ × ℕ) → Type 0
Links found n old new = MatchOption found (new ≡ old) (λ i. new ≡ old ++ (i, n) ∷ [])

pub Links-keeps : (found : Option ℕ) (n : ℕ) (old new : List (ℕ × ℕ)) (e : ℕ × ℕ) → Links found n old new → Contains old e → Contains new e
Links-keeps None n old new e links c = subst (λ (l : List (ℕ × ℕ)). Contains l e) (sym links) c
Links-keeps (Some i) n old new e links c = subst (λ (l : List (ℕ × ℕ)). Contains l e) (sym links) (Contains-append_left old ((i, n) ∷ []) e c)

pub Links-adds : (found : Option ℕ) (n i : ℕ) (old new : List (ℕ × ℕ)) → Links found n old new → found ≡ Some i → Contains new (i, n)
Links-adds None n i old new links is = absurd (cc)
Links-adds (Some j) n i old new links is =
    let same : j ≡ i = same_Some j i is in
    subst (λ (l : List (ℕ × ℕ)). Contains l (i, n)) (sym (links ∙ ap (λ (x : ℕ). old ++ (x, n) ∷ []) same)) (Contains-push old (i, n))

pub Links-sound : (P : ℕ × ℕ → Type 0) (found : Option ℕ) (n : ℕ) (old new : List (ℕ × ℕ)) → Links found n old new → All P old → ((i : ℕ) → found ≡ Some i → P (i, n)) → All P new
Links-sound P None n old new links all one = All-same P new old links all
Links-sound P (Some i) n old new links all one = All-same P new (old ++ (i, n) ∷ []) links (All-push P old (i, n) all (one i refl))

-- no edge leads to the first 0 places
pub AreShared-none : (ops : List Op) (first second : List ℕ) → AreShared ops first second [] 0
AreShared-none ops first second = record { sound = All-nil _; complete = λ i j s lt. absurd (omega arith) }

module _ (ops : List Op) (first second : List ℕ) (found : ℕ → Option ℕ) (old mid new : List (ℕ × ℕ)) (n a b : ℕ) (places : ArePlaces ops first found (length first)) (within : n < length second) (is : slice_get ops (get_or second n 0) ≡ Some (Two a b)) (links_a : Links (found a) n old mid) (links_b : Links (found b) n mid new) (edges : AreShared ops first second old n) where
  Sound : ℕ × ℕ → Type 0
  Sound e = IsShared ops first second e.0 e.1 × (e.1 < n + 1)

  wide : All Sound old
  unfolding Sound
  wide = All-weaker (λ e. IsShared ops first second e.0 e.1 × (e.1 < n)) (λ e. IsShared ops first second e.0 e.1 × (e.1 < n + 1)) (λ e s. (s.0, omega (arith, s.1))) old edges.sound

  joined : (q i : ℕ) → IsOn ops second q n → found q ≡ Some i → Sound (i, n)
  unfolding Sound
  joined q i on at = ((q, (places.sound q i at).0, on), omega arith)

  all : All Sound new
  all =
      Links-sound Sound (found b) n mid new links_b
      (Links-sound Sound (found a) n old mid links_a wide (λ i at. joined a i (on_first ops second n a b within is) at))
      (λ i at. joined b i (on_second ops second n a b within is) at)

  each : (i j : ℕ) → IsShared ops first second i j → j < n + 1 → Contains new (i, j)
  each i j s lt =
      ⊎_elim
      (λ (e : j ≡ n).
      let q = s.0 in
      let at : found q ≡ Some i = places.complete q i s.1 s.1.within in
      let to_n : Contains new (i, n) = ⊎_elim
      (λ (is_a : a ≡ q). Links-keeps (found b) n mid new (i, n) links_b (Links-adds (found a) n i old mid links_a (ap found is_a ∙ at)))
      (λ (is_b : b ≡ q). Links-adds (found b) n i mid new links_b (ap found is_b ∙ at))
      (named ops second n a b q is (subst (λ (x : ℕ). IsOn ops second q x) e s.2)) in
      subst (λ (x : ℕ). Contains new (i, x)) (sym e) to_n)
      (λ (d : j ≢ n). Links-keeps (found b) n mid new (i, j) links_b (Links-keeps (found a) n old mid (i, j) links_a (edges.complete i j s (omega arith))))
      (cases_eq j n)

  -- the edges to one more place are added
  pub AreShared-more : AreShared ops first second new (n + 1)
  unfolding Sound
  AreShared-more = record { sound = all; complete = each }
