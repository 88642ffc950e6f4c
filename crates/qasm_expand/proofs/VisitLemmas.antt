-- VisitsInOrder, one behind the other; and what two visits of the same calls have in common.
use Rattle.std.proofs.Common.{◌≡◌, List, [], ◌∷◌, ◌++◌, ◌⊎◌, inl, inr, refl, ap, subst, append_assoc}
use Rattle.qasm_names.specs.declared.gate.GateDef.{GateDef}
use Rattle.qasm_expand.specs.Calls.{Visit, VisitsInOrder, none, next, within}

-- calls that wait behind are left
pub visits_before : {gates : List GateDef} {xs visited left : List Visit} (more : List Visit) → VisitsInOrder gates xs visited left → VisitsInOrder gates (xs ++ more) visited (left ++ more)
visits_before more none = none
visits_before {gates} more (next {v} {pending} {visited} {left} h) =
    next (subst (λ p. VisitsInOrder gates p visited (left ++ more)) (append_assoc (within gates v.depth v.item) pending more) (visits_before more h))

pub visits_then : {gates : List GateDef} {xs visited left others last : List Visit} → VisitsInOrder gates xs visited left → VisitsInOrder gates left others last → VisitsInOrder gates xs (visited ++ others) last
visits_then none k = k
visits_then (next h) k = next (visits_then h k)

-- of two visits of the same calls one goes on where the other stops
pub record GoesOn (gates : List GateDef) (visited left others last : List Visit) : Type 0 where
  pub more : List Visit
  pub is : others ≡ visited ++ more
  pub visits : VisitsInOrder gates left more last

goes_on_next : {gates : List GateDef} {visited left others last : List Visit} (v : Visit) → GoesOn gates visited left others last → GoesOn gates (v ∷ visited) left (v ∷ others) last
goes_on_next v g = record { more = g.more; is = ap (λ xs. v ∷ xs) g.is; visits = g.visits }

pub visits_compare : {gates : List GateDef} {xs visited left others last : List Visit} → VisitsInOrder gates xs visited left → VisitsInOrder gates xs others last → GoesOn gates visited left others last ⊎ GoesOn gates others last visited left
visits_compare none k = inl (record { more = _; is = refl; visits = k })
visits_compare (next {v} h) none = inr (record { more = _; is = refl; visits = next h })
visits_compare (next {v} h) (next k) = either v (visits_compare h k)
  where
    either : {gates : List GateDef} {visited left others last : List Visit} (v : Visit) → GoesOn gates visited left others last ⊎ GoesOn gates others last visited left → GoesOn gates (v ∷ visited) left (v ∷ others) last ⊎ GoesOn gates (v ∷ others) last (v ∷ visited) left
    either v (inl g) = inl (goes_on_next v g)
    either v (inr g) = inr (goes_on_next v g)

-- behind a visit of all calls nothing comes
pub visits_end : {gates : List GateDef} {visited left : List Visit} → VisitsInOrder gates [] visited left → visited ≡ []
visits_end none = refl
