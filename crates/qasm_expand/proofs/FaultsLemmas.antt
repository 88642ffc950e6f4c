-- The first of several limits that a fault tells.
use Rattle.std.proofs.Common.{◌≡◌, Option, Some, None, refl, ◌∙◌, ap}
use Rattle.std.specs.Option.{option_or}
use Rattle.qasm_expand.specs.declared.fault.ExpandFault.{ExpandFault}
use Rattle.qasm_expand.specs.declared.fault.ExpandFault.TheVariants as fault
use Rattle.qasm_expand.specs.Faults.{IsLimit, IsFault}
use Rattle.qasm_expand.specs.Limits.{Passed}

pub fault_of_limit : (o : Option Passed) (e : ExpandFault) → IsLimit o e → IsFault o e
fault_of_limit o (fault.Limit kind count) h = h
fault_of_limit o fault.Memory h = tt

pub fault_first : (o p : Option Passed) (e : ExpandFault) → IsFault o e → IsFault (option_or o p) e
fault_first o p (fault.Limit kind count) h = ap (λ x. option_or x p) h
fault_first o p fault.Memory h = tt

pub fault_second : (o p : Option Passed) (e : ExpandFault) → o ≡ None → IsFault p e → IsFault (option_or o p) e
fault_second o p (fault.Limit kind count) none h = ap (λ x. option_or x p) none ∙ h
fault_second o p fault.Memory none h = tt

pub fault_same : (o p : Option Passed) (e : ExpandFault) → o ≡ p → IsFault p e → IsFault o e
fault_same o p (fault.Limit kind count) same h = same ∙ h
fault_same o p fault.Memory same h = tt

pub fault_memory : (o : Option Passed) (e : ExpandFault) → e ≡ fault.Memory → IsFault o e
fault_memory o (fault.Limit kind count) h = absurd (cc)
fault_memory o fault.Memory h = tt

pub or_none : (o p : Option Passed) → o ≡ None → option_or o p ≡ p
or_none o p h = ap (λ x. option_or x p) h

pub or_both : (o p : Option Passed) → o ≡ None → p ≡ None → option_or o p ≡ None
or_both o p h k = or_none o p h ∙ k

pub or_left_none : (o p : Option Passed) → option_or o p ≡ None → o ≡ None
or_left_none None p h = refl
or_left_none (Some x) p h = absurd (cc)

pub or_right_none : (o p : Option Passed) → option_or o p ≡ None → p ≡ None
or_right_none None p h = h
or_right_none (Some x) p h = absurd (cc)

pub or_assoc : (o p q : Option Passed) → option_or (option_or o p) q ≡ option_or o (option_or p q)
or_assoc None p q = refl
or_assoc (Some x) p q = refl

pub or_nothing : (o : Option Passed) → option_or o None ≡ o
or_nothing None = refl
or_nothing (Some x) = refl
