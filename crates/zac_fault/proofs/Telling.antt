-- Parts that are written one behind the other.
use Rattle.std.proofs.Common.{◌≡◌, ℕ, suc, ◌+◌, ◌<◌, List, [], ◌∷◌, ◌++◌, map, drop, get_or, length, sym, ap, ◌∙◌, subst, append_assoc, drop-cons, arith, Option}
use Rattle.std.proofs.lemmas.Grind.{flat_map-append}
use Rattle.zac_io.specs.Outside.{Appends, AppendsPrefix, WritesAddUp}
use Rattle.zair_text.specs.Lines.{joined}
use Rattle.zac_fault.specs.Parts.{part_bytes}
use Rattle.zac_fault.specs.declared.part.Part.{Part}

module _ (law : WritesAddUp) (parts : List Part) (k : ℕ) (d : Part) (less : k < length parts) (said : List ℕ) (is : said ++ joined (map part_bytes (drop k parts)) ≡ joined (map part_bytes parts)) where
  next : drop k parts ≡ get_or parts k d ∷ drop (k + 1) parts
  next = let after : suc k ≡ k + 1 = omega arith in drop-cons parts k d less ∙ ap (λ (n : ℕ). get_or parts k d ∷ drop n parts) after

  -- all of them are what was said, the next part and the rest
  all : said ++ (part_bytes (get_or parts k d) ++ joined (map part_bytes (drop (k + 1) parts))) ≡ joined (map part_bytes parts)
  all = ap (λ (l : List Part). said ++ joined (map part_bytes l)) (sym next) ∙ is

  pub said_more : (w a b : Option (List ℕ)) → Appends w a said → Appends a b (part_bytes (get_or parts k d)) →
      (more : List ℕ) × (more ++ joined (map part_bytes (drop (k + 1) parts)) ≡ joined (map part_bytes parts)) × Appends w b more
  said_more w a b h i = (
    said ++ part_bytes (get_or parts k d),
    append_assoc said (part_bytes (get_or parts k d)) (joined (map part_bytes (drop (k + 1) parts))) ∙ all,
    law.both w a b said (part_bytes (get_or parts k d)) h i,
  )

  pub said_in_part : (w a b : Option (List ℕ)) → Appends w a said → AppendsPrefix a b (part_bytes (get_or parts k d)) → AppendsPrefix w b (joined (map part_bytes parts))
  said_in_part w a b h i =
      subst (λ (l : List ℕ). AppendsPrefix w b l) all
      (law.behind w a b said (part_bytes (get_or parts k d) ++ joined (map part_bytes (drop (k + 1) parts))) h
      (law.front a b (part_bytes (get_or parts k d)) (joined (map part_bytes (drop (k + 1) parts))) i))

-- Writing parts, then others, and then a last text.
module _ (law : WritesAddUp) (lead detail : List (List ℕ)) (last : List ℕ) where
  apart : joined (lead ++ (detail ++ last ∷ [])) ≡ joined lead ++ (joined detail ++ joined (last ∷ []))
  apart = flat_map-append (λ (bytes : List ℕ). bytes) lead (detail ++ last ∷ []) ∙ ap (λ (l : List ℕ). joined lead ++ l) (flat_map-append (λ (bytes : List ℕ). bytes) detail (last ∷ []))

  -- the second failed
  pub failed_second : (old between new : Option (List ℕ)) → Appends old between (joined lead) → AppendsPrefix between new (joined detail) →
      AppendsPrefix old new (joined (lead ++ (detail ++ last ∷ [])))
  failed_second old between new h i =
      subst (λ (l : List ℕ). AppendsPrefix old new l) (sym apart)
      (law.behind old between new (joined lead) (joined detail ++ joined (last ∷ [])) h
      (law.front between new (joined detail) (joined (last ∷ [])) i))
