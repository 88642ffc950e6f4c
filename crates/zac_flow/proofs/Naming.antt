-- Words name one command, or none.
use Rattle.std.proofs.Common.{◌≡◌, ℕ, zero, suc, ◌<◌, ◌≤◌, ◌⊎◌, inl, inr, Bool, true, false, List, [], ◌∷◌, Option, None, Some, codes, decimal, refl, sym, subst, ◌∙◌, arith}
use Rattle.std.specs.Bool.{Decides}
use Rattle.std.specs.Str.{bytes_eq}
use Rattle.std.proofs.lemmas.Fmt.{decimal_injective}
use Rattle.std.proofs.lemmas.Slice.Eq.{bytes_eq-Decides}
use Rattle.zac_flow.specs.Words.{Command, Compile, Report, Replay, Make, Drill, AreInRange, IsCommand, Name}

-- the second and the third word of two lists that are the same
seconds : (a b c d e f : List ℕ) → a ∷ b ∷ c ∷ [] ≡ d ∷ e ∷ f ∷ [] → (b ≡ e) × (c ≡ f)
seconds a b c d e f same = ((cc), (cc))

firsts : (a b c d e f : List ℕ) → a ∷ b ∷ c ∷ [] ≡ d ∷ e ∷ f ∷ [] → a ≡ d
firsts a b c d e f same = cc

-- the first word of a command
abbrev first_word : Command → List ℕ
first_word (Compile card source) = codes "compile"
first_word (Report card source) = codes "report"
first_word (Replay card source zair) = codes "replay"
first_word (Make n k) = codes "make"
first_word (Drill n k) = codes "drill"

-- the words behind it
abbrev later_words : Command → List (List ℕ)
later_words (Compile card source) = card ∷ source ∷ []
later_words (Report card source) = card ∷ source ∷ []
later_words (Replay card source zair) = card ∷ source ∷ zair ∷ []
later_words (Make n k) = decimal n ∷ decimal k ∷ []
later_words (Drill n k) = decimal n ∷ decimal k ∷ []

-- the words of a command are these
spelled : (words : List (List ℕ)) (c : Command) → IsCommand words c → words ≡ first_word c ∷ later_words c
spelled words (Compile card source) is = is
spelled words (Report card source) is = is
spelled words (Replay card source zair) is = is
spelled words (Make n k) is = is.0
spelled words (Drill n k) is = is.0

heads : (a b : List ℕ) (left right : List (List ℕ)) → a ∷ left ≡ b ∷ right → (a ≡ b) × (left ≡ right)
heads a b left right same = ((cc), (cc))

pairs : (b c e f : List ℕ) → b ∷ c ∷ [] ≡ e ∷ f ∷ [] → (b ≡ e) × (c ≡ f)
pairs b c e f same = ((cc), (cc))

triples : (b c d e f g : List ℕ) → b ∷ c ∷ d ∷ [] ≡ e ∷ f ∷ g ∷ [] → (b ≡ e) × (c ≡ f) × (d ≡ g)
triples b c d e f g same = ((cc), (cc), (cc))

-- numbers in range with the same digits
same_numbers : (n k m l : ℕ) → AreInRange n k → AreInRange m l → decimal n ∷ decimal k ∷ [] ≡ decimal m ∷ decimal l ∷ [] → (n ≡ m) × (k ≡ l)
same_numbers n k m l left right same =
    let e = pairs (decimal n) (decimal k) (decimal m) (decimal l) same in
    (decimal_injective n m (omega (arith, left.most)) (omega (arith, right.most)) e.0, decimal_injective k l (omega (arith, left.few)) (omega (arith, right.few)) e.1)

-- words are those of one command
one_command : (words : List (List ℕ)) (c d : Command) → IsCommand words c → IsCommand words d → c ≡ d
one_command words c d left right = same c d left right (heads (first_word c) (first_word d) (later_words c) (later_words d) (sym (spelled words c left) ∙ spelled words d right)) where
  same : (c d : Command) → IsCommand words c → IsCommand words d → (first_word c ≡ first_word d) × (later_words c ≡ later_words d) → c ≡ d
  same (Compile b c) (Compile e f) left right h = let p = pairs b c e f h.1 in λ i. Compile (p.0 i) (p.1 i)
  same (Report b c) (Report e f) left right h = let p = pairs b c e f h.1 in λ i. Report (p.0 i) (p.1 i)
  same (Replay b c d) (Replay e f g) left right h = let p = triples b c d e f g h.1 in λ i. Replay (p.0 i) (p.1 i) (p.2 i)
  same (Make n k) (Make m l) left right h = let p = same_numbers n k m l left.1 right.1 h.1 in λ i. Make (p.0 i) (p.1 i)
  same (Drill n k) (Drill m l) left right h = let p = same_numbers n k m l left.1 right.1 h.1 in λ i. Drill (p.0 i) (p.1 i)
  same (Compile b c) (Report e f) left right h = let word : codes "compile" ≡ codes "report" = h.0 in absurd (cc)
  same (Compile b c) (Replay e f g) left right h = let word : codes "compile" ≡ codes "replay" = h.0 in absurd (cc)
  same (Compile b c) (Make m l) left right h = let word : codes "compile" ≡ codes "make" = h.0 in absurd (cc)
  same (Compile b c) (Drill m l) left right h = let word : codes "compile" ≡ codes "drill" = h.0 in absurd (cc)
  same (Report b c) (Compile e f) left right h = let word : codes "report" ≡ codes "compile" = h.0 in absurd (cc)
  same (Report b c) (Replay e f g) left right h = let word : codes "report" ≡ codes "replay" = h.0 in absurd (cc)
  same (Report b c) (Make m l) left right h = let word : codes "report" ≡ codes "make" = h.0 in absurd (cc)
  same (Report b c) (Drill m l) left right h = let word : codes "report" ≡ codes "drill" = h.0 in absurd (cc)
  same (Replay b c d) (Compile e f) left right h = let word : codes "replay" ≡ codes "compile" = h.0 in absurd (cc)
  same (Replay b c d) (Report e f) left right h = let word : codes "replay" ≡ codes "report" = h.0 in absurd (cc)
  same (Replay b c d) (Make m l) left right h = let word : codes "replay" ≡ codes "make" = h.0 in absurd (cc)
  same (Replay b c d) (Drill m l) left right h = let word : codes "replay" ≡ codes "drill" = h.0 in absurd (cc)
  same (Make n k) (Compile e f) left right h = let word : codes "make" ≡ codes "compile" = h.0 in absurd (cc)
  same (Make n k) (Report e f) left right h = let word : codes "make" ≡ codes "report" = h.0 in absurd (cc)
  same (Make n k) (Replay e f g) left right h = let word : codes "make" ≡ codes "replay" = h.0 in absurd (cc)
  same (Make n k) (Drill m l) left right h = let word : codes "make" ≡ codes "drill" = h.0 in absurd (cc)
  same (Drill n k) (Compile e f) left right h = let word : codes "drill" ≡ codes "compile" = h.0 in absurd (cc)
  same (Drill n k) (Report e f) left right h = let word : codes "drill" ≡ codes "report" = h.0 in absurd (cc)
  same (Drill n k) (Replay e f g) left right h = let word : codes "drill" ≡ codes "replay" = h.0 in absurd (cc)
  same (Drill n k) (Make m l) left right h = let word : codes "drill" ≡ codes "make" = h.0 in absurd (cc)

-- and they name it alone
pub one_name : (words : List (List ℕ)) (a b : Option Command) → Name words a → Name words b → a ≡ b
one_name words None None left right = refl
one_name words None (Some d) left right = absurd (left d right)
one_name words (Some c) None left right = absurd (right c left)
one_name words (Some c) (Some d) left right = let e = one_command words c d left right in λ i. Some (e i)

-- a test decides
decided : {P : Type 0} (b : Bool) → Decides b P → P ⊎ (P → ⊥)
decided true h = inl (h.0 refl)
decided false h = inr (λ p. let e : false ≡ true = h.1 p in absurd (cc))

-- up to the next number is up to this one, or that one
below : (n most : ℕ) → n ≤ suc most → (n ≤ most) ⊎ (n ≡ suc most)
below n most within = grind arith

-- a number reaches another one or not
reaches : (least n : ℕ) → (least ≤ n) ⊎ (n < least)
reaches least n = grind arith

-- the word is one of the numbers between these two in decimal digits
abbrev IsNumber : List ℕ → ℕ → ℕ → Type 0
IsNumber word least most = (n : ℕ) × (least ≤ n) × (n ≤ most) × (word ≡ decimal n)

-- it is, or it isn't
decide_number : (word : List ℕ) (least most : ℕ) → IsNumber word least most ⊎ (IsNumber word least most → ⊥)
decide_number word least zero =
    elim (decided (bytes_eq word (decimal 0)) (bytes_eq-Decides word (decimal 0))) [
      | inl is ↦ elim (reaches least 0) [
        | inl from ↦ inl (0, from, omega arith, is)
        | inr less ↦ inr (λ h. omega (arith, less, h.1, h.2))
      ]
      | inr not ↦ inr (λ h. let zero : h.0 ≡ 0 = omega (arith, h.2) in not (subst (λ (m : ℕ). word ≡ decimal m) zero h.3))
    ]
decide_number word least (suc most) =
    elim (decide_number word least most) [
      | inl found ↦ inl (found.0, found.1, omega (arith, found.2), found.3)
      | inr none ↦ elim (decided (bytes_eq word (decimal (suc most))) (bytes_eq-Decides word (decimal (suc most)))) [
        | inl is ↦ elim (reaches least (suc most)) [
          | inl from ↦ inl (suc most, from, omega arith, is)
          | inr less ↦ inr (λ h. omega (arith, less, h.1, h.2))
        ]
        | inr not ↦ inr (λ h. elim (below h.0 most h.2) [
          | inl within ↦ none (h.0, h.1, within, h.3)
          | inr last ↦ not (subst (λ (m : ℕ). word ≡ decimal m) last h.3)
        ])
      ]
    ]

thirds : (a b c d e f : List ℕ) → a ∷ b ∷ c ∷ [] ≡ d ∷ e ∷ f ∷ [] → c ≡ f
thirds a b c d e f same = cc

-- the words are two numbers in range in decimal digits
abbrev AreNumbers : List ℕ → List ℕ → Type 0
AreNumbers b c = (n : ℕ) × (k : ℕ) × AreInRange n k × (b ≡ decimal n) × (c ≡ decimal k)

-- they are, or they aren't
decide_numbers : (b c : List ℕ) → AreNumbers b c ⊎ (AreNumbers b c → ⊥)
decide_numbers b c =
    elim (decide_number b 2 4096) [
      | inl n ↦ elim (decide_number c 0 50000) [
        | inl k ↦ inl (n.0, k.0, record { least = n.1; most = n.2; few = k.2 }, n.3, k.3)
        | inr none ↦ inr (λ h. none (h.1, omega arith, h.2.few, h.4))
      ]
      | inr none ↦ inr (λ h. none (h.0, h.2.least, h.2.most, h.3))
    ]

-- three words differ from four
three_or_four : (a b c d e f g : List ℕ) → a ∷ b ∷ c ∷ [] ≡ d ∷ e ∷ f ∷ g ∷ [] → ⊥
three_or_four a b c d e f g same = absurd (cc)

module _ (a b c : List ℕ) where
  -- the words are those of no command
  is_none : (a ≡ codes "compile" → ⊥) → (a ≡ codes "report" → ⊥) → (a ≡ codes "make" → AreNumbers b c → ⊥) → (a ≡ codes "drill" → AreNumbers b c → ⊥) →
      Name (a ∷ b ∷ c ∷ []) None
  is_none compile report make drill (Compile card source) is = compile (firsts a b c (codes "compile") card source is)
  is_none compile report make drill (Report card source) is = report (firsts a b c (codes "report") card source is)
  is_none compile report make drill (Replay card source zair) is = three_or_four a b c (codes "replay") card source zair is
  is_none compile report make drill (Make n k) is =
      let e = seconds a b c (codes "make") (decimal n) (decimal k) is.0 in
      make (firsts a b c (codes "make") (decimal n) (decimal k) is.0) (n, k, is.1, e.0, e.1)
  is_none compile report make drill (Drill n k) is =
      let e = seconds a b c (codes "drill") (decimal n) (decimal k) is.0 in
      drill (firsts a b c (codes "drill") (decimal n) (decimal k) is.0) (n, k, is.1, e.0, e.1)

  -- neither files nor numbers that are none
  without_numbers : (a ≡ codes "compile" → ⊥) → (a ≡ codes "report" → ⊥) → (AreNumbers b c → ⊥) → Name (a ∷ b ∷ c ∷ []) None
  without_numbers compile report none = is_none compile report (λ _ h. none h) (λ _ h. none h)

  -- two words behind one that names no command with two files
  number_words : (a ≡ codes "compile" → ⊥) → (a ≡ codes "report" → ⊥) → AreNumbers b c → (named : Option Command) × Name (a ∷ b ∷ c ∷ []) named
  number_words compile report h =
      elim (decided (bytes_eq a (codes "make")) (bytes_eq-Decides a (codes "make"))) [
        | inl make ↦ (Some (Make h.0 h.1), ((λ i. make i ∷ h.3 i ∷ h.4 i ∷ []), h.2))
        | inr other ↦ elim (decided (bytes_eq a (codes "drill")) (bytes_eq-Decides a (codes "drill"))) [
          | inl drill ↦ (Some (Drill h.0 h.1), ((λ i. drill i ∷ h.3 i ∷ h.4 i ∷ []), h.2))
          | inr neither ↦ (None, is_none compile report (λ e _. other e) (λ e _. neither e))
        ]
      ]

  three_words : (named : Option Command) × Name (a ∷ b ∷ c ∷ []) named
  three_words =
      elim (decided (bytes_eq a (codes "compile")) (bytes_eq-Decides a (codes "compile"))) [
        | inl compile ↦ (Some (Compile b c), (λ i. compile i ∷ b ∷ c ∷ []))
        | inr other ↦ elim (decided (bytes_eq a (codes "report")) (bytes_eq-Decides a (codes "report"))) [
          | inl report ↦ (Some (Report b c), (λ i. report i ∷ b ∷ c ∷ []))
          | inr neither ↦ elim (decide_numbers b c) [
            | inl numbers ↦ number_words other neither numbers
            | inr none ↦ (None, without_numbers other neither none)
          ]
        ]
      ]

-- words that are neither three nor four are those of no command
not_three : (words : List (List ℕ)) → ((a b c : List ℕ) → words ≡ a ∷ b ∷ c ∷ [] → ⊥) → ((a b c d : List ℕ) → words ≡ a ∷ b ∷ c ∷ d ∷ [] → ⊥) → Name words None
not_three words three four (Compile card source) is = three (codes "compile") card source is
not_three words three four (Report card source) is = three (codes "report") card source is
not_three words three four (Replay card source zair) is = four (codes "replay") card source zair is
not_three words three four (Make n k) is = three (codes "make") (decimal n) (decimal k) is.0
not_three words three four (Drill n k) is = three (codes "drill") (decimal n) (decimal k) is.0

module _ (a b c d : List ℕ) where
  -- four words behind another first word are those of no command
  not_replay : (a ≡ codes "replay" → ⊥) → Name (a ∷ b ∷ c ∷ d ∷ []) None
  not_replay other (Compile card source) is = three_or_four (codes "compile") card source a b c d (sym is)
  not_replay other (Report card source) is = three_or_four (codes "report") card source a b c d (sym is)
  not_replay other (Replay card source zair) is = other (heads a (codes "replay") (b ∷ c ∷ d ∷ []) (card ∷ source ∷ zair ∷ []) is).0
  not_replay other (Make n k) is = three_or_four (codes "make") (decimal n) (decimal k) a b c d (sym is.0)
  not_replay other (Drill n k) is = three_or_four (codes "drill") (decimal n) (decimal k) a b c d (sym is.0)

  four_words : (named : Option Command) × Name (a ∷ b ∷ c ∷ d ∷ []) named
  four_words =
      elim (decided (bytes_eq a (codes "replay")) (bytes_eq-Decides a (codes "replay"))) [
        | inl replay ↦ (Some (Replay b c d), (λ i. replay i ∷ b ∷ c ∷ d ∷ []))
        | inr other ↦ (None, not_replay other)
      ]

-- words name a command, or none
pub some_name : (words : List (List ℕ)) → (named : Option Command) × Name words named
some_name [] = (None, not_three [] (λ d e f is. absurd (cc)) (λ d e f g is. absurd (cc)))
some_name (a ∷ []) = (None, not_three (a ∷ []) (λ d e f is. absurd (cc)) (λ d e f g is. absurd (cc)))
some_name (a ∷ b ∷ []) = (None, not_three (a ∷ b ∷ []) (λ d e f is. absurd (cc)) (λ d e f g is. absurd (cc)))
some_name (a ∷ b ∷ c ∷ []) = three_words a b c
some_name (a ∷ b ∷ c ∷ d ∷ []) = four_words a b c d
some_name (a ∷ b ∷ c ∷ d ∷ w ∷ ws) = (None, not_three (a ∷ b ∷ c ∷ d ∷ w ∷ ws) (λ e f g is. absurd (cc)) (λ e f g h is. absurd (cc)))
