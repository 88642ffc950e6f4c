-- Flags as the bits of words: what is read, and what a change of one word changes.
use Rattle.std.proofs.Common.{◌≡◌, ◌≢◌, ℕ, ◌+◌, ◌*◌, ◌/◌, ◌%◌, ◌<◌, ◌≤◌, inl, inr, Bool, true, false, ◌==◌, List, length, get_or, set, replicate, map, refl, sym, ap, ◌∙◌, arith, w64, ◌^◌}
use Rattle.std.specs.Int.{bit_not}
use Rattle.std.specs.Int.RustNames.{bit_and, bit_or}
use Rattle.std.specs.List.{range_with_len}
use Rattle.std.proofs.lemmas.Bool.{cases_eq, cases_lt}
use Rattle.std.proofs.lemmas.List.{get_or-replicate, get_or-set_same, get_or-set_other, get_or_past, length-replicate, length-set, same_lists}
use Rattle.std.proofs.lemmas.List.FromFn.{get_or-map-range_with_len, length-map-range_with_len}
use Rattle.std.proofs.lemmas.Nat.Bits.{bit_at-zero, bit_at_clear_other, bit_at_clear_same, bit_at_set_other, bit_at_set_same}
use Rattle.zac_flags.specs.Words.{AreBits, IsKept, flag_at, flags_of, has_bit}

-- a flag within the list, and any flag
flag_within : (words : List ℕ) (count p : ℕ) (d : Bool) → p < count → get_or (flags_of words count) p d ≡ flag_at words p
flag_within words count p d lt = get_or-map-range_with_len (flag_at words) 0 count p p d lt (omega arith)

pub flag_read : (words : List ℕ) (count p : ℕ) → IsKept words count → get_or (flags_of words count) p false ≡ flag_at words p
flag_read words count p kept =
    elim (cases_lt p count) as (λ _. get_or (flags_of words count) p false ≡ flag_at words p) [
      | inl within ↦ flag_within words count p false within
      | inr past ↦
          get_or_past (flags_of words count) p false (omega (arith, length-map-range_with_len (flag_at words) 0 count))
          ∙ sym (kept.none_past p past)
    ]

-- the bits of a word are the flags of its places
pub word_read : (words : List ℕ) (count number : ℕ) → IsKept words count → AreBits (get_or words number 0) (λ i. get_or (flags_of words count) (number * 64 + i) false)
word_read words count number kept i lt =
    let word : number ≡ (number * 64 + i) / 64 = omega arith in
    let bit : i ≡ (number * 64 + i) % 64 = omega arith in
    ap (λ (k : ℕ). has_bit (get_or words k 0) i) word
    ∙ ap (λ (k : ℕ). has_bit (get_or words ((number * 64 + i) / 64) 0) k) bit
    ∙ sym (flag_read words count (number * 64 + i) kept)

-- a word in which one bit has been changed
pub record IsChanged (old new bit : ℕ) (b : Bool) : Type 0 where
  pub here : has_bit new bit ≡ b
  pub others : (i : ℕ) → i < 64 → i ≢ bit → has_bit new i ≡ has_bit old i

-- `word | 1 << bit` and `word & !(1 << bit)`
pub set_changes : (old now bit : ℕ) → now ≡ old → bit < 64 → IsChanged old (bit_or now (1 * 2 ^ bit % 2 ^ 64)) bit true
set_changes old now bit is lt =
    record {
      here = ap (λ x. x == 1) (bit_at_set_same w64 now bit lt);
      others = λ i _ apart. ap (λ x. x == 1) (bit_at_set_other w64 now bit lt i apart) ∙ ap (λ (w : ℕ). has_bit w i) is;
    }

pub clear_changes : (old now bit : ℕ) → now ≡ old → bit < 64 → IsChanged old (bit_and now (bit_not w64 (1 * 2 ^ bit % 2 ^ 64))) bit false
clear_changes old now bit is lt =
    record {
      here = ap (λ x. x == 1) (bit_at_clear_same w64 now bit lt);
      others = λ i i_in apart. ap (λ x. x == 1) (bit_at_clear_other w64 now bit lt i i_in apart) ∙ ap (λ (w : ℕ). has_bit w i) is;
    }

-- a place of the list is one of its flags
pub in_list : (words : List ℕ) (count p : ℕ) (flags : List Bool) → flags_of words count ≡ flags → p < length flags → p < count
in_list words count p flags is lt = omega (arith, ap (λ (l : List Bool). length l) is, length-map-range_with_len (flag_at words) 0 count)

module _ (words : List ℕ) (count p new : ℕ) (b : Bool) (kept : IsKept words count) (within : p < count) (changed : IsChanged (get_or words (p / 64) 0) new (p % 64) b) where
  changed_words : List ℕ
  changed_words = set words (p / 64) new

  in_words : p / 64 < length words
  in_words = omega (arith, kept.enough)

  here : flag_at changed_words p ≡ b
  unfolding changed_words
  here = ap (λ (w : ℕ). has_bit w (p % 64)) (get_or-set_same words (p / 64) new 0 in_words) ∙ changed.here

  others : (q : ℕ) → q ≢ p → flag_at changed_words q ≡ flag_at words q
  unfolding changed_words
  others q other =
      elim (cases_eq (q / 64) (p / 64)) as (λ _. flag_at changed_words q ≡ flag_at words q) [
        | inl same ↦
            let bit : q % 64 ≢ p % 64 = λ e. other (omega (arith, e, same)) in
            ap (λ (k : ℕ). has_bit (get_or (set words (p / 64) new) k 0) (q % 64)) same
            ∙ ap (λ (w : ℕ). has_bit w (q % 64)) (get_or-set_same words (p / 64) new 0 in_words)
            ∙ changed.others (q % 64) (omega arith) bit
            ∙ ap (λ (k : ℕ). has_bit (get_or words k 0) (q % 64)) (sym same)
        | inr apart ↦ ap (λ (w : ℕ). has_bit w (q % 64)) (get_or-set_other words (p / 64) (q / 64) new 0 apart)
      ]

  pub still_kept : IsKept (set words (p / 64) new) count
  unfolding changed_words
  still_kept =
      record {
        enough = omega (arith, kept.enough, length-set words (p / 64) new);
        none_past = λ q past. others q (λ e. omega (arith, e, past, within)) ∙ kept.none_past q past;
      }

  pub flag_changed : flags_of (set words (p / 64) new) count ≡ set (flags_of words count) p b
  unfolding changed_words
  flag_changed =
      let many = length-map-range_with_len (flag_at words) 0 count in
      same_lists (flags_of (set words (p / 64) new) count) (set (flags_of words count) p b)
      (length-map-range_with_len (flag_at (set words (p / 64) new)) 0 count ∙ sym many ∙ sym (length-set (flags_of words count) p b))
      (λ q d lt.
      let q_in : q < count = omega (arith, lt, length-map-range_with_len (flag_at (set words (p / 64) new)) 0 count) in
      elim (cases_eq q p) as (λ _. get_or (flags_of (set words (p / 64) new) count) q d ≡ get_or (set (flags_of words count) p b) q d) [
        | inl same ↦
            ap (λ (k : ℕ). get_or (flags_of (set words (p / 64) new) count) k d) same
            ∙ flag_within (set words (p / 64) new) count p d within ∙ here
            ∙ sym (get_or-set_same (flags_of words count) p b d (omega (arith, many, within)))
            ∙ ap (λ (k : ℕ). get_or (set (flags_of words count) p b) k d) (sym same)
        | inr apart ↦
            flag_within (set words (p / 64) new) count q d q_in ∙ others q apart
            ∙ sym (flag_within words count q d q_in) ∙ sym (get_or-set_other (flags_of words count) p q b d apart)
      ])

-- words in which no bit is set
abbrev pub zeros : ℕ → List ℕ
zeros n = replicate n 0

no_flag : (n p : ℕ) → flag_at (zeros n) p ≡ false
no_flag n p = ap (λ (w : ℕ). has_bit w (p % 64)) (none (p / 64)) ∙ ap (λ x. x == 1) (bit_at-zero (p % 64))
  where
    none : (k : ℕ) → get_or (zeros n) k 0 ≡ 0
    none k =
        elim (cases_lt k n) as (λ _. get_or (zeros n) k 0 ≡ 0) [
          | inl within ↦ get_or-replicate {A = ℕ} n k 0 0 within
          | inr past ↦ get_or_past (zeros n) k 0 (omega (arith, length-replicate {A = ℕ} n 0))
        ]

pub none_kept : (words : List ℕ) (n count : ℕ) → words ≡ zeros n → count ≤ n * 64 → IsKept words count
none_kept words n count is enough =
    record {
      enough = omega (arith, enough, ap (λ (l : List ℕ). length l) is, length-replicate {A = ℕ} n 0);
      none_past = λ p _. ap (λ (l : List ℕ). flag_at l p) is ∙ no_flag n p;
    }

pub none_set : (words : List ℕ) (n count : ℕ) → words ≡ zeros n → flags_of words count ≡ replicate count false
none_set words n count is =
    let many = length-map-range_with_len (flag_at words) 0 count in
    same_lists (flags_of words count) (replicate count false) (many ∙ sym (length-replicate count false))
    (λ p d lt.
    let within : p < count = omega (arith, many, lt) in
    flag_within words count p d within ∙ ap (λ (l : List ℕ). flag_at l p) is ∙ no_flag n p ∙ sym (get_or-replicate count p false d within))
