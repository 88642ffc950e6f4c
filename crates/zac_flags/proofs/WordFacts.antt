-- The bits of one word.
use Rattle.std.proofs.Common.{◌≡◌, ℕ, suc, ◌+◌, ◌-◌, ◌*◌, ◌/◌, ◌%◌, ◌^◌, ◌<◌, ◌≤◌, inl, inr, min, max, Bool, true, false, not, ◌&&◌, ◌||◌, ◌==◌, refl, sym, ap, ◌∙◌, subst, arith, nat_lt, w64, pow_pos, pow_mono, div-lt_iff_lt-mul, le-div_iff_mul-le}
use Rattle.std.specs.Int.{bit_at, bit_not, leading_zeros, trailing_zeros}
use Rattle.std.specs.Int.RustNames.{bit_and, bit_or}
use Rattle.std.proofs.Math.Nat.{two-pow-succ}
use Rattle.std.proofs.lemmas.Bool.{cases_lt}
use Rattle.std.proofs.lemmas.Bool.Decides.{nat_tests}
use Rattle.std.proofs.lemmas.Nat.{leading_top}
use Rattle.std.proofs.lemmas.Nat.Bits.{bit_at-lt, bit_at-zero, bit_at-trailing_zeros, bit_at_above, bit_at_and, bit_at_not, bit_at_ones, bit_at_ones_above, bit_at_or}
use Rattle.zac_flags.specs.Words.{AreBits, IsHighest, IsLowest, has_bit}

min_bits : (x y : ℕ) → x < 2 → y < 2 → (min x y == 1) ≡ (x == 1 && y == 1)
min_bits x y x_small y_small = grind (arith, nat_tests)

max_bits : (x y : ℕ) → x < 2 → y < 2 → (max x y == 1) ≡ (x == 1 || y == 1)
max_bits x y x_small y_small = grind (arith, nat_tests)

other_bit : (x : ℕ) → x < 2 → (1 - x == 1) ≡ not (x == 1)
other_bit x small = grind (arith, nat_tests)

-- the bits of both words, of either one, and those that a word lacks
pub bits_and : (a b : ℕ) (f g : ℕ → Bool) → AreBits a f → AreBits b g → AreBits (bit_and a b) (λ i. f i && g i)
bits_and a b f g of_a of_b i lt =
    ap (λ x. x == 1) (bit_at_and a b i) ∙ min_bits (bit_at a i) (bit_at b i) (bit_at-lt a i) (bit_at-lt b i)
    ∙ ap (λ (x : Bool). x && has_bit b i) (of_a i lt) ∙ ap (λ (y : Bool). f i && y) (of_b i lt)

pub bits_or : (a b : ℕ) (f g : ℕ → Bool) → AreBits a f → AreBits b g → AreBits (bit_or a b) (λ i. f i || g i)
bits_or a b f g of_a of_b i lt =
    ap (λ x. x == 1) (bit_at_or a b i) ∙ max_bits (bit_at a i) (bit_at b i) (bit_at-lt a i) (bit_at-lt b i)
    ∙ ap (λ (x : Bool). x || has_bit b i) (of_a i lt) ∙ ap (λ (y : Bool). f i || y) (of_b i lt)

pub bits_not : (a : ℕ) (f : ℕ → Bool) → a < 2 ^ 64 → AreBits a f → AreBits (bit_not w64 a) (λ i. not (f i))
bits_not a f fits of_a i lt =
    ap (λ x. x == 1) (bit_at_not w64 a i fits lt) ∙ other_bit (bit_at a i) (bit_at-lt a i) ∙ ap not (of_a i lt)

-- the first bits of a word
pub first_bits : (count : ℕ) → AreBits (2 ^ count - 1) (λ i. nat_lt i count)
first_bits count i lt =
    elim (cases_lt i count) as (λ _. has_bit (2 ^ count - 1) i ≡ nat_lt i count) [
      | inl below ↦ ap (λ x. x == 1) (bit_at_ones count i below) ∙ is_below i count below
      | inr above ↦ ap (λ x. x == 1) (bit_at_ones_above count i above) ∙ is_above i count above
    ]
  where
    is_below : (j n : ℕ) → j < n → true ≡ nat_lt j n
    is_below j n less = grind (arith, nat_tests)

    is_above : (j n : ℕ) → n ≤ j → false ≡ nat_lt j n
    is_above j n more = grind (arith, nat_tests)

pub all_bits : (count : ℕ) → 64 ≤ count → AreBits (2 ^ 64 - 1) (λ i. nat_lt i count)
all_bits count many i lt = ap (λ x. x == 1) (bit_at_ones 64 i lt) ∙ is_below i count (omega arith)
  where
    is_below : (j n : ℕ) → j < n → true ≡ nat_lt j n
    is_below j n less = grind (arith, nat_tests)

-- `1 << n` in a word
pub shl_one : (n : ℕ) → n < 64 → 1 * 2 ^ n % 2 ^ 64 ≡ 2 ^ n
shl_one n lt =
    let small : 2 ^ n < 2 ^ 64 = omega (arith, two-pow-succ n, pow_pos n, pow_mono {i = suc n} {j = 64} (omega arith)) in
    omega arith

-- the lowest bit that is set, and the highest one
pub lowest_is : (word : ℕ) → 0 < word → word < 2 ^ 64 → IsLowest word (trailing_zeros w64 word)
lowest_is word some fits =
    let told = bit_at-trailing_zeros w64 word some fits in
    record {
      within = told.0;
      is_set = ap (λ x. x == 1) told.1;
      none_below = λ i lt. ap (λ x. x == 1) (told.2 i lt);
    }

top_bit : (word k : ℕ) → 2 ^ k ≤ word → word < 2 ^ suc k → bit_at word k ≡ 1
top_bit word k low high =
    let p = pow_pos k in
    let most : word / 2 ^ k < 2 = (div-lt_iff_lt-mul p).1 (omega (arith, high, two-pow-succ k)) in
    let least : 1 ≤ word / 2 ^ k = (le-div_iff_mul-le p).1 (omega arith) in
    omega arith

pub highest_is : (word : ℕ) → 0 < word → word < 2 ^ 64 → IsHighest word (63 - leading_zeros w64 word)
highest_is word some fits =
    let top = leading_top 64 word some fits in
    let k = top.0 in
    let e : 63 - leading_zeros w64 word ≡ k = omega (arith, top.1) in
    subst (IsHighest word) (sym e)
    (record {
      within = omega (arith, top.1);
      is_set = ap (λ x. x == 1) (top_bit word k top.2 top.3);
      none_above = λ i lt _. ap (λ x. x == 1) (bit_at_above word (suc k) i top.3 (omega arith));
    })

-- in no word is a bit set
pub no_bits : (i : ℕ) → i < 64 → has_bit 0 i ≡ false
no_bits i lt = ap (λ x. x == 1) (bit_at-zero i)
