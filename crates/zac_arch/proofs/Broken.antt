-- The least rule that a card breaks, from the tests of the rules one after another.
use Rattle.std.proofs.Common.{◌≡◌, ℕ, zero, suc, ◌+◌, ◌-◌, ◌<◌, Bool, true, false, ◌&&◌, IsTrue, Some, List, [], ◌∷◌, take, slice_get, refl, sym, ap, ◌∙◌, arith}
use Rattle.std.specs.List.{list_all}
use Rattle.std.proofs.lemmas.Bool.{and_parts, and_from, false≢true}
use Rattle.zac_arch.specs.Architecture.{Architecture}
use Rattle.zac_arch.specs.Rules.{has_few_zones, parks_out_of_reach, is_spaced, blocks_pairs_alone, are_separate, passes_pairs, is_on_the_field, figures_in_range, zone_in_range, rule_tests, IsLeastBroken}

-- among the first n tests, which all pass, none fails
none_fails : (tests : List Bool) (n m : ℕ) → IsTrue (list_all (λ b. b) (take n tests)) → m < n → slice_get tests m ≡ Some false → ⊥
none_fails [] n m h lt e = cc
none_fails (t ∷ ts) zero m h lt e = absurd (omega arith)
none_fails (t ∷ ts) (suc n) zero h lt e =
    let fails : t ≡ false = cc in
    false≢true (sym fails ∙ (and_parts t (list_all (λ b. b) (take n ts)) h).0)
none_fails (t ∷ ts) (suc n) (suc m) h lt e =
    none_fails ts n m (and_parts t (list_all (λ b. b) (take n ts)) h).1 (omega arith) e

least : (a : Architecture) (n : ℕ) → slice_get (rule_tests a) n ≡ Some false → IsTrue (list_all (λ b. b) (take n (rule_tests a))) → IsLeastBroken a (n + 1)
least a n fails kept =
    let at : n ≡ n + 1 - 1 = omega arith in
    record {
      broken = record { counted = omega arith; fails = ap (slice_get (rule_tests a)) (sym at) ∙ fails };
      first = λ m lt b. none_fails (rule_tests a) n (m - 1) kept (omega (arith, b.counted)) b.fails;
    }

-- each rule after those before it
pub breaks_1 : (a : Architecture) → has_few_zones a ≡ false → IsLeastBroken a 1
breaks_1 a f = least a 0 (ap Some f) refl

pub breaks_2 : (a : Architecture) → has_few_zones a ≡ true → parks_out_of_reach a.figures ≡ false → IsLeastBroken a 2
breaks_2 a k1 f = least a 1 (ap Some f) (and_from _ _ k1 refl)

pub breaks_3 : (a : Architecture) → has_few_zones a ≡ true → parks_out_of_reach a.figures ≡ true → list_all (is_spaced a.figures) a.zones ≡ false → IsLeastBroken a 3
breaks_3 a k1 k2 f = least a 2 (ap Some f) (and_from _ _ k1 (and_from _ _ k2 refl))

pub breaks_4 : (a : Architecture) → has_few_zones a ≡ true → parks_out_of_reach a.figures ≡ true → list_all (is_spaced a.figures) a.zones ≡ true → list_all (blocks_pairs_alone a.figures) a.zones ≡ false → IsLeastBroken a 4
breaks_4 a k1 k2 k3 f = least a 3 (ap Some f) (and_from _ _ k1 (and_from _ _ k2 (and_from _ _ k3 refl)))

pub breaks_5 : (a : Architecture) → has_few_zones a ≡ true → parks_out_of_reach a.figures ≡ true → list_all (is_spaced a.figures) a.zones ≡ true → list_all (blocks_pairs_alone a.figures) a.zones ≡ true → passes_pairs (are_separate a.figures) a.zones ≡ false → IsLeastBroken a 5
breaks_5 a k1 k2 k3 k4 f =
    least a 4 (ap Some f) (and_from _ _ k1 (and_from _ _ k2 (and_from _ _ k3 (and_from _ _ k4 refl))))

pub breaks_6 : (a : Architecture) → has_few_zones a ≡ true → parks_out_of_reach a.figures ≡ true → list_all (is_spaced a.figures) a.zones ≡ true → list_all (blocks_pairs_alone a.figures) a.zones ≡ true → passes_pairs (are_separate a.figures) a.zones ≡ true → list_all (is_on_the_field a.figures) a.zones ≡ false → IsLeastBroken a 6
breaks_6 a k1 k2 k3 k4 k5 f =
    least a 5 (ap Some f) (and_from _ _ k1 (and_from _ _ k2 (and_from _ _ k3 (and_from _ _ k4 (and_from _ _ k5 refl)))))

pub breaks_7 : (a : Architecture) → has_few_zones a ≡ true → parks_out_of_reach a.figures ≡ true → list_all (is_spaced a.figures) a.zones ≡ true → list_all (blocks_pairs_alone a.figures) a.zones ≡ true → passes_pairs (are_separate a.figures) a.zones ≡ true → list_all (is_on_the_field a.figures) a.zones ≡ true → (figures_in_range a.figures && list_all zone_in_range a.zones) ≡ false → IsLeastBroken a 7
breaks_7 a k1 k2 k3 k4 k5 k6 f =
    least a 6 (ap Some f) (and_from _ _ k1 (and_from _ _ k2 (and_from _ _ k3 (and_from _ _ k4 (and_from _ _ k5 (and_from _ _ k6 refl))))))
