-- The longest run of bytes that pass a test.
use Rattle.std.proofs.Common.{◌≡◌, ℕ, ◌+◌, ◌≤◌, Bool, true, List, [], ◌∷◌, ◌++◌, length, take, drop, refl, arith}
use Rattle.std.specs.List.{prefix_len}
use Rattle.std.proofs.Math.Numerals.{one-add}
use Rattle.std.proofs.lemmas.Bool.{cond_both}
use Rattle.qasm_lex.specs.Bytes.{AllPass, NoneFirst}

module _ (test : ℕ → Bool) where
  -- each byte of the run passes
  pub AllPass-run : (bytes : List ℕ) → AllPass test (take (prefix_len test bytes) bytes)
  AllPass-run [] = tt
  AllPass-run (b ∷ bytes) =
      cond_both (test b) (1 + prefix_len test bytes) 0 (λ n. AllPass test (take n (b ∷ bytes))) (λ yes. rw one-add (yes, AllPass-run bytes)) (λ no. tt)

  -- the byte behind it doesn't
  pub NoneFirst-run : (bytes : List ℕ) → NoneFirst test (drop (prefix_len test bytes) bytes)
  NoneFirst-run [] = tt
  NoneFirst-run (b ∷ bytes) =
      cond_both (test b) (1 + prefix_len test bytes) 0 (λ n. NoneFirst test (drop n (b ∷ bytes))) (λ yes. rw one-add (NoneFirst-run bytes)) (λ no. no)

  -- bytes that pass are no more than the run
  pub run_at_least : (front rest : List ℕ) → AllPass test front → length front ≤ prefix_len test (front ++ rest)
  run_at_least [] rest pass = omega arith
  run_at_least (b ∷ front) rest pass =
      let yes : test b ≡ true = pass.0 in
      rw yes (omega (arith, run_at_least front rest pass.1))

  -- bytes that pass, where one that doesn't follows, are the run
  pub run_exactly : (front rest : List ℕ) → AllPass test front → NoneFirst test rest → prefix_len test (front ++ rest) ≡ length front
  run_exactly [] [] pass none = refl
  run_exactly [] (x ∷ rest) pass none = rw none refl
  run_exactly (b ∷ front) rest pass none =
      let yes : test b ≡ true = pass.0 in
      rw yes (omega (arith, run_exactly front rest pass.1 none))
