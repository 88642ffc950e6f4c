-- What is offered to leaving atoms, while it is gathered.
use Rattle.std.proofs.Common.{◌≡◌, ℕ, ◌+◌, ◌<◌, inl, inr, List, ◌++◌, length, get_or, min, subst, arith}
use Rattle.std.specs.List.{Any, Contains}
use Rattle.std.proofs.lemmas.Bool.{cases_lt}
use Rattle.std.proofs.lemmas.List.{get_or_default}
use Rattle.std.proofs.lemmas.List.Elements.{All-append, All-contains, All-contains_itself, All-weaker, Contains-append_left, Contains-append_right}
use Rattle.zac_world.specs.Places.{Places, empty_storage}
use Rattle.zac_world.specs.Nearest.{AreNearest, IsAmongNearest}
use Rattle.zac_place.specs.Offers.{AreOffered, HasNearest}
use Rattle.zac_place.specs.Returns.{AreNear, trap_in}

-- some more are nearest to the qubit at a place of the list
pub more_near : (p : Places) (leaving offered nearest : List ℕ) (k d : ℕ) → k < length leaving → AreNear p leaving offered → AreNearest p (trap_in p (get_or leaving k d)) (length leaving + 1) nearest → AreNear p leaving (offered ++ nearest)
more_near p leaving offered nearest k d within near are =
    All-append (λ t. Any (λ q. IsAmongNearest p (trap_in p q) (length leaving + 1) t) leaving) offered nearest near
    (λ i e lt. (k, get_or leaving k d, within, get_or_default leaving k (get_or leaving k d) d within, are.each i e lt))

-- what was offered to a qubit still is
pub still_offered : (p : Places) (leaving offered nearest : List ℕ) (q : ℕ) → HasNearest p leaving offered q → HasNearest p leaving (offered ++ nearest) q
still_offered p leaving offered nearest q has =
    record {
      nearest = has.nearest;
      are = has.are;
      many = has.many;
      offers = All-weaker (Contains offered) (Contains (offered ++ nearest)) (λ t c. Contains-append_left offered nearest t c) has.nearest has.offers;
    }

pub one_offered : (p : Places) (leaving offered nearest : List ℕ) (q : ℕ) → AreNearest p (trap_in p q) (length leaving + 1) nearest → length nearest ≡ min (length leaving + 1) (length (empty_storage p)) → HasNearest p leaving (offered ++ nearest) q
one_offered p leaving offered nearest q are many =
    record {
      nearest = nearest;
      are = are;
      many = many;
      offers = All-weaker (Contains nearest) (Contains (offered ++ nearest)) (λ t c. Contains-append_right offered nearest t c) nearest (All-contains_itself nearest);
    }

pub more_offered : (p : Places) (leaving offered nearest : List ℕ) (n : ℕ) → n < length leaving → ((k d : ℕ) → k < n → HasNearest p leaving offered (get_or leaving k d)) → ((d : ℕ) → HasNearest p leaving (offered ++ nearest) (get_or leaving n d)) →
    (k d : ℕ) → k < n + 1 → HasNearest p leaving (offered ++ nearest) (get_or leaving k d)
more_offered p leaving offered nearest n within before here k d lt =
    elim (cases_lt k n) as (λ _. HasNearest p leaving (offered ++ nearest) (get_or leaving k d)) [
      | inl less ↦ still_offered p leaving offered nearest (get_or leaving k d) (before k d less)
      | inr more ↦
          let last : n ≡ k = omega arith in
          subst (λ (i : ℕ). HasNearest p leaving (offered ++ nearest) (get_or leaving i d)) last (here d)
    ]

-- the same traps in another list
pub same_offer : (p : Places) (leaving old new : List ℕ) → ((t : ℕ) → Contains old t → Contains new t) → ((t : ℕ) → Contains new t → Contains old t) → AreOffered p leaving old → AreOffered p leaving new
same_offer p leaving old new kept no_other are =
    record {
      near = λ k d lt. All-contains (λ t. Any (λ q. IsAmongNearest p (trap_in p q) (length leaving + 1) t) leaving) old (get_or new k d) are.near (no_other (get_or new k d) (k, lt, get_or_default new k (get_or new k d) d lt));
      complete = λ k d lt.
          let has = are.complete k d lt in
          record {
            nearest = has.nearest;
            are = has.are;
            many = has.many;
            offers = All-weaker (Contains old) (Contains new) kept has.nearest has.offers;
          };
    }
