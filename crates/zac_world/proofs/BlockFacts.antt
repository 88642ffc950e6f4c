-- The storage zones that a walk over the zones of a card has made into blocks so far.
use Rattle.std.proofs.Common.{◌≡◌, ℕ, ◌+◌, ◌*◌, ◌<◌, ◌≤◌, inl, inr, List, [], ◌∷◌, ◌++◌, Some, length, get_or, slice_get, take, refl, sym, ap, ◌∙◌, subst, arith}
use Rattle.std.specs.List.{All, sum_by}
use Rattle.std.proofs.lemmas.Bool.{cases_lt}
use Rattle.std.proofs.lemmas.List.{get_or_append_left, get_or_push, length-append, take-append-le, take_all}
use Rattle.std.proofs.lemmas.List.Elements.{All-push}
use Rattle.std.proofs.lemmas.List.Sums.{sum_by_more, sum_by_more_le, sum_by_push}
use Rattle.std.proofs.lemmas.Option.{slice_get-get_or}
use Rattle.zac_arch.specs.Architecture.{Architecture, storage_count}
use Rattle.zac_arch.specs.Rules.{KeepsRules}
use Rattle.zac_arch.specs.declared.card.Zone.{Zone}
use Rattle.zac_arch.specs.declared.card.ZoneKind.TheVariants.{Storage, Entangling}
use Rattle.zac_arch.proofs.Geometry.{storage_count_most}
use Rattle.zac_arch.proofs.Ranges.{zone_rules}
use Rattle.zac_world.specs.Blocks.{AreBlocks, FitsField, IsBlock, size_of}
use Rattle.zac_world.specs.declared.block.Block.{Block}
use Rattle.zac_world.proofs.GridFacts.{storage_part, part_of_storage, part_of_entangling, storage_count_is, storage_point}

-- the first k zones, of which the storage zones are these blocks, with so many traps
pub record BlocksSoFar (a : Architecture) (zs : List Zone) (k first : ℕ) (blocks : List Block) : Type 0 where
  pub each : All (IsBlock a) blocks
  pub in_turn : (i : ℕ) (b : Block) → i < length blocks → (get_or blocks i b).first ≡ sum_by size_of (take i blocks)
  pub first_is : first ≡ sum_by size_of blocks
  pub before : first ≡ sum_by storage_part (take k zs)

pub none_so_far : (a : Architecture) (zs : List Zone) (blocks : List Block) → blocks ≡ [] → BlocksSoFar a zs 0 0 blocks
none_so_far a zs blocks e =
    let none : BlocksSoFar a zs 0 0 [] = record {
      each = λ k d lt. absurd (omega arith);
      in_turn = λ k b lt. absurd (omega arith);
      first_is = refl;
      before = refl;
    } in
    subst (BlocksSoFar a zs 0 0) (sym e) none

-- the next zone, if it is one of storage, has room behind the ones so far
pub next_fits : (a : Architecture) (zs : List Zone) (k first : ℕ) (blocks : List Block) (d : Zone) → KeepsRules a → zs ≡ a.zones → k < length zs → (get_or zs k d).kind ≡ Storage → BlocksSoFar a zs k first blocks →
    (first + (get_or zs k d).rows * (get_or zs k d).columns ≤ storage_count a) × (first + (get_or zs k d).rows * (get_or zs k d).columns ≤ 65536)
next_fits a zs k first blocks d rules e lt kind so_far =
    let within : first + (get_or zs k d).rows * (get_or zs k d).columns ≤ storage_count a = omega (arith, sum_by_more_le storage_part zs k d lt, part_of_storage (get_or zs k d) kind, storage_count_is a zs e, so_far.before) in
    (within, omega (arith, within, storage_count_most a rules))

-- and is a block
pub next_block : (a : Architecture) (zs : List Zone) (k first : ℕ) (blocks : List Block) (d : Zone) → KeepsRules a → zs ≡ a.zones → k < length zs → (get_or zs k d).kind ≡ Storage → BlocksSoFar a zs k first blocks →
    IsBlock a (record { first = first; zone = get_or zs k d })
next_block a zs k first blocks d rules e lt kind so_far =
    let z = get_or zs k d in
    let at : slice_get a.zones k ≡ Some z = ap (λ (l : List Zone). slice_get l k) (sym e) ∙ slice_get-get_or zs k d lt in
    let r = zone_rules a rules k z at in
    let fits = next_fits a zs k first blocks d rules e lt kind so_far in
    let field : FitsField (record { first = first; zone = z }) = record {
      some_column = r.columns_least;
      some_row = r.rows_least;
      columns_rise = r.dx_least;
      rows_rise = r.dy_least;
      last_column = omega (arith, r.right_most);
      last_row = omega (arith, r.top_most);
    } in
    record {
      field = field;
      storage = fits.0;
      few = fits.1;
      stands = λ row column row_in column_in. storage_point a zs k first row column d rules e lt kind so_far.before row_in column_in;
    }

pub one_more : (a : Architecture) (zs : List Zone) (k first : ℕ) (blocks : List Block) (d : Zone) → KeepsRules a → zs ≡ a.zones → k < length zs → (get_or zs k d).kind ≡ Storage → BlocksSoFar a zs k first blocks →
    BlocksSoFar a zs (k + 1) (first + (get_or zs k d).rows * (get_or zs k d).columns) (blocks ++ record { first = first; zone = get_or zs k d } ∷ [])
one_more a zs k first blocks d rules e lt kind so_far =
    let z = get_or zs k d in
    let b : Block = record { first = first; zone = z } in
    record {
      each = All-push (IsBlock a) blocks b so_far.each (next_block a zs k first blocks d rules e lt kind so_far);
      in_turn = λ i c i_in.
          elim (cases_lt i (length blocks)) as (λ _. (get_or (blocks ++ b ∷ []) i c).first ≡ sum_by size_of (take i (blocks ++ b ∷ []))) [
            | inl less ↦
                ap (λ (x : Block). x.first) (get_or_append_left blocks (b ∷ []) c i less)
                ∙ so_far.in_turn i c less
                ∙ ap (sum_by size_of) (sym (take-append-le i blocks (b ∷ []) (omega arith)))
            | inr more ↦
                let last : length blocks ≡ i = omega (arith, length-append blocks (b ∷ [])) in
                ap (λ (x : Block). x.first) (get_or_push blocks b c i last)
                ∙ so_far.first_is
                ∙ ap (sum_by size_of) (sym (take-append-le i blocks (b ∷ []) (omega arith) ∙ take_all i blocks (omega arith)))
          ];
      first_is = omega (arith, sum_by_push size_of blocks b, so_far.first_is);
      before = omega (arith, sum_by_more storage_part zs k d lt, part_of_storage z kind, so_far.before);
    }

-- an entangling zone adds nothing
pub none_more : (a : Architecture) (zs : List Zone) (k first : ℕ) (blocks : List Block) (d : Zone) → k < length zs → (get_or zs k d).kind ≡ Entangling → BlocksSoFar a zs k first blocks → BlocksSoFar a zs (k + 1) first blocks
none_more a zs k first blocks d lt kind so_far =
    record {
      each = so_far.each;
      in_turn = so_far.in_turn;
      first_is = so_far.first_is;
      before = omega (arith, sum_by_more storage_part zs k d lt, part_of_entangling (get_or zs k d) kind, so_far.before);
    }

pub all_blocks : (a : Architecture) (zs : List Zone) (k first : ℕ) (blocks : List Block) → zs ≡ a.zones → length zs ≤ k → BlocksSoFar a zs k first blocks → AreBlocks a blocks
all_blocks a zs k first blocks e le so_far =
    record {
      each = so_far.each;
      in_turn = so_far.in_turn;
      whole = sym so_far.first_is ∙ so_far.before ∙ ap (sum_by storage_part) (take_all k zs le) ∙ storage_count_is a zs e;
    }
