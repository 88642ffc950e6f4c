-- A buffer that is filled read by read.
use Rattle.std.proofs.Common.{◌≡◌, ℕ, ◌+◌, List, ◌++◌, length, take, drop, sym, ap, subst, ◌∙◌, append_assoc, Option, None, Some, arith, take_all}
use Rattle.std.specs.Prelude.{OnSome}
use Rattle.std.proofs.Math.Seq.{take-add}
use Rattle.std.proofs.lemmas.List.{take-append-le}
use Rattle.zac_io.specs.Outside.{NamedFiles, Gives}

-- What was left at first is what the buffer has so far, and then what is left now.
filled_with : (files : Option NamedFiles) (first before after old new : List ℕ) (filled count : ℕ) → OnSome files (first ≡ take filled old ++ before) → take filled new ≡ take filled old → Gives files before after (drop filled new) count → OnSome files (first ≡ take (filled + count) new ++ after)
filled_with None first before after old new filled count so_far front gives = tt
filled_with (Some file) first before after old new filled count so_far front gives =
    so_far
    ∙ ap (λ (l : List ℕ). l ++ before) (sym front)
    ∙ ap (λ (l : List ℕ). take filled new ++ l) gives.next
    ∙ sym (append_assoc (take filled new) (take count (drop filled new)) after)
    ∙ ap (λ (l : List ℕ). l ++ after) (sym (take-add filled count new))

-- A slice of the whole length stands in the vector that lent it.
lent_back : (len : ℕ) (new old : List ℕ) → length new ≡ len → take len (new ++ drop (length new) old) ≡ new
lent_back len new old same =
    take-append-le len new (drop (length new) old) (omega arith) ∙ take_all len new (omega arith)

-- After one more read, what was left at first is what the buffer has so far, and then what is left now.
pub filled_on : (at_first now : Option NamedFiles) (first before after old new items : List ℕ) (filled count len : ℕ) → now ≡ at_first → OnSome at_first (first ≡ take filled old ++ before) → take filled new ≡ take filled old → Gives now before after (drop filled new) count → length new ≡ len → OnSome at_first (first ≡ take (filled + count) (take len (new ++ drop (length new) items)) ++ after)
filled_on at_first now first before after old new items filled count len same so_far front gives long =
    subst (λ (l : List ℕ). OnSome at_first (first ≡ take (filled + count) l ++ after)) (sym (lent_back len new items long))
    (filled_with at_first first before after old new filled count so_far front
    (subst (λ (f : Option NamedFiles). Gives f before after (drop filled new) count) same gives))
