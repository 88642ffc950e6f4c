use Rattle.std.proofs.Common.{◌≡◌, ℕ, ◌<◌, true, false, get_or, ◌∙◌, ap, sym, arith, length, List}
use Rattle.std.proofs.lemmas.List.{get_or_default}
use Rattle.std.specs.List.{position_or_len}
use Rattle.std.specs.Str.{bytes_eq}
use Rattle.qasm_names.proofs.PlaceLemmas.{position_or_len-first, position_or_len-none}
use Rattle.qasm_names.proofs.places.Places.place.Goals as goal

pub returns-then-eq : goal.returns-then-eq
returns-then-eq c =
    let words = c.as_slice-words.result.now in
    let place = c.loop-place.place in
    let item = c.index-words-place.result in
    let within : place < length words = omega arith in
    let here : (d : List ℕ) → bytes_eq c.args.word.now (get_or words place d) ≡ true =
    λ d. ap (λ l. bytes_eq c.args.word.now l) (get_or_default words place d item within ∙ sym c.index-words-place.is ∙ sym c.as_slice.ensures) ∙ sym c.eq.ensures ∙ c.if-eq.true in
    sym (position_or_len-first (bytes_eq c.args.word.now) words place within c.loop-place.invariant here) ∙ ap (λ l. position_or_len (bytes_eq c.args.word.now) l) (c.as_slice-words.ensures ∙ c.self.view_is)

pub returns : goal.returns
returns c =
    let words = c.as_slice-words.result.now in
    let same = c.as_slice-words.ensures ∙ c.self.view_is in
    let none : (k : ℕ) (d : List ℕ) → k < length words → bytes_eq c.args.word.now (get_or words k d) ≡ false = λ k d h. c.loop-place.invariant k d (omega arith) in
    sym (position_or_len-none (bytes_eq c.args.word.now) words none) ∙ ap (λ l. position_or_len (bytes_eq c.args.word.now) l) same
