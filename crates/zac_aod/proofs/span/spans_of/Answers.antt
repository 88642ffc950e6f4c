use Rattle.std.proofs.Common.{◌≡◌, List, [], ◌∷◌, ◌++◌, min, max, take, get_or, set, ap, sym, ◌∙◌, subst}
use Rattle.zac_aod.specs.Layout.{AreCovered}
use Rattle.zac_aod.specs.declared.atom.Atom.{Atom}
use Rattle.zac_aod.specs.declared.span.Span.{Span}
use Rattle.zac_aod.proofs.Gathering.{take_more}
use Rattle.zac_aod.proofs.Spans.{covered_more}
use Rattle.zac_aod.proofs.span.spans_of.Goals as goal

pub loop-atom-preserved : goal.loop-atom-preserved
loop-atom-preserved c =
    let atoms : List Atom = c.args.atoms.now in
    let spans : List Span = c.loop-atom.spans.items in
    let n = c.loop-atom.atom-index in
    let z : Atom = record { q = 0; to = record { 0 = 0 }; row = 0; column = 0 } in
    let atom : Atom = get_or atoms n z in
    let span : Span = c.index.result.now in
    let number : atom.column ≡ c.from-column.result = sym c.from-column.ensures in
    let here : get_or spans atom.column span ≡ span = ap (λ k. get_or spans k span) number ∙ sym c.index.ensures in
    let widened : Span → Span = λ s. record { first = min s.first atom.row; last = max s.last atom.row } in
    let wide : widened (get_or spans atom.column span) ≡ c.with.result = ap widened here ∙ sym c.with.ensures in
    subst (λ (ts : List Atom). AreCovered ts c.args.columns (set spans c.from-column.result c.with.result)) (sym (take_more atoms n z c.loop-atom-test.true))
    (subst (λ (ss : List Span). AreCovered (take n atoms ++ atom ∷ []) c.args.columns ss) (λ i. set spans (number i) (wide i))
    (covered_more (take n atoms) c.args.columns spans atom span (c.requires n z c.loop-atom-test.true) c.loop-atom.invariant))
