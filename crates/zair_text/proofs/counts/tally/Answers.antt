use Rattle.std.proofs.Common.{◌≡◌, ℕ, Bool, ◌+◌, ◌&&◌, ◌||◌, List, [], ◌∷◌, ◌++◌, length, take, refl, sym, ap, ◌∙◌, subst, arith}
use Rattle.std.proofs.lemmas.List.{take_more, take_all}
use Rattle.std.specs.List.{count_by, list_any}
use Rattle.std.specs.Ordering.{nat_cmp}
use Rattle.std.specs.BTreeMap.{is_at}
use Rattle.std.specs.BTreeSet.{contains}
use Rattle.zac_arch.specs.declared.place.TrapId.{TrapId}
use Rattle.zair_form.specs.declared.program.Instr.{Instr}
use Rattle.zair_form.specs.declared.step.PairOf.{PairOf}
use Rattle.zair_text.specs.Tally.{told, pairs_of, is_paired, lets_stay, is_held, kept_pairs}
use Rattle.zair_text.proofs.Counting.{Counts, AddsOne, counts_none, counts_more, counts_all, none_more, kept_same, is_held_more}
use Rattle.zair_text.proofs.counts.tally.Goals as goal

pub loop-instr-init : goal.loop-instr-init
unfolding is_held
loop-instr-init c = (
  counts_none _ refl refl refl refl refl refl refl refl,
  refl,
  λ q. ap (λ (ks : List ℕ). list_any (is_at (nat_cmp q)) ks) c.new-held.ensures.empty,
)

pub loop-instr-preserved : goal.loop-instr-preserved
loop-instr-preserved c =
    let xs : List Instr = c.instrs-instr-items.result.now in
    let i : ℕ = c.loop-instr.instr-index in
    let x : Instr = c.instr-item.result in
    let before : List Instr = take i xs in
    let has : ℕ → Bool = contains nat_cmp c.loop-instr.held in
    let more : take (i + 1) xs ≡ before ++ x ∷ [] = take_more xs i x c.loop-instr-test.true ∙ ap (λ (z : Instr). before ++ z ∷ []) (sym c.instr-item.is) in
    let pairs : c.pairs_of.result.now ≡ pairs_of x.act = c.pairs_of.ensures in
    let kept : c.pairs_with-kept.result ≡ told (kept_pairs before (pairs_of x.act)) =
    c.pairs_with-kept.ensures
    ∙ ap told (ap (λ (ps : List PairOf). count_by (λ p. has p.a || has p.b) ps) pairs ∙ kept_same before (pairs_of x.act) has c.loop-instr.invariant.2) in
    let one : AddsOne c.loop-instr.totals x c.pairs_with-kept.result c.and-totals.result = record {
      gates = c.and-totals.ensures.gates;
      jobs = c.and-totals.ensures.jobs;
      kept = c.and-totals.ensures.kept;
      moved = c.and-totals.ensures.moved;
      pairs = c.and-totals.ensures.pairs;
      pulses = c.and-totals.ensures.pulses;
      reads = c.and-totals.ensures.reads;
      time = c.and-totals.ensures.time;
    } in
    let P : List Instr → Type 0 = λ is. Counts is c.and-totals.result in (
      subst P (sym more) (counts_more before c.loop-instr.totals c.and-totals.result x c.pairs_with-kept.result c.loop-instr.invariant.0 one kept),
      c.and-totals.ensures.qubits ∙ c.loop-instr.invariant.1,
      λ q. c.in_ok-pass.ensures q
          ∙ (ap (λ (h : Bool). is_paired q (pairs_of x.act) || (h && lets_stay q x.act)) (c.loop-instr.invariant.2 q)
          ∙ (sym (is_held_more q before x) ∙ ap (λ (is : List Instr). is_held q is) (sym more))),
    )

pub returns : goal.returns
returns c =
    let program : List Instr = c.args.program.now in
    let xs : List Instr = c.instrs-instr-items.result.now in
    let whole : take c.loop-instr.instr-index xs ≡ program = take_all c.loop-instr.instr-index xs (omega arith) ∙ c.instrs-instr-items.ensures.value in
    let P : List Instr → Type 0 = λ is. Counts is c.loop-instr.totals in
    counts_all program c.loop-instr.totals (subst P whole c.loop-instr.invariant.0)
    (c.loop-instr.invariant.1 ∙ (c.more.ensures ∙ (none_more _ ∙ ap (λ (hs : List TrapId). told (length hs)) c.homes.ensures)))
