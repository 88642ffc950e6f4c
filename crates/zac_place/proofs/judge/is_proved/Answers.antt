use Rattle.std.proofs.Common.{◌<◌, ℕ, Bool, List, length, get_or, ap, subst, arith}
use Rattle.zac_arch.specs.Architecture.{storage_count}
use Rattle.zac_world.proofs.RankFacts.{below_storage}
use Rattle.zac_place.specs.Judged.{AreMarked, AreRows, IsJudged}
use Rattle.zac_place.specs.declared.judge.Row.{Row}
use Rattle.zac_place.proofs.JudgeFacts.{proved}
use Rattle.zac_place.proofs.judge.is_proved.Goals as goal

pub rows_of-requires-clause-targets : goal.rows_of-requires-clause-targets
rows_of-requires-clause-targets c k d lt =
    let p = c.args.world.now in
    let marked : AreMarked p c.as_slice.result.now c.in-Some.marks = rw c.in-Some.is at c.in_ok-marks.ensures in
    let here : AreMarked p c.args.proposal.now.targets.items c.in-Some.marks = subst (λ (l : List ℕ). AreMarked p l c.in-Some.marks) c.as_slice.ensures.value marked in
    omega (arith, below_storage p _ (here.empty k d lt), ap storage_count c.requires.card)

pub returns : goal.returns
returns c good =
    let p = c.args.world.now in
    let leaving = c.args.leaving.now in
    let targets = c.args.proposal.now.targets.items in
    let prices = c.args.proposal.now.prices.items in
    let marks = c.in-Some.marks in
    let rows = c.in-Some-2.rows.items in
    let marked_there : AreMarked p c.as_slice.result.now marks = rw c.in-Some.is at c.in_ok-marks.ensures in
    let marked : AreMarked p targets marks = subst (λ (l : List ℕ). AreMarked p l marks) c.as_slice.ensures.value marked_there in
    let are : AreRows p marks leaving targets prices rows = rw c.in-Some-2.is at c.in_ok-rows.ensures in
    let judged : (k : ℕ) (d : Row) → k < length rows → IsJudged rows (get_or rows k d) =
    subst (λ (l : List Row). (k : ℕ) (d : Row) → k < length l → IsJudged l (get_or l k d)) c.as_slice-2.ensures.value (c.are_judged.ensures good) in
    proved p marks leaving targets prices rows marked are (omega (arith, c.len.ensures, c.if-len-leaving.false)) (omega (arith, c.len-else-len-leaving.ensures, c.if-len-leaving-2.false)) judged
