use Rattle.std.proofs.Common.{◌≡◌, ℕ, ◌+◌, ◌*◌, ◌++◌, ◌∷◌, [], Bool, true, false, cond, List, is_none, sym, ap, ◌∙◌, arith}
use Rattle.std.proofs.lemmas.List.{append-nil, append_assoc}
use Rattle.std.proofs.lemmas.Nat.{row_fits}
use Rattle.zac_arch.specs.Distances.{difference}
use Rattle.zac_world.specs.Places.{is_empty}
use Rattle.zac_world.specs.Nearest.{distance_from}
use Rattle.zac_world.specs.Walks.{candidate, candidates_in}
use Rattle.zac_world.specs.declared.walk.Candidate.{Candidate}
use Rattle.zac_world.proofs.PlacesFacts.{none_by_test, storage_in}
use Rattle.zac_world.proofs.WalkFacts.{empty_by_atom, one_within, row_after, row_before, row_distance, row_inside, row_too_far}
use Rattle.zac_world.proofs.walk.add_row.Goals as goal
use Rattle.zac_world.proofs.walk.add_row.Goals.{then-is_none+in_ok-push, else-is_none}

pub returns-then-disc-up : goal.returns-then-disc-up
returns-then-disc-up c =
    let here = c.args.found.now.items in
    sym (append-nil here) ∙ ap (λ (l : List Candidate). here ++ l) (sym (row_too_far c.args.world.now c.args.disc c.args.block c.args.row c.abs_diff-up.result c.requires.block c.requires.row_in c.abs_diff-up.ensures c.if-disc-up.true))

pub loop-column-init : goal.loop-column-init
loop-column-init c =
    let here = c.args.found.now.items in
    sym (append-nil here) ∙ ap (λ (l : List Candidate). here ++ l) (sym (row_before c.args.world.now c.args.disc c.args.block c.args.row c.abs_diff-up.result c.within_reach-begin.result.0 c.within_reach-begin.result.1 c.requires.block c.requires.row_in c.abs_diff-up.ensures c.if-disc-up.false c.within_reach-begin.ensures.near (omega arith)))

pub atom_at-requires : goal.atom_at-requires
atom_at-requires c =
    let b = c.args.block in
    omega (arith, c.requires.block.storage, storage_in c.args.world.now.architecture, row_fits c.args.row b.zone.columns b.zone.rows b.zone.columns c.requires.row_in (omega arith), c.loop-column-test.true, c.within_reach-begin.ensures.counted)

pub loop-column-preserved : goal.loop-column-preserved
loop-column-preserved c =
    let here = c.args.found.now.items in
    let p = c.args.world.now in
    let d = c.args.disc in
    let b = c.args.block in
    let first = b.first + c.args.row * b.zone.columns in
    let column = c.loop-column.column in
    let found = c.atom_at.result in
    let near = row_inside p d b c.args.row c.abs_diff-up.result c.within_reach-begin.result.0 c.within_reach-begin.result.1 column c.requires.block c.requires.row_in (omega arith) c.abs_diff-up.ensures c.if-disc-up.false c.within_reach-begin.ensures.near (omega arith) (omega arith) in
    let test : is_empty p.traps (first + column) ≡ is_none found = empty_by_atom p.traps (first + column) found c.atom_at.ensures in
    let more : (e : Bool) → is_none found ≡ e → here ++ candidates_in p d first (column + 1) ≡ (here ++ candidates_in p d first column) ++ cond e (candidate p.architecture d.centre (first + column) ∷ []) [] =
    λ e is. ap (λ (l : List Candidate). here ++ l) (one_within p d first column e near (test ∙ is)) ∙ sym (append_assoc here (candidates_in p d first column) (cond e (candidate p.architecture d.centre (first + column) ∷ []) [])) in
    let far : (across : ℕ) → across ≡ difference d.centre.x (b.zone.x + column * b.zone.dx) → across + c.abs_diff-up.result ≡ distance_from p.architecture d.centre (first + column) =
    λ across is. omega (arith, is, c.abs_diff-up.ensures, row_distance p.architecture b d.centre c.args.row column c.requires.block c.requires.row_in (omega arith)) in
    elim c.if-is_none.branch [
      | then-is_none+in_ok-push w ↦
          ap (λ v. v.items) w.found-is ∙ w.in_ok-push.ensures.items
          ∙ ap (λ (n : ℕ). c.loop-column.found.items ++ record { distance = n; trap = record { 0 = first + column } } ∷ []) (far w.abs_diff-across.result w.abs_diff-across.ensures)
          ∙ ap (λ (l : List Candidate). l ++ candidate p.architecture d.centre (first + column) ∷ []) c.loop-column.invariant
          ∙ sym (more true (none_by_test found c.is_none.result true c.is_none.ensures w.if-is_none.true))
      | else-is_none w ↦
          ap (λ v. v.items) w.found-is ∙ c.loop-column.invariant
          ∙ sym (append-nil (here ++ candidates_in p d first column))
          ∙ sym (more false (none_by_test found c.is_none.result false c.is_none.ensures w.if-is_none.false))
    ]

pub returns : goal.returns
returns c =
    let here = c.args.found.now.items in
    c.loop-column.invariant ∙ ap (λ (l : List Candidate). here ++ l) (sym (row_after c.args.world.now c.args.disc c.args.block c.args.row c.abs_diff-up.result c.within_reach-begin.result.0 c.within_reach-begin.result.1 c.loop-column.column c.requires.block c.requires.row_in c.abs_diff-up.ensures c.if-disc-up.false c.within_reach-begin.ensures.near (omega arith) (omega arith)))
