use Rattle.std.proofs.Common.{◌≡◌, false, sym, ◌∙◌, add-one, arith}
use Rattle.std.specs.Str.{bytes_eq}
use Rattle.qasm_expand.proofs.LookupLemmas.{lookup-passed}
use Rattle.qasm_expand.proofs.substitution.angle_for.Goals as goal

pub loop-place-preserved : goal.loop-place-preserved
loop-place-preserved c =
    let params = c.args.params.now in
    let param = c.index-params-place.result in
    let fails : bytes_eq c.args.name.now param ≡ false = cc in
    rw add-one (sym (lookup-passed (bytes_eq c.args.name.now) params c.args.angles.now c.loop-place.place param (omega arith) c.index-params-place.is fails) ∙ c.loop-place.invariant)
