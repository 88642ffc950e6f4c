use Rattle.std.proofs.Common.{◌++◌, ◌∷◌, List, ℕ, IsTrue, subst, sym, ap, ◌∙◌}
use Rattle.zac_gates.specs.Angle.{is_angle}
use Rattle.zair_read.proofs.CompactParts.{angle_text}
use Rattle.zair_read.proofs.part.AnglePart.part.Goals as goal

pub returns-in-Ok : goal.returns-in-Ok
returns-in-Ok c =
    let is = c.in-Ok.ensures in
    let angle : List ℕ = c.in-Ok.angle in
    let h : IsTrue (is_angle angle) = subst (λ (a : List ℕ). IsTrue (is_angle a)) (sym is.0) is.1 in (
      angle_text angle c.args.bytes.now c.in_ok-rest.rest.now c.in-Some.behind.now h c.in_ok-rest.ensures
          (c.in-Some.ensures ∙ ap (λ (a : List ℕ). a ++ 34 ∷ c.in-Some.behind.now) (sym (is.0 ∙ c.of.ensures ∙ c.in_ok-text.ensures.items))),
      h,
    )
