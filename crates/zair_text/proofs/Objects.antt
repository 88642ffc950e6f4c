-- Objects whose members are added one after another.
use Rattle.std.proofs.Common.{◌≡◌, ℕ, List, [], ◌∷◌, ◌++◌, map, codes, subst}
use Rattle.serde_json.specs.Data.{Data, string}
use Rattle.serde_json.specs.Written.{compact_text}
use Rattle.serde_json.proofs.OnLiterals.{serde_json_on_literals}
use Rattle.zair_form.specs.declared.step.Beam.{Beam}
use Rattle.zair_form.specs.declared.step.Caught.{Caught}
use Rattle.zair_form.specs.declared.step.Dropped.{Dropped}
use Rattle.zair_form.specs.declared.step.OneGate.{OneGate}
use Rattle.zair_form.specs.declared.step.Step.{Step}
use Rattle.zair_form.specs.declared.program.Act.TheVariants.{Job}
use Rattle.zair_text.specs.Added.{IsAdded, IsTimedAdded}
use Rattle.zair_text.specs.Values.{array_of, number_value, numbers, beams_value, caught_value, dropped_value, step_value, gate_value, activate_value, move_value, deactivate_value, act_value}
use Rattle.zair_text.proofs.Adding.{before}

-- what was added, and then the rest
next : (head : List ℕ) (d : Data) (old middle new rest : List ℕ) → IsAdded head d old middle → new ≡ middle ++ rest → new ≡ old ++ ((head ++ compact_text d) ++ rest)
next head d old middle new rest h k = before old middle new (head ++ compact_text d) rest h.text k

-- a number that is another one's
of_number : (head : List ℕ) (n m : ℕ) (old new : List ℕ) → n ≡ m → IsAdded head (number_value n) old new → IsAdded head (number_value m) old new
of_number head n m old new e h = subst (λ k. IsAdded head (number_value k) old new) e h

pub gate_added : (g : OneGate) (op q : ℕ) (old o1 o2 o3 new : List ℕ) → op ≡ g.op → q ≡ g.q → IsAdded (codes "{\"op\":") (number_value op) old o1 → IsAdded (codes ",\"q\":") (number_value q) o1 o2
    → IsAdded (codes ",\"u\":") (array_of (string g.angles.theta ∷ string g.angles.phi ∷ string g.angles.lambda ∷ [])) o2 o3 → new ≡ o3 ++ 125 ∷ [] → IsAdded [] (gate_value g) old new
unfolding serde_json_on_literals
gate_added g op q old o1 o2 o3 new is_op is_q a b u end =
    let first : IsAdded (codes "{\"op\":") (number_value g.op) old o1 = of_number _ op g.op old o1 is_op a in
    let second : IsAdded (codes ",\"q\":") (number_value g.q) o1 o2 = of_number _ q g.q o1 o2 is_q b in
    record {
      text = next _ _ old o1 new _ first (next _ _ o1 o2 new _ second (next _ _ o2 o3 new _ u end));
      small = (first.small, (second.small, (u.small, tt)));
    }

pub activate_added : (rows columns : List Beam) (atoms : List Caught) (old o1 o2 o3 new : List ℕ) → IsAdded (codes "{\"atoms\":") (array_of (map caught_value atoms)) old o1
    → IsAdded (codes ",\"columns\":") (beams_value columns) o1 o2 → IsAdded (codes ",\"rows\":") (beams_value rows) o2 o3 → new ≡ o3 ++ codes ",\"step\":\"activate\"}"
    → IsAdded [] (activate_value rows columns atoms) old new
unfolding serde_json_on_literals
activate_added rows columns atoms old o1 o2 o3 new a c r end = record {
  text = next _ _ old o1 new _ a (next _ _ o1 o2 new _ c (next _ _ o2 o3 new _ r end));
  small = (a.small, (c.small, (r.small, (tt, tt))));
}

pub move_added : (rows columns : List Beam) (old o1 o2 new : List ℕ) → IsAdded (codes "{\"columns\":") (beams_value columns) old o1 → IsAdded (codes ",\"rows\":") (beams_value rows) o1 o2
    → new ≡ o2 ++ codes ",\"step\":\"move\"}" → IsAdded [] (move_value rows columns) old new
unfolding serde_json_on_literals
move_added rows columns old o1 o2 new c r end = record {
  text = next _ _ old o1 new _ c (next _ _ o1 o2 new _ r end);
  small = (c.small, (r.small, (tt, tt)));
}

pub deactivate_added : (rows columns : List ℕ) (atoms : List Dropped) (old o1 o2 o3 new : List ℕ) → IsAdded (codes "{\"atoms\":") (array_of (map dropped_value atoms)) old o1
    → IsAdded (codes ",\"columns\":") (numbers columns) o1 o2 → IsAdded (codes ",\"rows\":") (numbers rows) o2 o3 → new ≡ o3 ++ codes ",\"step\":\"deactivate\"}"
    → IsAdded [] (deactivate_value rows columns atoms) old new
unfolding serde_json_on_literals
deactivate_added rows columns atoms old o1 o2 o3 new a c r end = record {
  text = next _ _ old o1 new _ a (next _ _ o1 o2 new _ c (next _ _ o2 o3 new _ r end));
  small = (a.small, (c.small, (r.small, (tt, tt))));
}

pub job_added : (begin end aod number : ℕ) (steps : List Step) (old o1 o2 o3 o4 new : List ℕ) → number ≡ aod → IsAdded (codes "{\"aod\":") (number_value number) old o1
    → IsAdded (codes ",\"begin\":") (number_value begin) o1 o2 → IsAdded (codes ",\"end\":") (number_value end) o2 o3 → IsAdded (codes ",\"steps\":") (array_of (map step_value steps)) o3 o4
    → new ≡ o4 ++ codes ",\"type\":\"rearrangeJob\"}" → IsAdded [] (act_value begin end (Job aod steps)) old new
unfolding serde_json_on_literals
job_added begin end aod number steps old o1 o2 o3 o4 new is a b e s last =
    let first : IsAdded (codes "{\"aod\":") (number_value aod) old o1 = of_number _ number aod old o1 is a in
    record {
      text = next _ _ old o1 new _ first (next _ _ o1 o2 new _ b (next _ _ o2 o3 new _ e (next _ _ o3 o4 new _ s last)));
      small = (first.small, (b.small, (e.small, (s.small, (tt, tt)))));
    }

pub timed_added : (begin end : ℕ) (head : List ℕ) (d : Data) (tail old o1 o2 o3 new : List ℕ) → IsAdded (codes "{\"begin\":") (number_value begin) old o1 → IsAdded (codes ",\"end\":") (number_value end) o1 o2
    → IsAdded head d o2 o3 → new ≡ o3 ++ tail → IsTimedAdded begin end head d tail old new
timed_added begin end head d tail old o1 o2 o3 new b e s last = record {
  text = next _ _ old o1 new _ b (next _ _ o1 o2 new _ e (next head d o2 o3 new tail s last));
  first = b.small;
  second = e.small;
  small = s.small;
}
