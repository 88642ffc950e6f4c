-- What `report`, `replay` and `drill` write.
use Rattle.std.specs.Prelude.{ℕ, List, [], ◌∷◌, ◌++◌, map, codes, decimal}
use Rattle.zac_watch.specs.Weights.{name_of}
use Rattle.zair_text.specs.Lines.{joined}
use Rattle.zair_text.specs.declared.counts.Totals.{Totals}
use Rattle.zac_flow.specs.Panel.{Reading}

-- The line of a total: its name and its number.
abbrev pub total_line : List ℕ → ℕ → List ℕ
total_line name n = joined (name ∷ codes " " ∷ decimal n ∷ codes "\n" ∷ [])

-- The lines of the totals of a program.
abbrev pub total_lines : Totals → List ℕ
total_lines t = joined
    (total_line (codes "qubits") t.qubits ∷ total_line (codes "pulses") t.pulses ∷ total_line (codes "pairs") t.pairs
    ∷ total_line (codes "gates") t.gates ∷ total_line (codes "reads") t.reads ∷ total_line (codes "jobs") t.jobs
    ∷ total_line (codes "moved") t.moved ∷ total_line (codes "kept") t.kept ∷ total_line (codes "time") t.time ∷ [])

-- The line of a watch: `watch`, the name of its kind, and its sum.
abbrev pub watch_line : Reading → List ℕ
watch_line r = joined (codes "watch " ∷ name_of r.kind ∷ codes " " ∷ decimal r.sum ∷ codes "\n" ∷ [])

-- The report of a program with these totals: their lines, and one for each watch of the panel.
abbrev pub report_text : Totals → List Reading → List ℕ
report_text t panel = total_lines t ++ joined (map watch_line panel)

-- The line of a text that replays: how many steps it has, and its greatest end.
abbrev pub verdict_text : ℕ → Totals → List ℕ
verdict_text steps t = joined (codes "legal: steps " ∷ decimal steps ∷ codes " time " ∷ decimal t.time ∷ codes "\n" ∷ [])

-- The line of a drill of n qubits: the pairs, gates, pulses, kept pairs, jobs, moved atoms and the time of what it
-- compiles to.
abbrev pub drill_text : ℕ → ℕ → Totals → List ℕ
drill_text n k t = joined
    (codes "drill qubits " ∷ decimal n ∷ codes " pairs " ∷ decimal k ∷ codes " gates " ∷ decimal t.gates
    ∷ codes " pulses " ∷ decimal t.pulses ∷ codes " kept " ∷ decimal t.kept ∷ codes " jobs " ∷ decimal t.jobs
    ∷ codes " moved " ∷ decimal t.moved ∷ codes " time " ∷ decimal t.time ∷ codes "\n" ∷ [])
