-- What steps weigh for the kinds of watches.
use Rattle.std.specs.Prelude.{ℕ, List, length, codes}
use Rattle.zair_form.specs.declared.step.Step.{Step}
use Rattle.zair_form.specs.declared.step.Step.TheVariants.{Activate, Move, One, Pulse, Readout}
use Rattle.zac_watch.specs.declared.kind.Kind.{Kind}
use Rattle.zac_watch.specs.declared.kind.Kind.TheVariants.{Gates, Moves, Pairs, Picks, Pulses, Reads}

-- Gates: 1 for a one-qubit gate. Moves: 1 for a move. Pairs: the pairs of a pulse. Picks: the atoms that an activate
-- catches. Pulses: 1 for a pulse. Reads: the reads of a readout. All else weighs 0.
abbrev pub weight : Kind → Step → ℕ
weight Gates (One gate) = 1
weight Gates _ = 0
weight Moves (Move aod rows columns) = 1
weight Moves _ = 0
weight Pairs (Pulse pairs) = length pairs
weight Pairs _ = 0
weight Picks (Activate aod rows columns atoms) = length atoms
weight Picks _ = 0
weight Pulses (Pulse pairs) = 1
weight Pulses _ = 0
weight Reads (Readout reads) = length reads
weight Reads _ = 0

-- The name of a kind, as bytes of text.
abbrev pub name_of : Kind → List ℕ
name_of Gates = codes "gates"
name_of Moves = codes "moves"
name_of Pairs = codes "pairs"
name_of Picks = codes "picks"
name_of Pulses = codes "pulses"
name_of Reads = codes "reads"
