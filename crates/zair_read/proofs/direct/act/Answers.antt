use Rattle.zair_read.proofs.CompactLines.{init_text, gates_text, rydberg_text, readout_text}
use Rattle.zair_read.proofs.direct.act.Goals as goal

pub returns-in_ok-ones-in-103 : goal.returns-in_ok-ones-in-103
returns-in_ok-ones-in-103 c = let h = c.in_ok-ones-in-103.ensures in gates_text c.in_ok-ones-in-103.ones c.args.bytes.now h.0 h.1

pub returns-in_ok-homes-in-104 : goal.returns-in_ok-homes-in-104
returns-in_ok-homes-in-104 c = let h = c.in_ok-homes-in-104.ensures in init_text c.in_ok-homes-in-104.homes c.args.bytes.now h.0 h.1

pub returns-in_ok-pairs-in-112 : goal.returns-in_ok-pairs-in-112
returns-in_ok-pairs-in-112 c = let h = c.in_ok-pairs-in-112.ensures in rydberg_text c.in_ok-pairs-in-112.pairs c.args.bytes.now h.0 h.1

pub returns-in_ok-reads-in_default : goal.returns-in_ok-reads-in_default
returns-in_ok-reads-in_default c = let h = c.in_ok-reads-in_default.ensures in readout_text c.in_ok-reads-in_default.reads c.args.bytes.now h.0 h.1
