use Rattle.zac_io.proofs.Growth.{front_appended}
use Rattle.zac_io.proofs.mem_sink.MemSinkSink.write.Goals as goal

pub returns-then-not-add_front-clause-bytes : goal.returns-then-not-add_front-clause-bytes
returns-then-not-add_front-clause-bytes c = front_appended _ _ _ _ c.add_front.ensures.bytes
