-- Calls on the doubles over memory: they are counted from 1, and the listed ones fail.
use Rattle.std.specs.Prelude.{Bool, ◌==◌}
use Rattle.std.specs.List.{list_any}
use Rattle.zac_io.specs.declared.calls.Calls.{Calls}
use Rattle.zac_io.specs.Outside.{next_count}

-- The number of the next call is one of those listed to fail.
abbrev pub fails_next : Calls → Bool
fails_next calls = list_any (λ k. k == next_count calls.made) calls.failing

-- The calls with one more counted.
abbrev pub after_call : Calls → Calls
after_call calls = record { made = next_count calls.made; failing = calls.failing }
