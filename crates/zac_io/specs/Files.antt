-- Files in memory.
use Rattle.std.specs.Prelude.{ℕ, List, [], Option, Some, None, drop, slice_get, position, unwrap_or}
use Rattle.std.specs.Option.{option_map}
use Rattle.std.specs.Str.{bytes_eq}
use Rattle.zac_io.specs.Outside.{NamedFiles}

-- A list of names, each with its bytes.
abbrev pub Pairs : Type 0
Pairs = List (List ℕ × List ℕ)

-- The place of the first file of this name, if there is one.
abbrev pub place_of : Pairs → List ℕ → Option ℕ
place_of files name = position (λ f. bytes_eq f.0 name) files

-- The bytes of the file at this place; none where the list has no such place.
abbrev pub bytes_at : Pairs → ℕ → List ℕ
bytes_at files place = unwrap_or (option_map (λ f. f.1) (slice_get files place)) []

-- The bytes of the first file of this name, if there is one.
abbrev pub file_of : Pairs → NamedFiles
file_of files name = option_map (bytes_at files) (place_of files name)

-- What is left of the picked file behind so many of its first bytes; nothing where no file is picked.
abbrev pub left_behind : Pairs → Option ℕ → ℕ → List ℕ
left_behind files None at = []
left_behind files (Some place) at = drop at (bytes_at files place)
