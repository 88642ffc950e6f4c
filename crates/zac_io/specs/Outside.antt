-- What a program knows of the outside: shelves of files that it reads, and sinks that it writes to.
use Rattle.std.specs.Prelude.{◌≡◌, ℕ, ◌+◌, ◌-◌, ◌^◌, ◌<◌, ◌≤◌, Bool, true, false, List, [], ◌++◌, length, take, min, Option, None, Some, Result, Err, is_none, IfSome, OnSome, IsSomeAnd, MatchResult}
use Rattle.std.specs.Option.{option_map}
use Rattle.zac_io.specs.declared.reading.ReadFault.{ReadFault}
use Rattle.zac_io.specs.declared.reading.ReadFault.TheVariants.{Failed}

-- 2⁶⁴ − 1, the last number of a count, where it stays.
abbrev pub last_count : ℕ
last_count = 2 ^ 64 - 1

-- One more, but never above the last number of a count.
abbrev pub next_count : ℕ → ℕ
next_count n = min (n + 1) last_count

-- A count is not below what it was, is above it if that was below the last number, and is at most the last number.
pub record Rose (before now : ℕ) : Type 0 where
  pub never_falls : before ≤ now
  pub rises : before < last_count → before < now
  pub stops : now ≤ last_count

-- a call fails only where the count of faults has risen; one that doesn't fail leaves the count as it was
abbrev pub HasCause : {T E : Type 0} → Result T E → ℕ → ℕ → Type 0
HasCause result before now = MatchResult result (λ _. now ≡ before) (λ _. Rose before now)

-- Where the test holds, the count has risen; where it doesn't, the count is as it was.
abbrev pub RoseWhere : Bool → ℕ → ℕ → Type 0
RoseWhere true before now = Rose before now
RoseWhere false before now = now ≡ before

-- What each name holds: the bytes of its file, or none.
abbrev pub NamedFiles : Type 0
NamedFiles = List ℕ → Option (List ℕ)

-- The shelf tells its files, and has none of this name.
abbrev pub is_missing : Option NamedFiles → List ℕ → Bool
is_missing None name = false
is_missing (Some file) name = is_none (file name)

-- Where the shelf tells its files, the file of this name has just these bytes.
abbrev pub Holds : Option NamedFiles → List ℕ → List ℕ → Type 0
Holds files name bytes = IfSome files (λ file. file name ≡ Some bytes)

-- Where the shelf tells its files, the file of this name is there and has more bytes than this.
abbrev pub IsLonger : Option NamedFiles → List ℕ → ℕ → Type 0
IsLonger files name max = IfSome files (λ file. IsSomeAnd (file name) (λ bytes. max < length bytes))

-- A read gave a count that fits the buffer. Where the shelf tells its files, what was left before is the front of the
-- buffer, of that count, and what is left after; and a count of 0 for a buffer with room means that nothing was left.
pub record Gives (files : Option NamedFiles) (before after buffer : List ℕ) (count : ℕ) : Type 0 where
  pub within : count ≤ length buffer
  pub next : OnSome files (before ≡ take count buffer ++ after)
  pub end : count ≡ 0 → 0 < length buffer → OnSome files (before ≡ [])

-- After `Failed` the count of faults has risen; after every other answer it is as it was.
abbrev pub HasReadCause : {T : Type 0} → Result T ReadFault → ℕ → ℕ → Type 0
HasReadCause (Err Failed) before now = Rose before now
HasReadCause _ before now = now ≡ before

-- The answer is `Failed`, or this holds.
abbrev pub UnlessFailed : {T : Type 0} → Result T ReadFault → Type 0 → Type 0
UnlessFailed (Err Failed) P = Unit {0}
UnlessFailed _ P = P

-- Where the shelf tells its files, the file of this name has at most this many bytes more than what is left.
abbrev pub TakesAtMost : Option NamedFiles → List ℕ → ℕ → List ℕ → Type 0
TakesAtMost files name most left = IfSome files (λ file. IfSome (file name) (λ bytes. length bytes ≤ most + length left))

-- What a sink has, where it tells that, has grown by these bytes; a sink that tells nothing goes on telling nothing.
abbrev pub Appends : Option (List ℕ) → Option (List ℕ) → List ℕ → Type 0
Appends old new bytes = new ≡ option_map (λ held. held ++ bytes) old

-- It has grown by a prefix of these bytes.
pub record AppendsPrefix (old new : Option (List ℕ)) (bytes : List ℕ) : Type 0 where
  pub front : List ℕ
  pub rest : List ℕ
  pub is_prefix : front ++ rest ≡ bytes
  pub grown : Appends old new front

-- After an Ok the sink has grown by all bytes; after an Err by a prefix of them.
abbrev pub Writes : {E : Type 0} → Option (List ℕ) → Option (List ℕ) → List ℕ → Result Unit E → Type 0
Writes old new bytes result = MatchResult result (λ _. Appends old new bytes) (λ _. AppendsPrefix old new bytes)

-- what writes to a sink come to, one after another
pub record WritesAddUp : Type 0 where
  -- no write leaves the sink as it is
  pub nothing : (sink : Option (List ℕ)) → Appends sink sink []
  -- a write and then another leave the bytes of both
  pub both : (old between new : Option (List ℕ)) (first second : List ℕ) → Appends old between first → Appends between new second → Appends old new (first ++ second)
  -- a prefix of the first bytes is a prefix of those and more
  pub front : (old new : Option (List ℕ)) (bytes more : List ℕ) → AppendsPrefix old new bytes → AppendsPrefix old new (bytes ++ more)
  -- a write and then a prefix of another's bytes leave a prefix of both
  pub behind : (old between new : Option (List ℕ)) (first second : List ℕ) → Appends old between first → AppendsPrefix between new second → AppendsPrefix old new (first ++ second)
