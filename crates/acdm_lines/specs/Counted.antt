-- What callers see of a reader and of a writer that count their faults and keep a log.
use Rattle.std.specs.Prelude.{ℕ, ◌+◌, ◌-◌, ◌^◌, Bool, true, false, ◌&&◌, ◌||◌, ◌==◌, nat_lt}
use Rattle.std.specs.Prelude.{if◌then◌else◌}
use Rattle.std.specs.Prelude.{List, [], length, take, Option, Some, None, Result, Ok, Err}

-- a reader: itself, what was known at first of what it would give, how often it failed, all bytes that
-- its reads gave since then, and whether its last read told the end
pub record SourceView (R : Type 0) : Type 0 where
  pub inner : R
  pub first : Option (List ℕ)
  pub faults : ℕ
  pub log : List ℕ
  pub ended : Bool

-- a writer: itself, what was known at first of what it held, how often it failed, whether bytes that it
-- took wait for a flush, all bytes that its writes took since then, and the numbers of the entries that it
-- was told of
pub record SinkView (W : Type 0) : Type 0 where
  pub inner : W
  pub first : Option (List ℕ)
  pub faults : ℕ
  pub waits : Bool
  pub log : List ℕ
  pub told : List ℕ

-- the count's greatest value, at which it stops
abbrev pub most_faults : ℕ
most_faults = 2 ^ 64 - 1

-- the count after one more fault, if there was one
abbrev pub faults_after : Bool → ℕ → ℕ
faults_after failed n = if failed && nat_lt n most_faults then n + 1 else n

-- a write failed: by an error, or because none of some bytes was taken
abbrev pub write_failed : {E : Type 0} → Result ℕ E → List ℕ → Bool
write_failed (Err e) bs = true
write_failed (Ok n) bs = n == 0 && nat_lt 0 (length bs)

-- bytes wait for a flush after a write: some did before, or some were taken
abbrev pub waits_after : {E : Type 0} → Result ℕ E → Bool → Bool
waits_after (Err e) waits = waits
waits_after (Ok n) waits = waits || nat_lt 0 n

-- a flush that did not fail leaves none waiting
abbrev pub waits_flushed : {T E : Type 0} → Result T E → Bool → Bool
waits_flushed (Err e) waits = waits
waits_flushed (Ok x) waits = false

-- the bytes that one call moved: of the buffer the first so many, none on an error
abbrev pub moved : {E : Type 0} → Result ℕ E → List ℕ → List ℕ
moved (Err e) buf = []
moved (Ok n) buf = take n buf

-- a read told the end: it gave none, and there was room
abbrev pub tells_end : {E : Type 0} → Result ℕ E → List ℕ → Bool
tells_end (Err e) buf = false
tells_end (Ok n) buf = n == 0 && nat_lt 0 (length buf)

-- bytes that are known, or none
abbrev pub known_bytes : Option (List ℕ) → List ℕ
known_bytes None = []
known_bytes (Some bytes) = bytes
