-- When a display has left.
use Rattle.std.specs.Prelude.{ℕ, ◌≡◌, Result, Ok, Err}
use Rattle.std.specs.declared.io.Error.{Error}
use Rattle.std.specs.IoError.{error_kind}
use Rattle.acdm_lines.specs.Passing.{IsPassing}

-- A read tells that a display has left: it gave none, or failed for good.
abbrev pub TellsLeaving : Result ℕ Error → Type 0
TellsLeaving (Ok count) = count ≡ 0
TellsLeaving (Err error) = ¬ IsPassing (error_kind error)
