-- Failures that pass by themselves.
use Rattle.std.specs.Prelude.{◌≡◌, ◌⊎◌}
use Rattle.std.specs.declared.io.ErrorKind.{ErrorKind}
use Rattle.std.specs.declared.io.ErrorKind.TheVariants.{WouldBlock, Interrupted}

-- A call that failed so is made once more: nothing came in its time, or a signal came in between, as
-- where the program was stopped and goes on.
abbrev pub IsPassing : ErrorKind → Type 0
IsPassing kind = (kind ≡ WouldBlock) ⊎ (kind ≡ Interrupted)
