-- What a line of a session asks to be done, and when.
use Rattle.std.specs.Prelude.{ℕ, ◌≡◌, Bool, true, false, if◌then◌else◌}
use Rattle.std.specs.Prelude.{List, Option, Some, None, Result, Ok, Err}
use Rattle.bpf_helpers.specs.Promise.{Promise}
use Rattle.acdm_step.specs.declared.command.Command.{Command}
use Rattle.acdm_wire.specs.declared.fault.RequestFault.{RequestFault}
use Rattle.acdm_wire.specs.declared.fault.Bad.{Bad}
use Rattle.acdm_wire.specs.declared.fault.Bad.TheVariants.{Faulty, NoMinute, NoMemory}
use Rattle.acdm_step.specs.declared.stated.StatedCommand.{StatedCommand}
use Rattle.acdm_wire.specs.Meant.{asked_of}
use Rattle.bpf_verifier.specs.Reading.{Reading}
use Rattle.acdm_sessions.specs.Output.{IsReadingFor, command_with}
use Rattle.acdm_sessions.specs.declared.order.Order.{Order}

-- What is told of a line beside its bytes: whether memory was refused for it, the minute that the
-- clock gave, and how the bytes of its program are read.
pub record OrderFacts : Type 0 where
  pub short : Bool
  pub minute : Option ℕ
  pub program : Reading

abbrev pub order_at : ℕ → Result Command Bad → Result Order Bad
order_at minute (Err b) = Err b
order_at minute (Ok c) = Ok record { moment = minute; command = c }

abbrev pub order_asked : Option ℕ → Reading → Result StatedCommand RequestFault → Result Order Bad
order_asked minute reading (Err f) = Err (Faulty f)
order_asked None reading (Ok asked) = Err NoMinute
order_asked (Some m) reading (Ok asked) = order_at m (command_with reading asked)

-- what the line asks to be done, and when: the order of tests is 105, 101, 102, the fields, 106,
-- and then the program
abbrev pub order_of : OrderFacts → List ℕ → Result Order Bad
order_of facts line =
    if facts.short then Err NoMemory
    else order_asked facts.minute facts.program (asked_of line)

-- the bytes of a program are read so, where the clock gave a minute
abbrev pub IsReadingAt : List (ℕ × Promise) → Option ℕ → Result StatedCommand RequestFault → Reading
    → Type 0
IsReadingAt sigs None asked reading = Unit {0}
IsReadingAt sigs (Some m) (Err f) reading = Unit {0}
IsReadingAt sigs (Some m) (Ok asked) reading = IsReadingFor sigs asked reading

abbrev pub MayBe : (ℕ → Bool) → Option ℕ → Type 0
MayBe gives None = Unit {0}
MayBe gives (Some m) = gives m ≡ true

-- what a function returned is what the line asks for, with a minute that the clock may give
pub record Orders (gives : ℕ → Bool) (sigs : List (ℕ × Promise)) (line : List ℕ)
    (result : Result Order Bad) : Type 0 where
  pub facts : OrderFacts
  pub minute : MayBe gives facts.minute
  pub reading : facts.short ≡ false → IsReadingAt sigs facts.minute (asked_of line) facts.program
  pub is : result ≡ order_of facts line
