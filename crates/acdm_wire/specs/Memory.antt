-- Which lines need memory to be read. A line that is refused before any is asked for
-- has that refusal as its one answer, whatever memory there is.
use Rattle.std.specs.Prelude.{ℕ, ◌%◌, Bool, false, ◌&&◌, ◌==◌, nat_le, nat_lt, List}
use Rattle.std.specs.Prelude.{length, codes, option_and_then, Result, Ok, Err}
use Rattle.std.specs.Str.{is_utf8, bytes_eq}
use Rattle.serde_json.specs.Data.{Data}
use Rattle.serde_json.specs.Find.{get, as_str}
use Rattle.acdm_wire.specs.declared.fault.RequestFault.{RequestFault}
use Rattle.acdm_wire.specs.declared.fault.RequestFault.TheVariants.{UnknownCommand, Kind}
use Rattle.acdm_wire.specs.declared.request.TheConstants.{LONGEST_REQUEST}
use Rattle.acdm_wire.specs.Meant.{head_of, or_fault, slot_field}

-- a test of what one reading gives, which fails where it gives a fault
infixl 10 ◌>>=◌
abbrev pub ◌>>=◌ : {A : Type 0} → Result A RequestFault → (A → Bool) → Bool
(Ok x) >>= test = test x
(Err e) >>= test = false

-- The reader of JSON asks for room for its text: not for an empty one, nor for bytes that are no
-- UTF-8.
abbrev pub json_needs_memory : List ℕ → Bool
json_needs_memory bytes = is_utf8 bytes && nat_lt 0 (length bytes)

-- a line of a session, which is JSON: one that is not too long
unfoldable pub asked_needs_memory : List ℕ → Bool
asked_needs_memory line = nat_le (length line) LONGEST_REQUEST && json_needs_memory line

-- a line of a stream of all partners: one that is not too long and begins with a session, a minute
-- and a role, for its JSON
unfoldable pub request_needs_memory : List ℕ → Bool
request_needs_memory line =
    nat_le (length line) LONGEST_REQUEST && (head_of line >>= λ head. json_needs_memory head.rest)

-- ---- the fields of JSON that was read

-- a program, whose hexadecimal text has whole bytes
unfoldable pub program_needs_memory : Data → Bool
program_needs_memory d = do
  digits ← or_fault Kind (option_and_then as_str (get (codes "program") d))
  length digits % 2 == 0

-- a load, once its milestone and its kind are read
unfoldable pub load_needs_memory : Data → Bool
load_needs_memory d = do
  slot ← slot_field d
  program_needs_memory d

-- a command: no other than a load
unfoldable pub command_needs_memory : Data → Bool
command_needs_memory d = do
  name ← or_fault UnknownCommand (option_and_then as_str (get (codes "cmd") d))
  bytes_eq name (codes "load") && load_needs_memory d
