-- What is written for what is read.
use Rattle.std.specs.Prelude.{ℕ, ◌≡◌, Bool, false, ◌==◌, if◌then◌else◌}
use Rattle.std.specs.Prelude.{List, [], ◌∷◌, ◌++◌, length, Result, Ok, Err}
use Rattle.acdm_milestones.specs.declared.role.Role.{Role}
use Rattle.bpf_helpers.specs.Promise.{Promise}
use Rattle.acdm_step.specs.declared.command.Command.{Command}
use Rattle.acdm_step.specs.declared.command.Command.TheVariants as commands
use Rattle.acdm_step.specs.Verdicts.{outcome_of}
use Rattle.acdm_board.specs.Desk.{DeskView, entered}
use Rattle.acdm_wire.specs.declared.fault.RequestFault.{RequestFault}
use Rattle.acdm_wire.specs.declared.fault.Bad.{Bad}
use Rattle.acdm_wire.specs.declared.fault.Bad.TheVariants.{Faulty, Program, NoMemory}
use Rattle.acdm_wire.specs.declared.fault.Bad.TheVariants.{FullJournal}
use Rattle.acdm_sessions.specs.declared.answer.Answer.{Answer}
use Rattle.acdm_sessions.specs.declared.answer.Answer.TheVariants.{Entered, Rejected}
use Rattle.bpf_verifier.specs.declared.reading.ProgramError.{ProgramError}
use Rattle.bpf_verifier.specs.declared.reading.ProgramError.TheVariants as errors
use Rattle.acdm_wire.specs.declared.request.Request.{Request}
use Rattle.acdm_step.specs.declared.stated.StatedCommand.{StatedCommand}
use Rattle.acdm_step.specs.declared.stated.StatedCommand.TheVariants.{Plain, Load}
use Rattle.acdm_wire.specs.Replies.{entry_text, bad_text}
use Rattle.acdm_lines.specs.Lines.{lines_of}
use Rattle.bpf_verifier.specs.Reading.{Reading, IsReading}
use Rattle.acdm_wire.specs.Meant.{meant}

-- What the world supplies to a line: whether memory was refused for it, what the bytes of its
-- program are read as, and the answers of helpers.
pub record Supply : Type 0 where
  pub out_of_memory : Bool
  pub reading : Reading
  pub answers : List ℕ

-- ---- the program of a load

-- the reading is that of the bytes that are to be loaded, where there are any, for records of the
-- length that the load names
abbrev pub IsReadingFor : List (ℕ × Promise) → StatedCommand → Reading → Type 0
IsReadingFor sigs (Plain c) reading = Unit {0}
IsReadingFor sigs (Load l) reading = IsReading sigs l.record_length l.program reading

abbrev pub IsReadingOf : List (ℕ × Promise) → Result Request RequestFault → Reading → Type 0
IsReadingOf sigs (Err f) reading = Unit {0}
IsReadingOf sigs (Ok r) reading = IsReadingFor sigs r.asked reading

-- The supply is right for a line: the bytes of a program that it loads are read so, unless memory
-- was refused for it.
abbrev pub IsRight : List (ℕ × Promise) → Supply → List ℕ → Type 0
IsRight sigs supply line =
    supply.out_of_memory ≡ false → IsReadingOf sigs (meant line) supply.reading

-- the command that is asked for, where the bytes of a program are read so
abbrev pub command_with : Reading → StatedCommand → Result Command Bad
command_with reading (Plain c) = Ok c
command_with (Ok v) (Load l) =
    Ok (commands.Load record { milestone = l.milestone; kind = l.kind; program = v })
command_with (Err f) (Load l) = Err (Program f.0 f.1)

-- the command that is asked for, or the refusal, by a right reading of its program
pub record CompletesAs (sigs : List (ℕ × Promise)) (asked : StatedCommand) (command : Result Command Bad)
    : Type 0 where
  pub reading : Reading
  pub right : IsReadingFor sigs asked reading
  pub command_is : command_with reading asked ≡ command

-- What a function returned is the command that is asked for, unless memory ran out.
abbrev pub Completes : List (ℕ × Promise) → StatedCommand → Result Command ProgramError → Type 0
Completes sigs asked (Err errors.Memory) = Unit {0}
Completes sigs asked (Err (errors.Refused code slot)) =
    CompletesAs sigs asked (Err (Program code slot))
Completes sigs asked (Ok c) = CompletesAs sigs asked (Ok c)

-- ---- one line

abbrev pub is_full : DeskView → Bool
is_full d = length d.history == d.capacity

-- what is answered to a command, and the desk after it
abbrev pub answer_command : DeskView → Supply → Role → Result Command Bad → Answer
answer_command d supply role (Err b) = Rejected b
answer_command d supply role (Ok c) =
    if is_full d then Rejected FullJournal
    else Entered record {
      number = length d.history;
      outcome = outcome_of d.sigs d.history role c;
    }

abbrev pub desk_command : DeskView → Supply → Request → Result Command Bad → DeskView
desk_command d supply r (Err b) = d
desk_command d supply r (Ok c) =
    if is_full d then d
    else entered d r.session r.role r.moment c supply.answers

-- the same of what a line means
abbrev pub answer_meant : DeskView → Supply → Result Request RequestFault → Answer
answer_meant d supply (Err f) = Rejected (Faulty f)
answer_meant d supply (Ok r) =
    answer_command d supply r.role (command_with supply.reading r.asked)

abbrev pub desk_meant : DeskView → Supply → Result Request RequestFault → DeskView
desk_meant d supply (Err f) = d
desk_meant d supply (Ok r) = desk_command d supply r (command_with supply.reading r.asked)

-- the same of a line
abbrev pub answer_to : DeskView → Supply → List ℕ → Answer
answer_to d supply line =
    if supply.out_of_memory then Rejected NoMemory else answer_meant d supply (meant line)

abbrev pub desk_after : DeskView → Supply → List ℕ → DeskView
desk_after d supply line = if supply.out_of_memory then d else desk_meant d supply (meant line)

-- one line is answered so, and this is the desk after it
pub record Answers (before after : DeskView) (line : List ℕ) (answer : Answer) : Type 0 where
  pub supply : Supply
  pub right : IsRight before.sigs supply line
  pub answer_is : answer ≡ answer_to before supply line
  pub desk_is : after ≡ desk_after before supply line

-- ---- replies

abbrev pub reply_text : Answer → List ℕ
reply_text (Entered reply) = entry_text reply.number reply.outcome
reply_text (Rejected b) = bad_text b

-- ---- all lines

-- to lines beyond the list nothing is supplied, and no program is read
abbrev pub no_supply : Supply
no_supply = record { out_of_memory = false; reading = Err (0, 0); answers = [] }

abbrev pub first_supply : List Supply → Supply
first_supply [] = no_supply
first_supply (s ∷ ss) = s

abbrev pub later_supplies : List Supply → List Supply
later_supplies [] = []
later_supplies (s ∷ ss) = ss

-- the supply of each line is right
abbrev pub AreRight : List (ℕ × Promise) → List Supply → List (List ℕ) → Type 0
AreRight sigs supplies [] = Unit {0}
AreRight sigs supplies (l ∷ ls) =
    IsRight sigs (first_supply supplies) l × AreRight sigs (later_supplies supplies) ls

-- the replies to lines, and the desk after them
abbrev pub replies : DeskView → List Supply → List (List ℕ) → List ℕ
replies d supplies [] = []
replies d supplies (l ∷ ls) =
    reply_text (answer_to d (first_supply supplies) l)
    ++ replies (desk_after d (first_supply supplies) l) (later_supplies supplies) ls

abbrev pub desk_after_all : DeskView → List Supply → List (List ℕ) → DeskView
desk_after_all d supplies [] = d
desk_after_all d supplies (l ∷ ls) =
    desk_after_all (desk_after d (first_supply supplies) l) (later_supplies supplies) ls

-- the output of a text
abbrev pub output : DeskView → List Supply → List ℕ → List ℕ
output d supplies text = replies d supplies (lines_of text)
