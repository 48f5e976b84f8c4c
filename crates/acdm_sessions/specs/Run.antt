-- What a desk has answered, by the supplies of lines.
use Rattle.std.specs.Prelude.{ℕ, ◌≡◌, List, ◌++◌}
use Rattle.acdm_board.specs.Desk.{DeskView}
use Rattle.acdm_lines.specs.Lines.{lines_of}
use Rattle.acdm_sessions.specs.Output.{Supply, AreRight, IsRight, answer_to, desk_after}
use Rattle.acdm_sessions.specs.Output.{desk_after_all, output, reply_text}
use Rattle.acdm_sessions.specs.Stream.{Serving}
use Rattle.acdm_wire.specs.Writes.{AppendsPart}

-- the lines of a text were answered: their entries were made, and their output was written
pub record Serves (text : List ℕ) (before after : DeskView) (old new : List ℕ) : Type 0 where
  pub supplies : List Supply
  pub right : AreRight before.sigs supplies (lines_of text)
  pub desk_is : after ≡ desk_after_all before supplies (lines_of text)
  pub wrote : new ≡ old ++ output before supplies text

-- a line was answered: its entry stands where it makes one, and a first part of its reply was written
pub record ServesLinePart (line : List ℕ) (before after : DeskView) (old new : List ℕ) : Type 0 where
  pub supply : Supply
  pub right : IsRight before.sigs supply line
  pub desk_is : after ≡ desk_after before supply line
  pub wrote : AppendsPart old new (reply_text (answer_to before supply line))

-- what is said of lines that a desk has answered
abbrev pub serving_desk : Serving DeskView
serving_desk = record { text = Serves; line_part = ServesLinePart }
