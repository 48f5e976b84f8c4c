-- How the lines of a stream are answered, by whoever answers them.
use Rattle.std.specs.Prelude.{ℕ, ◌+◌, ◌≡◌, ◌⊎◌, Bool, true, false, List, [], ◌∷◌, ◌++◌, take}
use Rattle.std.specs.Prelude.{Result, Ok, Err}
use Rattle.acdm_sessions.specs.declared.answer.Answer.{Answer}
use Rattle.acdm_lines.specs.declared.run_error.RunError.{RunError}
use Rattle.acdm_lines.specs.declared.run_error.RunError.TheVariants as errors
use Rattle.acdm_lines.specs.declared.run_error.RunError.TheVariants.{Write}
use Rattle.acdm_lines.specs.Counted.{SinkView, SourceView, faults_after}
use Rattle.acdm_lines.specs.Lines.{IsLine, IsWhole, lines_of}
use Rattle.acdm_lines.specs.NextLine.{FailsOrEndless}
use Rattle.acdm_sessions.specs.Output.{reply_text}
use Rattle.acdm_wire.specs.Writes.{AppendsPart}
use Rattle.acdm_sessions.specs.declared.stream.TheConstants.{MOST_KEPT}

-- A line may be answered so by one who answers: the one before, the one after, the line and the
-- answer.
abbrev pub Answering : Type 0 → Type 1
Answering A = A → A → List ℕ → Answer → Type 0

-- ---- one line

-- a line was answered, and its reply was written
pub record Answered {A W : Type 0} (may : Answering A)
    (old new : SinkView W) (before after : A) (line : List ℕ) : Type 0 where
  pub answer : Answer
  pub is_right : may before after line answer
  pub wrote : new.log ≡ old.log ++ reply_text answer
  pub same : new.first ≡ old.first
  pub well : new.faults ≡ old.faults

-- the writer failed once more, after a first part of the reply to a line
pub record AnsweredInPart {A W : Type 0} (may : Answering A)
    (old new : SinkView W) (before after : A) (line : List ℕ) (error : RunError) : Type 0 where
  pub answer : Answer
  pub is_right : may before after line answer
  pub wrote : AppendsPart old.log new.log (reply_text answer)
  pub same : new.first ≡ old.first
  pub fault : new.faults ≡ faults_after true old.faults
  pub kind : error ≡ Write

-- what comes of answering a line
abbrev pub AnswersLine : {A W T : Type 0} → Answering A → SinkView W
    → SinkView W → A → A → List ℕ → Result T RunError → Type 0
AnswersLine may old new before after line (Ok x) =
    Answered may old new before after line
AnswersLine may old new before after line (Err e) =
    AnsweredInPart may old new before after line e

-- ---- all lines

-- what is kept of a line: one byte more than the longest line has
abbrev pub kept : List ℕ → List ℕ
kept line = take MOST_KEPT line

-- Lines were answered one after the other, with these answers. Of a line as much is looked at as
-- is kept of it.
abbrev pub AnswersEach : {A : Type 0} → Answering A → A → A → List (List ℕ) → List Answer → Type 0
AnswersEach may before after [] [] = before ≡ after
AnswersEach {A = A} may before after (l ∷ ls) (x ∷ xs) =
    (middle : A) × may before middle (kept l) x × AnswersEach may middle after ls xs
AnswersEach may before after [] (x ∷ xs) = ⊥
AnswersEach may before after (l ∷ ls) [] = ⊥

-- the replies, one after the other
abbrev pub replies_text : List Answer → List ℕ
replies_text [] = []
replies_text (x ∷ xs) = reply_text x ++ replies_text xs

-- the lines of a text were answered, and their replies were written
pub record AnswersText {A : Type 0} (may : Answering A) (text : List ℕ) (before after : A)
    (old new : List ℕ) : Type 0 where
  pub answers : List Answer
  pub are_right : AnswersEach may before after (lines_of text) answers
  pub wrote : new ≡ old ++ replies_text answers

-- a line was answered, by what is kept of it, and a first part of its reply was written
pub record AnswersLinePart {A : Type 0} (may : Answering A) (line : List ℕ) (before after : A)
    (old new : List ℕ) : Type 0 where
  pub answer : Answer
  pub is_right : may before after (kept line) answer
  pub wrote : AppendsPart old new (reply_text answer)

-- ---- what is said of lines that were answered

-- What is said of a text whose lines were all answered, and their replies written; and of a line that
-- was answered, and of whose reply a first part was written. Either tells of the text or the line, of
-- who answers before and after it, and of what the writer had taken before and after it.
pub record Serving (A : Type 0) : Type 1 where
  pub text : List ℕ → A → A → List ℕ → List ℕ → Type 0
  pub line_part : List ℕ → A → A → List ℕ → List ℕ → Type 0

-- each line was answered as it may be
abbrev pub serving_by : {A : Type 0} → Answering A → Serving A
serving_by may = record { text = AnswersText may; line_part = AnswersLinePart may }

-- ---- how it ends

-- The reader gave a text and has ended, and the lines of that text were answered.
pub record AnswersAll {A : Type 0} (serving : Serving A) (log log_after : List ℕ) (ended : Bool)
    (before after : A) (old new : List ℕ) : Type 0 where
  pub text : List ℕ
  pub gave : log_after ≡ log ++ text
  pub at_end : ended ≡ true
  pub served : serving.text text before after old new

-- No more could be read: the reader gave whole lines and a part of one, and then failed or was
-- endless. The whole lines were answered, and nothing else was done.
pub record AnswersWhole {A : Type 0} (serving : Serving A) (log log_after : List ℕ)
    (faults later_faults : ℕ) (before after : A) (old new : List ℕ) : Type 0 where
  pub whole : List ℕ
  pub part : List ℕ
  pub is_whole : IsWhole whole
  pub is_part : IsLine part
  pub gave : log_after ≡ log ++ (whole ++ part)
  pub why : FailsOrEndless faults later_faults (whole ++ part)
  pub served : serving.text whole before after old new

-- A reply could not be written: the reader gave whole lines, a line, and what follows it. The whole
-- lines were answered, and so was the line, of whose reply a first part was written. Of the other
-- lines none was answered.
pub record StopsInReply {A : Type 0} (serving : Serving A) (log log_after : List ℕ)
    (before after : A) (old new : List ℕ) : Type 0 where
  pub whole : List ℕ
  pub line : List ℕ
  pub later : List ℕ
  pub others : List (List ℕ)
  pub is_whole : IsWhole whole
  pub is_next : lines_of (line ++ later) ≡ line ∷ others
  pub gave : log_after ≡ log ++ (whole ++ (line ++ later))
  pub middle : A
  pub between : List ℕ
  pub served : serving.text whole before middle old between
  pub in_hand : serving.line_part line middle after between new

-- Replies could not be let go: the reader gave the text of some lines, and of one more at most a
-- part. The lines were answered, and the writer took all of their replies, but where these waited
-- for a flush it failed. Nothing else was done.
pub record StopsAtFlush {A : Type 0} (serving : Serving A) (log log_after : List ℕ)
    (before after : A) (old new : List ℕ) : Type 0 where
  pub text : List ℕ
  pub part : List ℕ
  pub is_part : IsLine part
  pub apart : lines_of (text ++ part) ≡ lines_of text ++ lines_of part
  pub gave : log_after ≡ log ++ (text ++ part)
  pub served : serving.text text before after old new

-- The writer failed: in the midst of a reply, or as the replies to all lines so far were let go.
abbrev pub AnswersPart : {A : Type 0} → Serving A → List ℕ → List ℕ → A → A → List ℕ → List ℕ
    → Type 0
AnswersPart serving log log_after before after old new =
    StopsInReply serving log log_after before after old new
    ⊎ StopsAtFlush serving log log_after before after old new

-- ---- from a reader to a writer

-- All that the reader gave was answered, and it has ended. Neither failed, and no byte of a reply waits
-- for a flush.
pub record EndsWell {A R W : Type 0} (serving : Serving A) (reader reader_after : SourceView R)
    (writer writer_after : SinkView W) (before after : A) : Type 0 where
  pub output : AnswersAll serving reader.log reader_after.log reader_after.ended before after
      writer.log writer_after.log
  pub read_well : reader_after.faults ≡ reader.faults
  pub wrote_well : writer_after.faults ≡ writer.faults
  pub flushed : writer_after.waits ≡ false

-- No more could be read. The writer did not fail, and no byte of a reply waits for a flush.
pub record FailsToRead {A R W : Type 0} (serving : Serving A) (reader reader_after : SourceView R)
    (writer writer_after : SinkView W) (before after : A) : Type 0 where
  pub read : AnswersWhole serving reader.log reader_after.log reader.faults reader_after.faults before
      after writer.log writer_after.log
  pub read_alone : writer_after.faults ≡ writer.faults
  pub quiet : writer_after.waits ≡ false

-- The writer failed once more, and the reader did not.
pub record FailsToWrite {A R W : Type 0} (serving : Serving A) (reader reader_after : SourceView R)
    (writer writer_after : SinkView W) (before after : A) : Type 0 where
  pub write : writer_after.faults ≡ writer.faults + 1
  pub write_alone : reader_after.faults ≡ reader.faults
  pub written_in_part : AnswersPart serving reader.log reader_after.log before after writer.log
      writer_after.log

-- what stands at the end; without memory nothing was done
abbrev pub EndsSo : {A R W T : Type 0} → Serving A → SourceView R → SourceView R → SinkView W
    → SinkView W → A → A → Result T RunError → Type 0
EndsSo serving reader reader_after writer writer_after before after (Ok x) =
    EndsWell serving reader reader_after writer writer_after before after
EndsSo serving reader reader_after writer writer_after before after (Err errors.Read) =
    FailsToRead serving reader reader_after writer writer_after before after
EndsSo serving reader reader_after writer writer_after before after (Err errors.Write) =
    FailsToWrite serving reader reader_after writer writer_after before after
EndsSo serving reader reader_after writer writer_after before after (Err errors.Memory) =
    (reader_after ≡ reader) × (writer_after ≡ writer) × (after ≡ before)

-- The lines of a reader were answered on a writer, as far as the result says. What was known of both at
-- first stays as it was.
pub record AnswersLines {A R W T : Type 0} (serving : Serving A) (reader reader_after : SourceView R)
    (writer writer_after : SinkView W) (before after : A) (result : Result T RunError) : Type 0 where
  pub same_reader : reader_after.first ≡ reader.first
  pub same_writer : writer_after.first ≡ writer.first
  pub ends : EndsSo serving reader reader_after writer writer_after before after result
