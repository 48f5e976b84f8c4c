-- Which lines of a journal need memory to be read or judged. A line that is refused before any is
-- asked for has that refusal as its one answer, whatever memory there is.
use Rattle.std.specs.Prelude.{ℕ, ◌%◌, ◌≡◌, Bool, true, false, ◌&&◌, ◌||◌, ◌==◌, nat_le, nat_lt, List}
use Rattle.std.specs.Prelude.{length, codes, Option, Some, None, IsTrue, ◌⊎◌}
use Rattle.std.specs.Str.{bytes_eq}
use Rattle.acdm_step.specs.declared.command.Command.TheVariants.{Alerts, Migrate}
use Rattle.acdm_step.specs.Commands.{History}
use Rattle.acdm_journal.specs.declared.stated.Stated.{Stated}
use Rattle.acdm_step.specs.declared.stated.StatedCommand.{StatedCommand}
use Rattle.acdm_step.specs.declared.stated.StatedCommand.TheVariants.{Plain, Load}
use Rattle.acdm_journal.specs.declared.reading.TheConstants.{LONGEST_ENTRY}
use Rattle.acdm_journal.specs.Reading.{Words, word_at, words_of, number_at, role_at, kind_at}
use Rattle.acdm_journal.specs.Reading.{milestone_at, answers_at, most_word, most_minute}
use Rattle.acdm_journal.specs.Audit.{StatesNext}

-- a test of what one reading gives, which fails where it gives nothing
infixl 10 ◌>>=◌
abbrev pub ◌>>=◌ : {A : Type 0} → Option A → (A → Bool) → Bool
None >>= test = false
Some x >>= test = test x

-- the bytes of a program, whose hexadecimal text has whole bytes
unfoldable pub bytes_need_memory : Words → Bool
bytes_need_memory ws = do
  w ← word_at ws
  length w.0 % 2 == 0

-- a load, once its milestone and its kind are read
unfoldable pub load_needs_memory : Words → Bool
load_needs_memory ws = do
  milestone ← milestone_at ws
  kind ← kind_at milestone.1
  bytes_need_memory kind.1

-- a command: no other than a load
unfoldable pub command_needs_memory : List ℕ → Words → Bool
command_needs_memory name ws = bytes_eq name (codes "load") && load_needs_memory ws

unfoldable pub asked_needs_memory : Words → Bool
asked_needs_memory ws = do
  name ← word_at ws
  command_needs_memory name.0 name.1

-- some answers, once the first is read
abbrev pub some_need_memory : ℕ → Words → Bool
some_need_memory count ws = do
  first ← number_at 0 most_word ws
  nat_lt 0 count

unfoldable pub answers_need_memory : Words → Bool
answers_need_memory ws = do
  count ← number_at 0 most_word ws
  some_need_memory count.0 count.1

-- the words of a line, for its answers, or for the program of a load
unfoldable pub stated_needs_memory : Words → Bool
stated_needs_memory ws = do
  number ← number_at 0 most_word ws
  session ← number_at 1 64 number.1
  moment ← number_at 1 most_minute session.1
  role ← role_at moment.1
  outcome ← number_at 0 most_word role.1
  answers_need_memory outcome.1 || (answers_at outcome.1 >>= λ answers. asked_needs_memory answers.1)

-- reading a line that is not too long
unfoldable pub line_needs_memory : List ℕ → Bool
line_needs_memory line = nat_le (length line) LONGEST_ENTRY && stated_needs_memory (words_of line)

-- to load a program
abbrev pub is_load_line : StatedCommand → Bool
is_load_line (Plain c) = false
is_load_line (Load l) = true

-- judging a line after a history: reading it, or as the next entry the list of alerts that it asks
-- for, or the programs that a migrate judges again
abbrev pub JudgingNeedsMemory : History → List ℕ → Type 0
JudgingNeedsMemory J line = IsTrue (line_needs_memory line)
    ⊎ ((s : Stated) × StatesNext J line s × ((s.asked ≡ Plain Alerts) ⊎ (s.asked ≡ Plain Migrate)))
