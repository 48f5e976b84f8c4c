-- The taking of one line from what is held of a reader's bytes and from what it gives.
use Rattle.std.specs.Prelude.{ℕ, ◌+◌, ◌^◌, ◌≤◌, ◌≡◌, ◌⊎◌, Bool, true, false, List, [], ◌∷◌, ◌++◌, length}
use Rattle.std.specs.Prelude.{Option, Some, None, Result, Ok, Err}
use Rattle.acdm_lines.specs.declared.lines.Ending.{Ending}
use Rattle.acdm_lines.specs.declared.lines.Ending.TheVariants.{LineFeed, Input}
use Rattle.acdm_lines.specs.declared.lines.Lines.{Lines}
use Rattle.acdm_lines.specs.declared.run_error.RunError.{RunError}
use Rattle.acdm_lines.specs.declared.run_error.RunError.TheVariants.{Read}
use Rattle.acdm_lines.specs.Counted.{SourceView, faults_after}
use Rattle.acdm_lines.specs.Lines.{IsLine, kept, most_held}

-- a read brought these bytes, none only at the end
pub record Filled {R : Type 0} (old new : SourceView R) (bytes : List ℕ) : Type 0 where
  pub gave : new.log ≡ old.log ++ bytes
  pub same : new.first ≡ old.first
  pub ended : bytes ≡ [] → new.ended ≡ true
  pub well : new.faults ≡ old.faults

-- a read failed, and brought none
pub record FailedToFill {R : Type 0} (old new : SourceView R) (bytes : List ℕ) (error : RunError)
    : Type 0 where
  pub gave : new.log ≡ old.log
  pub same : new.first ≡ old.first
  pub none : bytes ≡ []
  pub fault : new.faults ≡ faults_after true old.faults
  pub kind : error ≡ Read

-- what comes of one read
abbrev pub Fills : {R T : Type 0} → SourceView R → SourceView R → List ℕ → Result T RunError → Type 0
Fills old new bytes (Ok x) = Filled old new bytes
Fills old new bytes (Err e) = FailedToFill old new bytes e

-- A line is taken, which a line feed ends: what was held and what was read are the line, its line
-- feed and what is held now, and each read gave something.
pub record TakesLine {R : Type 0} (most : ℕ) (old new : SourceView R)
    (before after : Lines most) : Type 0 where
  pub text : List ℕ
  pub line : List ℕ
  pub gave : new.log ≡ old.log ++ text
  pub same : new.first ≡ old.first
  pub each_gave : before.reads_left ≤ length text + after.reads_left
  pub is_line : IsLine line
  pub split : before.window ++ text ≡ line ++ 10 ∷ after.window
  pub bytes_are : after.line ≡ kept most line
  pub well : new.faults ≡ old.faults

-- The input ended: what was held and what was read are the rest of a line.
pub record TakesRest {R : Type 0} (most : ℕ) (old new : SourceView R)
    (before after : Lines most) : Type 0 where
  pub text : List ℕ
  pub gave : new.log ≡ old.log ++ text
  pub same : new.first ≡ old.first
  pub is_line : IsLine (before.window ++ text)
  pub none : after.window ≡ []
  pub bytes_are : after.line ≡ kept most (before.window ++ text)
  pub ended : new.ended ≡ true
  pub well : new.faults ≡ old.faults

-- No line was taken: what was held and what was read are part of one. The reader failed once more,
-- or no read was left after so many that each gave something.
pub record TakesPart {R : Type 0} (most : ℕ) (old new : SourceView R)
    (before after : Lines most) (error : RunError) : Type 0 where
  pub text : List ℕ
  pub gave : new.log ≡ old.log ++ text
  pub same : new.first ≡ old.first
  pub is_line : IsLine (before.window ++ text)
  pub none : after.window ≡ []
  pub why : (new.faults ≡ faults_after true old.faults)
      ⊎ ((new.faults ≡ old.faults) × (before.reads_left ≤ length text))
  pub kind : error ≡ Read

-- what comes of looking for the next line
abbrev pub Takes : {R : Type 0} → (most : ℕ) → SourceView R → SourceView R
    → Lines most → Lines most → Result Ending RunError → Type 0
Takes most old new before after (Ok LineFeed) = TakesLine most old new before after
Takes most old new before after (Ok Input) = TakesRest most old new before after
Takes most old new before after (Err e) = TakesPart most old new before after e

-- So many bytes of a line were held and read as are kept of one, and no line feed among them.
pub record TakesLong {R : Type 0} (most : ℕ) (old new : SourceView R)
    (before after : Lines most) : Type 0 where
  pub text : List ℕ
  pub gave : new.log ≡ old.log ++ text
  pub same : new.first ≡ old.first
  pub is_line : IsLine (before.window ++ text)
  pub none : after.window ≡ []
  pub bytes_are : after.line ≡ kept most (before.window ++ text)
  pub long : most ≤ length (before.window ++ text)
  pub well : new.faults ≡ old.faults

-- what comes of looking for the next line, where none is taken that is too long, or where any is
abbrev pub Advances : {R : Type 0} → (most : ℕ) → Bool → SourceView R → SourceView R
    → Lines most → Lines most → Result (Option Ending) RunError → Type 0
Advances most bounded old new before after (Ok (Some ending)) =
    Takes most old new before after (Ok ending)
Advances most bounded old new before after (Ok None) =
    (bounded ≡ true) × TakesLong most old new before after
Advances most bounded old new before after (Err e) = TakesPart most old new before after e

-- No line feed came: the input has ended, or the line is too long.
pub record TakesNone {R : Type 0} (most : ℕ) (old new : SourceView R)
    (before after : Lines most) : Type 0 where
  pub text : List ℕ
  pub gave : new.log ≡ old.log ++ text
  pub same : new.first ≡ old.first
  pub is_line : IsLine (before.window ++ text)
  pub bytes_are : after.line ≡ kept most (before.window ++ text)
  pub why : (new.ended ≡ true) ⊎ (most ≤ length (before.window ++ text))
  pub well : new.faults ≡ old.faults

-- what comes of looking for a line that is not too long
abbrev pub TakesWithin : {R : Type 0} → (most : ℕ) → SourceView R → SourceView R
    → Lines most → Lines most → Result Bool RunError → Type 0
TakesWithin most old new before after (Ok true) = TakesLine most old new before after
TakesWithin most old new before after (Ok false) = TakesNone most old new before after
TakesWithin most old new before after (Err e) = TakesPart most old new before after e

-- What was held and what was read since are no more bytes than are kept of a line and one read gives.
abbrev pub ReadsSoon : {R : Type 0} → (most : ℕ) → SourceView R → SourceView R → Lines most → Type 0
ReadsSoon most old new before =
    length before.window + length new.log ≤ length old.log + (most + most_held)

-- a reader failed once more, or not, but gave so much that each of 2^40 reads gave a part of it
abbrev pub FailsOrEndless : ℕ → ℕ → List ℕ → Type 0
FailsOrEndless before after text =
    (after ≡ before + 1) ⊎ ((after ≡ before) × (2 ^ 40 ≤ length text))
