-- Of which entries a writer was told.
use Rattle.std.specs.Prelude.{ℕ, zero, suc, ◌≡◌, Bool, if◌then◌else◌, List, [], ◌∷◌, ◌++◌}
use Rattle.acdm_lines.specs.Counted.{SinkView}
use Rattle.acdm_sessions.specs.declared.answer.Answer.{Answer}
use Rattle.acdm_sessions.specs.declared.answer.Answer.TheVariants.{Entered, Rejected}

-- the number of the entry that a reply tells of, if it tells of any
abbrev pub numbers_of : Answer → List ℕ
numbers_of (Entered reply) = reply.number ∷ []
numbers_of (Rejected bad) = []

-- the numbers that a writer was told of, once it was told of the entry of a reply, if it is told at all
abbrev pub told_after : Bool → List ℕ → Answer → List ℕ
told_after is_told told (Entered reply) = if is_told then told ++ reply.number ∷ [] else told
told_after is_told told (Rejected bad) = told

-- a writer that was told so
abbrev pub once_told : {W : Type 0} → Bool → SinkView W → Answer → SinkView W
once_told is_told writer answer = record writer { told = told_after is_told writer.told answer }

-- the numbers of so many entries, from 0 on
abbrev pub numbers_to : ℕ → List ℕ
numbers_to zero = []
numbers_to (suc n) = numbers_to n ++ n ∷ []

-- A writer was told of the entries that were made meanwhile, in order, and of no others: entries of the first numbers
-- had been made, later those of the second ones; it had been told of the third, and then of the last ones.
pub record TellsMade (made later told told_later : List ℕ) : Type 0 where
  pub numbers : List ℕ
  pub made_since : later ≡ made ++ numbers
  pub told_since : told_later ≡ told ++ numbers
