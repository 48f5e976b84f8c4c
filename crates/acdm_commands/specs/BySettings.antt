-- The words of a command line, with those of a file of settings in their place (this project's profile).
use Rattle.std.specs.Prelude.{ℕ, ◌≡◌, ◌⊎◌, ⊤, List, ◌++◌, codes, Option, Some, None, Ok, Err, map}
use Rattle.std.specs.Prelude.{string_bytes}
use Rattle.std.specs.Fmt.{decimal}
use Rattle.acdm_judging.specs.Explained.{TellsUnread}
use Rattle.acdm_failures.specs.Failures.{Complains, failure_text}
use Rattle.acdm_failures.specs.declared.failure.Failure.TheVariants.{Memory}
use Rattle.acdm_judging.specs.Gave.{GaveBytes}
use Rattle.acdm_lines.specs.Counted.{SinkView, SourceView}
use Rattle.acdm_settings.specs.Settings.{Place, Reads, most_text, place_in, why_text, with_settings}
use Rattle.acdm_settings.specs.declared.fault.SettingsError.{SettingsError}
use Rattle.acdm_settings.specs.declared.fault.SettingsError.TheVariants as errors
use Rattle.acdm_commands.specs.ByTables.{named}
use Rattle.acdm_commands.specs.Completed.{IsUnread}
use Rattle.acdm_commands.specs.declared.settings.WordsGiven.{WordsGiven}
use Rattle.acdm_commands.specs.declared.settings.WordsGiven.TheVariants as given

-- the text that a reader gave stands for words, which stand in the place of the two that name it
pub record ReadsWords {R : Type 0} (before : ℕ) (words : List (List ℕ)) (read read_after : SourceView R)
    (whole : List (List ℕ)) : Type 0 where
  pub text : List ℕ
  pub gave : GaveBytes most_text read read_after text
  pub settings : List (List ℕ)
  pub reads : Reads {X = List (List ℕ)} (λ w. w) text (Ok settings)
  pub whole_is : whole ≡ with_settings before words settings

-- what is told of a text that stands for none
abbrev pub refusal_text : List ℕ → SettingsError → List ℕ
refusal_text path (errors.NoToml line) =
    named path (codes "line " ++ (decimal line ++ codes ": not TOML"))
refusal_text path errors.TooLong = named path (codes "more than 65536 bytes")
refusal_text path (errors.Wrong key why) = named path (key.items ++ (codes ": " ++ why_text why))
refusal_text path errors.Memory = failure_text Memory

-- the text that a reader gave stands for none, and that was told
pub record TellsFault {R E : Type 0} (path : List ℕ) (read read_after : SourceView R)
    (errors errors_after : SinkView E) : Type 0 where
  pub text : List ℕ
  pub gave : GaveBytes most_text read read_after text
  pub error : SettingsError
  pub reads : Reads {X = List (List ℕ)} (λ w. w) text (Err error)
  pub told : Complains errors errors_after (refusal_text path error)

-- what comes of a file of settings that gives no words: what it gave stands for none, or it can't be read, or there was
-- no memory
abbrev pub GivesNone : {R E : Type 0} → List ℕ → SourceView R → SourceView R → SinkView E → SinkView E → Type 0
GivesNone path read read_after errors errors_after =
    TellsFault path read read_after errors errors_after
    ⊎ (TellsUnread path errors errors_after ⊎ Complains errors errors_after (failure_text Memory))

-- no file is named, or the one of that path gave words, or none
abbrev pub Gives : {E : Type 0} → List (List ℕ) → Option Place → SinkView E → SinkView E → WordsGiven → Type 0
Gives words place errors errors_after given.AsTheyAre = (place ≡ None) × (errors_after ≡ errors)
Gives words None errors errors_after (given.Words whole) = ⊥
Gives words (Some place) errors errors_after (given.Words whole) =
    ((file file_after : SourceView ⊤) × IsUnread file
    × ReadsWords place.0 words file file_after (map (λ s. string_bytes s) whole.items))
    × (errors_after ≡ errors)
Gives words None errors errors_after given.Refused = ⊥
Gives words (Some place) errors errors_after given.Refused =
    ((file file_after : SourceView ⊤) × IsUnread file × GivesNone place.1 file file_after errors errors_after)
    ⊎ TellsUnread place.1 errors errors_after

abbrev pub GivesWords : {E : Type 0} → List (List ℕ) → SinkView E → SinkView E → WordsGiven → Type 0
GivesWords words errors errors_after result = Gives words (place_in words) errors errors_after result
