-- What comes of a file of settings.
use Rattle.std.proofs.Common.{◌≡◌, ◌⊎◌, ℕ, List, [], Option, Some, Err, inl, inr, map, subst, string_bytes, Vec, String, Global}
use Rattle.acdm_failures.specs.Failures.{Complains, failure_text}
use Rattle.acdm_failures.specs.declared.failure.Failure.TheVariants.{Memory}
use Rattle.acdm_judging.specs.Gave.{GaveBytes}
use Rattle.acdm_lines.specs.Counted.{SinkView, SourceView}
use Rattle.acdm_settings.specs.Settings.{Place, Reads, most_text}
use Rattle.acdm_settings.specs.declared.fault.SettingsError.{SettingsError}
use Rattle.acdm_settings.specs.declared.fault.SettingsError.TheVariants as errors
use Rattle.acdm_commands.proofs.Files.{gave_any}
use Rattle.acdm_commands.specs.BySettings.{Gives, GivesNone, ReadsWords, refusal_text}
use Rattle.acdm_commands.specs.Completed.{IsUnread, read_from}
use Rattle.acdm_commands.specs.declared.settings.WordsGiven.TheVariants as given

-- what is wrong with a text does not depend on how words are seen
any_view : {X : Type 0} (view : X → List (List ℕ)) (text : List ℕ) (error : SettingsError)
    → Reads view text (Err error) → Reads {X = List (List ℕ)} (λ w. w) text (Err error)
any_view view text (errors.Wrong key why) p = p
any_view view text errors.TooLong p = p
any_view view text (errors.NoToml line) p = p
any_view view text errors.Memory p = p

-- what a reader gave stands for no words, which was told, or there was no memory to say so
pub gave_none : {R E X : Type 0} (view : X → List (List ℕ)) (path text : List ℕ) (error : SettingsError)
    (read later : SourceView R) (errors last : SinkView E) → GaveBytes most_text read later text
    → Reads view text (Err error)
    → Complains errors last (refusal_text path error) ⊎ Complains errors last (failure_text Memory)
    → GivesNone path read later errors last
gave_none view path text error read later errors last gave reads (inl told) =
    inl (record { text = text; gave = gave; error = error; reads = any_view view text error reads; told = told })
gave_none view path text error read later errors last gave reads (inr told) = inr (inr told)

-- ---- whatever the file is

module _ {F : Type 0} (words : List (List ℕ)) (before : ℕ) (path : List ℕ) (place : Option Place)
    (file later : SourceView F) where
  reads_any : (whole : List (List ℕ)) → ReadsWords before words file later whole
      → ReadsWords before words (read_from file) (read_from later) whole
  reads_any whole p = record {
    text = p.text;
    gave = gave_any [] file later most_text p.text p.gave;
    settings = p.settings;
    reads = p.reads;
    whole_is = p.whole_is;
  }

  none_any : {E : Type 0} (errors last : SinkView E) → GivesNone path file later errors last
      → GivesNone path (read_from file) (read_from later) errors last
  none_any errors last (inl p) = inl (record {
    text = p.text;
    gave = gave_any [] file later most_text p.text p.gave;
    error = p.error;
    reads = p.reads;
    told = p.told;
  })
  none_any errors last (inr p) = inr p

  pub gives_words : {E : Type 0} (errors last : SinkView E) (whole : Vec (String Global) Global)
      → Some (before, path) ≡ place → IsUnread file
      → ReadsWords before words file later (map (λ s. string_bytes s) whole.items) → last ≡ errors
      → Gives words place errors last (given.Words whole)
  gives_words errors last whole is unread p quiet =
      subst (λ o. Gives words o errors last (given.Words whole)) is (
        (read_from file, read_from later, unread, reads_any (map (λ s. string_bytes s) whole.items) p),
        quiet,
      )

  pub gives_none : {E : Type 0} (errors last : SinkView E) → Some (before, path) ≡ place → IsUnread file
      → GivesNone path file later errors last → Gives words place errors last given.Refused
  gives_none errors last is unread p =
      subst (λ o. Gives words o errors last given.Refused) is
      (inl (read_from file, read_from later, unread, none_any errors last p))
