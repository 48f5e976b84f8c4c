-- What is told of a journal while it is read.
use Rattle.std.specs.Prelude.{ℕ, ◌≡◌, List}
use Rattle.bpf_helpers.specs.Promise.{Promise}
use Rattle.acdm_lines.specs.Counted.{SinkView}
use Rattle.acdm_step.specs.Commands.{History}
use Rattle.acdm_step.specs.History.{replay}
use Rattle.acdm_feed.specs.Knowing.{Knows}
use Rattle.acdm_telling.specs.declared.judged.Judged.{Judged}
use Rattle.acdm_telling.specs.declared.judged.Stop.{Stop}
use Rattle.acdm_telling.specs.declared.judged.Stop.TheVariants as stops
use Rattle.acdm_telling.specs.Told.{FailsToTell, Gathers, TellsPart}

-- these entries were told: this is their board, this is known of it, and their lines were gathered
pub record HasTold {W : Type 0} (sigs : List (ℕ × Promise)) (J : History) (judged : Judged)
    (written written_after : SinkView W) : Type 0 where
  pub board : judged.core ≡ replay sigs J
  pub knows : Knows J judged.known
  pub gathers : Gathers J judged.text.items written written_after

-- why no more is told
abbrev pub StopsTelling : {W : Type 0} → List (ℕ × Promise) → SinkView W → SinkView W → Stop → Type 0
StopsTelling sigs written written_after stops.Write = FailsToTell sigs written written_after
StopsTelling sigs written written_after stops.Memory = TellsPart sigs written written_after
