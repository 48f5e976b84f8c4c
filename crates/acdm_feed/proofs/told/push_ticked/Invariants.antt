use Rattle.std.proofs.Common.{◌≡◌, ◌++◌, ℕ, List, length}
use Rattle.std.specs.List.{flat_map}
use Rattle.bpf_helpers.specs.Promise.{Promise}
use Rattle.acdm_step.specs.Commands.{History}
use Rattle.acdm_step.specs.History.{replay}
use Rattle.acdm_step.specs.Summaries.{flights}
use Rattle.acdm_feed.specs.Knowing.{Knows}
use Rattle.acdm_feed.specs.Told.{other_tokens}
use Rattle.acdm_feed.proofs.told.push_ticked.Given as goal

abbrev pub invariant-loop-flight : goal.invariant-loop-flight
invariant-loop-flight l = record {
  before : l.line.before ≡ l.fn.line.before;
  adds : (sigs : List (ℕ × Promise)) (J K : History) → l.board ≡ replay sigs K → Knows J l.known
      → l.line.tokens ++ flat_map (other_tokens J K) l.rest
      ≡ l.fn.line.tokens ++ flat_map (other_tokens J K) (flights J);
}

abbrev pub decreases-loop-flight : goal.decreases-loop-flight
decreases-loop-flight l = length l.rest
