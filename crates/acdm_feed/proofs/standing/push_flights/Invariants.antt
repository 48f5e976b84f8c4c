use Rattle.std.proofs.Common.{◌≡◌, ◌++◌, ℕ, List, length}
use Rattle.std.specs.List.{flat_map}
use Rattle.bpf_helpers.specs.Promise.{Promise}
use Rattle.acdm_step.specs.Commands.{History}
use Rattle.acdm_step.specs.History.{replay}
use Rattle.acdm_step.specs.Summaries.{flights}
use Rattle.acdm_feed.specs.Knowing.{Knows}
use Rattle.acdm_feed.specs.Told.{flight_tokens}
use Rattle.acdm_feed.proofs.standing.push_flights.Given as goal

abbrev pub invariant-loop-flight : goal.invariant-loop-flight
invariant-loop-flight l = record {
  before : l.line.before ≡ l.fn.line.before;
  adds : (sigs : List (ℕ × Promise)) (J : History) → l.board ≡ replay sigs J → Knows J l.known
      → l.line.tokens ++ flat_map (flight_tokens J) l.rest
      ≡ l.fn.line.tokens ++ flat_map (flight_tokens J) (flights J);
}

abbrev pub decreases-loop-flight : goal.decreases-loop-flight
decreases-loop-flight l = length l.rest
