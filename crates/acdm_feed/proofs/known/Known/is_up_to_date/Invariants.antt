use Rattle.std.proofs.Common.{◌≡◌, ℕ, List, length}
use Rattle.bpf_helpers.specs.Promise.{Promise}
use Rattle.acdm_step.specs.Commands.{History}
use Rattle.acdm_step.specs.History.{replay}
use Rattle.acdm_feed.specs.Knowing.{AreKnown}
use Rattle.acdm_feed.proofs.known.Known.is_up_to_date.Given as goal

abbrev pub invariant-loop-flight : goal.invariant-loop-flight
invariant-loop-flight l = (sigs : List (ℕ × Promise)) (K : History) → l.board ≡ replay sigs K
    → AreKnown l.rest K l.self → AreKnown l.self.flights.items K l.self

abbrev pub decreases-loop-flight : goal.decreases-loop-flight
decreases-loop-flight l = length l.rest
