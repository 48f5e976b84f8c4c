use Rattle.std.proofs.Common.{◌≡◌, ◌==◌, ◌++◌, ℕ, List, nat_eq, length, cond, None}
use Rattle.std.specs.List.{list_any}
use Rattle.indexmap.specs.IndexMap.{get}
use Rattle.bpf_helpers.specs.Promise.{Promise}
use Rattle.acdm_step.specs.Commands.{History}
use Rattle.acdm_step.specs.History.{replay}
use Rattle.acdm_feed.specs.Knowing.{word_of}
use Rattle.acdm_feed.proofs.known.put_words.Given as goal

abbrev pub invariant-loop-flight : goal.invariant-loop-flight
invariant-loop-flight l = record {
  done : List ℕ;
  split : done ++ l.rest ≡ l.flights;
  words : (sigs : List (ℕ × Promise)) (K : History) → l.board ≡ replay sigs K → (f : ℕ)
      → get nat_eq l.words f ≡ cond (list_any (λ g. g == f) done) (word_of K f) None;
}

abbrev pub decreases-loop-flight : goal.decreases-loop-flight
decreases-loop-flight l = length l.rest
