use Rattle.std.proofs.Common.{ap, sym, ◌∙◌, ◌++◌, append_assoc, append-nil}
use Rattle.std.specs.List.{flat_map}
use Rattle.acdm_feed.specs.Told.{other_tokens}
use Rattle.acdm_feed.proofs.Following.{none_left}
use Rattle.acdm_feed.proofs.told.push_ticked.Goals as goal

pub loop-flight-preserved : goal.loop-flight-preserved
loop-flight-preserved c = record {
  before = c.push_changed_flight.ensures.before ∙ c.loop-flight.invariant.before;
  adds = λ sigs J K eq k.
      let f = other_tokens J K in
      ap (λ l. l ++ flat_map f c.in-Some.more.now)
      (c.in_ok-push_changed_flight.ensures.adds sigs J K eq k)
      ∙ append_assoc c.loop-flight.line.tokens (f c.in-Some.flight.now)
      (flat_map f c.in-Some.more.now)
      ∙ ap (λ l. c.loop-flight.line.tokens ++ flat_map f l) (sym c.in-Some.ensures.cases.0)
      ∙ c.loop-flight.invariant.adds sigs J K eq k;
}

pub returns-clause-adds : goal.returns-clause-adds
returns-clause-adds c sigs J K eq k =
    sym (append-nil c.loop-flight.line.tokens)
    ∙ ap (λ l. c.loop-flight.line.tokens ++ flat_map (other_tokens J K) l)
    (sym (none_left _ c.in_default.ensures.cases))
    ∙ c.loop-flight.invariant.adds sigs J K eq k
