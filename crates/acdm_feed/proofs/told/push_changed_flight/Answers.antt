use Rattle.std.proofs.Common.{ap, ◌∙◌, ◌++◌}
use Rattle.acdm_feed.proofs.Finding.{other_by}
use Rattle.acdm_feed.proofs.told.push_changed_flight.Goals as goal

pub returns-clause-adds : goal.returns-clause-adds
returns-clause-adds c sigs J K eq k =
    c.in_ok-push_other.ensures.adds
    ∙ ap (λ l. c.args.line.now.tokens ++ l)
    (other_by J K c.args.flight _ _ (c.word_at.ensures ∙ k.of_flights.words c.args.flight)
    (c.record_of.ensures.record sigs K eq))
