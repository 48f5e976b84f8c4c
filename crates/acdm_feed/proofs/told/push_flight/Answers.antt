use Rattle.std.proofs.Common.{ap, ◌∙◌, ◌++◌}
use Rattle.acdm_feed.proofs.Finding.{found_by}
use Rattle.acdm_feed.proofs.told.push_flight.Goals as goal

pub returns-clause-adds : goal.returns-clause-adds
returns-clause-adds c sigs K eq =
    c.in_ok-push_found.ensures.adds
    ∙ ap (λ l. c.args.line.now.tokens ++ l)
    (found_by K c.args.flight _ (c.record_of.ensures.record sigs K eq))
