use Rattle.std.proofs.Common.{subst, sym, ◌∙◌, refl}
use Rattle.acdm_feed.specs.Knowing.{Puts}
use Rattle.acdm_feed.proofs.known.Known.follow_flight.Goals as goal

pub returns-in_ok-put-in-Some-clause-puts : goal.returns-in_ok-put-in-Some-clause-puts
returns-in_ok-put-in-Some-clause-puts c sigs K eq =
    subst (λ o. Puts o c.args.flight c.args.self.now c.put.new.self)
    (sym c.in-Some.is ∙ c.word_on.ensures sigs K eq)
    (c.in_ok-put-in-Some.ensures.words, c.in_ok-put-in-Some.ensures.flights)

pub returns-in-None-clause-puts : goal.returns-in-None-clause-puts
returns-in-None-clause-puts c sigs K eq =
    subst (λ o. Puts o c.args.flight c.args.self.now c.args.self.now)
    (sym c.in-None.is ∙ c.word_on.ensures sigs K eq) refl
