use Rattle.std.proofs.Common.{subst, sym}
use Rattle.acdm_feed.specs.Knowing.{AreKnown}
use Rattle.acdm_feed.proofs.Following.{none_known, none_left, one_known}
use Rattle.acdm_feed.proofs.known.Known.is_up_to_date.Goals as goal

pub loop-flight-init : goal.loop-flight-init
loop-flight-init c sigs K eq all =
    subst (λ fs. AreKnown fs K c.args.self.now) c.as_slice-rest.ensures.value all

pub loop-flight-preserved : goal.loop-flight-preserved
loop-flight-preserved c sigs K eq all =
    c.loop-flight.invariant sigs K eq
    (subst (λ fs. AreKnown fs K c.args.self.now) (sym c.in-Some.ensures.cases.0)
    (one_known K c.args.self.now c.in-Some.flight.now c.in-Some.more.now
    (c.is_known.ensures c.if-not-is_known.false sigs K eq) all))

pub returns : goal.returns
returns c is sigs K eq =
    c.loop-flight.invariant sigs K eq
    (subst (λ fs. AreKnown fs K c.args.self.now) (sym (none_left _ c.in_default.ensures.cases))
    (none_known K c.args.self.now))
