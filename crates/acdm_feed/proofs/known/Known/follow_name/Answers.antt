use Rattle.std.proofs.Common.{refl, sym, ◌∙◌}
use Rattle.acdm_feed.proofs.Naming.{first_named, still_named}
use Rattle.acdm_feed.proofs.known.Known.follow_name.Goals as goal

pub returns-then-is_some-clause-named : goal.returns-then-is_some-clause-named
returns-then-is_some-clause-named c J k =
    still_named J c.args.entry.now c.args.self.now (sym c.is_some.ensures ∙ c.if-is_some.true) k.named

pub returns-clause-named : goal.returns-clause-named
returns-clause-named c J k =
    first_named J c.args.entry.now c.args.self.now _ _ (sym c.is_some.ensures ∙ c.if-is_some.false) k.named
    c.in_ok-name.ensures refl
