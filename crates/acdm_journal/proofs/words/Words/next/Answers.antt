use Rattle.std.proofs.Common.{sym}
use Rattle.std.proofs.lemmas.List.{take_rest}
use Rattle.acdm_journal.proofs.Splitting.{taken-some, taken-none}
use Rattle.acdm_journal.proofs.words.Words.next.Goals as goal

pub returns-in-Some : goal.returns-in-Some
returns-in-Some c =
    rw (c.if-self.false, take_rest c.self.inside.rest.now)
    (taken-some c.self.inside.ended c.self.inside.rest.now c.in-Some.end c.args.self.now
    c.if-self.false c.self.view_is (sym c.in-Some.ensures.place))

pub returns-in-None : goal.returns-in-None
returns-in-None c =
    taken-none c.self.inside.ended c.self.inside.rest.now c.args.self.now
    c.if-self.false c.self.view_is (sym c.in-None.ensures.place)
