use Rattle.std.proofs.Common.{Some, ap, sym, ◌∙◌}
use Rattle.std.proofs.lemmas.Bool.{eqb-true}
use Rattle.acdm_feed.proofs.known.Known.is_known.Goals as goal

pub returns : goal.returns
returns c same sigs K eq =
    sym c.word_at.ensures ∙ c.in-Some-word_at.is ∙ ap Some (eqb-true c.in-Some-word_at.before c.in-Some.now same)
    ∙ sym c.in-Some.is ∙ c.word_on.ensures sigs K eq
