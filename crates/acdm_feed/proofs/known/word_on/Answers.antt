use Rattle.std.proofs.Common.{ap, sym, ◌∙◌, Some, None}
use Rattle.std.specs.Option.{option_copied}
use Rattle.acdm_feed.proofs.Following.{word_from_record}
use Rattle.acdm_feed.proofs.known.word_on.Goals as goal

pub returns-in-Some : goal.returns-in-Some
returns-in-Some c sigs J eq =
    ap Some c.get.ensures.value ∙ word_from_record J c.args.flight _
    (ap option_copied (sym c.in-Some.is) ∙ c.record_of.ensures.record sigs J eq)

pub returns-in-None : goal.returns-in-None
returns-in-None c sigs J eq =
    word_from_record J c.args.flight None
    (ap option_copied (sym c.in-None.is) ∙ c.record_of.ensures.record sigs J eq)
