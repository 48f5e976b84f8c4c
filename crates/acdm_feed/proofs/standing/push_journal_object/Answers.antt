use Rattle.acdm_feed.proofs.Heading.{object_of_one}
use Rattle.acdm_feed.proofs.standing.push_journal_object.Goals as goal

pub returns-clause-adds : goal.returns-clause-adds
returns-clause-adds c =
    object_of_one _ _ _ _ _ _ _ c.in_ok-begin_object.ensures.adds c.in_ok-push_head.ensures.adds
    c.in_ok-end_object.ensures.adds
