use Rattle.acdm_feed.proofs.Pieces.{object_pieces}
use Rattle.acdm_feed.proofs.told.push_object.Goals as goal

pub returns-clause-adds : goal.returns-clause-adds
returns-clause-adds c sigs J eq k =
    object_pieces _ _ _ _ _ _ _ _ _ _ _ c.in_ok-begin_object.ensures.adds
    c.in_ok-push_head.ensures.adds c.in_ok-push_told.ensures.adds
    (c.in_ok-push_changed.ensures.adds sigs J eq k) c.in_ok-end_object.ensures.adds
