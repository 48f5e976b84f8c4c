use Rattle.acdm_feed.proofs.Pieces.{list_pieces}
use Rattle.acdm_feed.proofs.standing.push_list.Goals as goal

pub returns-clause-adds : goal.returns-clause-adds
returns-clause-adds c sigs J eq k =
    list_pieces _ _ _ _ _ _ _ _ _ c.in_ok-key.ensures.adds c.in_ok-begin_array.ensures.adds
    (c.in_ok-push_flights.ensures.adds sigs J eq k) c.in_ok-end_array.ensures.adds
