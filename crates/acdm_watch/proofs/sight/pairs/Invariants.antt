use Rattle.std.specs.Prelude.{◌≡◌, take, vec_capacity}
use Rattle.acdm_row.specs.Notes.{entries_of}
use Rattle.acdm_watch.proofs.sight.pairs.Given as goal

abbrev pub invariant-loop-at : goal.invariant-loop-at
invariant-loop-at l =
    (l.ours.items ≡ l.fn.ours.items) × (vec_capacity l.ours ≡ vec_capacity l.fn.ours)
    × (l.theirs.items ≡ l.fn.theirs.items) × (vec_capacity l.theirs ≡ vec_capacity l.fn.theirs)
    × (take l.at (entries_of l.fn.ours.items) ≡ take l.at (entries_of l.fn.theirs.items))
