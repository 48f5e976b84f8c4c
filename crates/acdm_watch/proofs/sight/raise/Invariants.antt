use Rattle.std.specs.Prelude.{◌≡◌, length, take, vec_capacity}
use Rattle.acdm_row.specs.Notes.{entries_of}
use Rattle.acdm_watch.proofs.sight.raise.Given as goal

abbrev pub invariant-loop-at : goal.invariant-loop-at
invariant-loop-at l =
    (l.front.row ≡ l.fn.front.row) × (l.front.room ≡ l.fn.front.room) × (length l.front.entries
    ≡ l.at)
    × (l.front.entries ≡ take l.at (entries_of l.fn.notes.items)) × (l.front.entries
    ≡ take l.at l.fn.pass.seen)
    × (l.notes.items ≡ l.fn.notes.items) × (vec_capacity l.notes ≡ vec_capacity l.fn.notes)
    × (l.pass ≡ l.fn.pass)
