use Rattle.std.specs.Prelude.{◌≡◌, ◌+◌, ◌≤◌, ◌++◌, List, vec_len, vec_capacity}
use Rattle.std.specs.Vec.Iter.{into_iter_len, into_iter_items}
use Rattle.acdm_jobs.specs.Each.{Each}
use Rattle.acdm_jobs.proofs.jobs.end_all.Given as goal

abbrev pub invariant-loop-one : goal.invariant-loop-one
invariant-loop-one g l =
    (vec_len l.done + into_iter_len l.one-iterator ≤ vec_capacity l.done)
    × ((part : List _) × (part ++ into_iter_items l.one-iterator ≡ l.fn.begun.items)
    × Each g.B.Job.gives part l.done.items)
