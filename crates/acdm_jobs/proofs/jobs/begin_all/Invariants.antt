use Rattle.std.specs.Prelude.{◌≡◌, ◌+◌, ◌≤◌, ◌++◌, vec_len, vec_capacity}
use Rattle.std.specs.Vec.Iter.{into_iter_len, into_iter_items}
use Rattle.acdm_jobs.proofs.jobs.begin_all.Given as goal

abbrev pub invariant-loop-job : goal.invariant-loop-job
invariant-loop-job g l =
    (l.number + into_iter_len l.job-iterator ≡ vec_len l.fn.jobs)
    × (vec_len l.begun + into_iter_len l.job-iterator ≤ vec_capacity l.begun)
    × (l.begun.items ++ into_iter_items l.job-iterator ≡ l.fn.jobs.items)
