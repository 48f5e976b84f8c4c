use Rattle.std.specs.Prelude.{◌≡◌, ◌++◌, ◌-◌, drop, take, vec_len, vec_capacity}
use Rattle.acdm_row.proofs.front.copy_rest.Given as goal

abbrev pub invariant-loop-at : goal.invariant-loop-at
invariant-loop-at l =
    (l.ours.items ≡ l.fn.ours.items ++ take (l.at - vec_len l.fn.ours) (drop (vec_len l.fn.ours)
    l.fn.theirs.items))
    × (vec_len l.ours ≡ l.at)
    × (vec_capacity l.ours ≡ vec_capacity l.fn.ours)
    × (l.theirs.items ≡ l.fn.theirs.items) × (vec_capacity l.theirs ≡ vec_capacity l.fn.theirs)
