-- Whether two lists of signatures are the same: the same numbers, ranges and tables in the same
-- order (this project's profile).
use Rattle.std.specs.Prelude.{ℕ, List, Bool, ◌&&◌, ◌==◌}
use Rattle.std.specs.Cmp.Lexicographic.{pointwise}
use Rattle.bpf_helpers.specs.declared.range.Range.{Range}
use Rattle.bpf_helpers.specs.Promise.{Promise}

abbrev pub same_range : Range → Range → Bool
same_range a b = a.lo == b.lo && a.hi == b.hi

abbrev pub same_pair : ℕ × ℕ → ℕ × ℕ → Bool
same_pair a b = a.0 == b.0 && a.1 == b.1

abbrev pub same_promise : Promise → Promise → Bool
same_promise a b = pointwise same_range a.args b.args
    && (same_range a.answer b.answer && pointwise same_pair a.table b.table)

abbrev pub same_entry : ℕ × Promise → ℕ × Promise → Bool
same_entry a b = a.0 == b.0 && same_promise a.1 b.1

abbrev pub same_sigs : List (ℕ × Promise) → List (ℕ × Promise) → Bool
same_sigs a b = pointwise same_entry a b
