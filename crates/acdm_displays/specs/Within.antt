-- How far entries are shown: no further than they are kept, where they are.
use Rattle.std.specs.Prelude.{ℕ, ◌≤◌, List, Option, Some, None, length}
use Rattle.acdm_keeping.specs.declared.reach.Extent.{Extent}
use Rattle.acdm_step.specs.declared.entry.Entry.{Entry}

-- there is a extent where entries are kept, and none else
abbrev pub IsAsKept : {X : Type 0} → Option X → Option Extent → Type 0
IsAsKept None None = Unit {0}
IsAsKept (Some x) (Some extent) = Unit {0}
IsAsKept _ _ = ⊥

-- no more entries were seen than the extent says are kept, where there is one
abbrev pub IsWithin : Option Extent → List Entry → Type 0
IsWithin None seen = Unit {0}
IsWithin (Some extent) seen = length seen ≤ extent.count

-- a extent in the place of another one, for no fewer entries
abbrev pub IsNoLess : Option Extent → Option Extent → Type 0
IsNoLess None None = Unit {0}
IsNoLess (Some old) (Some new) = old.count ≤ new.count
IsNoLess _ _ = ⊥

-- where no more than so many entries were seen before, no more are seen then
abbrev pub StaysWithin : ℕ → List Entry → List Entry → Type 0
StaysWithin most seen later = length seen ≤ most → length later ≤ most
