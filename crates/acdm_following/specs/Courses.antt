-- How a board was followed.
use Rattle.std.specs.Prelude.{ℕ, Bool, true, false, List, [], ◌∷◌}
use Rattle.acdm_following.specs.declared.first_board.Parting.{Parting}

-- a connection that was handed back: from which entry on it was asked, how often it failed, all that it gave, whether
-- it has ended, and why it was handed back
pub record Parted : Type 0 where
  pub from : ℕ
  pub faults : ℕ
  pub gave : List ℕ
  pub ended : Bool
  pub why : Parting

-- the number of the entry that was asked for last, whether following is over, and the connections that were handed
-- back, the newest first
pub record CourseView : Type 0 where
  pub from : ℕ
  pub is_over : Bool
  pub parted : List Parted

abbrev pub unasked : CourseView
unasked = record { from = 0; is_over = false; parted = [] }

-- entries from this number on were asked for, and there was a connection, or following is over
abbrev pub asked : CourseView → ℕ → Bool → CourseView
asked c next true = record c { from = next }
asked c next false = record c { is_over = true }

-- a connection was handed back
abbrev pub parted : CourseView → ℕ → List ℕ → Bool → Parting → CourseView
parted c faults gave ended why =
    record c { parted = record { from = c.from; faults = faults; gave = gave; ended = ended; why = why } ∷ c.parted }

-- a connection was handed back for this reason that gave what the newest of these gave
abbrev pub parted_as : CourseView → List Parted → Parting → CourseView
parted_as c [] why = c
parted_as c (p ∷ ps) why = parted c p.faults p.gave p.ended why
