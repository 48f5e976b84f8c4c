-- What comes of following a board.
use Rattle.std.specs.Prelude.{ℕ, ◌-◌, ◌^◌, ◌≤◌, ◌≡◌, ◌⊎◌, true, Bool, List, [], ◌∷◌, ◌++◌, length, Result, Ok, Err}
use Rattle.acdm_board.specs.Desk.{DeskView}
use Rattle.acdm_failures.specs.declared.failure.Failure.{Failure}
use Rattle.acdm_failures.specs.declared.failure.Failure.TheVariants.{Read}
use Rattle.acdm_keeping.specs.Kept.{CutsShort}
use Rattle.acdm_step.specs.declared.entry.Entry.{Entry}
use Rattle.acdm_step.specs.Commands.{History}
use Rattle.acdm_restoring.specs.Restored.{with_entries}
use Rattle.acdm_following.specs.declared.first_board.Parting.{Parting}
use Rattle.acdm_following.specs.declared.first_board.Parting.TheVariants as partings
use Rattle.acdm_following.specs.Comes.{Comes}
use Rattle.acdm_following.specs.Courses.{CourseView, Parted}

-- What a desk has is what came of each of these connections, one after the other, of which the newest is the first;
-- each was asked for the entries from the one on that came next then.
abbrev pub Follows : DeskView → List Parted → DeskView → Type 0
Follows before [] after = after ≡ before
Follows before (p ∷ ps) after =
    (middle : DeskView) × Follows before ps middle × (p.from ≡ length middle.history)
    × Comes middle after p.faults p.gave p.ended p.why

-- following goes on behind a connection
abbrev pub GoesOn : Parting → Type 0
GoesOn (partings.Failed failure) = ⊥
GoesOn why = Unit {0}

abbrev pub AllGoOn : List Parted → Type 0
AllGoOn [] = Unit {0}
AllGoOn (p ∷ ps) = AllGoOn ps × GoesOn p.why

-- this board failed at the newest connection, and at none before
abbrev pub FailsAt : List Parted → Failure → Type 0
FailsAt [] failure = ⊥
FailsAt (p ∷ ps) failure = (p.why ≡ partings.Failed failure) × AllGoOn ps

-- Why following has ended: it is over; or this board failed at a connection, or when all were over, in keeping what
-- it has; or there were as many connections as there may be.
abbrev pub EndsFollowing : {T : Type 0} → List Parted → Bool → Result T Failure → Type 0
EndsFollowing parted over (Ok x) = (over ≡ true) × AllGoOn parted
EndsFollowing parted over (Err failure) =
    FailsAt parted failure
    ⊎ (((over ≡ true) × AllGoOn parted × CutsShort failure)
    ⊎ ((failure ≡ Read) × (2 ^ 64 - 1 ≤ length parted)))

-- What comes of following a board: the connections that were handed back since, what came of each, and why it has
-- ended.
pub record Followed {T : Type 0} (before after : DeskView) (old new : CourseView) (result : Result T Failure)
    : Type 0 where
  pub parted : List Parted
  pub parted_is : new.parted ≡ parted ++ old.parted
  pub follows : Follows before parted after
  pub ends : EndsFollowing parted new.is_over result

-- a desk has newer entries behind those that it had, and nothing else of it has changed
abbrev pub Grows : DeskView → DeskView → Type 0
Grows before after = (newer : List Entry) × (after ≡ with_entries before newer)

-- a receipt covers all entries that there are
abbrev pub AreCovered : (ℕ → Type 0) → History → Type 0
AreCovered covers [] = Unit {0}
AreCovered covers (e ∷ J) = covers (length J)
