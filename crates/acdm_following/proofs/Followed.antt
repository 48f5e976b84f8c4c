-- What comes of following a board.
use Rattle.std.proofs.Common.{◌≡◌, ℕ, ◌+◌, ◌-◌, ◌^◌, ◌≤◌, inl, inr, true, false, Bool, List, [], ◌∷◌, ◌++◌}
use Rattle.std.proofs.Common.{length, Result, Ok, Err, refl, sym, ap, subst, ◌∙◌, arith, append_assoc}
use Rattle.std.specs.Prelude.{IfErr}
use Rattle.acdm_board.specs.Desk.{DeskView}
use Rattle.acdm_failures.specs.declared.failure.Failure.{Failure}
use Rattle.acdm_failures.specs.declared.failure.Failure.TheVariants as failures
use Rattle.acdm_keeping.specs.Kept.{CutsShort}
use Rattle.acdm_restoring.specs.Restored.{with_entries}
use Rattle.acdm_step.specs.declared.entry.Entry.{Entry}
use Rattle.acdm_step.specs.Commands.{History}
use Rattle.acdm_step.specs.History.{IsLegal}
use Rattle.acdm_following.specs.declared.first_board.Parting.{Parting}
use Rattle.acdm_following.specs.declared.first_board.Parting.TheVariants as partings
use Rattle.acdm_following.specs.Comes.{Comes}
use Rattle.acdm_following.specs.Courses.{CourseView, Parted, asked, parted}
use Rattle.acdm_following.specs.Follows.{AllGoOn, AreCovered, Followed, Follows, GoesOn, Grows}

-- what came so far, of all connections but so many that are left
pub record FollowsSoFar (before desk : DeskView) (old now : CourseView) (left : ℕ) : Type 0 where
  pub handed : List Parted
  pub handed_is : now.parted ≡ handed ++ old.parted
  pub follows : Follows before handed desk
  pub on : AllGoOn handed
  pub count : 2 ^ 64 - 1 ≤ length handed + left
  pub grows : Grows before desk
  pub legal : IsLegal desk.sigs desk.history

pub begins : (desk : DeskView) (now : CourseView) (left : ℕ) → IsLegal desk.sigs desk.history
    → left ≡ 18446744073709551615 → FollowsSoFar desk desk now now left
begins desk now left legal all = record {
  handed = [];
  handed_is = refl;
  follows = refl;
  on = tt;
  count = omega (arith, all);
  grows = ([], refl);
  legal = legal;
}

grows_by : (before desk after : DeskView) → Grows before desk → (newer : List Entry)
    → after ≡ with_entries desk newer → Grows before after
grows_by before desk after g newer is = (
  newer ++ g.0,
  is ∙ ap (λ (d : DeskView). with_entries d newer) g.1
      ∙ ap (λ (H : History). record before { history = H }) (sym (append_assoc newer g.0 before.history)),
)

grows_more : (before desk after : DeskView) (faults : ℕ) (gave : List ℕ) (ended : Bool) (why : Parting)
    → Grows before desk → Comes desk after faults gave ended why → Grows before after
grows_more before desk after faults gave ended why g (inl same) =
    subst (λ (d : DeskView). Grows before d) (sym same.0) g
grows_more before desk after faults gave ended why g (inr b) =
    grows_by before desk after g b.enters.newer b.enters.after_is

-- a connection more was handed back
module _ (before desk after : DeskView) (old now middle later : CourseView) (left next faults : ℕ)
    (gave : List ℕ) (ended : Bool) (why : Parting) (s : FollowsSoFar before desk old now left)
    (asks : middle ≡ asked now next true) (parts : later ≡ parted middle faults gave ended why)
    (is_next : next ≡ length desk.history) (comes : Comes desk after faults gave ended why)
  where
    newest : Parted
    newest = record { from = next; faults = faults; gave = gave; ended = ended; why = why }

    later_is : later.parted ≡ newest ∷ (s.handed ++ old.parted)
    unfolding newest
    later_is =
        ap (λ (c : CourseView). c.parted) parts
        ∙ ap (λ (c : CourseView). record { from = c.from; faults = faults; gave = gave; ended = ended; why = why }
        ∷ c.parted) asks
        ∙ ap (λ l. newest ∷ l) s.handed_is

    follows_on : Follows before (newest ∷ s.handed) after
    unfolding newest
    follows_on = (desk, s.follows, is_next, comes)

    pub follows_more : (fewer : ℕ) → left ≤ fewer + 1 → GoesOn why → IsLegal after.sigs after.history
        → FollowsSoFar before after old later fewer
    unfolding newest later_is follows_on
    follows_more fewer less on legal = record {
      handed = newest ∷ s.handed;
      handed_is = later_is;
      follows = follows_on;
      on = (s.on, on);
      count = omega (arith, s.count, less);
      grows = grows_more before desk after faults gave ended why s.grows comes;
      legal = legal;
    }

    pub fails_there : {T : Type 0} (failure : Failure) → why ≡ partings.Failed failure
        → Followed {T = T} before after old later (Err failure)
    unfolding newest later_is follows_on
    fails_there failure is = record {
      parted = newest ∷ s.handed;
      parted_is = later_is;
      follows = follows_on;
      ends = inl (is, s.on);
    }

    pub grows_then : Grows before after
    unfolding grows_more
    grows_then = grows_more before desk after faults gave ended why s.grows comes

pub goes_on : (why : Parting) → ((failure : Failure) → why ≡ partings.Failed failure → ⊥) → GoesOn why
goes_on (partings.Failed failure) not = absurd (not failure refl)
goes_on partings.Ended not = tt
goes_on partings.Read not = tt
goes_on partings.NotAJournal not = tt
goes_on partings.OtherJournal not = tt
goes_on (partings.Behind has) not = tt
goes_on (partings.Ahead next) not = tt
goes_on (partings.Faulty entry clause) not = tt

-- there is no connection more
pub is_over : {T : Type 0} (before desk : DeskView) (old now later : CourseView) (left next : ℕ)
    (result : Result T Failure) → FollowsSoFar before desk old now left → later ≡ asked now next false
    → IfErr result CutsShort → Followed before desk old later result
is_over before desk old now later left next (Ok x) s is cuts = record {
  parted = s.handed;
  parted_is = ap (λ (c : CourseView). c.parted) is ∙ s.handed_is;
  follows = s.follows;
  ends = (ap (λ (c : CourseView). c.is_over) is, s.on);
}
is_over before desk old now later left next (Err failure) s is cuts = record {
  parted = s.handed;
  parted_is = ap (λ (c : CourseView). c.parted) is ∙ s.handed_is;
  follows = s.follows;
  ends = inr (inl (ap (λ (c : CourseView). c.is_over) is, s.on, cuts));
}

-- there were as many as there may be
pub are_many : {T : Type 0} (before desk : DeskView) (old now : CourseView) (left : ℕ)
    → FollowsSoFar before desk old now left → left ≡ 0 → Followed {T = T} before desk old now (Err failures.Read)
are_many before desk old now left s none = record {
  parted = s.handed;
  parted_is = s.handed_is;
  follows = s.follows;
  ends = inr (inr (refl, omega (arith, s.count, none)));
}

-- ---- keeping

pub all_kept : (covers : ℕ → Type 0) (J : History) (n : ℕ) → n + 1 ≡ length J → covers n → AreCovered covers J
all_kept covers [] n e h = absurd (omega arith)
all_kept covers (e ∷ J) n is h = subst covers (omega (arith, is)) h

pub none_kept : (covers : ℕ → Type 0) (J : History) → length J ≡ 0 → AreCovered covers J
none_kept covers [] e = tt
none_kept covers (e ∷ J) is = absurd (omega arith)
