-- What `run` and `serve` do with a journal that is kept in a file.
use Rattle.std.specs.Prelude.{ℕ, ◌≡◌, ◌<◌, ◌⊎◌, Bool, true, false, [], List, length, Option, Some, None, Result, Ok, Err}
use Rattle.bpf_helpers.specs.Promise.{Promise}
use Rattle.acdm_board.specs.Desk.{DeskView, row_of}
use Rattle.acdm_failures.specs.declared.failure.Failure.{Failure}
use Rattle.acdm_judging.specs.Findings.{Tells, status_of}
use Rattle.acdm_judging.specs.declared.auditing.Finding.{Finding}
use Rattle.acdm_lines.specs.Counted.{SinkView, SourceView}
use Rattle.acdm_lines.specs.declared.run_error.RunError.{RunError}
use Rattle.acdm_lines.specs.declared.run_error.RunError.TheVariants as errors
use Rattle.acdm_sessions.specs.Run.{serving_desk}
use Rattle.acdm_failures.specs.declared.failure.Failure.TheVariants.{InUse, Keep, Memory, Read, Room}
use Rattle.acdm_failures.specs.declared.failure.Failure.TheVariants.{Write}
use Rattle.acdm_keeping.specs.Kept.{KeeperView}
use Rattle.acdm_sessions.specs.Stream.{AnswersAll, AnswersPart, AnswersWhole}
use Rattle.acdm_commands.specs.Partners.{FailsServed, FailsToServe, Named, ServesNamed}
use Rattle.acdm_commands.specs.declared.resuming.Resumption.{Resumption}
use Rattle.acdm_commands.specs.declared.resuming.Resumption.TheVariants.{Illegal, Ready}
use Rattle.acdm_commands.specs.declared.serve_command.BeginError.{BeginError}
use Rattle.acdm_commands.specs.declared.serve_command.BeginError.TheVariants as begin_errors
use Rattle.acdm_serving.specs.Partners.{Telling}
use Rattle.acdm_following.specs.Follows.{Grows}
use Rattle.acdm_step.specs.Commands.{History}
use Rattle.acdm_step.specs.History.{IsLegal}
use Rattle.acdm_step.specs.declared.entry.Entry.{Entry}
use Rattle.acdm_commands.specs.Served.{FailsToSave, IsSaved}
use Rattle.acdm_commands.specs.Terms.{FailsByTerm}

-- A desk that had no entry has those of a kept journal, and the rest of it is as it was; or something is
-- to be told of the journal, with the status 1.
abbrev pub ResumesAs : DeskView → DeskView → Option Finding → Type 0
ResumesAs before after None = after ≡ record before { history = after.history }
ResumesAs before after (Some finding) = status_of finding ≡ 1

abbrev pub Resumes : {Rt : Type 0} → DeskView → DeskView → Resumption Rt → Type 0
Resumes before after (Ready kept) = ResumesAs before after None
Resumes before after (Illegal finding) = ResumesAs before after (Some finding)

-- a keeper of what a desk has, all of which is kept already: it has written nothing
pub record IsNewKeeper {F : Type 0} (desk : DeskView) (keeper : KeeperView F) : Type 0 where
  pub row : keeper.row ≡ row_of desk
  pub all : length keeper.seen ≡ length desk.history
  pub fresh : keeper.writer.log ≡ []

-- what a keeper has seen, if there is one
abbrev pub seen_by : {F : Type 0} → Option (KeeperView F) → List Entry
seen_by None = []
seen_by (Some keeper) = keeper.seen

-- all lines that a reader gave, to its end, were answered by a desk
pub record ServesKept {R : Type 0} (before after : DeskView) (read read_after : SourceView R)
    : Type 0 where
  pub replies : List ℕ
  pub serves : AnswersAll serving_desk read.log read_after.log read_after.ended before after [] replies

-- All lines that a reader gave, to its end, were answered by a desk with room for so many entries that
-- went on from a kept journal, and what the desk had then was saved, where that was asked for.
pub record KeepsAll {R F : Type 0} (sigs : List (ℕ × Promise)) (capacity : ℕ)
    (read read_after : SourceView R) (saved saved_after : Option (SinkView F)) : Type 0 where
  pub opening : DeskView
  pub desk : DeskView
  pub room : opening.capacity ≡ capacity
  pub helpers : opening.sigs ≡ sigs
  pub serves : ServesKept opening desk read read_after
  pub saves : IsSaved desk.history saved saved_after

-- why a kept journal was not gone on from: its file could not be opened, read or cut off, somebody else
-- keeps it, it has more entries than there is room for, or memory was refused
abbrev pub FailsToResume : Failure → Type 0
FailsToResume Keep = Unit {0}
FailsToResume InUse = Unit {0}
FailsToResume Room = Unit {0}
FailsToResume Read = Unit {0}
FailsToResume Memory = Unit {0}
FailsToResume failure = ⊥

-- a kept journal is not legal, and that was told with this, or could not be
abbrev pub TellsFault : {W : Type 0} → SinkView W → SinkView W → Result ℕ Failure → Type 0
TellsFault written written_after work =
    (finding : Finding) × (status_of finding ≡ 1) × Tells finding written written_after work

-- lines were answered by a desk up to one whose reply, or up to where all replies, could not be handed on
abbrev pub AnswersUpTo : {R : Type 0} → DeskView → DeskView → SourceView R → SourceView R → Type 0
AnswersUpTo before after read read_after =
    (replies : List ℕ) × AnswersPart serving_desk read.log read_after.log before after [] replies

-- what comes of the lines that a reader gave where their replies go by way of a keeper
abbrev pub AnswersBehind : {R T : Type 0} → DeskView → DeskView → SourceView R → SourceView R
    → Result T RunError → Type 0
AnswersBehind before after read read_after (Ok x) = ServesKept before after read read_after
AnswersBehind before after read read_after (Err errors.Read) =
    (replies : List ℕ) × AnswersWhole serving_desk read.log read_after.log read.faults
    read_after.faults before after [] replies
AnswersBehind before after read read_after (Err errors.Write) = AnswersUpTo before after read read_after
AnswersBehind before after read read_after (Err errors.Memory) =
    (read_after ≡ read) × (after ≡ before)

-- Why not all lines that a reader gave were answered by a desk, and which were: that a reply was not
-- written is said only where the writer failed, and else that the journal was not kept.
abbrev pub StopsAnswering : {R W : Type 0} → DeskView → DeskView → SourceView R → SourceView R
    → SinkView W → SinkView W → Failure → Type 0
StopsAnswering before after read read_after written written_after Read =
    AnswersBehind {T = Unit {0}} before after read read_after (Err errors.Read)
StopsAnswering before after read read_after written written_after Write =
    AnswersUpTo before after read read_after × (written.faults < written_after.faults)
StopsAnswering before after read read_after written written_after Keep =
    AnswersUpTo before after read read_after
StopsAnswering before after read read_after written written_after Memory =
    (read_after ≡ read) × (after ≡ before)
StopsAnswering before after read read_after written written_after failure = ⊥

-- what was made was not kept: its file failed, or memory was refused to the keeper
abbrev pub FailsToKeep : Failure → Type 0
FailsToKeep Keep = Unit {0}
FailsToKeep Memory = Unit {0}
FailsToKeep failure = ⊥

-- all lines were answered by a desk, or those before something failed
abbrev pub AnswersSome : {R W : Type 0} → DeskView → DeskView → SourceView R → SourceView R
    → SinkView W → SinkView W → Type 0
AnswersSome before after read read_after written written_after =
    ServesKept before after read read_after
    ⊎ ((failure : Failure) × StopsAnswering before after read read_after written written_after failure)

-- Why lines were not answered by a desk that is kept, or not all, and which were; or some were, and what
-- they made was not kept.
abbrev pub StopsKept : {R W : Type 0} → DeskView → DeskView → SourceView R → SourceView R
    → SinkView W → SinkView W → Failure → Type 0
StopsKept before after read read_after written written_after failure =
    (FailsToResume failure × (read_after ≡ read) × (after ≡ before) × (written_after ≡ written))
    ⊎ StopsAnswering before after read read_after written written_after failure
    ⊎ (FailsToKeep failure × AnswersSome before after read read_after written written_after)

-- A desk with room for so many entries went on from a kept journal. Not all lines were answered or kept; or
-- all were, and what the desk had then was not saved.
pub record StopsFrom {R W F : Type 0} (sigs : List (ℕ × Promise)) (capacity : ℕ)
    (read read_after : SourceView R) (written written_after : SinkView W)
    (saved saved_after : Option (SinkView F)) (failure : Failure) : Type 0 where
  pub opening : DeskView
  pub desk : DeskView
  pub room : opening.capacity ≡ capacity
  pub helpers : opening.sigs ≡ sigs
  pub why : StopsKept opening desk read read_after written written_after failure
      ⊎ (ServesKept opening desk read read_after × FailsToSave saved saved_after failure)

-- What comes of it: all was done, with the status 0; or the kept journal is not legal, which was told, with
-- the status 1; or the journal was not gone on from, or that could not be told. No line was read then. Or
-- lines were read, and something failed.
abbrev pub KeepsTo : {R W F : Type 0} → List (ℕ × Promise) → ℕ → SourceView R → SourceView R
    → SinkView W → SinkView W → Option (SinkView F) → Option (SinkView F) → Result ℕ Failure → Type 0
KeepsTo sigs capacity read read_after written written_after saved saved_after (Ok status) =
    (KeepsAll sigs capacity read read_after saved saved_after × (status ≡ 0))
    ⊎ (TellsFault written written_after (Ok status) × (read_after ≡ read))
KeepsTo sigs capacity read read_after written written_after saved saved_after (Err failure) =
    (FailsToResume failure × (written_after ≡ written) × (read_after ≡ read))
    ⊎ (TellsFault written written_after (Err failure) × (read_after ≡ read))
    ⊎ StopsFrom sigs capacity read read_after written written_after saved saved_after failure

-- ---- `serve`

-- The desk that partners are served by has room for so many entries, and these helpers. Where its journal is not kept
-- it has no entry.
pub record BeginsWith (sigs : List (ℕ × Promise)) (capacity : ℕ) (kept : Bool) (opening : DeskView)
    : Type 0 where
  pub room : opening.capacity ≡ capacity
  pub helpers : opening.sigs ≡ sigs
  pub empty : kept ≡ false → opening.history ≡ []

-- why there is no such desk: where the journal is kept, it is not legal, or it may not be gone on from, or was not; else
-- memory was refused
abbrev pub FailsToBegin : Bool → Bool → BeginError → Type 0
FailsToBegin kept peered (begin_errors.Illegal finding) = (kept ≡ true) × (status_of finding ≡ 1)
FailsToBegin true peered (begin_errors.Failed failure) = FailsToResume failure ⊎ FailsByTerm peered failure
FailsToBegin false peered (begin_errors.Failed failure) = failure ≡ Memory

-- the journal of a desk is kept, and what its partners made was not; that is told only once they were served
pub record FailsKept {W : Type 0} (kept : Bool) (desk : DeskView) (named : Named) (written written_after : SinkView W)
    (failure : Failure) : Type 0 where
  pub is_kept : kept ≡ true
  pub failure_is : FailsToKeep failure
  pub told : Telling
  pub served : ServesNamed desk named written written_after told (λ J. Unit {0})

-- why partners were not served by a desk, or not to their end, or what they made was not kept
abbrev pub FailsAtDesk : {W : Type 0} → Bool → DeskView → Named → SinkView W → SinkView W → Failure → Type 0
FailsAtDesk kept desk named written written_after failure =
    FailsToServe named written written_after failure
    ⊎ FailsKept kept desk named written written_after failure

-- why they were not, or what they made was not saved, or not told
abbrev pub StopsAtDesk : {W F : Type 0} → Bool → DeskView → Named → SinkView W → SinkView W
    → Option (SinkView F) → Option (SinkView F) → Failure → Type 0
StopsAtDesk kept desk named written written_after saved saved_after failure =
    FailsAtDesk kept desk named written written_after failure
    ⊎ FailsServed (ServesNamed desk named written written_after) saved saved_after failure

-- The desk that partners are served by: that which was begun; or, where its journal is kept and another board was
-- followed before, that with the entries which came of that board behind its own.
abbrev pub IsLed : Bool → Bool → DeskView → DeskView → Type 0
IsLed kept follows desk led =
    (led ≡ desk) ⊎ ((kept ≡ true) × (follows ≡ true) × Grows desk led × IsLegal led.sigs led.history)

-- Partners were served by such a desk, and this history came of it; or nobody was, since the board was closed while
-- another one was followed.
pub record ComesLed {W : Type 0} (kept : Bool) (desk : DeskView) (named : Named) (written written_after : SinkView W)
    (told : Telling) (J : History) : Type 0 where
  pub led : DeskView
  pub is_led : IsLed kept named.follows desk led
  pub serves : ServesNamed led named written written_after told (λ K. K ≡ J)
      ⊎ ((kept ≡ true) × (named.follows ≡ true) × (written_after ≡ written) × (told ≡ Ok tt) × (J ≡ led.history))

-- The board was closed while another one was followed: nobody was served, and what the desk had then was saved, or not.
abbrev pub ClosesLed : {W F : Type 0} → DeskView → SinkView W → SinkView W → Option (SinkView F)
    → Option (SinkView F) → Result ℕ Failure → Type 0
ClosesLed led written written_after saved saved_after (Ok status) =
    (written_after ≡ written) × IsSaved led.history saved saved_after × (status ≡ 0)
ClosesLed led written written_after saved saved_after (Err failure) =
    (written_after ≡ written) × (FailsToKeep failure ⊎ FailsToSave saved saved_after failure)

-- what comes of serving the partners that the words name by a desk: all was done, with the status 0, or not
abbrev pub ServesWordsTo : {W F : Type 0} → Bool → DeskView → Named → SinkView W → SinkView W
    → Option (SinkView F) → Option (SinkView F) → Result ℕ Failure → Type 0
ServesWordsTo kept desk named written written_after saved saved_after (Ok status) =
    ServesNamed desk named written written_after (Ok tt) (λ J. IsSaved J saved saved_after) × (status ≡ 0)
ServesWordsTo kept desk named written written_after saved saved_after (Err failure) =
    StopsAtDesk kept desk named written written_after saved saved_after failure

-- The same by a desk that another board may have been followed by before, until which the board may have been closed.
pub record ServesLed {W F : Type 0} (kept : Bool) (desk : DeskView) (named : Named)
    (written written_after : SinkView W) (saved saved_after : Option (SinkView F)) (work : Result ℕ Failure)
    : Type 0 where
  pub led : DeskView
  pub is_led : IsLed kept named.follows desk led
  pub serves : ServesWordsTo kept led named written written_after saved saved_after work
      ⊎ ((kept ≡ true) × (named.follows ≡ true) × ClosesLed led written written_after saved saved_after work)

-- the board was closed while another one was followed, by a desk that was begun so
pub record ClosesFrom {W F : Type 0} (sigs : List (ℕ × Promise)) (capacity : ℕ) (kept : Bool) (named : Named)
    (written written_after : SinkView W) (saved saved_after : Option (SinkView F)) (work : Result ℕ Failure)
    : Type 0 where
  pub opening : DeskView
  pub begins : BeginsWith sigs capacity kept opening
  pub is_kept : kept ≡ true
  pub follows : named.follows ≡ true
  pub closes : ClosesLed opening written written_after saved saved_after work

-- partners were served by a desk that was begun so
pub record ServesFrom {W : Type 0} (sigs : List (ℕ × Promise)) (capacity : ℕ) (kept : Bool) (named : Named)
    (written written_after : SinkView W) (told : Telling) (Kept : History → Type 0) : Type 0 where
  pub opening : DeskView
  pub begins : BeginsWith sigs capacity kept opening
  pub serves : ServesNamed opening named written written_after told Kept

-- they were not, or not to their end, or what they made was not kept or saved, or not told
pub record StopsServing {W F : Type 0} (sigs : List (ℕ × Promise)) (capacity : ℕ) (kept : Bool)
    (named : Named) (written written_after : SinkView W) (saved saved_after : Option (SinkView F))
    (failure : Failure) : Type 0 where
  pub opening : DeskView
  pub begins : BeginsWith sigs capacity kept opening
  pub why : StopsAtDesk kept opening named written written_after saved saved_after failure

-- why nobody was served: where the journal is kept it was not gone on from; else memory was refused
abbrev pub FailsFirst : Bool → Bool → Failure → Type 0
FailsFirst kept peered failure = FailsToBegin kept peered (begin_errors.Failed failure)

-- What comes of it: all was done, with the status 0; or the kept journal is not legal, which was told, with
-- the status 1; or there was no desk, or that could not be told, and nobody was served; or the board was closed while
-- another one was followed; or something failed then.
abbrev pub ServesTo : {W F : Type 0} → List (ℕ × Promise) → ℕ → Bool → Named → SinkView W
    → SinkView W → Option (SinkView F) → Option (SinkView F) → Result ℕ Failure → Type 0
ServesTo sigs capacity kept named written written_after saved saved_after (Ok status) =
    (ServesFrom sigs capacity kept named written written_after (Ok tt) (λ J. IsSaved J saved saved_after)
    × (status ≡ 0))
    ⊎ ((kept ≡ true) × TellsFault written written_after (Ok status))
    ⊎ ClosesFrom sigs capacity kept named written written_after saved saved_after (Ok status)
ServesTo sigs capacity kept named written written_after saved saved_after (Err failure) =
    (FailsFirst kept named.peered failure × (written_after ≡ written))
    ⊎ ((kept ≡ true) × TellsFault written written_after (Err failure))
    ⊎ ClosesFrom sigs capacity kept named written written_after saved saved_after (Err failure)
    ⊎ StopsServing sigs capacity kept named written written_after saved saved_after failure
