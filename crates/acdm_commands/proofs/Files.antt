-- What is done with files, whatever they are.
use Rattle.std.proofs.Common.{◌≡◌, ◌⊎◌, ℕ, Bool, true, false, List, Option, Some, None, Result, Ok, Err, option_map}
use Rattle.std.proofs.Common.{inl, inr, sym, subst}
use Rattle.bpf_helpers.specs.Promise.{Promise}
use Rattle.bpf_regstate.specs.declared.length.Length.{Length}
use Rattle.acdm_step.specs.Commands.{History}
use Rattle.acdm_failures.specs.Failures.{Ends, EndsBy}
use Rattle.acdm_failures.specs.declared.failure.Failure.{Failure}
use Rattle.acdm_failures.specs.declared.failure.Failure.TheVariants as failures
use Rattle.acdm_judging.specs.Explained.{Explains, FailsToRead}
use Rattle.acdm_judging.specs.Findings.{Audited, Finds}
use Rattle.acdm_judging.specs.Gave.{GaveBytes, most_bytes}
use Rattle.acdm_judging.specs.Verdicts.{Judged, Verifies}
use Rattle.acdm_judging.specs.declared.auditing.Finding.{Finding}
use Rattle.acdm_judging.specs.declared.auditing.Finding.TheVariants.{Legal, Faulty}
use Rattle.acdm_judging.specs.declared.verifying.ProgramVerdict.{ProgramVerdict}
use Rattle.acdm_lines.specs.Counted.{SinkView, SourceView}
use Rattle.acdm_telling.specs.Told.{Gives, Told}
use Rattle.acdm_commands.specs.Completed.{ExplainsLine, InFile, IsUnread, IsUnwritten, read_from}
use Rattle.acdm_commands.specs.Completed.{ComesOfRun, Places, RunsLine, ServesLine, Settles}
use Rattle.acdm_commands.specs.Completed.{written_to}
use Rattle.acdm_board.specs.Desk.{DeskView}
use Rattle.acdm_commands.specs.Keeping.{ClosesFrom, ClosesLed, KeepsTo, ServesTo, StopsAtDesk, StopsFrom}
use Rattle.acdm_commands.specs.Served.{FailsToSave, IsSaved, Runs, RunsTo}
use Rattle.acdm_commands.specs.Partners.{Named, SavesSo, ServesNamed}
use Rattle.acdm_serving.specs.Partners.{Telling}

-- ---- files that are read

module _ {F : Type 0} (sigs : List (ℕ × Promise)) (file later : SourceView F) where
  finds_any : (finding : Finding) → Finds sigs file later (Ok finding)
      → Finds sigs (read_from file) (read_from later) (Ok finding)
  finds_any (Legal n) p = p
  finds_any (Faulty entry clause) p = p

  pub audited_any : {W : Type 0} (old new : SinkView W) (work : Result ℕ Failure)
      → Audited sigs file later old new work
      → Audited sigs (read_from file) (read_from later) old new work
  audited_any old new (Ok status) p = record {
    finding = p.finding;
    finds = finds_any p.finding p.finds;
    told = p.told;
    flushed = p.flushed;
    status_is = p.status_is;
  }
  audited_any old new (Err failures.Write) p = record {
    finding = p.finding;
    finds = finds_any p.finding p.finds;
    told = p.told;
  }
  audited_any old new (Err failures.Read) p = p
  audited_any old new (Err failures.Memory) p = p
  audited_any old new (Err failures.Untold) p = absurd p
  audited_any old new (Err failures.Save) p = absurd p
  audited_any old new (Err (failures.Role n)) p = absurd p
  audited_any old new (Err (failures.Address n)) p = absurd p
  audited_any old new (Err (failures.Accept n)) p = absurd p
  audited_any old new (Err failures.Watch) p = absurd p
  audited_any old new (Err failures.Follow) p = absurd p
  audited_any old new (Err failures.Control) p = absurd p
  audited_any old new (Err failures.Log) p = absurd p
  audited_any old new (Err failures.Word) p = absurd p
  audited_any old new (Err failures.Stream) p = absurd p
  audited_any old new (Err failures.Keep) p = absurd p
  audited_any old new (Err failures.InUse) p = absurd p
  audited_any old new (Err failures.Room) p = absurd p
  audited_any old new (Err failures.Peer) p = absurd p
  audited_any old new (Err failures.Replaced) p = absurd p

  gives_any : (J : History) (rest : List ℕ) → Gives sigs J rest file later
      → Gives sigs J rest (read_from file) (read_from later)
  gives_any J rest p = record { legal = p.legal; readable = p.readable; gave = p.gave }

  pub told_any : {W : Type 0} (old new : SinkView W) (work : Result ℕ Failure)
      → Told sigs file later old new work → Told sigs (read_from file) (read_from later) old new work
  told_any old new (Ok status) p = record {
    finding = p.finding;
    finds = finds_any p.finding p.finds;
    history = p.history;
    rest = p.rest;
    gives = gives_any p.history p.rest p.gives;
    count = p.count;
    leaves = p.leaves;
    told = p.told;
    flushed = p.flushed;
    status_is = p.status_is;
  }
  told_any old new (Err failures.Read) p = record {
    unended = p.unended;
    history = p.history;
    rest = p.rest;
    gives = gives_any p.history p.rest p.gives;
    told = p.told;
  }
  told_any old new (Err failures.Write) p = p
  told_any old new (Err failures.Memory) p = p
  told_any old new (Err failures.Untold) p = absurd p
  told_any old new (Err failures.Save) p = absurd p
  told_any old new (Err (failures.Role n)) p = absurd p
  told_any old new (Err (failures.Address n)) p = absurd p
  told_any old new (Err (failures.Accept n)) p = absurd p
  told_any old new (Err failures.Watch) p = absurd p
  told_any old new (Err failures.Follow) p = absurd p
  told_any old new (Err failures.Control) p = absurd p
  told_any old new (Err failures.Log) p = absurd p
  told_any old new (Err failures.Word) p = absurd p
  told_any old new (Err failures.Stream) p = absurd p
  told_any old new (Err failures.Keep) p = absurd p
  told_any old new (Err failures.InUse) p = absurd p
  told_any old new (Err failures.Room) p = absurd p
  told_any old new (Err failures.Peer) p = absurd p
  told_any old new (Err failures.Replaced) p = absurd p

  pub gave_any : (most : ℕ) (bytes : List ℕ) → GaveBytes most file later bytes
      → GaveBytes most (read_from file) (read_from later) bytes
  gave_any most bytes p = record { gave = p.gave; enough = p.enough; well = p.well }

  judged_any : (long : Length) (verdict : ProgramVerdict) → Judged sigs long file later verdict
      → Judged sigs long (read_from file) (read_from later) verdict
  judged_any long verdict p = record { bytes = p.bytes; gave = gave_any most_bytes p.bytes p.gave; is = p.is }

  pub verified_any : {W : Type 0} (long : Length) (old new : SinkView W) (work : Result ℕ Failure)
      → Verifies sigs long file later old new work
      → Verifies sigs long (read_from file) (read_from later) old new work
  verified_any long old new (Ok status) p = record {
    verdict = p.verdict;
    judged = judged_any long p.verdict p.judged;
    told = p.told;
    flushed = p.flushed;
    status_is = p.status_is;
  }
  verified_any long old new (Err failures.Write) p = record {
    verdict = p.verdict;
    judged = judged_any long p.verdict p.judged;
    told = p.told;
  }
  verified_any long old new (Err failures.Read) p = p
  verified_any long old new (Err failures.Memory) p = p
  verified_any long old new (Err failures.Untold) p = absurd p
  verified_any long old new (Err failures.Save) p = absurd p
  verified_any long old new (Err (failures.Role n)) p = absurd p
  verified_any long old new (Err (failures.Address n)) p = absurd p
  verified_any long old new (Err (failures.Accept n)) p = absurd p
  verified_any long old new (Err failures.Watch) p = absurd p
  verified_any long old new (Err failures.Follow) p = absurd p
  verified_any long old new (Err failures.Control) p = absurd p
  verified_any long old new (Err failures.Log) p = absurd p
  verified_any long old new (Err failures.Word) p = absurd p
  verified_any long old new (Err failures.Stream) p = absurd p
  verified_any long old new (Err failures.Keep) p = absurd p
  verified_any long old new (Err failures.InUse) p = absurd p
  verified_any long old new (Err failures.Room) p = absurd p
  verified_any long old new (Err failures.Peer) p = absurd p
  verified_any long old new (Err failures.Replaced) p = absurd p

  pub explained_any : (long : Length) (work : Result ℕ Failure) → Explains sigs long file later work
      → Explains sigs long (read_from file) (read_from later) work
  explained_any long work (inl p) = inl (p.0, gave_any most_bytes p.0 p.1, p.2)
  explained_any long work (inr p) = inr p

-- a file that could be opened was explained, or could not be read
pub explained_line : {F W E : Type 0} (sigs : List (ℕ × Promise)) (long : Length) (path : List ℕ) (file later : SourceView F)
    (old new : SinkView W) (status : ℕ) (errors errors_after : SinkView E) → IsUnread file
    → EndsBy (Explains sigs long file later) status errors errors_after
    ⊎ FailsToRead path file later old new status errors errors_after
    → ExplainsLine sigs long path old new status errors errors_after
explained_line sigs long path file later old new status errors errors_after unread (inl e) =
    inl (
      read_from file,
      read_from later,
      unread,
      record {
        work = e.work;
        comes = explained_any sigs file later long e.work e.comes;
        ends = e.ends;
      },
    )
explained_line sigs long path file later old new status errors errors_after unread (inr f) =
    inr (f.status_is, f.same, f.told)

-- ---- files that are written

saved_any : {F : Type 0} (J : History) (file later : Option (SinkView F)) → IsSaved J file later
    → IsSaved J (option_map written_to file) (option_map written_to later)
saved_any J None None p = p
saved_any J (Some file) (Some later) p = p
saved_any J None (Some later) p = absurd p
saved_any J (Some file) None p = absurd p

fails_any : {F : Type 0} (file later : Option (SinkView F)) (failure : Failure)
    → FailsToSave file later failure
    → FailsToSave (option_map written_to file) (option_map written_to later) failure
fails_any None later failure p = absurd p
fails_any (Some file) None failure p = absurd p
fails_any (Some file) (Some later) failures.Save p = p
fails_any (Some file) (Some later) failures.Memory p = p
fails_any (Some file) (Some later) failures.Read p = absurd p
fails_any (Some file) (Some later) failures.Write p = absurd p
fails_any (Some file) (Some later) failures.Untold p = absurd p
fails_any (Some file) (Some later) (failures.Role n) p = absurd p
fails_any (Some file) (Some later) (failures.Address n) p = absurd p
fails_any (Some file) (Some later) (failures.Accept n) p = absurd p
fails_any (Some file) (Some later) failures.Watch p = absurd p
fails_any (Some file) (Some later) failures.Control p = absurd p
fails_any (Some file) (Some later) failures.Follow p = absurd p
fails_any (Some file) (Some later) failures.Log p = absurd p
fails_any (Some file) (Some later) failures.Word p = absurd p
fails_any (Some file) (Some later) failures.Stream p = absurd p
fails_any (Some file) (Some later) failures.Keep p = absurd p
fails_any (Some file) (Some later) failures.InUse p = absurd p
fails_any (Some file) (Some later) failures.Room p = absurd p
fails_any (Some file) (Some later) failures.Peer p = absurd p
fails_any (Some file) (Some later) failures.Replaced p = absurd p

-- a command whose work came so, and whose file took its place, or could not
pub settled : (path : Option (List ℕ)) (Comes : Result ℕ Failure → Type 0)
    (work given : Result ℕ Failure) → Comes work → Settles path work given → Places path Comes given
settled path Comes work given comes (inl same) = inl (subst Comes (sym same) comes)
settled path Comes work given comes (inr failed) =
    inr (failed.0, (work, failed.1, comes), failed.2)

-- what comes of a file that takes its place stands whatever is known of the work
pub placed_any : (path : Option (List ℕ)) (Comes Known : Result ℕ Failure → Type 0)
    → ((work : Result ℕ Failure) → Comes work → Known work) → (work : Result ℕ Failure)
    → Places path Comes work → Places path Known work
placed_any path Comes Known knows work (inl p) = inl (knows work p)
placed_any path Comes Known knows work (inr (has, (done, is, comes), failed)) =
    inr (has, (done, is, knows done comes), failed)

-- nothing was written to a file, whatever it is
pub unwritten_any : {F : Type 0} (path : Option (List ℕ)) (file : Option (SinkView F))
    → IsUnwritten path file → IsUnwritten path (option_map written_to file)
unwritten_any None None p = p
unwritten_any (Some path) (Some file) p = p
unwritten_any None (Some file) p = absurd p
unwritten_any (Some path) None p = absurd p

-- what was done stands whatever is known of what was kept
runs_as : {R W : Type 0} (sigs : List (ℕ × Promise)) (capacity : ℕ) (read read_after : SourceView R)
    (old new : SinkView W) (Kept Known : History → Type 0) → ((J : History) → Kept J → Known J)
    → Runs sigs capacity read read_after old new Kept → Runs sigs capacity read read_after old new Known
runs_as sigs capacity read read_after old new Kept Known knows p =
    record { desk = p.desk; serves = p.serves; kept = knows p.desk.history p.kept }

pub runs_any : {R W F : Type 0} (sigs : List (ℕ × Promise)) (capacity : ℕ)
    (read read_after : SourceView R) (old new : SinkView W) (file later : Option (SinkView F))
    (work : Result ℕ Failure) → RunsTo sigs capacity read read_after old new file later work
    → RunsTo sigs capacity read read_after old new (option_map written_to file)
    (option_map written_to later) work
runs_any sigs capacity read read_after old new file later (Ok status) p = (
  runs_as sigs capacity read read_after old new (λ J. IsSaved J file later)
      (λ J. IsSaved J (option_map written_to file) (option_map written_to later))
      (λ J. saved_any J file later) p.0,
  p.1,
)
runs_any sigs capacity read read_after old new file later (Err failure) (inl p) = inl p
runs_any sigs capacity read read_after old new file later (Err failure) (inr p) =
    inr (runs_as sigs capacity read read_after old new (λ J. FailsToSave file later failure)
    (λ J. FailsToSave (option_map written_to file) (option_map written_to later) failure)
    (λ J. fails_any file later failure) p)

named_as : {W : Type 0} (opening : DeskView) (words : Named) (old new : SinkView W)
    (said : Telling) (Kept Known : History → Type 0) → ((J : History) → Kept J → Known J)
    → ServesNamed opening words old new said Kept → ServesNamed opening words old new said Known
named_as opening words old new said Kept Known knows named =
    let all = named.partners in
    record {
      roles = named.roles;
      are_named = named.are_named;
      partners = record {
        closed = all.closed;
        sessions = all.sessions;
        serves = all.serves;
        kept = knows all.closed.history all.kept;
        tells = all.tells;
      };
    }

saves_any : {F : Type 0} (said : Telling) (J : History) (file later : Option (SinkView F))
    (failure : Failure) → SavesSo {T = Unit {0}} said J file later (Err failure)
    → SavesSo {T = Unit {0}} said J (option_map written_to file) (option_map written_to later)
    (Err failure)
saves_any said J file later failure (inl p) = inl (fails_any file later failure p)
saves_any said J file later failure (inr p) = inr (p.0, p.1, saved_any J file later p.2)

-- a command with a file that takes its place, whatever the file is
in_file : {F E : Type 0} (path : Option (List ℕ)) (file later : Option (SinkView F))
    (Own : Result ℕ Failure → Type 0)
    (Comes : Option (SinkView (Unit {0})) → Option (SinkView (Unit {0})) → Result ℕ Failure → Type 0)
    (Untouched : Type 0)
    → ((work : Result ℕ Failure) → Own work
    → Comes (option_map written_to file) (option_map written_to later) work)
    → (work given : Result ℕ Failure) (status : ℕ) (errors last : SinkView E) → IsUnwritten path file
    → Own work → Settles path work given → Ends given status errors last
    → EndsBy (InFile path Comes Untouched) status errors last
in_file path file later Own Comes Untouched seen work given status errors last made came settles ends =
    record {
      work = given;
      comes = inl (
        option_map written_to file,
        option_map written_to later,
        unwritten_any path file made,
        placed_any path Own (Comes (option_map written_to file) (option_map written_to later)) seen given
            (settled path Own work given came settles),
      );
      ends = ends;
    }

unsaved_any : {F : Type 0} {P Q : Type 0} (file later : Option (SinkView F)) (failure : Failure)
    → P ⊎ (Q × FailsToSave file later failure)
    → P ⊎ (Q × FailsToSave (option_map written_to file) (option_map written_to later) failure)
unsaved_any file later failure (inl p) = inl p
unsaved_any file later failure (inr p) = inr (p.0, fails_any file later failure p.1)

stops_any : {R W F : Type 0} (sigs : List (ℕ × Promise)) (journal : ℕ) (input input_after : SourceView R)
    (output output_after : SinkView W) (file later : Option (SinkView F)) (failure : Failure)
    → StopsFrom sigs journal input input_after output output_after file later failure
    → StopsFrom sigs journal input input_after output output_after (option_map written_to file)
    (option_map written_to later) failure
stops_any sigs journal input input_after output output_after file later failure p = record {
  opening = p.opening;
  desk = p.desk;
  room = p.room;
  helpers = p.helpers;
  why = unsaved_any file later failure p.why;
}

keeps_any : {R W F : Type 0} (sigs : List (ℕ × Promise)) (journal : ℕ) (input input_after : SourceView R)
    (output output_after : SinkView W) (file later : Option (SinkView F)) (work : Result ℕ Failure)
    → KeepsTo sigs journal input input_after output output_after file later work
    → KeepsTo sigs journal input input_after output output_after (option_map written_to file)
    (option_map written_to later) work
keeps_any sigs journal input input_after output output_after file later (Ok status) (inl p) = inl (
  record {
    opening = p.0.opening;
    desk = p.0.desk;
    room = p.0.room;
    helpers = p.0.helpers;
    serves = p.0.serves;
    saves = saved_any p.0.desk.history file later p.0.saves;
  },
  p.1,
)
keeps_any sigs journal input input_after output output_after file later (Ok status) (inr p) = inr p
keeps_any sigs journal input input_after output output_after file later (Err failure) (inl p) = inl p
keeps_any sigs journal input input_after output output_after file later (Err failure) (inr (inl p)) =
    inr (inl p)
keeps_any sigs journal input input_after output output_after file later (Err failure) (inr (inr p)) =
    inr (inr (stops_any sigs journal input input_after output output_after file later failure p))

comes_any : {R W F : Type 0} (sigs : List (ℕ × Promise)) (capacity : ℕ) (kept : Bool)
    (input input_after : SourceView R) (output output_after : SinkView W) (file later : Option (SinkView F))
    (work : Result ℕ Failure) → ComesOfRun sigs capacity kept input input_after output output_after file later work
    → ComesOfRun sigs capacity kept input input_after output output_after (option_map written_to file)
    (option_map written_to later) work
comes_any sigs capacity true = keeps_any sigs capacity
comes_any sigs capacity false = runs_any sigs capacity

-- `run`
pub ran_line : {R W F E : Type 0} (sigs : List (ℕ × Promise)) (capacity : ℕ) (path : Option (List ℕ)) (kept : Bool)
    (file later : Option (SinkView F)) (input input_after : SourceView R) (output output_after : SinkView W)
    (work given : Result ℕ Failure) (status : ℕ) (errors last : SinkView E) → IsUnwritten path file
    → ComesOfRun sigs capacity kept input input_after output output_after file later work
    → Settles path work given → Ends given status errors last
    → EndsBy (RunsLine sigs capacity path kept input input_after output output_after) status errors last
ran_line sigs capacity path kept file later input input_after output output_after =
    in_file path file later (ComesOfRun sigs capacity kept input input_after output output_after file later)
    (ComesOfRun sigs capacity kept input input_after output output_after)
    ((input_after ≡ input) × (output_after ≡ output))
    (comes_any sigs capacity kept input input_after output output_after file later)

stops_at_any : {W F : Type 0} (kept : Bool) (opening : DeskView) (named : Named) (old new : SinkView W)
    (file later : Option (SinkView F)) (failure : Failure)
    → StopsAtDesk kept opening named old new file later failure
    → StopsAtDesk kept opening named old new (option_map written_to file) (option_map written_to later) failure
stops_at_any kept opening named old new file later failure (inl p) = inl p
stops_at_any kept opening named old new file later failure (inr (said, p)) =
    inr (
      said,
      named_as opening named old new said
          (λ J. SavesSo {T = Unit {0}} said J file later (Err failure))
          (λ J. SavesSo {T = Unit {0}} said J (option_map written_to file) (option_map written_to later)
          (Err failure))
          (λ J. saves_any said J file later failure) p,
    )

closes_led_any : {W F : Type 0} (led : DeskView) (old new : SinkView W) (file later : Option (SinkView F))
    (work : Result ℕ Failure) → ClosesLed led old new file later work
    → ClosesLed led old new (option_map written_to file) (option_map written_to later) work
closes_led_any led old new file later (Ok status) p = (p.0, saved_any led.history file later p.1, p.2)
closes_led_any led old new file later (Err failure) (same, inl p) = (same, inl p)
closes_led_any led old new file later (Err failure) (same, inr p) = (same, inr (fails_any file later failure p))

closes_any : {W F : Type 0} (sigs : List (ℕ × Promise)) (capacity : ℕ) (kept : Bool) (named : Named)
    (old new : SinkView W) (file later : Option (SinkView F)) (work : Result ℕ Failure)
    → ClosesFrom sigs capacity kept named old new file later work
    → ClosesFrom sigs capacity kept named old new (option_map written_to file) (option_map written_to later) work
closes_any sigs capacity kept named old new file later work p = record {
  opening = p.opening;
  begins = p.begins;
  is_kept = p.is_kept;
  follows = p.follows;
  closes = closes_led_any p.opening old new file later work p.closes;
}

serves_any : {W F : Type 0} (sigs : List (ℕ × Promise)) (capacity : ℕ) (kept : Bool) (named : Named)
    (old new : SinkView W) (file later : Option (SinkView F)) (work : Result ℕ Failure)
    → ServesTo sigs capacity kept named old new file later work
    → ServesTo sigs capacity kept named old new (option_map written_to file) (option_map written_to later) work
serves_any sigs capacity kept named old new file later (Ok status) (inl p) = inl (
  record {
    opening = p.0.opening;
    begins = p.0.begins;
    serves = named_as p.0.opening named old new (Ok tt) (λ J. IsSaved J file later)
        (λ J. IsSaved J (option_map written_to file) (option_map written_to later))
        (λ J. saved_any J file later) p.0.serves;
  },
  p.1,
)
serves_any sigs capacity kept named old new file later (Ok status) (inr (inl p)) = inr (inl p)
serves_any sigs capacity kept named old new file later (Ok status) (inr (inr p)) =
    inr (inr (closes_any sigs capacity kept named old new file later (Ok status) p))
serves_any sigs capacity kept named old new file later (Err failure) (inl p) = inl p
serves_any sigs capacity kept named old new file later (Err failure) (inr (inl p)) = inr (inl p)
serves_any sigs capacity kept named old new file later (Err failure) (inr (inr (inl p))) =
    inr (inr (inl (closes_any sigs capacity kept named old new file later (Err failure) p)))
serves_any sigs capacity kept named old new file later (Err failure) (inr (inr (inr p))) =
    inr (inr (inr (record {
      opening = p.opening;
      begins = p.begins;
      why = stops_at_any kept p.opening named old new file later failure p.why;
    })))

-- `serve`
pub served_line : {W F E : Type 0} (sigs : List (ℕ × Promise)) (capacity : ℕ) (path : Option (List ℕ)) (kept : Bool)
    (named : Named) (file later : Option (SinkView F)) (output output_after : SinkView W)
    (work given : Result ℕ Failure) (status : ℕ) (errors last : SinkView E) → IsUnwritten path file
    → ServesTo sigs capacity kept named output output_after file later work
    → Settles path work given → Ends given status errors last
    → EndsBy (ServesLine sigs capacity path kept named output output_after) status errors last
served_line sigs capacity path kept named file later output output_after =
    in_file path file later (ServesTo sigs capacity kept named output output_after file later)
    (ServesTo sigs capacity kept named output output_after) (output_after ≡ output)
    (serves_any sigs capacity kept named output output_after file later)
