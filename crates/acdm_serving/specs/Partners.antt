-- What is told of partners who are served, and how that fails.
use Rattle.std.specs.Prelude.{ℕ, ◌+◌, ◌≡◌, Bool, true, false, not, ◌&&◌, is_some, OnOk}
use Rattle.std.specs.Prelude.{List, [], ◌∷◌, ◌++◌, codes, map, Option, Some, None, Result, Ok, Err}
use Rattle.std.specs.Fmt.{decimal}
use Rattle.acdm_milestones.specs.Names.{role_name}
use Rattle.acdm_milestones.specs.declared.role.Role.{Role}
use Rattle.acdm_milestones.specs.declared.role.Role.TheVariants.{AirportOperator}
use Rattle.acdm_failures.specs.declared.failure.ServeError.{ServeError}
use Rattle.acdm_failures.specs.declared.failure.ServeError.TheVariants as serve_errors
use Rattle.acdm_lines.specs.Counted.{SinkView, faults_after}
use Rattle.acdm_partners.specs.declared.places.Terms.{Terms}
use Rattle.acdm_lines.specs.declared.run_error.RunError.{RunError}
use Rattle.acdm_wire.specs.Writes.{Writes, Wrote}
use Rattle.acdm_sessions.specs.Sessions.{SessionStart, SessionTold, new_session}
use Rattle.acdm_sessions.specs.declared.session.End.{End}
use Rattle.acdm_sessions.specs.declared.session.End.TheVariants as ends
use Rattle.acdm_serving.specs.declared.partners.Listener.{Listener}

-- ---- the sessions

-- the session of a board's own ticks, by this clock, if there is one
abbrev pub tick_starts : {C : Type 0} → (C → ℕ → Bool) → Option C → List SessionStart
tick_starts gives None = []
tick_starts gives (Some clock) = new_session AirportOperator (gives clock) ∷ []

-- those of partners at listeners, in order, and behind them that one
abbrev pub starts_of : {C : Type 0} → (C → ℕ → Bool) → List (Listener C) → Option C → List SessionStart
starts_of gives listeners ticks = map (λ l. new_session l.role (gives l.clock)) listeners ++ tick_starts gives ticks

-- ---- what is told

-- how the end of a session is told, as codes
abbrev pub end_text : End → Bool → List ℕ
end_text end true = codes "torn"
end_text ends.End false = codes "end"
end_text ends.Read false = codes "read"
end_text ends.Write false = codes "write"
end_text ends.Memory false = codes "memory"
end_text ends.Start false = codes "start"
end_text ends.Torn false = codes "torn"

-- `listen K ROLE ADDR`
abbrev pub listen_text : ℕ → Role → List ℕ → List ℕ
listen_text number role address =
    codes "listen " ++ decimal number ++ 32 ∷ role_name role ++ 32 ∷ address ++ 10 ∷ []

-- the lines of all listeners, with their numbers from this one on
abbrev pub listens_text : ℕ → List (Role × List ℕ) → List ℕ
listens_text number [] = []
listens_text number (p ∷ more) = listen_text number p.0 p.1 ++ listens_text (number + 1) more

-- `session K CALLS END`
abbrev pub session_text : ℕ → ℕ → End → Bool → List ℕ
session_text number calls end torn =
    codes "session " ++ decimal number ++ 32 ∷ [] ++ decimal calls ++ 32 ∷ [] ++ end_text end torn
    ++ 10 ∷ []

abbrev pub told_text : SessionTold → List ℕ
told_text t = session_text t.end.number t.end.calls t.end.end t.torn

-- `closed N`, of N entries
abbrev pub closed_text : ℕ → List ℕ
closed_text entries = codes "closed " ++ decimal entries ++ 10 ∷ []

-- the line of a listener was written, and no byte of it waits for a flush; the address is the one that
-- it listens at, of which nothing is known beforehand
abbrev pub AnnouncesOne : {W T : Type 0} → ℕ → Role → SinkView W → SinkView W → Result T ServeError
    → Type 0
AnnouncesOne number role written written_after (Ok x) =
    (address : List ℕ) × Wrote written written_after (listen_text number role address)
AnnouncesOne number role written written_after (Err serve_errors.Write) =
    written_after.faults ≡ faults_after true written.faults
AnnouncesOne number role written written_after (Err error) = written_after ≡ written

-- the same of listeners of these roles, in order, numbered from 1
pub record Announces {W : Type 0} (roles : List Role) (written written_after : SinkView W) : Type 0 where
  pub listeners : List (Role × List ℕ)
  pub roles_are : map (λ p. p.0) listeners ≡ roles
  pub wrote : Wrote written written_after (listens_text 1 listeners)

-- a line could not be written, since the writer failed once more
abbrev pub FailsToTell : {W : Type 0} → SinkView W → SinkView W → ServeError → Type 0
FailsToTell written written_after serve_errors.Write =
    written_after.faults ≡ faults_after true written.faults
FailsToTell written written_after error = Unit {0}

-- it has nothing to do with lines
abbrev pub IsOfAccepting : ServeError → Type 0
IsOfAccepting serve_errors.Write = ⊥
IsOfAccepting error = Unit {0}

-- how it went to tell how partners ended
abbrev pub Telling : Type 0
Telling = Result (Unit {0}) RunError

-- The lines of listeners of these roles, in order, the lines of sessions and the last line were written,
-- and no byte of them waits for a flush; or the writer failed once more after some of the first of them.
pub record TellsPartners {W : Type 0} (roles : List Role) (sessions : List ℕ) (entries : ℕ)
    (written written_after : SinkView W) (told : Telling) : Type 0 where
  pub listeners : List (Role × List ℕ)
  pub roles_are : map (λ p. p.0) listeners ≡ roles
  pub wrote : Writes written written_after
      (listens_text 1 listeners ++ (sessions ++ closed_text entries)) told
  pub flushed : OnOk told (written_after.waits ≡ false)

-- ---- how they are served

-- Nothing is asked for beside serving: sessions end with their connections, lines are taken at any pace, there is no
-- control address, no journal is kept, nobody keeps it, and nothing is logged.
abbrev pub asks_nothing : Terms → Bool → Bool → Bool → Bool → Bool
asks_nothing terms control kept keeper log =
    not terms.again && not (is_some terms.pace) && not control && not kept && not keeper && not log
