-- What `serve` does for its partners and tells of them, from its words on.
use Rattle.std.specs.Prelude.{ℕ, ◌+◌, ◌<◌, ◌≡◌, ◌≢◌, ◌⊎◌, ◌==◌, ◌||◌, Bool, nat_lt}
use Rattle.std.specs.Prelude.{if◌then◌else◌, List, []}
use Rattle.std.specs.Prelude.{◌∷◌, ◌++◌, length, map, Option, Some, None, Result, Ok, Err}
use Rattle.std.specs.Prelude.{IsSome, is_some, true, false}
use Rattle.std.specs.List.{AllByRecursion, after_first, before_first, flat_map, position_or_len}
use Rattle.acdm_milestones.specs.Names.{role_named}
use Rattle.acdm_milestones.specs.declared.role.Role.{Role}
use Rattle.acdm_milestones.specs.declared.role.Role.TheVariants.{AirportOperator}
use Rattle.acdm_board.specs.Desk.{DeskView}
use Rattle.acdm_confirming.specs.declared.confirmations.ConfirmationTerms.{ConfirmationTerms}
use Rattle.acdm_failures.specs.declared.failure.Failure.{Failure}
use Rattle.acdm_failures.specs.declared.failure.Failure.TheVariants as failures
use Rattle.acdm_lines.specs.Counted.{SinkView, faults_after}
use Rattle.acdm_sessions.specs.Sessions.{ServesSessions, SessionStart, SessionTold, new_session}
use Rattle.acdm_step.specs.Commands.{History}
use Rattle.acdm_serving.specs.Partners.{Telling, TellsPartners, told_text}
use Rattle.acdm_serving.specs.declared.reconnecting.Partners.{Partners}
use Rattle.acdm_commands.specs.Minutes.{is_minute}
use Rattle.acdm_commands.specs.Served.{FailsToSave, IsSaved}
use Rattle.acdm_commands.specs.declared.request.ServeRequest.{ServeRequest}

-- ---- the words

abbrev pub is_equals : ℕ → Bool
is_equals b = b == 61

-- the role and the address of a word `ROLE=ADDR`
abbrev pub role_in : List ℕ → Option Role
role_in word =
    if nat_lt (position_or_len is_equals word) (length word) then
    role_named (before_first is_equals word)
    else None

abbrev pub address_in : List ℕ → List ℕ
address_in word = after_first is_equals word

-- for how many boards replies wait, by the options, if they do
abbrev pub terms_by : Option ℕ → Bool → Option ConfirmationTerms
terms_by (Some wanted) strict = Some (record { wanted = wanted; is_strict = strict })
terms_by None strict = None

-- displays have an address: one at least of those for the journal, for what it changes and for browsers
abbrev pub has_outlet : Bool → Bool → Bool → Bool
has_outlet journal changes web = journal || (changes || web)

-- what the words of `serve` or `follow` name: its partners; and whether another board is followed before, whether the
-- board ticks by itself, whether there is a control address and a log, whether there is a peer, and whether displays
-- have an address
pub record Named : Type 0 where
  pub words : List (List ℕ)
  pub follows : Bool
  pub ticks : Bool
  pub controlled : Bool
  pub logged : Bool
  pub peered : Bool
  pub shown : Bool

abbrev pub named_of : ServeRequest → Named
named_of request = record {
  words = map (λ w. w.now) request.words.items;
  follows = is_some request.first;
  ticks = is_some request.options.tick;
  controlled = is_some request.options.control;
  logged = is_some request.options.log;
  peered = is_some request.options.peer;
  shown = has_outlet (is_some request.outlets.journal) (is_some request.outlets.changes)
      (is_some request.outlets.web);
}

-- the session of those ticks, in role `APT`, whose clock may give any minute
abbrev pub ticking : Bool → List SessionStart
ticking true = new_session AirportOperator is_minute ∷ []
ticking false = []

-- one partner more, whose role is that of a word
pub record AddsNamed {P : Type 0} (role : P → Role) (word : List ℕ) (old new : List P) : Type 0 where
  pub partner : P
  pub added : new ≡ old ++ partner ∷ []
  pub named : role_in word ≡ Some (role partner)

-- why nobody listens for a word, the one of this number: it names no role; or it names one, and its
-- address is none or can't be listened at; or memory was refused
abbrev pub FailsToName : ℕ → List ℕ → Failure → Type 0
FailsToName number word (failures.Role n) = (n ≡ number) × (role_in word ≡ None)
FailsToName number word (failures.Address n) = (n ≡ number) × IsSome (role_in word)
FailsToName number word failures.Memory = Unit {0}
FailsToName number word failure = ⊥

-- the same of all words, of which those before it name roles
abbrev pub FailsToListen : List (List ℕ) → Failure → Type 0
FailsToListen words failures.Memory = Unit {0}
FailsToListen words failure =
    (front : List (List ℕ)) × (word : List ℕ) × (more : List (List ℕ))
    × (words ≡ front ++ word ∷ more) × AllByRecursion (λ w. IsSome (role_in w)) front
    × FailsToName (length front + 1) word failure

-- ---- what was done

-- Partners of these roles, in order, were served by a desk, from these starts. What their sessions left
-- is told of the history that the desk was closed with, which begins with the one it had, or could not be
-- told; and so much is known of what was kept of it.
pub record ServesPartners {W : Type 0} (desk : DeskView) (roles : List Role)
    (starts : List SessionStart) (written written_after : SinkView W) (told : Telling)
    (Kept : History → Type 0) : Type 0 where
  pub closed : DeskView
  pub sessions : List SessionTold
  pub serves : ServesSessions desk closed starts sessions
  pub kept : Kept closed.history
  pub tells : TellsPartners roles (flat_map told_text sessions) (length closed.history) written
      written_after told

-- The partners that the words name, in order, were served so by a desk, on new connections, each with a
-- clock that may give any minute, and behind them the board's own ticks, if it gives any.
pub record ServesNamed {W : Type 0} (desk : DeskView) (named : Named)
    (written written_after : SinkView W) (told : Telling) (Kept : History → Type 0) : Type 0 where
  pub roles : List Role
  pub are_named : map role_in named.words ≡ map Some roles
  pub partners : ServesPartners desk roles
      (map (λ role. new_session role is_minute) roles ++ ticking named.ticks) written written_after told Kept

-- partners at listeners are those that the words name, and the board ticks by itself where they say so
abbrev pub IsNamedBy : {C : Type 0} → Named → Partners C → Type 0
IsNamedBy named partners =
    (map role_in named.words ≡ map (λ p. Some p.role) partners.listeners.items)
    × (is_some partners.ticks ≡ named.ticks)

-- a partner is one too many, by its number from 1: at most 64 sessions are served, of which the board's own ticks are
-- one
abbrev pub IsOneTooMany : List (List ℕ) → Bool → ℕ → Type 0
IsOneTooMany words true n = (n ≡ 64) × (63 < length words)
IsOneTooMany words false n = (n ≡ 65) × (64 < length words)

-- why the partners of the words have no listeners: one of these words names no role, or its address is none or can't
-- be listened at, or it is one too many; or memory was refused
abbrev pub FailsToSeat : List (List ℕ) → Bool → Failure → Type 0
FailsToSeat words ticks (failures.Role n) = FailsToListen words (failures.Role n)
FailsToSeat words ticks (failures.Address n) =
    FailsToListen words (failures.Address n) ⊎ IsOneTooMany words ticks n
FailsToSeat words ticks failures.Memory = Unit {0}
FailsToSeat words ticks failure = ⊥

-- why displays have no listeners: where there is an address for them, it is none or can't be listened at; or memory
-- was refused
abbrev pub FailsToShow : Bool → Failure → Type 0
FailsToShow shown failures.Watch = shown ≡ true
FailsToShow shown failures.Memory = Unit {0}
FailsToShow shown failure = ⊥

-- why an operator does not have what was asked for: where there is a control address, it is none or can't be listened
-- at; where there is a log, it can't be written; or memory was refused
abbrev pub FailsToOperate : Bool → Bool → Failure → Type 0
FailsToOperate controlled logged failures.Control = controlled ≡ true
FailsToOperate controlled logged failures.Log = logged ≡ true
FailsToOperate controlled logged failures.Memory = Unit {0}
FailsToOperate controlled logged failure = ⊥

-- why no board is followed: the address of one that is to be followed is none; or, once it was followed, no more could
-- be kept, or there was no room for an entry that came; or memory was refused
abbrev pub FailsToLead : Bool → Failure → Type 0
FailsToLead follows failures.Follow = follows ≡ true
FailsToLead follows failures.Keep = follows ≡ true
FailsToLead follows failures.Room = follows ≡ true
FailsToLead follows failures.Memory = Unit {0}
FailsToLead follows failure = ⊥

-- why nobody was served, by what the words name
abbrev pub FailsToOpen : Named → Failure → Type 0
FailsToOpen named failure =
    FailsToSeat named.words named.ticks failure
    ⊎ FailsToLead named.follows failure
    ⊎ FailsToShow named.shown failure
    ⊎ FailsToOperate named.controlled named.logged failure

-- why partners were not served to their end
abbrev pub FailsToServeAll : {W : Type 0} → SinkView W → SinkView W → Failure → Type 0
FailsToServeAll written written_after failures.Write =
    written_after.faults ≡ faults_after true written.faults
FailsToServeAll written written_after (failures.Accept n) = Unit {0}
FailsToServeAll written written_after failures.Memory = Unit {0}
FailsToServeAll written written_after failure = ⊥

abbrev pub FailsToServe : {W : Type 0} → Named → SinkView W → SinkView W → Failure → Type 0
FailsToServe named written written_after failure =
    FailsToOpen named failure ⊎ FailsToServeAll written written_after failure

-- What was saved of a history, where it was told so how its partners ended.
abbrev pub SavesSo : {F T : Type 0} → Telling → History → Option (SinkView F) → Option (SinkView F)
    → Result T Failure → Type 0
SavesSo told J saved saved_after (Ok x) = (told ≡ Ok tt) × IsSaved J saved saved_after
SavesSo told J saved saved_after (Err failure) =
    FailsToSave saved saved_after failure
    ⊎ ((failure ≡ failures.Untold) × (told ≢ Ok tt) × IsSaved J saved saved_after)

-- Partners were served so, and what the desk was closed with was not saved; or it was, and it could not be
-- told how they ended.
abbrev pub FailsServed : {F : Type 0} → (Telling → (History → Type 0) → Type 0) → Option (SinkView F)
    → Option (SinkView F) → Failure → Type 0
FailsServed Served saved saved_after failure =
    (told : Telling) × Served told (λ J. SavesSo {T = Unit {0}} told J saved saved_after (Err failure))
