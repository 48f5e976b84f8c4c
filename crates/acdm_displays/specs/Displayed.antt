-- What a display is sent, and why it may get no more.
use Rattle.std.specs.Prelude.{ℕ, ◌≡◌, ◌+◌, ◌<◌, ◌≤◌, ◌++◌, ◌∷◌, ◌⊎◌, ⊤, false, if◌then◌else◌, nat_lt}
use Rattle.std.specs.Prelude.{List, [], Option, Some, None, length, option_map, reverse, String, string_bytes}
use Rattle.std.specs.declared.alloc.Global.{Global}
use Rattle.acdm_step.specs.declared.entry.Entry.{Entry}
use Rattle.acdm_step.specs.Commands.{History}
use Rattle.acdm_step.specs.History.{IsLegal}
use Rattle.acdm_row.specs.Views.{RowView}
use Rattle.acdm_journal.specs.Whole.{Saves}
use Rattle.acdm_failures.specs.declared.failure.Failure.{Failure}
use Rattle.acdm_failures.specs.declared.failure.Failure.TheVariants.{Save, Memory}
use Rattle.acdm_feed.specs.declared.known.Known.{Known}
use Rattle.acdm_feed.specs.Knowing.{Knows}
use Rattle.acdm_feed.specs.Naming.{first_entry, name_of}
use Rattle.acdm_feed.specs.Resumed.{IsFront, board_text, feed_from, journal_line, journal_since, journal_text}
use Rattle.acdm_feed.specs.Told.{told}
use Rattle.acdm_web.specs.Answers.{events_head}
use Rattle.acdm_web.specs.Events.{event_text}
use Rattle.acdm_displays.specs.declared.following.Shown.{Shown}
use Rattle.acdm_displays.specs.declared.asked.DisplayRequest.{DisplayRequest}
use Rattle.acdm_displays.specs.declared.asked.DisplayRequest.TheVariants as asks
use Rattle.acdm_displays.specs.declared.asked.Start.{Start}
use Rattle.acdm_displays.specs.declared.asked.Start.TheVariants as starts
use Rattle.acdm_displays.specs.Within.{IsAsKept, IsWithin}

-- Where what a teller tells has begun: behind these bytes, with the entry of this number, in a row with room
-- for so many, and after these entries.
pub record Begun : Type 0 where
  pub before : List ℕ
  pub from : ℕ
  pub room : ℕ
  pub front : History

-- What a teller has told, since it has begun so, of what was seen, up to these bytes.
abbrev pub Telling : Type 0 → Type 1
Telling T = T → List Entry → Begun → List ℕ → Type 0

-- What a watch has seen is told: where a teller had told what was seen, since it has begun, it has told
-- what is seen then.
abbrev pub Follows : {T : Type 0} → Telling T → T → T → List Entry → List Entry → List ℕ → List ℕ
    → Type 0
Follows tells teller teller_after seen later old new = (start : Begun)
    → tells teller seen start old → tells teller_after later start new

-- The same of a text that stands behind whatever was written before it.
abbrev pub Adds : {T : Type 0} → Telling T → T → T → List Entry → List Entry → List ℕ → List ℕ
    → Type 0
Adds tells teller teller_after seen later old new = (before : List ℕ)
    → Follows tells teller teller_after seen later (before ++ old) (before ++ new)

-- A watch looks at this row, and what it has seen is legal; where the row is kept, a extent says that all of it
-- is. Behind the bytes that the writer had taken before it took this text of that, and nothing else, and all of it
-- was flushed.
pub record Took {W X : Type 0} (Says : List Entry → List ℕ → List ℕ → Type 0) (row : RowView)
    (reach : Option X) (before : List ℕ) (shown : Shown W) : Type 0 where
  pub same : shown.watch.row ≡ row
  pub legal : IsLegal row.sigs (reverse shown.watch.seen)
  pub text : Says shown.watch.seen before shown.writer.log
  pub flushed : shown.writer.waits ≡ false
  pub kept : IsAsKept reach shown.extent
  pub within : IsWithin shown.extent shown.watch.seen

-- the text of the journal
abbrev pub SaysJournal : List Entry → List ℕ → List ℕ → Type 0
SaysJournal seen before log = Saves (reverse seen) before log

-- what is told behind these first entries: the line of the journal, where there are none of them and it has
-- an entry, and the feed from the entry of a number on
abbrev pub feed_since : History → ℕ → ℕ → History → List ℕ
feed_since K n room J = journal_since K n room J ++ feed_from n J

-- That was told, since it has begun so, and what is known is that of the board.
pub record TellsFrom (known : Known) (room : ℕ) (seen : List Entry) (start : Begun) (log : List ℕ)
    : Type 0 where
  pub knows : Knows (reverse seen) known
  pub passed : start.from ≤ length (reverse seen)
  pub room_is : room ≡ start.room
  pub front : IsFront start.front (reverse seen)
  pub told : log ≡ start.before ++ feed_since start.front start.from start.room (reverse seen)

-- with the entry behind these, and the line of the journal before it, if there is one of them
abbrev pub at_entry : ℕ → List ℕ → History → Begun
at_entry room before K = record {
  before = before ++ journal_line (length K) room K;
  from = length K;
  room = room;
  front = K;
}

-- with the line of the board of these
abbrev pub at_board : ℕ → List ℕ → History → Begun
at_board room before K = record {
  before = before ++ board_text room K;
  from = length K;
  room = room;
  front = K;
}

-- It asks for no entry of so many.
abbrev pub IsNext : Start → ℕ → Type 0
IsNext (starts.Entry n) count = count ≤ n
IsNext starts.Board count = ⊤

-- It has begun as one asked, behind some first entries: with the entry of a number, where these are all before it; else
-- with their board.
abbrev pub IsBegun : (ℕ → List ℕ → History → Begun) → (ℕ → List ℕ → History → Begun) → List ℕ → Start → Begun
    → Type 0
IsBegun entry board before (starts.Entry n) begun = (K : History)
    × (((length K ≡ n) × (begun ≡ entry begun.room before K))
    ⊎ ((length K < n) × (begun ≡ board begun.room before K)))
IsBegun entry board before starts.Board begun = (K : History) × (begun ≡ board begun.room before K)

-- the line of the journal, as soon as it has an entry, and the feed from the entry of a number on
abbrev pub named_feed : ℕ → ℕ → History → List ℕ
named_feed n room J = journal_line n room J ++ feed_from n J

-- the line of the board after these first entries, and what is told behind them
abbrev pub board_feed : History → ℕ → History → List ℕ
board_feed K room J = board_text room K ++ feed_since K (length K) room J

-- The feed from the entry of a number on; or, where fewer entries were in sight first, the line of their board,
-- and the feed behind them, as where the board is asked for.
abbrev pub SaysFeed : ℕ → Start → List Entry → List ℕ → List ℕ → Type 0
SaysFeed room (starts.Entry n) seen before log =
    ((n ≤ length seen) × (log ≡ before ++ named_feed n room (reverse seen)))
    ⊎ ((K : History) × IsFront K (reverse seen) × (length K < n)
    × (log ≡ before ++ board_feed K room (reverse seen)))
SaysFeed room starts.Board seen before log = (K : History) × IsFront K (reverse seen)
    × (log ≡ before ++ board_feed K room (reverse seen))

abbrev pub WasSent : {W X : Type 0} → RowView → Option X → List ℕ → Shown W → Type 0
WasSent = Took SaysJournal

abbrev pub WasTold : {W X : Type 0} → Start → RowView → Option X → List ℕ → Shown W → Type 0
WasTold start row = Took (SaysFeed (length row.cells) start) row

-- ---- the journal for who has its first entries

-- the name of the journal of what was seen, where there is an entry of it
abbrev pub IsNameOf : List Entry → Option (String Global) → Type 0
IsNameOf seen name = option_map string_bytes name ≡ option_map name_of (first_entry (reverse seen))

-- that name stays the one of what is seen later
abbrev pub StaysNamed : List Entry → List Entry → Type 0
StaysNamed seen later = (name : String Global) → IsNameOf seen (Some name) → IsNameOf later (Some name)

-- The text of what was seen behind the first entries was written, behind these bytes, and before it the line of the
-- journal, where there are none of those and it has an entry.
pub record TextFrom (room : ℕ) (seen : List Entry) (start : Begun) (log : List ℕ) : Type 0 where
  pub room_is : room ≡ start.room
  pub behind : History
  pub split : reverse seen ≡ behind ++ start.front
  pub saves : Saves behind (start.before
      ++ journal_since start.front (length start.front) start.room (reverse seen)) log

-- It has begun behind no more entries than so many, and with the line of the journal, if there is one of them.
pub record BeginsText (room n : ℕ) (seen : List Entry) (before log : List ℕ) : Type 0 where
  pub few : length seen ≤ n
  pub text : TextFrom room seen (at_entry room before (reverse seen)) log

-- For one that has so many entries: the line of the journal, as soon as that has an entry, with the number of the entry
-- that comes next; and the text of the entries from that one on. It is the one behind those that were passed over: so
-- many, or all that were in sight first, where these were fewer.
pub record SaysFrom (room n : ℕ) (seen : List Entry) (before log : List ℕ) : Type 0 where
  pub passed : History
  pub behind : History
  pub split : reverse seen ≡ behind ++ passed
  pub few : length passed ≤ n
  pub saves : Saves behind (before ++ journal_line (length passed) room (reverse seen)) log

abbrev pub WasSentFrom : {W X : Type 0} → ℕ → RowView → Option X → List ℕ → Shown W → Type 0
WasSentFrom n row = Took (SaysFrom (length row.cells) n) row

-- as a display has asked: the text of all entries where it has sent nothing, and no text where it has asked for the
-- board or for nothing
abbrev pub WasSentAs : {W X : Type 0} → DisplayRequest → RowView → Option X → List ℕ → Shown W → Type 0
WasSentAs asks.Silence row reach before shown = WasSent row reach before shown
WasSentAs (asks.For (starts.Entry n)) row reach before shown = WasSentFrom n row reach before shown
WasSentAs (asks.For starts.Board) row reach before shown = ⊥
WasSentAs (asks.Follow start) row reach before shown = WasSentFrom start.from row reach before shown
WasSentAs asks.Term row reach before shown = ⊥
WasSentAs asks.Unknown row reach before shown = ⊥

abbrev pub WasSentSome : {W X : Type 0} → RowView → Option X → List ℕ → Shown W → Type 0
WasSentSome row reach before shown = (asked : DisplayRequest) × WasSentAs asked row reach before shown

-- ---- events for browsers

-- the events from the entry of this number on, each with the line of the feed
abbrev pub events_from : ℕ → History → List ℕ
events_from n [] = []
events_from n (e ∷ J) = events_from n J
    ++ (if nat_lt (length J) n then [] else event_text (1 + length J) (told J e))

-- the event of the board after these entries, in a row with room for so many
abbrev pub board_event : ℕ → History → List ℕ
board_event room K = event_text (length K) (board_text room K)

-- the event of the journal, as soon as it has an entry, for a browser for which the entry of a number comes next
abbrev pub journal_event : ℕ → ℕ → History → List ℕ
journal_event n room [] = []
journal_event n room (e ∷ J) = event_text n (journal_text n room (e ∷ J))

-- that event, where none of the entries was passed over before
abbrev pub journal_event_since : History → ℕ → ℕ → History → List ℕ
journal_event_since [] n room J = journal_event n room J
journal_event_since (e ∷ K) n room J = []

-- what is told behind these first entries: the event of the journal, where there are none of them and it has an
-- entry, and the events from the entry of a number on
abbrev pub events_since : History → ℕ → ℕ → History → List ℕ
events_since K n room J = journal_event_since K n room J ++ events_from n J

-- That was told, since it has begun so, and what is known is that of the board.
pub record EventsFrom (known : Known) (room : ℕ) (seen : List Entry) (start : Begun) (log : List ℕ)
    : Type 0 where
  pub knows : Knows (reverse seen) known
  pub passed : start.from ≤ length (reverse seen)
  pub room_is : room ≡ start.room
  pub front : IsFront start.front (reverse seen)
  pub told : log ≡ start.before ++ events_since start.front start.from start.room (reverse seen)

-- with the event of the board of these
abbrev pub at_board_event : ℕ → List ℕ → History → Begun
at_board_event room before K = record {
  before = before ++ board_event room K;
  from = length K;
  room = room;
  front = K;
}

-- with the entry behind these, and the event of the journal before it, if there is one of them
abbrev pub at_event : ℕ → List ℕ → History → Begun
at_event room before K = record {
  before = before ++ journal_event (length K) room K;
  from = length K;
  room = room;
  front = K;
}

-- A browser has had no event, or it names an entry that comes next for it and that is none of so many.
abbrev pub IsPast : Option ℕ → ℕ → Type 0
IsPast None k = ⊤
IsPast (Some n) k = k < n

-- What a browser asks for that names an entry, or none.
abbrev pub start_of : Option ℕ → Start
start_of None = starts.Board
start_of (Some n) = starts.Entry n

-- the event of the journal, as soon as it has an entry, and the events from the entry of a number on
abbrev pub named_events : ℕ → ℕ → History → List ℕ
named_events n room J = journal_event n room J ++ events_from n J

-- the event of the board after these first entries, and what is told behind them
abbrev pub board_events : History → ℕ → History → List ℕ
board_events K room J = board_event room K ++ events_since K (length K) room J

-- The events from the entry on that comes next for a browser; or, where it names none, or one behind the
-- entries that were in sight first, the board of those, and the events behind them.
abbrev pub SaysEvents : ℕ → Option ℕ → List Entry → List ℕ → List ℕ → Type 0
SaysEvents room last seen before log =
    ((n : ℕ) × (last ≡ Some n) × (n ≤ length seen) × (log ≡ before ++ named_events n room (reverse seen)))
    ⊎ ((K : History) × IsFront K (reverse seen) × IsPast last (length K)
    × (log ≡ before ++ board_events K room (reverse seen)))

-- the head of the events, and then these
abbrev pub WasToldEvents : {W X : Type 0} → Option ℕ → RowView → Option X → List ℕ → Shown W → Type 0
WasToldEvents last row reach before =
    Took (SaysEvents (length row.cells) last) row reach (before ++ events_head)

-- Sending ends early where the writer failed, or where memory was refused, and for nothing else.
abbrev pub CutsShort : Failure → Type 0
CutsShort Save = Unit {0}
CutsShort Memory = Unit {0}
CutsShort _ = ⊥
