-- What a list of events says, the newest first: who was told to be served, to be heard and to be cut off, and
-- whose line is in hand. Each is counted over what was told.
use Rattle.std.specs.Prelude.{◌≡◌, ℕ, ◌+◌, ◌≤◌, Bool, true, false, if◌then◌else◌, Option, Some, None, is_some}
use Rattle.std.specs.Prelude.{List, [], ◌∷◌}
use Rattle.acdm_place.specs.declared.events.Event.{Event}
use Rattle.acdm_place.specs.declared.events.Event.TheVariants.{FirstLine, NextAsked, LineTaken, ReplyMade}
use Rattle.acdm_place.specs.declared.events.Event.TheVariants.{LineAnswered, WriteFailed, CloseAsked, Tick}
use Rattle.acdm_place.specs.declared.events.Event.TheVariants.{SessionEnded}
use Rattle.acdm_place.specs.declared.events.Actions.{Actions}
use Rattle.acdm_place.specs.declared.places.Place.{Place}
use Rattle.acdm_place.specs.Turns.{is_of, nobody, after, told}

-- a place after these events
abbrev pub past : Bool → List Event → Place
past again [] = nobody again
past again (e ∷ J) = after (past again J) e

-- what is told at an event behind these
abbrev pub told_at : Bool → List Event → Event → Actions
told_at again J e = told (past again J) e

abbrev pub one_if : Bool → ℕ
one_if true = 1
one_if false = 0

-- how often it was told to serve a connection, to hear its lines, and to cut it off
abbrev pub serves : Bool → List Event → ℕ → ℕ
serves again [] n = 0
serves again (e ∷ J) n = one_if (is_of (told (past again J) e).serve n) + serves again J n

abbrev pub hears : Bool → List Event → ℕ → ℕ
hears again [] n = 0
hears again (e ∷ J) n = one_if (is_of (told (past again J) e).hear n) + hears again J n

abbrev pub cuts : Bool → List Event → ℕ → ℕ
cuts again [] n = 0
cuts again (e ∷ J) n = one_if (is_of (told (past again J) e).cut_off n) + cuts again J n

-- it was told to serve this one, and not yet to cut it off
abbrev pub IsServed : Bool → List Event → ℕ → Type 0
IsServed again J n = (serves again J n ≡ 1) × (cuts again J n ≡ 0)

-- whose line was admitted and is not answered
abbrev pub line_after : Bool → Event → Option ℕ → Option ℕ
line_after admits (LineTaken n) o = if admits then Some n else o
line_after admits LineAnswered o = None
line_after admits SessionEnded o = None
line_after admits (FirstLine n w c) o = o
line_after admits NextAsked o = o
line_after admits ReplyMade o = o
line_after admits (WriteFailed n) o = o
line_after admits CloseAsked o = o
line_after admits (Tick ms) o = o

abbrev pub line_of : Bool → List Event → Option ℕ
line_of again [] = None
line_of again (e ∷ J) = line_after (told (past again J) e).admits e (line_of again J)

-- Whose lines the session hears: who it was told to hear when it came for the next connection, or nobody where
-- it was told of none. It does not come while a line is in hand.
abbrev pub heard_after : Option ℕ → Bool → Event → Option ℕ → Option ℕ
heard_after hear in_line NextAsked o = if in_line then o else hear
heard_after hear in_line SessionEnded o = None
heard_after hear in_line (FirstLine n w c) o = o
heard_after hear in_line (LineTaken n) o = o
heard_after hear in_line ReplyMade o = o
heard_after hear in_line LineAnswered o = o
heard_after hear in_line (WriteFailed n) o = o
heard_after hear in_line CloseAsked o = o
heard_after hear in_line (Tick ms) o = o

abbrev pub heard_of : Bool → List Event → Option ℕ
heard_of again [] = None
heard_of again (e ∷ J) =
    heard_after (told (past again J) e).hear (is_some (line_of again J)) e (heard_of again J)

-- the place closes: it was asked to, or the session has ended
abbrev pub asked_by : Event → Bool → Bool
asked_by CloseAsked b = true
asked_by SessionEnded b = true
asked_by (FirstLine n w c) b = b
asked_by NextAsked b = b
asked_by (LineTaken n) b = b
asked_by ReplyMade b = b
asked_by LineAnswered b = b
asked_by (WriteFailed n) b = b
asked_by (Tick ms) b = b

abbrev pub was_asked : List Event → Bool
was_asked [] = false
was_asked (e ∷ J) = asked_by e (was_asked J)

-- the milliseconds that have passed since
abbrev pub passed_by : Event → Bool → ℕ → ℕ
passed_by (Tick ms) closing t = if closing then t + ms else t
passed_by (FirstLine n w c) closing t = t
passed_by NextAsked closing t = t
passed_by (LineTaken n) closing t = t
passed_by ReplyMade closing t = t
passed_by LineAnswered closing t = t
passed_by (WriteFailed n) closing t = t
passed_by CloseAsked closing t = t
passed_by SessionEnded closing t = t

abbrev pub since : List Event → ℕ
since [] = 0
since (e ∷ J) = passed_by e (was_asked J) (since J)

-- Why a connection may be cut off whose line is in hand. A newcomer takes its place, it takes no reply, its
-- line was answered just now, the place closes and has waited for 5 seconds, or the session has ended.
abbrev pub MayCut : Event → List Event → ℕ → Type 0
MayCut (FirstLine m w c) J n = (w ≡ true) × (c ≡ true)
MayCut (WriteFailed m) J n = m ≡ n
MayCut LineAnswered J n = Unit {0}
MayCut (Tick ms) J n = (was_asked J ≡ true) × (5000 ≤ since J + ms)
MayCut SessionEnded J n = Unit {0}
MayCut NextAsked J n = ⊥
MayCut (LineTaken m) J n = ⊥
MayCut ReplyMade J n = ⊥
MayCut CloseAsked J n = ⊥
