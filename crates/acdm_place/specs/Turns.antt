-- One event at a place: what is to be done then, and what the place is afterwards.
use Rattle.std.specs.Prelude.{ℕ, ◌+◌, ◌==◌, nat_lt, nat_le, Bool, true, false, ◌||◌, ◌&&◌, not}
use Rattle.std.specs.Prelude.{if◌then◌else◌, Option, Some, None, is_some, min}
use Rattle.acdm_place.specs.declared.events.Event.{Event}
use Rattle.acdm_place.specs.declared.events.Event.TheVariants.{FirstLine, NextAsked, LineTaken, ReplyMade}
use Rattle.acdm_place.specs.declared.events.Event.TheVariants.{LineAnswered, WriteFailed, CloseAsked, Tick}
use Rattle.acdm_place.specs.declared.events.Event.TheVariants.{SessionEnded}
use Rattle.acdm_place.specs.declared.events.Actions.{Actions}
use Rattle.acdm_place.specs.declared.places.Place.{Place}

-- it is this number
abbrev pub is_of : Option ℕ → ℕ → Bool
is_of None n = false
is_of (Some m) n = m == n

-- who is heard is served
abbrev pub is_heard : Option ℕ → Option ℕ → Bool
is_heard None served = false
is_heard (Some h) served = is_of served h

-- nobody has connected
abbrev pub nobody : Bool → Place
nobody again = record {
  again = again;
  newest = 0;
  served = None;
  heard = None;
  asker = None;
  closing = false;
  waited = 0;
}

abbrev pub nothing : Actions
nothing = record {
  hand_on_to = None;
  cut_off = None;
  refuse = None;
  serve = None;
  hear = None;
  admits = false;
}

-- a newcomer may be served: the place does not close, and without `again` nobody was served yet
abbrev pub is_open : Place → Bool
is_open p = if p.closing then false else (if p.again then true else p.newest == 0)

-- No line is in hand, and the place closes, or it is one without `again` whose one connection is gone: it is
-- neither served nor heard.
abbrev pub is_over : Place → Bool
is_over p = if is_some p.asker then false else (if p.closing then true else
    (if p.again then false else (if p.newest == 0 then false else
    (if is_some p.served then false else not (is_some p.heard)))))

-- no further byte is to be read of a connection: the place closes, or a newer one was served
abbrev pub is_past : Place → ℕ → Bool
is_past p n = if p.closing then true else not (p.newest == n)

-- a connection is served, or its lines are heard
abbrev pub is_here : Place → ℕ → Bool
is_here p n = is_of p.served n || is_of p.heard n

-- ---- newcomers

-- by its first line a newcomer takes the place: it is whole, a command, and no newer one was served
abbrev pub accepts : Place → ℕ → Bool → Bool → Bool
accepts p n w c = if is_open p then (if w then (if c then nat_lt p.newest n else false) else false)
    else false

abbrev pub taken_by : Bool → Place → ℕ → Place
taken_by true p n = record p { newest = n; served = Some n }
taken_by false p n = p

abbrev pub some_if : Bool → ℕ → Option ℕ
some_if true n = Some n
some_if false n = None

abbrev pub kept_if : Bool → Option ℕ → Option ℕ
kept_if true s = s
kept_if false s = None

abbrev pub judged : Bool → Place → ℕ → Actions
judged b p n = record nothing {
  cut_off = kept_if b p.served;
  serve = some_if b n;
  refuse = some_if (not b && not (is_of p.served n)) n;
}

-- ---- the session

-- The session comes for the next connection. Where a line is in hand nothing happens. Who is heard has ended
-- then, and is served no longer; where it was not served any more, who is served is heard from now on.
abbrev pub turned : Bool → Bool → Place → Place
turned true m p = p
turned false true p = record p { served = None; heard = None }
turned false false p = record p { heard = p.served }

-- a line is admitted: it is of who is heard, no other is in hand, and the place does not close
abbrev pub admits : Place → ℕ → Bool
admits p n = if p.closing then false else (if is_some p.asker then false else is_of p.heard n)

abbrev pub in_hand : Bool → Place → ℕ → Place
in_hand true p n = record p { asker = Some n }
in_hand false p n = p

-- whose line is in hand, if it is still served
abbrev pub replied_to : Option ℕ → Option ℕ → Option ℕ
replied_to None served = None
replied_to (Some n) served = if is_of served n then Some n else None

-- ---- ends

abbrev pub cut_if : Bool → Place → Actions
cut_if b p = record nothing { cut_off = kept_if b p.served }

-- nobody is served
abbrev pub left_if : Bool → Place → Place
left_if true p = record p { served = None }
left_if false p = p

-- so many milliseconds were waited since the place closes
abbrev pub waiting : Bool → ℕ → ℕ → ℕ
waiting true t ms = min (t + ms) 18446744073709551615
waiting false t ms = t

abbrev pub is_late : Bool → ℕ → Bool
is_late true t = nat_le 5000 t
is_late false t = false

-- nothing is in hand, nobody is heard, and the place closes
abbrev pub finished : Place → Place
finished p = record p { asker = None; heard = None; closing = true }

-- ---- one event

-- the place after an event
abbrev pub after : Place → Event → Place
after p (FirstLine n w c) = taken_by (accepts p n w c) p n
after p NextAsked = turned (is_some p.asker) (is_heard p.heard p.served) p
after p (LineTaken n) = in_hand (admits p n) p n
after p ReplyMade = p
after p LineAnswered = left_if p.closing (record p { asker = None })
after p (WriteFailed n) = left_if (is_of p.served n) p
after p CloseAsked = left_if (not (is_some p.asker)) (record p { closing = true })
after p (Tick ms) = left_if (is_late p.closing (waiting p.closing p.waited ms))
    (record p { waited = waiting p.closing p.waited ms })
after p SessionEnded = left_if true (finished p)

-- what is to be done at an event
abbrev pub told : Place → Event → Actions
told p (FirstLine n w c) = judged (accepts p n w c) p n
told p NextAsked = record nothing {
  cut_off = kept_if (not (is_some p.asker) && is_heard p.heard p.served) p.served;
  hear = kept_if (not (is_some p.asker) && not (is_heard p.heard p.served)) p.served;
}
told p (LineTaken n) = record nothing { admits = admits p n }
told p ReplyMade = record nothing { hand_on_to = replied_to p.asker p.served }
told p LineAnswered = cut_if p.closing p
told p (WriteFailed n) = cut_if (is_of p.served n) p
told p CloseAsked = cut_if (not (is_some p.asker)) p
told p (Tick ms) = cut_if (is_late p.closing (waiting p.closing p.waited ms)) p
told p SessionEnded = cut_if true p
