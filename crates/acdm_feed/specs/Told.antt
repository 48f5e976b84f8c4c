-- What is told of an entry, after those before it, and of a whole history (this project's profile).
use Rattle.std.specs.Prelude.{ℕ, ◌==◌, if◌then◌else◌, List, [], ◌∷◌, ◌++◌, codes}
use Rattle.std.specs.List.{flat_map}
use Rattle.std.specs.Fmt.{decimal}
use Rattle.json.specs.Token.{Token, key, number}
use Rattle.json.specs.Print.{print}
use Rattle.acdm_record.specs.declared.field.Field.TheVariants.{Alerts}
use Rattle.acdm_record.specs.Fields.{number_of}
use Rattle.acdm_milestones.specs.Names.{role_name}
use Rattle.acdm_step.specs.declared.entry.Entry.{Entry}
use Rattle.acdm_step.specs.Commands.{History, is_accepted, is_tick, changes_flight, flight_of}
use Rattle.acdm_step.specs.Summaries.{record_of, flights, exists}
use Rattle.acdm_feed.specs.Names.{number_member, text_member, time_member, list_member, object_of}
use Rattle.acdm_feed.specs.Names.{outcome_tokens}
use Rattle.acdm_feed.specs.Commands.{command_members}
use Rattle.acdm_feed.specs.Records.{record_tokens}

-- ---- what an entry changed, as records after it

-- the record of a flight that is on the board
abbrev pub flight_tokens : History → ℕ → List Token
flight_tokens K f = if exists K f then record_tokens (record_of K f) else []

abbrev pub alerts_of : History → ℕ → ℕ
alerts_of J f = number_of (record_of J f) Alerts

-- the record of a flight that is on both boards, where its alerts are others than before
abbrev pub other_tokens : History → History → ℕ → List Token
other_tokens J K f =
    if exists J f then (if exists K f then (if alerts_of J f == alerts_of K f then []
    else record_tokens (record_of K f)) else []) else []

-- A command of a flight changes its record, and a tick those whose alerts it changes. A migrate
-- gives each record layout 2 and changes nothing else, so that it names none.
abbrev pub changed_by : History → Entry → List Token
changed_by J e =
    if is_tick e.command then flat_map (other_tokens J (e ∷ J)) (flights J)
    else (if changes_flight e.command then flight_tokens (e ∷ J) (flight_of e.command) else [])

abbrev pub changed_tokens : History → Entry → List Token
changed_tokens J e = if is_accepted e.verdict then changed_by J e else []

-- ---- the line of an entry

abbrev pub answer_token : ℕ → List Token
answer_token answer = number (decimal answer) ∷ []

unfoldable pub entry_members : Entry → List Token
entry_members e = number_member (codes "entry") e.number
    ++ (time_member (codes "minute") e.moment ++ (number_member (codes "session") e.session
    ++ text_member (codes "role") (role_name e.role)))

unfoldable pub told_members : Entry → List Token
told_members e = (key (codes "command") ∷ object_of (command_members e.command))
    ++ ((key (codes "outcome") ∷ outcome_tokens e.verdict)
    ++ list_member (codes "answers") (flat_map answer_token e.answers))

abbrev pub told_tokens : History → Entry → List Token
told_tokens J e = object_of (entry_members e
    ++ (told_members e ++ list_member (codes "changed") (changed_tokens J e)))

-- the line of an entry after these: one object, without space, and a line feed
unfoldable pub told : History → Entry → List ℕ
told J e = print (told_tokens J e) ++ 10 ∷ []

-- the feed of a history, of which the newest entry is the first
abbrev pub feed : History → List ℕ
feed [] = []
feed (e ∷ J) = feed J ++ told J e
