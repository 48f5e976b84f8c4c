-- What a partner's line means (this project's profile). JSON (RFC 8259) is read as serde_json
-- states it, and times (RFC 3339 and its kin) as jiff states them.
use Rattle.std.specs.Prelude.{ℕ, ◌+◌, ◌-◌, ◌*◌, ◌/◌, ◌^◌, ◌≡◌, ℤ, pos, negsuc, Bool, true, false}
use Rattle.std.specs.Prelude.{not, ◌||◌, ◌&&◌, ◌==◌, nat_le, nat_lt, if◌then◌else◌, List, [], ◌∷◌}
use Rattle.std.specs.Prelude.{length, codes, slice_index, take, drop, position, Option, Some, None}
use Rattle.std.specs.Prelude.{is_some, option_and_then, option_map, Result, Ok, Err}
use Rattle.std.specs.Str.{is_utf8, bytes_eq}
use Rattle.std.specs.Char.{is_ascii_digit}
use Rattle.serde_json.specs.Data.{Data}
use Rattle.serde_json.specs.Read.{read}
use Rattle.serde_json.specs.Find.{get, as_null, as_number, as_u64, as_str}
use Rattle.jiff_fmt.specs.Temporal.{parse_timestamp}
use Rattle.hex.specs.Hex.{decode_of}
use Rattle.acdm_record.specs.Texts.{text_from}
use Rattle.acdm_milestones.specs.declared.role.Role.{Role}
use Rattle.acdm_milestones.specs.declared.milestone.Milestone.{Milestone}
use Rattle.acdm_milestones.specs.declared.milestone.Milestone.TheVariants.{FlightPlanActivated}
use Rattle.acdm_milestones.specs.declared.milestone.Milestone.TheVariants.{TwoHoursBeforeEobt}
use Rattle.acdm_milestones.specs.declared.milestone.Milestone.TheVariants.{TobtUpdate}
use Rattle.acdm_milestones.specs.Tables.{milestone_numbered}
use Rattle.acdm_milestones.specs.Names.{role_named}
use Rattle.acdm_milestones.specs.declared.deicing.DeicingTime.{DeicingTime}
use Rattle.acdm_milestones.specs.Deicing.{deicing_named}
use Rattle.acdm_slots.specs.declared.kind.Kind as kinds
use Rattle.acdm_slots.specs.Names.{kind_named}
use Rattle.bpf_regstate.specs.declared.length.Length.{Length}
use Rattle.bpf_regstate.specs.declared.length.Length.TheVariants.{L128, L160}
use Rattle.acdm_step.specs.declared.command.FlightPlan.{FlightPlan}
use Rattle.acdm_step.specs.declared.command.Command.{Command}
use Rattle.acdm_step.specs.declared.command.Command.TheVariants.{Unload, Tick, Migrate, Show}
use Rattle.acdm_step.specs.declared.command.Command.TheVariants.{Alerts}
use Rattle.acdm_step.specs.declared.command.Command.TheVariants.{Schedule, Report, Deice}
use Rattle.acdm_step.specs.Commands.{is_load}
use Rattle.acdm_wire.specs.declared.fault.RequestFault.{RequestFault}
use Rattle.acdm_wire.specs.declared.fault.RequestFault.TheVariants.{Prefix, NoJson, UnknownCommand}
use Rattle.acdm_wire.specs.declared.fault.RequestFault.TheVariants.{Kind, Range, TooLong}
use Rattle.acdm_wire.specs.declared.request.LineError.{LineError}
use Rattle.acdm_wire.specs.declared.request.LineError.TheVariants as errors
use Rattle.acdm_wire.specs.declared.request.Request.{Request}
use Rattle.acdm_step.specs.declared.stated.StatedCommand.{StatedCommand}
use Rattle.acdm_step.specs.declared.stated.StatedCommand.TheVariants.{Plain, Load}
use Rattle.acdm_step.specs.declared.command.TheConstants.{MINUTES_OF_DAY}
use Rattle.acdm_wire.specs.declared.request.TheConstants.{LONGEST_REQUEST}

-- one reading after another, the first fault ending it
infixl 10 ◌>>=◌
abbrev pub ◌>>=◌ : {A B : Type 0} → Result A RequestFault → (A → Result B RequestFault) → Result B RequestFault
(Ok x) >>= f = f x
(Err e) >>= f = Err e

abbrev pub or_fault : {A : Type 0} → RequestFault → Option A → Result A RequestFault
or_fault e None = Err e
or_fault e (Some x) = Ok x

abbrev pub demand : RequestFault → Bool → Result (Unit {0}) RequestFault
demand e true = Ok tt
demand e false = Err e

-- What a function returned is what reading gives, unless memory ran out.
abbrev pub Gives : {X : Type 0} → Result X LineError → Result X RequestFault → Type 0
Gives (Ok x) reading = reading ≡ Ok x
Gives (Err errors.Memory) reading = Unit {0}
Gives (Err (errors.Fault f)) reading = reading ≡ Err f

-- the same of a value that is seen by view
abbrev pub GivesView : {X Y : Type 0} → (X → Y) → Result X LineError → Result Y RequestFault → Type 0
GivesView view (Ok x) reading = reading ≡ Ok (view x)
GivesView view (Err errors.Memory) reading = Unit {0}
GivesView view (Err (errors.Fault f)) reading = reading ≡ Err f

-- what a function that takes no memory returned, seen by view, is what reading gives
abbrev pub Sees : {X Y : Type 0} → (X → Y) → Result X RequestFault → Result Y RequestFault → Type 0
Sees view (Ok x) reading = reading ≡ Ok (view x)
Sees view (Err f) reading = reading ≡ Err f

-- ---- the words before the JSON

abbrev pub is_space : ℕ → Bool
is_space b = b == 32

-- the bytes before the first space, and those after it
abbrev pub word_at : List ℕ → Result (List ℕ × List ℕ) RequestFault
word_at line = or_fault Prefix
    (option_map (λ i. (take i line, drop (i + 1) line)) (position is_space line))

-- digits, the highest first
abbrev pub digits_from : ℕ → List ℕ → Option ℕ
digits_from n [] = Some n
digits_from n (c ∷ cs) = if is_ascii_digit c then digits_from (n * 10 + (c - 48)) cs else None

-- a number of at most ten digits, without leading zeros
unfoldable pub natural_of : List ℕ → Option ℕ
natural_of w = if length w == 0 || (nat_lt 10 (length w) || slice_index w 0 == 48) then None else
    digits_from 0 w

abbrev pub within : RequestFault → ℕ → ℕ → ℕ → Result ℕ RequestFault
within e low high n = if nat_le low n && nat_le n high then Ok n else Err e

-- a number from 1 to high
abbrev pub number_word : ℕ → List ℕ → Result ℕ RequestFault
number_word high w = or_fault Prefix (natural_of w) >>= within Prefix 1 high

-- what stands before the JSON, and the JSON
pub record Head : Type 0 where
  pub session : ℕ
  pub moment : ℕ
  pub role : Role
  pub rest : List ℕ

-- a session, a minute and a role, each before one space; all after the third space is the JSON
unfoldable pub head_of : List ℕ → Result Head RequestFault
head_of line = do
  first ← word_at line
  session ← number_word 64 first.0
  second ← word_at first.1
  moment ← number_word 4294967295 second.0
  third ← word_at second.1
  role ← or_fault Prefix (role_named third.0)
  Ok (record { session = session; moment = moment; role = role; rest = third.1 })

-- ---- fields

-- a number under a key, within these bounds
unfoldable pub number_field : List ℕ → ℕ → ℕ → Data → Result ℕ RequestFault
number_field key low high d = or_fault Kind
    (option_and_then as_u64 (option_and_then as_number (get key d))) >>= within Range low high

-- a text under a key, of 1 to so many printable bytes
unfoldable pub text_field : List ℕ → ℕ → Data → Result (List ℕ) RequestFault
text_field key most d = or_fault Kind (option_and_then as_str (get key d)) >>= λ t. or_fault Range
    (text_from most t)

-- the minute of an instant, which must be after the first and fit 32 bits
abbrev pub minute_of : ℤ → Result ℕ RequestFault
minute_of (pos n) = within Range 1 4294967295 (n / 60000000000)
minute_of (negsuc n) = Err Range

abbrev pub minute_read : {E : Type 0} → Result ℤ E → Result ℕ RequestFault
minute_read (Ok z) = minute_of z
minute_read (Err e) = Err Range

-- a time under a key
unfoldable pub time_field : List ℕ → Data → Result ℕ RequestFault
time_field key d = or_fault Kind (option_and_then as_str (get key d)) >>= λ t. minute_read
    (parse_timestamp t)

-- what is planned: callsign, aircraft type, registration and destination
unfoldable pub plan_field : Data → Result FlightPlan RequestFault
plan_field d = do
  callsign ← text_field (codes "callsign") 8 d
  aircraft ← text_field (codes "type") 4 d
  registration ← text_field (codes "reg") 8 d
  destination ← text_field (codes "dest") 4 d
  Ok (record {
    callsign = callsign;
    aircraft = aircraft;
    registration = registration;
    destination = destination;
  })

-- there is a null under the key, which says that there is no time
abbrev pub has_null : List ℕ → Data → Bool
has_null key d = is_some (option_and_then as_null (get key d))

-- a time under a key, or null, which is 0
unfoldable pub time_or_null : List ℕ → Data → Result ℕ RequestFault
time_or_null key d = if has_null key d then Ok 0 else time_field key d

-- the time of a report: milestones 2 and 9 alone may come without
abbrev pub time_for : Milestone → Data → Result ℕ RequestFault
time_for TwoHoursBeforeEobt d = time_or_null (codes "time") d
time_for TobtUpdate d = time_or_null (codes "time") d
time_for _ d = time_field (codes "time") d

abbrev pub most_flight : ℕ
most_flight = 2 ^ 64 - 1

abbrev pub milestone_of : ℕ → Result Milestone RequestFault
milestone_of n = or_fault Range (milestone_numbered n)

-- a milestone by its number under `milestone`
unfoldable pub milestone_field : Data → Result Milestone RequestFault
milestone_field d = number_field (codes "milestone") 0 most_flight d >>= milestone_of

-- the fields of a schedule, the first faulty one deciding
unfoldable pub schedule_field : Data → Result Command RequestFault
schedule_field d = do
  flight ← number_field (codes "flight") 1 most_flight d
  plan ← plan_field d
  sobt ← time_field (codes "sobt") d
  mttt ← number_field (codes "mttt") 0 MINUTES_OF_DAY d
  exit ← number_field (codes "exit") 0 255 d
  exot ← number_field (codes "exot") 0 MINUTES_OF_DAY d
  stand ← number_field (codes "stand") 0 65535 d
  Ok (Schedule record {
    flight = flight;
    plan = plan;
    sobt = sobt;
    mttt = mttt;
    exit = exit;
    exot = exot;
    stand = stand;
  })

-- a plan comes with the first milestone alone
abbrev pub plan_for : Milestone → Data → Result (Option FlightPlan) RequestFault
plan_for FlightPlanActivated d = plan_field d >>= λ p. Ok (Some p)
plan_for _ d = Ok None

-- the fields of a report
unfoldable pub report_field : Data → Result Command RequestFault
report_field d = do
  flight ← number_field (codes "flight") 1 most_flight d
  milestone ← milestone_field d
  time ← time_for milestone d
  plan ← plan_for milestone d
  Ok (Report record {
    flight = flight;
    milestone = milestone;
    time = time;
    plan = plan;
  })

-- the time of de-icing whose name stands under `field`
unfoldable pub deicing_field : Data → Result DeicingTime RequestFault
deicing_field d = or_fault Kind (option_and_then as_str (get (codes "field") d)) >>= λ t. or_fault
    Range (deicing_named t)

-- the fields of a time of de-icing, which null clears
unfoldable pub deice_field : Data → Result Command RequestFault
deice_field d = do
  flight ← number_field (codes "flight") 1 most_flight d
  which ← deicing_field d
  time ← time_or_null (codes "time") d
  Ok (Deice record { flight = flight; which = which; time = time })

-- the flight of which the record is asked
unfoldable pub show_field : Data → Result Command RequestFault
show_field d = number_field (codes "flight") 1 most_flight d >>= λ flight. Ok (Show flight)

unfoldable pub kind_field : Data → Result kinds.Kind RequestFault
kind_field d = or_fault Kind (option_and_then as_str (get (codes "kind") d)) >>= λ t. or_fault Range
    (kind_named t)

-- the slot of a program
abbrev pub slot_field : Data → Result (Milestone × kinds.Kind) RequestFault
slot_field d = do
  milestone ← milestone_field d
  kind ← kind_field d
  Ok (milestone, kind)

-- the bytes of hexadecimal text, with digits in either case
abbrev pub bytes_read : {E : Type 0} → Result (List ℕ) E → Result (List ℕ) RequestFault
bytes_read (Ok bytes) = Ok bytes
bytes_read (Err e) = Err Range

unfoldable pub program_field : Data → Result (List ℕ) RequestFault
program_field d = or_fault Kind (option_and_then as_str (get (codes "program") d)) >>=
    λ t. bytes_read (decode_of t)

-- the length of a record of so many bytes
abbrev pub length_of : ℕ → Option Length
length_of n = if n == 128 then Some L128 else (if n == 160 then Some L160 else None)

-- the length under a key, 128 where the key is missing
abbrev pub length_under : Option Data → Result Length RequestFault
length_under None = Ok L128
length_under (Some value) = or_fault Kind (option_and_then as_u64 (as_number value)) >>=
    λ n. or_fault Range (length_of n)

-- the length of the records beside which a program is to run
unfoldable pub length_field : Data → Result Length RequestFault
length_field d = length_under (get (codes "length") d)

-- the fields of a load
unfoldable pub load_field : Data → Result StatedCommand RequestFault
load_field d = do
  slot ← slot_field d
  program ← program_field d
  record_length ← length_field d
  Ok (Load record {
    milestone = slot.0;
    kind = slot.1;
    program = program;
    record_length = record_length;
  })

-- the slot that is to be emptied
unfoldable pub unload_field : Data → Result Command RequestFault
unload_field d = do
  slot ← slot_field d
  Ok (Unload record { milestone = slot.0; kind = slot.1 })

-- the command of this name, where it is not a load
unfoldable pub plain_named : List ℕ → Data → Result Command RequestFault
plain_named name d =
    if bytes_eq name (codes "schedule") then schedule_field d
    else (if bytes_eq name (codes "report") then report_field d
    else (if bytes_eq name (codes "deice") then deice_field d
    else (if bytes_eq name (codes "unload") then unload_field d
    else (if bytes_eq name (codes "tick") then Ok Tick
    else (if bytes_eq name (codes "migrate") then Ok Migrate
    else (if bytes_eq name (codes "show") then show_field d
    else (if bytes_eq name (codes "alerts") then Ok Alerts else Err UnknownCommand)))))))

-- what the command of this name asks for
unfoldable pub command_named : List ℕ → Data → Result StatedCommand RequestFault
command_named name d = if bytes_eq name (codes "load") then load_field d else
    plain_named name d >>= λ c. Ok (Plain c)

-- the command under `cmd`; a value that has none is no known command
unfoldable pub command_of : Data → Result StatedCommand RequestFault
command_of d = or_fault UnknownCommand (option_and_then as_str (get (codes "cmd") d)) >>=
    λ name. command_named name d

-- a command that is asked for as it is, is no load
abbrev pub is_plain : StatedCommand → Bool
is_plain (Plain c) = not (is_load c)
is_plain (Load l) = true

-- the value of JSON text, which is UTF-8
unfoldable pub json_of : List ℕ → Result Data RequestFault
json_of bytes = if is_utf8 bytes then or_fault NoJson (read bytes) else Err NoJson

-- what a line of a session asks for, or the first fault in it: the order of tests is 105, 101, 102,
-- and then the fields
unfoldable pub asked_of : List ℕ → Result StatedCommand RequestFault
asked_of line = do
  _ ← demand TooLong (nat_le (length line) LONGEST_REQUEST)
  d ← json_of line
  command_of d

-- what a line of a stream of all partners asks for, or the first fault in it: the order of tests is
-- 105, 100, 101, 102, and then the fields
unfoldable pub meant : List ℕ → Result Request RequestFault
meant line = do
  _ ← demand TooLong (nat_le (length line) LONGEST_REQUEST)
  head ← head_of line
  d ← json_of head.rest
  asked ← command_of d
  Ok (record { session = head.session; moment = head.moment; role = head.role; asked = asked })
