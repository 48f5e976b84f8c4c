-- What a file of tables means, by the value of its TOML (this project's profile; TOML 1.1 as `toml`
-- states it).
use Rattle.std.specs.Prelude.{ℕ, ◌≡◌, ◌+◌, ◌*◌, ◌<◌, ◌≤◌, ℤ, pos, negsuc, Bool, true, false, ◌&&◌, ◌||◌, ◌==◌}
use Rattle.std.specs.Prelude.{nat_le, nat_lt, if◌then◌else◌, List, [], ◌∷◌, ◌++◌, length, take, codes}
use Rattle.std.specs.Prelude.{get_or, filter, Option, Some, None, option_and_then, Result, Ok, Err}
use Rattle.std.specs.Fmt.{decimal}
use Rattle.std.specs.List.{insert, list_all}
use Rattle.std.specs.Str.{bytes_eq, IsUtf8}
use Rattle.toml.specs.Data.{Data, Items, no_items, item, Members, no_members, member}
use Rattle.toml.specs.Data.{as_integer, as_table, as_array, get_member}
use Rattle.toml.specs.Parse.{parse_document}
use Rattle.acdm_tables.specs.Helpers.{TablesView, built_in, is_right}
use Rattle.acdm_tables.specs.declared.fault.Why.{Why}
use Rattle.acdm_tables.specs.declared.fault.Why.TheVariants.{Unknown, NoTable, NoList, NoTurnRound}
use Rattle.acdm_tables.specs.declared.fault.Why.TheVariants.{NoTaxi, NoStand, NoType, Many, NoOrder}
use Rattle.acdm_tables.specs.declared.fault.TablesError.{TablesError}
use Rattle.acdm_tables.specs.declared.fault.TablesError.TheVariants as errors

-- the key at which something wrong stands, and why it is wrong
abbrev pub Wrong : Type 0
Wrong = List ℕ × Why

-- what is told of it
abbrev pub why_text : Why → List ℕ
why_text Unknown = codes "no such key"
why_text NoTable = codes "not a table"
why_text NoList = codes "not a list of tables"
why_text NoTurnRound = codes "not minutes from 1 to 1440"
why_text NoTaxi = codes "not minutes from 1 to 60"
why_text NoStand = codes "not a stand from 0 to 999"
why_text NoType = codes "not a type of 1 to 4 printable characters"
why_text Many = codes "more than 1000"
why_text NoOrder = codes "the steps do not begin at stand 0 or do not rise"

-- one reading after another, the first fault ending it
infixl 10 ◌>>=◌
abbrev pub ◌>>=◌ : {A B : Type 0} → Result A Wrong → (A → Result B Wrong) → Result B Wrong
(Ok x) >>= f = f x
(Err e) >>= f = Err e

abbrev pub or_wrong : {A : Type 0} → List ℕ → Why → Option A → Result A Wrong
or_wrong key why None = Err (key, why)
or_wrong key why (Some x) = Ok x

abbrev pub demand : List ℕ → Why → Bool → Result (Unit {0}) Wrong
demand key why true = Ok tt
demand key why false = Err (key, why)

abbrev pub forbid : List ℕ → Option (List ℕ) → Result (Unit {0}) Wrong
forbid path None = Ok tt
forbid path (Some key) = Err (path ++ key, Unknown)

-- This is what is wrong at a key, or there was no memory to say so.
abbrev pub IsWrong : List ℕ → Why → TablesError → Type 0
IsWrong path reason errors.Memory = Unit {0}
IsWrong path reason (errors.Wrong key why) = (key.items ≡ path) × (why ≡ reason)
IsWrong path reason (errors.NoToml line) = ⊥
IsWrong path reason errors.TooLong = ⊥

-- What a function returned, seen by view, is what reading gives, unless memory ran out.
abbrev pub GivesView : {X Y : Type 0} → (X → Y) → Result X TablesError → Result Y Wrong → Type 0
GivesView view (Ok x) reading = reading ≡ Ok (view x)
GivesView view (Err errors.Memory) reading = Unit {0}
GivesView view (Err (errors.Wrong key why)) reading = reading ≡ Err (key.items, why)
GivesView view (Err (errors.NoToml line)) reading = ⊥
GivesView view (Err errors.TooLong) reading = ⊥

-- ---- single values

-- a whole number from one to another
abbrev pub within : ℕ → ℕ → ℤ → Option ℕ
within lo hi (pos n) = if nat_le lo n && nat_le n hi then Some n else None
within lo hi (negsuc n) = None

abbrev pub whole : ℕ → ℕ → Data → Option ℕ
whole lo hi value = option_and_then (within lo hi) (as_integer value)

-- the first key of a table that is neither of two
abbrev pub stranger : List ℕ → List ℕ → Members → Option (List ℕ)
stranger a b no_members = None
stranger a b (member key value more) =
    if bytes_eq key a || bytes_eq key b then stranger a b more else Some key

-- ---- turn-round times

-- a type: one to four printable bytes other than the space, as a record has them
abbrev pub are_printable : List ℕ → Bool
are_printable text = list_all (λ byte. nat_le 33 byte && nat_le byte 126) text

abbrev pub is_type : List ℕ → Bool
is_type text = nat_le 1 (length text) && nat_le (length text) 4 && are_printable text

-- its number: its bytes, padded with zeros, as a little-endian number
abbrev pub type_number : List ℕ → ℕ
type_number text = get_or text 0 0 + 256 * get_or text 1 0 + 65536 * get_or text 2 0
    + 16777216 * get_or text 3 0

-- the place of a number among keys that rise
abbrev pub place_of : List (ℕ × ℕ) → ℕ → ℕ
place_of [] number = 0
place_of (entry ∷ table) number = if nat_lt number entry.0 then 0 else 1 + place_of table number

abbrev pub with_type : List (ℕ × ℕ) → ℕ → ℕ → List (ℕ × ℕ)
with_type types number minutes = insert types (place_of types number) (number, minutes)

abbrev pub type_path : List ℕ → List ℕ
type_path key = codes "turn_round.types." ++ key

-- a type and its minutes, beside those before it, of which there are 999 at most
abbrev pub add_type : List (ℕ × ℕ) → List ℕ → Data → Result (List (ℕ × ℕ)) Wrong
add_type types key value =
    demand (type_path key) NoType (is_type key)
    >>= λ _. demand (type_path key) Many (nat_lt (length types) 1000)
    >>= λ _. or_wrong (type_path key) NoTurnRound (whole 1 1440 value)
    >>= λ minutes. Ok (with_type types (type_number key) minutes)

abbrev pub types_from : List (ℕ × ℕ) → Members → Result (List (ℕ × ℕ)) Wrong
types_from types no_members = Ok types
types_from types (member key value more) = add_type types key value >>= λ after. types_from after more

-- the turn-round times of types, none where nothing stands there
abbrev pub types_at : Option Data → Result (List (ℕ × ℕ)) Wrong
types_at None = Ok []
types_at (Some value) = or_wrong (codes "turn_round.types") NoTable (as_table value) >>= types_from []

-- that of other types, which is built in where nothing stands there
abbrev pub other_at : Option Data → Result ℕ Wrong
other_at None = Ok 60
other_at (Some value) = or_wrong (codes "turn_round.other") NoTurnRound (whole 1 1440 value)

abbrev pub turn_round_in : Members → Result (List (ℕ × ℕ) × ℕ) Wrong
turn_round_in members =
    forbid (codes "turn_round.") (stranger (codes "other") (codes "types") members)
    >>= λ _. other_at (get_member (codes "other") members)
    >>= λ other. types_at (get_member (codes "types") members)
    >>= λ types. Ok (types, other)

-- the section of turn-round times, which is built in where it does not stand
abbrev pub turn_round_at : Option Data → Result (List (ℕ × ℕ) × ℕ) Wrong
turn_round_at None = Ok (built_in.types, built_in.other)
turn_round_at (Some value) = or_wrong (codes "turn_round") NoTable (as_table value) >>= turn_round_in

-- ---- taxi times

-- the step of a number, from 1, and a key of it
abbrev pub step_path : ℕ → List ℕ → List ℕ
step_path number key = codes "taxi[" ++ decimal number ++ codes "]" ++ key

abbrev pub number_at : List ℕ → Why → ℕ → ℕ → Option Data → Result ℕ Wrong
number_at key why lo hi None = Err (key, why)
number_at key why lo hi (Some value) = or_wrong key why (whole lo hi value)

abbrev pub step_in : ℕ → Members → Result (ℕ × ℕ) Wrong
step_in number members =
    forbid (step_path number (codes ".")) (stranger (codes "from") (codes "minutes") members)
    >>= λ _. number_at (step_path number (codes ".from")) NoStand 0 999
    (get_member (codes "from") members)
    >>= λ from. number_at (step_path number (codes ".minutes")) NoTaxi 1 60
    (get_member (codes "minutes") members)
    >>= λ minutes. Ok (from, minutes)

-- a step behind those before it
abbrev pub add_step : List (ℕ × ℕ) → Data → Result (List (ℕ × ℕ)) Wrong
add_step steps value =
    demand (codes "taxi") Many (nat_lt (length steps) 1000)
    >>= λ _. or_wrong (step_path (length steps + 1) []) NoTable (as_table value)
    >>= λ members. step_in (length steps + 1) members
    >>= λ step. Ok (steps ++ step ∷ [])

abbrev pub steps_from : List (ℕ × ℕ) → Items → Result (List (ℕ × ℕ)) Wrong
steps_from steps no_items = Ok steps
steps_from steps (item value more) = add_step steps value >>= λ after. steps_from after more

-- the stands that a signature tells, and the steps: those that are built in where none stand there, else
-- the first stand of each step
abbrev pub taxi_at : Option Data → Result (List (ℕ × ℕ) × List (ℕ × ℕ)) Wrong
taxi_at None = Ok (built_in.stands, built_in.steps)
taxi_at (Some value) =
    or_wrong (codes "taxi") NoList (as_array value)
    >>= λ items. steps_from [] items
    >>= λ steps. Ok (steps, steps)

-- ---- all of a file

-- the first step begins at stand 0
abbrev pub begins : List (ℕ × ℕ) → Bool
begins [] = false
begins (step ∷ steps) = step.0 == 0

-- The steps begin at stand 0 and rise. All else was tested before: no two types have one number.
abbrev pub in_order : TablesView → Result TablesView Wrong
in_order tables =
    demand (codes "taxi") NoOrder (begins tables.steps && is_right tables) >>= λ _. Ok tables

abbrev pub tables_in : Members → Result TablesView Wrong
tables_in members =
    forbid [] (stranger (codes "turn_round") (codes "taxi") members)
    >>= λ _. turn_round_at (get_member (codes "turn_round") members)
    >>= λ times. taxi_at (get_member (codes "taxi") members)
    >>= λ taxi.
    in_order (record { types = times.0; other = times.1; stands = taxi.0; steps = taxi.1 })

-- how many lines there are up to a place of a text
abbrev pub line_at : List ℕ → ℕ → ℕ
line_at text place = length (filter (λ byte. byte == 10) (take place text)) + 1

-- no file of tables has more bytes
abbrev pub most_text : ℕ
most_text = 1000000

-- a text means these members
abbrev pub HasMembers : List ℕ → Members → Type 0
HasMembers text members =
    (length text ≤ most_text) × IsUtf8 text × (parse_document text ≡ Some members)

-- What comes of a text: the tables that it means; or the first key at which something wrong stands, and
-- why; or it is too long; or it is no TOML, and the line of a place in it; or there was no memory.
abbrev pub Reads : {X : Type 0} → (X → TablesView) → List ℕ → Result X TablesError → Type 0
Reads view text (Ok tables) =
    (members : Members) × HasMembers text members × (tables_in members ≡ Ok (view tables))
Reads view text (Err (errors.Wrong key why)) =
    (members : Members) × HasMembers text members × (tables_in members ≡ Err (key.items, why))
Reads view text (Err errors.TooLong) = most_text < length text
Reads view text (Err (errors.NoToml line)) =
    (length text ≤ most_text) × (IsUtf8 text → parse_document text ≡ None)
    × ((place : ℕ) × (place ≤ length text) × (line ≡ line_at text place))
Reads view text (Err errors.Memory) = Unit {0}
