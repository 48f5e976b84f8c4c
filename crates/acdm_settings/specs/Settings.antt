-- The words that a file of settings stands for, by the value of its TOML (this project's profile; TOML 1.1 as `toml`
-- states it).
use Rattle.std.specs.Prelude.{ℕ, ◌≡◌, ◌+◌, ◌<◌, ◌≤◌, ℤ, pos, negsuc, Bool, true, false, ◌||◌, ◌==◌, not}
use Rattle.std.specs.Prelude.{if◌then◌else◌, List, [], ◌∷◌, ◌++◌, length, take, drop, codes, map}
use Rattle.std.specs.Prelude.{Option, Some, None, option_and_then, option_map, Result, Ok, Err, string_bytes}
use Rattle.std.specs.Fmt.{decimal}
use Rattle.std.specs.Str.{bytes_eq, IsUtf8}
use Rattle.toml.specs.Data.{Data, Items, no_items, item, Members, no_members, member}
use Rattle.toml.specs.Data.{as_array, as_bool, as_integer, as_str}
use Rattle.toml.specs.Parse.{parse_document}
use Rattle.acdm_tables.specs.Reading.{line_at}
use Rattle.acdm_settings.specs.declared.fault.SettingFault.{SettingFault}
use Rattle.acdm_settings.specs.declared.fault.SettingFault.TheVariants.{Unknown, NoFlag, NoNumber, NoText, NoPartners}
use Rattle.acdm_settings.specs.declared.fault.SettingsError.{SettingsError}
use Rattle.acdm_settings.specs.declared.fault.SettingsError.TheVariants as errors
use Rattle.acdm_settings.specs.declared.reading.ValueKind.{ValueKind}
use Rattle.acdm_settings.specs.declared.reading.ValueKind.TheVariants.{Flag, Number, Words, Partners}

-- what is told of what is wrong
abbrev pub why_text : SettingFault → List ℕ
why_text Unknown = codes "no such key"
why_text NoFlag = codes "not true or false"
why_text NoNumber = codes "not a whole number"
why_text NoText = codes "not a text"
why_text NoPartners = codes "not a list of texts as APT=127.0.0.1:4001"

-- the keys that have true or false
abbrev pub is_flag : List ℕ → Bool
is_flag key = bytes_eq key (codes "again") || bytes_eq key (codes "strict") || bytes_eq key (codes "sync")

-- a whole number
abbrev pub is_number : List ℕ → Bool
is_number key = bytes_eq key (codes "journal") || bytes_eq key (codes "pace") || bytes_eq key (codes "second")
    || bytes_eq key (codes "tick")

-- the name of a file
abbrev pub is_file : List ℕ → Bool
is_file key = bytes_eq key (codes "keep") || bytes_eq key (codes "log") || bytes_eq key (codes "save")
    || bytes_eq key (codes "tables")

-- an address, or the name by which browsers may ask there
abbrev pub is_address : List ℕ → Bool
is_address key = bytes_eq key (codes "changes") || bytes_eq key (codes "control") || bytes_eq key (codes "peer")
    || bytes_eq key (codes "watch") || bytes_eq key (codes "web") || bytes_eq key (codes "web-name")

-- which value a key has, if there is such a key: each but `partners` is the name of an option of `serve`
abbrev pub kind_of : List ℕ → Option ValueKind
kind_of key =
    if is_flag key then Some Flag
    else (if is_number key then Some Number
    else (if is_file key || is_address key then Some Words
    else (if bytes_eq key (codes "partners") then Some Partners else None)))

-- the option of a key, and with a value behind it
abbrev pub option_of : List ℕ → List ℕ
option_of key = codes "--" ++ key

abbrev pub with_value : List ℕ → List ℕ → List ℕ
with_value key value = (codes "--" ++ key) ++ (codes "=" ++ value)

abbrev pub flag_words : List (List ℕ) → List ℕ → Bool → List (List ℕ)
flag_words words key true = words ++ option_of key ∷ []
flag_words words key false = words

-- a whole number from 0
abbrev pub natural : ℤ → Option ℕ
natural (pos n) = Some n
natural (negsuc n) = None

-- a partner's word has a text that is no option
abbrev pub is_partner : List ℕ → Bool
is_partner [] = false
is_partner (b ∷ bs) = not (b == 45)

abbrev pub partner_word : Data → Option (List ℕ)
partner_word value = option_and_then (λ text. if is_partner text then Some text else None) (as_str value)

abbrev pub add_partner : List (List ℕ) → Option (List ℕ) → Option (List (List ℕ))
add_partner words word = option_map (λ text. words ++ text ∷ []) word

abbrev pub partners_from : List (List ℕ) → Items → Option (List (List ℕ))
partners_from words no_items = Some words
partners_from words (item value more) =
    option_and_then (λ after. partners_from after more) (add_partner words (partner_word value))

abbrev pub Wrong : Type 0
Wrong = List ℕ × SettingFault

abbrev pub or_wrong : {A : Type 0} → List ℕ → SettingFault → Option A → Result A Wrong
or_wrong key why None = Err (key, why)
or_wrong key why (Some x) = Ok x

-- the words so far, and those that a value stands for at a key of this kind
abbrev pub add_kind : List (List ℕ) → List ℕ → Option ValueKind → Data → Result (List (List ℕ)) Wrong
add_kind words key (Some Flag) value = or_wrong key NoFlag (option_map (flag_words words key) (as_bool value))
add_kind words key (Some Number) value =
    or_wrong key NoNumber (option_map (λ n. words ++ with_value key (decimal n) ∷ []) (option_and_then natural (as_integer value)))
add_kind words key (Some Words) value =
    or_wrong key NoText (option_map (λ text. words ++ with_value key text ∷ []) (as_str value))
add_kind words key (Some Partners) value =
    or_wrong key NoPartners (option_and_then (partners_from words) (as_array value))
add_kind words key None value = Err (key, Unknown)

abbrev pub add_setting : List (List ℕ) → List ℕ → Data → Result (List (List ℕ)) Wrong
add_setting words key value = add_kind words key (kind_of key) value

-- one reading after another, the first fault ending it
infixl 10 ◌>>=◌
abbrev pub ◌>>=◌ : {A B : Type 0} → Result A Wrong → (A → Result B Wrong) → Result B Wrong
(Ok x) >>= f = f x
(Err e) >>= f = Err e

-- the words that the members of a file stand for, in the order of their keys
abbrev pub words_from : List (List ℕ) → Members → Result (List (List ℕ)) Wrong
words_from words no_members = Ok words
words_from words (member key value more) = add_setting words key value >>= λ after. words_from after more

-- What a function returned, seen by view, is what reading gives, unless memory ran out.
abbrev pub GivesView : {X Y : Type 0} → (X → Y) → Result X SettingsError → Result Y Wrong → Type 0
GivesView view (Ok x) reading = reading ≡ Ok (view x)
GivesView view (Err errors.Memory) reading = Unit {0}
GivesView view (Err (errors.Wrong key why)) reading = reading ≡ Err (key.items, why)
GivesView view (Err (errors.NoToml place)) reading = ⊥
GivesView view (Err errors.TooLong) reading = ⊥

-- This is what is wrong at a key, or there was no memory to say so.
abbrev pub IsWrong : List ℕ → SettingFault → SettingsError → Type 0
IsWrong path reason errors.Memory = Unit {0}
IsWrong path reason (errors.Wrong key why) = (key.items ≡ path) × (why ≡ reason)
IsWrong path reason (errors.NoToml place) = ⊥
IsWrong path reason errors.TooLong = ⊥

-- no file of settings has more bytes
abbrev pub most_text : ℕ
most_text = 65536

-- a text means these members
abbrev pub HasMembers : List ℕ → Members → Type 0
HasMembers text members = (length text ≤ most_text) × IsUtf8 text × (parse_document text ≡ Some members)

-- What comes of a text: the words that it stands for, or why it stands for none, unless memory ran out.
abbrev pub Reads : {X : Type 0} → (X → List (List ℕ)) → List ℕ → Result X SettingsError → Type 0
Reads view text (Ok words) = (members : Members) × HasMembers text members × (words_from [] members ≡ Ok (view words))
Reads view text (Err (errors.Wrong key why)) =
    (members : Members) × HasMembers text members × (words_from [] members ≡ Err (key.items, why))
Reads view text (Err errors.TooLong) = most_text < length text
Reads view text (Err (errors.NoToml line)) =
    (length text ≤ most_text) × (IsUtf8 text → parse_document text ≡ None)
    × ((place : ℕ) × (place ≤ length text) × (line ≡ line_at text place))
Reads view text (Err errors.Memory) = Unit {0}

-- ---- where a command line names such a file

-- a file is named behind so many words, by the next two
abbrev pub Place : Type 0
Place = ℕ × List ℕ

-- `--config FILE`, before a `--`: whether the word before was the first of the two
abbrev pub place_from : ℕ → Bool → List (List ℕ) → Option Place
place_from before is_named [] = None
place_from before true (path ∷ more) = Some (before, path)
place_from before false (word ∷ more) =
    if bytes_eq word (codes "--") then None
    else (if bytes_eq word (codes "--config") then place_from before true more
    else place_from (before + 1) false more)

-- a word is the name of a subcommand that serves
abbrev pub is_serving : List ℕ → Bool
is_serving word = bytes_eq word (codes "serve") || bytes_eq word (codes "follow")

-- behind the program's name and that
abbrev pub place_in : List (List ℕ) → Option Place
place_in (name ∷ command ∷ words) = if is_serving command then place_from 2 false words else None
place_in _ = None

-- words with others in the place of two
abbrev pub with_settings : ℕ → List (List ℕ) → List (List ℕ) → List (List ℕ)
with_settings before words settings = take before words ++ (settings ++ drop (before + 2) words)
