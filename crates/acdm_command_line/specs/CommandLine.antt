-- What the words of a command line ask for, as `clap` reads them.
use Rattle.std.specs.Prelude.{ℕ, ◌≡◌, ◌≤◌, ◌⊎◌, Bool, true, false, List, [], ◌∷◌, codes, Option, Some, None}
use Rattle.std.specs.Prelude.{map, option_and_then, option_map, if◌then◌else◌, IsSome, is_some}
use Rattle.std.specs.Str.{bytes_eq}
use Rattle.std.specs.Str.Parse.{IsNumeral, digits_value, without_leading_plus}
use Rattle.clap.specs.Words.{App, Row, Rule, Text, all_of, first_of, new_app, new_rule}
use Rattle.clap.specs.Words.{subcommand_of}
use Rattle.clap.specs.Words.{with_rule, with_subcommand}
use Rattle.clap.specs.Takes.{takes}
use Rattle.clap.specs.declared.builder.action.ArgAction.TheVariants.{Append, SetTrue}
use Rattle.clap.specs.declared.error.kind.ErrorKind.{ErrorKind}
use Rattle.clap.specs.declared.error.kind.ErrorKind.TheVariants.{OutOfMemory}
use Rattle.bpf_regstate.specs.declared.length.Length.{Length}
use Rattle.bpf_regstate.specs.declared.length.Length.TheVariants.{L128, L160}
use Rattle.acdm_command_line.specs.declared.command_line.Subcommand.{Subcommand}
use Rattle.acdm_command_line.specs.declared.command_line.Line.{Line}
use Rattle.acdm_command_line.specs.declared.command_line.Subcommand.TheVariants.{Run, Serve, Verify, Audit}
use Rattle.acdm_command_line.specs.declared.command_line.Subcommand.TheVariants.{Explain, Tell}

-- `--journal N`, 100000 where it is not given
abbrev pub journal_rule : Rule
journal_rule = record (new_rule (codes "journal")) {
  long = Some (codes "journal");
  value_names = 1;
  defaults = codes "100000" ∷ [];
}

-- `--save FILE`
abbrev pub save_rule : Rule
save_rule = record (new_rule (codes "save")) { long = Some (codes "save"); value_names = 1 }

-- `--keep FILE`
abbrev pub keep_rule : Rule
keep_rule = record (new_rule (codes "keep")) { long = Some (codes "keep"); value_names = 1 }

-- the same where it has to be given
abbrev pub kept_rule : Rule
kept_rule = record (new_rule (codes "keep")) {
  long = Some (codes "keep");
  value_names = 1;
  required = true;
}

-- `--sync`
abbrev pub sync_rule : Rule
sync_rule = record (new_rule (codes "sync")) { long = Some (codes "sync"); action = Some SetTrue }

-- `--watch ADDR`
abbrev pub watch_rule : Rule
watch_rule = record (new_rule (codes "watch")) { long = Some (codes "watch"); value_names = 1 }

-- `--changes ADDR`
abbrev pub changes_rule : Rule
changes_rule = record (new_rule (codes "changes")) { long = Some (codes "changes"); value_names = 1 }

-- `--web ADDR`
abbrev pub web_rule : Rule
web_rule = record (new_rule (codes "web")) { long = Some (codes "web"); value_names = 1 }

-- `--web-name NAME`
abbrev pub web_name_rule : Rule
web_name_rule = record (new_rule (codes "web-name")) { long = Some (codes "web-name"); value_names = 1 }

-- `--again`, `--control ADDR`, `--pace N`, `--tick SECONDS`, `--log FILE`
abbrev pub again_rule : Rule
again_rule = record (new_rule (codes "again")) { long = Some (codes "again"); action = Some SetTrue }

abbrev pub control_rule : Rule
control_rule = record (new_rule (codes "control")) { long = Some (codes "control"); value_names = 1 }

abbrev pub pace_rule : Rule
pace_rule = record (new_rule (codes "pace")) { long = Some (codes "pace"); value_names = 1 }

abbrev pub tick_rule : Rule
tick_rule = record (new_rule (codes "tick")) { long = Some (codes "tick"); value_names = 1 }

abbrev pub log_rule : Rule
log_rule = record (new_rule (codes "log")) { long = Some (codes "log"); value_names = 1 }

-- `--second N`, `--strict`
abbrev pub second_rule : Rule
second_rule = record (new_rule (codes "second")) { long = Some (codes "second"); value_names = 1 }

abbrev pub strict_rule : Rule
strict_rule = record (new_rule (codes "strict")) { long = Some (codes "strict"); action = Some SetTrue }

-- `--peer ADDR`
abbrev pub peer_rule : Rule
peer_rule = record (new_rule (codes "peer")) { long = Some (codes "peer"); value_names = 1 }

-- `--tables FILE`
abbrev pub tables_rule : Rule
tables_rule = record (new_rule (codes "tables")) { long = Some (codes "tables"); value_names = 1 }

-- a subcommand of this name that has a journal, which is kept by such an option; and one that takes tables too
abbrev pub journal_app : Text → Rule → App
journal_app name keep =
    with_rule (with_rule (with_rule (with_rule (new_app name) journal_rule) save_rule) keep) sync_rule

abbrev pub keeping_app : Text → Rule → App
keeping_app name keep = with_rule (journal_app name keep) tables_rule

-- `run [--journal N] [--save FILE] [--keep FILE] [--sync] [--tables FILE]`
abbrev pub run_app : App
run_app = keeping_app (codes "run") keep_rule

-- `serve [--journal N] [--save FILE] [--keep FILE] [--sync] [--tables FILE] [--watch ADDR] [--changes ADDR]
-- [--web ADDR] [--web-name NAME] [--again] [--control ADDR] [--pace N] [--tick SECONDS] [--log FILE] [--second N]
-- [--strict] [--peer ADDR] ROLE=ADDR...`, of at least one partner
abbrev pub partners_rule : Rule
partners_rule = record (new_rule (codes "partners")) {
  value_names = 1;
  action = Some Append;
  required = true;
}

-- a subcommand of this name that serves a board, without its partners
unfoldable pub board_app : Text → Rule → App
board_app name keep =
    let displays = with_rule (with_rule (keeping_app name keep) watch_rule) changes_rule in
    let browsers = with_rule (with_rule displays web_rule) web_name_rule in
    let held = with_rule (with_rule browsers again_rule) control_rule in
    let lasting = with_rule (with_rule held pace_rule) tick_rule in
    let seconded = with_rule (with_rule (with_rule lasting log_rule) second_rule) strict_rule in
    with_rule seconded peer_rule

abbrev pub serve_app : App
serve_app = with_rule (board_app (codes "serve") keep_rule) partners_rule

-- `follow ADDR --keep FILE [..] ROLE=ADDR...`, with the other options of `serve`
abbrev pub first_rule : Rule
first_rule = record (new_rule (codes "first")) { value_names = 1; required = true }

abbrev pub follow_app : App
follow_app = with_rule (with_rule (board_app (codes "follow") kept_rule) first_rule) partners_rule

-- a subcommand of this name on a file, as `audit [--tables FILE] FILE`
abbrev pub file_rule : Rule
file_rule = record (new_rule (codes "file")) { value_names = 1; required = true }

abbrev pub file_app : Text → App
file_app name = with_rule (with_rule (new_app name) tables_rule) file_rule

-- `--length N`, 128 where it is not given
abbrev pub length_rule : Rule
length_rule = record (new_rule (codes "length")) {
  long = Some (codes "length");
  value_names = 1;
  defaults = codes "128" ∷ [];
}

-- a subcommand of this name on a program, as `verify [--length N] [--tables FILE] FILE`
abbrev pub program_app : Text → App
program_app name = with_rule (with_rule (with_rule (new_app name) length_rule) tables_rule) file_rule

abbrev required : App → App
required a = record a { top = record a.top { subcommand_required = true } }

-- the program before it has subcommands, of which one is wanted; then with `run`; with `serve`; with `follow`; all
abbrev pub bare_app : App
bare_app = required (new_app (codes "acdm"))

abbrev pub running_app : App
running_app = with_subcommand bare_app run_app.top

abbrev pub serving_app : App
serving_app = with_subcommand running_app serve_app.top

abbrev pub following_app : App
following_app = with_subcommand serving_app follow_app.top

abbrev pub program : App
program =
    with_subcommand (with_subcommand (with_subcommand (with_subcommand following_app
    (program_app (codes "verify")).top) (file_app (codes "audit")).top)
    (program_app (codes "explain")).top) (file_app (codes "tell")).top

-- the first value of an argument of the subcommand of a name
abbrev pub value_in : List ℕ → List ℕ → Option (Text × List Row) → Option Text
value_in name id found = option_and_then (λ p. if bytes_eq p.0 name then first_of id p.1 else None)
    found

abbrev pub value_of : List ℕ → List ℕ → List Text → Option Text
value_of name id words = value_in name id (subcommand_of program words)

-- all values of an argument of the subcommand of a name
abbrev pub values_in : List ℕ → List ℕ → Option (Text × List Row) → Option (List Text)
values_in name id found = option_and_then (λ p. if bytes_eq p.0 name then all_of id p.1 else None)
    found

-- an argument that takes no value was given to the subcommand of a name
abbrev pub is_true : Option Text → Bool
is_true (Some text) = bytes_eq text (codes "true")
is_true None = false

abbrev pub is_set_in : List ℕ → List ℕ → Option (Text × List Row) → Bool
is_set_in name id found = is_true (value_in name id found)

-- the file of tables of the subcommand that was entered, whichever it is
abbrev pub tables_in : Option (Text × List Row) → Option Text
tables_in found = option_and_then (λ p. first_of (codes "tables") p.1) found

-- a list, empty where there is none
abbrev pub listed : Option (List Text) → List Text
listed (Some texts) = texts
listed None = []

-- the words that name partners, in their order
abbrev pub partners_in : List ℕ → Option (Text × List Row) → List Text
partners_in name found = listed (values_in name (codes "partners") found)

-- the number that a text names, as Rust reads one
abbrev pub number_of : Text → ℕ
number_of text = digits_value 10 (without_leading_plus text)

-- a text names a number from 1 to 1,000,000
abbrev pub IsJournal : Text → Type 0
IsJournal text =
    IsNumeral 10 (without_leading_plus text) × (1 ≤ number_of text) × (number_of text ≤ 1000000)

-- a text names a number from 1 to this one
abbrev pub IsCount : ℕ → Text → Type 0
IsCount most text =
    IsNumeral 10 (without_leading_plus text) × (1 ≤ number_of text) × (number_of text ≤ most)

-- the number from 1 to this one that the subcommand of a name is given by an option: none, or that which its text names
abbrev pub HasCount : List ℕ → List ℕ → ℕ → Option (Text × List Row) → Option ℕ → Type 0
HasCount name id most found None = value_in name id found ≡ None
HasCount name id most found (Some count) =
    (text : Text) × (value_in name id found ≡ Some text) × IsCount most text
    × (count ≡ number_of text)

-- that it is one, or none
abbrev pub IsCounted : List ℕ → List ℕ → ℕ → Option (Text × List Row) → Type 0
IsCounted name id most found = (count : Option ℕ) × HasCount name id most found count

-- the same as an answer
abbrev pub AnswersCount : List ℕ → List ℕ → ℕ → Option (Text × List Row) → Option (Option ℕ) → Type 0
AnswersCount name id most found (Some count) = HasCount name id most found count
AnswersCount name id most found None = IsCounted name id most found → ⊥

-- how many lines in a minute, and how many seconds between ticks
abbrev pub HasPace : List ℕ → Option (Text × List Row) → Option ℕ → Type 0
HasPace name = HasCount name (codes "pace") 4294967295

abbrev pub HasTick : List ℕ → Option (Text × List Row) → Option ℕ → Type 0
HasTick name = HasCount name (codes "tick") 86400

-- how many boards have to keep an entry before a reply tells of it
abbrev pub HasSecond : List ℕ → Option (Text × List Row) → Option ℕ → Type 0
HasSecond name = HasCount name (codes "second") 8

-- options go together: one that is strict needs boards to wait for, and these a file that is kept and an address at
-- which they follow
abbrev pub GoesTogether : Bool → Bool → Bool → Bool → Type 0
GoesTogether is_kept is_watched is_seconded is_strict =
    (is_seconded ≡ true → (is_kept ≡ true) × (is_watched ≡ true)) × (is_strict ≡ true → is_seconded ≡ true)

abbrev pub AreTogether : List ℕ → Option (Text × List Row) → Type 0
AreTogether name found =
    GoesTogether (is_some (value_in name (codes "keep") found)) (is_some (value_in name (codes "watch") found))
    (is_some (value_in name (codes "second") found)) (is_set_in name (codes "strict") found)

-- for how many boards replies wait, and whether none is sent without them, where that goes together with the rest
pub record HasSeconding (name : List ℕ) (found : Option (Text × List Row)) (seconding : Option ℕ × Bool) : Type 0 where
  pub second : HasSecond name found seconding.0
  pub strict : seconding.1 ≡ is_set_in name (codes "strict") found
  pub together : AreTogether name found

abbrev pub IsSeconded : List ℕ → Option (Text × List Row) → Type 0
IsSeconded name found = (seconding : Option ℕ × Bool) × HasSeconding name found seconding

abbrev pub AnswersSeconding : List ℕ → Option (Text × List Row) → Option (Option ℕ × Bool) → Type 0
AnswersSeconding name found (Some seconding) = HasSeconding name found seconding
AnswersSeconding name found None = IsSeconded name found → ⊥

-- the address of the peer, which is asked where the journal is kept
abbrev pub IsPeered : List ℕ → Option (Text × List Row) → Type 0
IsPeered name found =
    is_some (value_in name (codes "peer") found) ≡ true → is_some (value_in name (codes "keep") found) ≡ true

abbrev pub HasPeer : List ℕ → Option (Text × List Row) → Option Text → Type 0
HasPeer name found peer = (peer ≡ value_in name (codes "peer") found) × IsPeered name found

abbrev pub AnswersPeer : List ℕ → Option (Text × List Row) → Option (Option Text) → Type 0
AnswersPeer name found (Some peer) = HasPeer name found peer
AnswersPeer name found None = IsPeered name found → ⊥

-- the length of a record that a text names
abbrev pub length_named : Text → Option Length
length_named text =
    if bytes_eq text (codes "128") then Some L128
    else if bytes_eq text (codes "160") then Some L160 else None

abbrev pub length_in : List ℕ → Option (Text × List Row) → Option Length
length_in name found = option_and_then length_named (value_in name (codes "length") found)

-- the subcommand that was entered is `run`, `serve` or `follow` with this text for its journal, `verify` or
-- `explain` of this file beside records of this length, or `audit` or `tell` of this file
abbrev pub Runs : Option (Text × List Row) → Text → Type 0
Runs found text = value_in (codes "run") (codes "journal") found ≡ Some text

abbrev pub Serves : List ℕ → Option (Text × List Row) → Text → Type 0
Serves name found text =
    (value_in name (codes "journal") found ≡ Some text)
    × IsCounted name (codes "pace") 4294967295 found × IsCounted name (codes "tick") 86400 found
    × IsSeconded name found × IsPeered name found

-- the first board that `follow` is given
abbrev pub first_in : Option (Text × List Row) → Option Text
first_in found = value_in (codes "follow") (codes "first") found

-- it is `serve`, where no first board is named, or `follow`, where one is
abbrev pub ServesAlone : Option (Text × List Row) → Text → Type 0
ServesAlone found text = (first_in found ≡ None) × Serves (codes "serve") found text

abbrev pub Follows : Option (Text × List Row) → Text → Type 0
Follows found text = IsSome (first_in found) × Serves (codes "follow") found text

abbrev pub Judges : List ℕ → Option (Text × List Row) → Length → Text → Type 0
Judges name found length file =
    (length_in name found ≡ Some length) × (value_in name (codes "file") found ≡ Some file)

abbrev pub Verifies : Option (Text × List Row) → Length → Text → Type 0
Verifies = Judges (codes "verify")

abbrev pub AuditsFile : Option (Text × List Row) → Text → Type 0
AuditsFile found file = value_in (codes "audit") (codes "file") found ≡ Some file

abbrev pub Explains : Option (Text × List Row) → Length → Text → Type 0
Explains = Judges (codes "explain")

abbrev pub TellsFile : Option (Text × List Row) → Text → Type 0
TellsFile found file = value_in (codes "tell") (codes "file") found ≡ Some file

-- the name of the subcommand that serves: `follow` where a first board is followed before, else `serve`
abbrev pub serving_name : {T : Type 0} → Option T → List ℕ
serving_name None = codes "serve"
serving_name (Some first) = codes "follow"

-- it is `run`, `serve` or `follow` with the journal, the files, the addresses and the partners that are named, or
-- `verify`, `audit`, `explain` or `tell` of the file that is, with the length
abbrev pub Asks : Option (Text × List Row) → Subcommand → Type 0
Asks found (Run journal save keep sync) =
    (text : Text) × Runs found text × IsJournal text × (journal ≡ number_of text)
    × (option_map (λ s. s.now) save ≡ value_in (codes "run") (codes "save") found)
    × (option_map (λ s. s.now) keep ≡ value_in (codes "run") (codes "keep") found)
    × (sync ≡ is_set_in (codes "run") (codes "sync") found)
Asks found (Serve first journal save keep sync watch changes web web_name again control pace tick log second strict peer partners) =
    (text : Text) × Serves (serving_name first) found text × IsJournal text × (journal ≡ number_of text)
    × (option_map (λ s. s.now) first ≡ first_in found)
    × (option_map (λ s. s.now) save ≡ value_in (serving_name first) (codes "save") found)
    × (option_map (λ s. s.now) keep ≡ value_in (serving_name first) (codes "keep") found)
    × (sync ≡ is_set_in (serving_name first) (codes "sync") found)
    × (option_map (λ s. s.now) watch ≡ value_in (serving_name first) (codes "watch") found)
    × (option_map (λ s. s.now) changes ≡ value_in (serving_name first) (codes "changes") found)
    × (option_map (λ s. s.now) web ≡ value_in (serving_name first) (codes "web") found)
    × (option_map (λ s. s.now) web_name ≡ value_in (serving_name first) (codes "web-name") found)
    × (again ≡ is_set_in (serving_name first) (codes "again") found)
    × (option_map (λ s. s.now) control ≡ value_in (serving_name first) (codes "control") found)
    × HasPace (serving_name first) found pace × HasTick (serving_name first) found tick
    × (option_map (λ s. s.now) log ≡ value_in (serving_name first) (codes "log") found)
    × HasSeconding (serving_name first) found (second, strict)
    × HasPeer (serving_name first) found (option_map (λ s. s.now) peer)
    × (map (λ s. s.now) partners.items ≡ partners_in (serving_name first) found)
Asks found (Verify length file) = Verifies found length file.now
Asks found (Audit file) = AuditsFile found file.now
Asks found (Explain length file) = Explains found length file.now
Asks found (Tell file) = TellsFile found file.now

-- the words ask for this, with this file of tables
abbrev pub AsksWith : Option (Text × List Row) → Subcommand → Option Text → Type 0
AsksWith found subcommand tables = Asks found subcommand × (tables ≡ tables_in found)

abbrev pub AsksFor : List Text → Line → Type 0
AsksFor words line =
    AsksWith (subcommand_of program words) line.subcommand
    (option_map (λ s. s.now) line.tables)

-- it is none of the seven
pub record AsksNothing (found : Option (Text × List Row)) : Type 0 where
  pub run : (text : Text) → Runs found text → IsJournal text → ⊥
  pub serve : (text : Text) → ServesAlone found text → IsJournal text → ⊥
  pub follow : (text : Text) → Follows found text → IsJournal text → ⊥
  pub verify : (length : Length) (file : Text) → Verifies found length file → ⊥
  pub audit : (file : Text) → AuditsFile found file → ⊥
  pub explain : (length : Length) (file : Text) → Explains found length file → ⊥
  pub tell : (file : Text) → TellsFile found file → ⊥

abbrev pub Answers : Option (Text × List Row) → Option Subcommand → Type 0
Answers found (Some subcommand) = Asks found subcommand
Answers found None = AsksNothing found

-- the journal of the subcommand of a name: the number that its text names, or none
abbrev pub AnswersJournal : List ℕ → Option (Text × List Row) → Option ℕ → Type 0
AnswersJournal name found (Some journal) =
    (text : Text) × (value_in name (codes "journal") found ≡ Some text) × IsJournal text
    × (journal ≡ number_of text)
AnswersJournal name found None = (text : Text)
    → value_in name (codes "journal") found ≡ Some text → IsJournal text → ⊥

-- what `run` asks for, or that it asks for nothing; the same of `serve` and of `follow`
abbrev pub AnswersRun : Option (Text × List Row) → Option Subcommand → Type 0
AnswersRun found (Some subcommand) = Asks found subcommand
AnswersRun found None = (text : Text) → Runs found text → IsJournal text → ⊥

abbrev pub AnswersServing : List ℕ → Option (Text × List Row) → Option Subcommand → Type 0
AnswersServing name found (Some subcommand) = Asks found subcommand
AnswersServing name found None = (text : Text) → Serves name found text → IsJournal text → ⊥

abbrev pub AnswersServe : Option (Text × List Row) → Option Subcommand → Type 0
AnswersServe found (Some subcommand) = Asks found subcommand
AnswersServe found None = (text : Text) → ServesAlone found text → IsJournal text → ⊥

abbrev pub AnswersFollow : Option (Text × List Row) → Option Subcommand → Type 0
AnswersFollow found (Some subcommand) = Asks found subcommand
AnswersFollow found None = (text : Text) → Follows found text → IsJournal text → ⊥

-- the length and the file of the subcommand of a name, or none
abbrev pub AnswersJudged : List ℕ → Option (Text × List Row) → Option (Length × Text) → Type 0
AnswersJudged name found (Some judged) = Judges name found judged.0 judged.1
AnswersJudged name found None =
    (length : Length) (file : Text) → Judges name found length file → ⊥

-- `clap` takes the words, and they ask for one of the seven
pub record IsRight (words : List Text) : Type 0 where
  pub taken : takes program words ≡ true
  pub asks : ((text : Text) × Runs (subcommand_of program words) text × IsJournal text)
      ⊎ ((text : Text) × ServesAlone (subcommand_of program words) text × IsJournal text)
      ⊎ ((text : Text) × Follows (subcommand_of program words) text × IsJournal text)
      ⊎ ((length : Length) × (file : Text) × Verifies (subcommand_of program words) length file)
      ⊎ ((file : Text) × AuditsFile (subcommand_of program words) file)
      ⊎ ((length : Length) × (file : Text) × Explains (subcommand_of program words) length file)
      ⊎ ((file : Text) × TellsFile (subcommand_of program words) file)

-- right words are refused only where there is no memory
abbrev pub Refuses : List Text → ErrorKind → Type 0
Refuses words kind = IsRight words → kind ≡ OutOfMemory
