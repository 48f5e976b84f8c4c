-- What the first line of a display asks for (this project's profile).
use Rattle.std.specs.Prelude.{ℕ, ◌≡◌, ◌==◌, Bool, List, ◌++◌, codes, Option, Some, None}
use Rattle.std.specs.List.{after_first, before_first}
use Rattle.acdm_lines.specs.Numbers.{NamesNumber}
use Rattle.acdm_displays.specs.declared.asked.DisplayRequest.{DisplayRequest}
use Rattle.acdm_displays.specs.declared.asked.DisplayRequest.TheVariants as asks
use Rattle.acdm_displays.specs.declared.asked.FollowerStart.{FollowerStart}
use Rattle.acdm_displays.specs.declared.asked.Start.{Start}
use Rattle.acdm_displays.specs.declared.asked.Start.TheVariants as starts

-- `from N`, or `board`
abbrev pub Names : List ℕ → Start → Type 0
Names line (starts.Entry n) = (text : List ℕ) × (line ≡ codes "from " ++ text) × NamesNumber text n
Names line starts.Board = line ≡ codes "board"

-- `from N as M`
abbrev pub is_space : ℕ → Bool
is_space b = b == 32

abbrev pub NamesFollower : List ℕ → FollowerStart → Type 0
NamesFollower line start =
    (text name : List ℕ) × (line ≡ codes "from " ++ text) × NamesNumber (before_first is_space text) start.from
    × (after_first is_space text ≡ codes "as " ++ name) × NamesNumber name start.name

-- `kept N`
abbrev pub NamesKept : List ℕ → ℕ → Type 0
NamesKept line n = (text : List ℕ) × (line ≡ codes "kept " ++ text) × NamesNumber text n

-- no line is silence, and who is taken to have asked for something has sent its line
abbrev pub IsAskedBy : List ℕ → DisplayRequest → Type 0
IsAskedBy line asks.Silence = ⊥
IsAskedBy line (asks.For start) = Names line start
IsAskedBy line (asks.Follow start) = NamesFollower line start
IsAskedBy line asks.Term = line ≡ codes "term"
IsAskedBy line asks.Unknown = Unit {0}

-- where the feed begins for one that has asked so: with the first entry where nothing was sent
abbrev pub feed_start : DisplayRequest → Option Start
feed_start asks.Silence = Some (starts.Entry 0)
feed_start (asks.For start) = Some start
feed_start (asks.Follow start) = None
feed_start asks.Term = None
feed_start asks.Unknown = None
