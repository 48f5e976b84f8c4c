-- The feed of a part of a history, and the board that stands before it (this project's profile).
use Rattle.std.specs.Prelude.{ℕ, ◌≡◌, if◌then◌else◌, nat_lt, List, [], ◌∷◌, ◌++◌, codes, length}
use Rattle.std.specs.List.{flat_map}
use Rattle.json.specs.Token.{Token}
use Rattle.json.specs.Print.{print}
use Rattle.acdm_step.specs.Commands.{History}
use Rattle.acdm_step.specs.Summaries.{flights}
use Rattle.acdm_feed.specs.Names.{number_member, text_member, list_member, object_of}
use Rattle.acdm_feed.specs.Naming.{journal_name}
use Rattle.acdm_feed.specs.Told.{flight_tokens, told}

-- the feed from the entry of this number on, of which the newest entry is the first
abbrev pub feed_from : ℕ → History → List ℕ
feed_from n [] = []
feed_from n (e ∷ J) = feed_from n J ++ (if nat_lt (length J) n then [] else told J e)

-- the name of a journal, the number of the entry that comes next, and how many entries there is room for
unfoldable pub head_members : List ℕ → ℕ → ℕ → List Token
head_members name next room = text_member (codes "journal") name
    ++ (number_member (codes "next") next ++ number_member (codes "room") room)

-- these of a board, and the records of all flights in order of creation
abbrev pub board_tokens : ℕ → History → List Token
board_tokens room J = object_of (head_members (journal_name J) (length J) room
    ++ list_member (codes "flights") (flat_map (flight_tokens J) (flights J)))

-- the line of a board with room for so many entries: one object, without space, and a line feed
unfoldable pub board_text : ℕ → History → List ℕ
board_text room J = print (board_tokens room J) ++ 10 ∷ []

abbrev pub journal_tokens : List ℕ → ℕ → ℕ → List Token
journal_tokens name next room = object_of (head_members name next room)

-- the line of the journal of this name with room for so many entries, for one for whom the entry of this number
-- comes next: one object, without space, and a line feed
unfoldable pub named_line : List ℕ → ℕ → ℕ → List ℕ
named_line name next room = print (journal_tokens name next room) ++ 10 ∷ []

-- that of a journal with these entries
unfoldable pub journal_text : ℕ → ℕ → History → List ℕ
journal_text next room J = named_line (journal_name J) next room

-- that line, as soon as there is an entry
abbrev pub journal_line : ℕ → ℕ → History → List ℕ
journal_line next room [] = []
journal_line next room (e ∷ J) = journal_text next room (e ∷ J)

-- that line, where none of the entries was passed over before
abbrev pub journal_since : History → ℕ → ℕ → History → List ℕ
journal_since [] next room J = journal_line next room J
journal_since (e ∷ K) next room J = []

-- a history is what another was before
abbrev pub IsFront : History → History → Type 0
IsFront K J = (later : History) × (J ≡ later ++ K)
