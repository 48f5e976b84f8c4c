-- What the first line of a connection says (this project's profile): an object of JSON (RFC 8259, as serde_json reads
-- it) with the name of a journal, and the number of the entry that comes next.
use Rattle.std.specs.Prelude.{ℕ, ◌≡◌, ◌<◌, ◌++◌, ◌∷◌, List, [], Option, Some, None, codes, length}
use Rattle.std.specs.Prelude.{if◌then◌else◌, option_and_then, string_bytes}
use Rattle.std.specs.Str.{is_utf8}
use Rattle.serde_json.specs.Data.{Data}
use Rattle.serde_json.specs.Read.{read}
use Rattle.serde_json.specs.Find.{get, as_number, as_str, as_u64}
use Rattle.acdm_lines.specs.Lines.{IsLine}
use Rattle.acdm_step.specs.Commands.{History}
use Rattle.acdm_feed.specs.Naming.{journal_name}
use Rattle.acdm_following.specs.declared.head.JournalHead.{JournalHead}
use Rattle.acdm_following.specs.declared.head.TheConstants.{MOST_HEAD}

-- the name of a journal, and the number of the entry that comes next
pub record HeadView : Type 0 where
  pub name : List ℕ
  pub next : ℕ

abbrev pub head_view : JournalHead → HeadView
head_view h = record { name = string_bytes h.name; next = h.next }

-- the value of JSON text, which is UTF-8
unfoldable pub json_of : List ℕ → Option Data
json_of bytes = if is_utf8 bytes then read bytes else None

abbrev pub name_in : Data → Option (List ℕ)
name_in d = option_and_then as_str (get (codes "journal") d)

abbrev pub next_in : Data → Option ℕ
next_in d = option_and_then as_u64 (option_and_then as_number (get (codes "next") d))

abbrev pub both_of : Option (List ℕ) → Option ℕ → Option HeadView
both_of (Some name) (Some next) = Some (record { name = name; next = next })
both_of (Some name) None = None
both_of None next = None

abbrev pub head_in : Option Data → Option HeadView
head_in (Some d) = both_of (name_in d) (next_in d)
head_in None = None

-- what a line says, if it is the first line of a journal
abbrev pub head_of : List ℕ → Option HeadView
head_of line = head_in (json_of line)

-- the first line of a text is this, and what stands behind it
pub record FirstLine (text line later : List ℕ) : Type 0 where
  pub is_line : IsLine line
  pub split : text ≡ line ++ 10 ∷ later

-- The first line of a text says that.
pub record Says (text : List ℕ) (head : HeadView) (later : List ℕ) : Type 0 where
  pub line : List ℕ
  pub first : FirstLine text line later
  pub head_is : head_of line ≡ Some head

-- a text begins with a line that says no such thing, or that is longer than any that does
pub data IsNoJournal (text : List ℕ) : Type 0 where
  says_none : (line later : List ℕ) → FirstLine text line later → head_of line ≡ None → IsNoJournal text
  too_long : (part later : List ℕ) → IsLine part → MOST_HEAD < length part → text ≡ part ++ later
      → IsNoJournal text

-- a history has this name, where it has entries
abbrev pub IsNamed : List ℕ → History → Type 0
IsNamed name [] = Unit {0}
IsNamed name (e ∷ J) = name ≡ journal_name (e ∷ J)
