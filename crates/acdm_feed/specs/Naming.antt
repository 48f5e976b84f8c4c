-- The name of a journal (this project's profile): 32 lower-case hexadecimal digits, the first 16 bytes of the
-- SHA-256 (FIPS 180-4) of the text of its first entry, without the line feed.
use Rattle.std.specs.Prelude.{ℕ, List, [], ◌∷◌, take, Option, Some, None}
use Rattle.hex.specs.Hex.{encode_lower}
use Rattle.sha2.specs.Sha256.{sha256}
use Rattle.acdm_step.specs.declared.entry.Entry.{Entry}
use Rattle.acdm_step.specs.Commands.{History}
use Rattle.acdm_journal.specs.Text.{line_of, stated_in}

-- the name of a journal whose first entry is this
unfoldable pub name_of : Entry → List ℕ
name_of e = encode_lower (take 16 (sha256 (line_of (stated_in e))))

-- the first entry of a history, of which the newest one is at the head
abbrev pub first_entry : History → Option Entry
first_entry [] = None
first_entry (e ∷ []) = Some e
first_entry (e ∷ f ∷ J) = first_entry (f ∷ J)

-- a journal with no entry has no name yet, which is told as the empty text
abbrev pub named_by : Option Entry → List ℕ
named_by None = []
named_by (Some e) = name_of e

abbrev pub journal_name : History → List ℕ
journal_name J = named_by (first_entry J)
