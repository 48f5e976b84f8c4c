-- What the first bytes of a connection say of it (this project's profile; what is blank: RFC 8259, section 2).
use Rattle.std.specs.Prelude.{ℕ, ◌==◌, nat_le, Bool, true, false, ◌||◌, if◌then◌else◌, List, [], ◌∷◌, length}
use Rattle.acdm_lines.specs.Lines.{is_line_feed}
use Rattle.acdm_partners.specs.declared.first_line.FirstLine.{FirstLine}
use Rattle.acdm_partners.specs.declared.first_line.FirstLine.TheVariants.{Waits, Command, Foreign}

-- a space, a tab, a carriage return; the line feed ends the line
abbrev pub is_blank : ℕ → Bool
is_blank b = b == 32 || (b == 9 || b == 13)

-- the first byte that is no blank opens an object
abbrev pub opens_object : List ℕ → Bool
opens_object [] = false
opens_object (b ∷ bs) = if is_blank b then opens_object bs else b == 123

abbrev pub has_line_feed : List ℕ → Bool
has_line_feed [] = false
has_line_feed (b ∷ bs) = if is_line_feed b then true else has_line_feed bs

-- A first line is there once its line feed is, or as many bytes as a line may have; or what is there is all
-- that comes, and a last line needs no line feed.
abbrev pub is_there : ℕ → Bool → List ℕ → Bool
is_there most is_all text = is_all || (nat_le most (length text) || has_line_feed text)

abbrev pub judged_by : Bool → FirstLine
judged_by true = Command
judged_by false = Foreign

abbrev pub judged : ℕ → Bool → List ℕ → FirstLine
judged most is_all text =
    if is_there most is_all text then judged_by (opens_object text) else Waits
