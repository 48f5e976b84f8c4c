-- A line of JSON that is added to, as tokens.
use Rattle.std.specs.Prelude.{ℕ, ◌≡◌, ◌≤◌, List, length, take, drop}
use Rattle.json.specs.Token.{Token}
use Rattle.json.specs.Lex.{tokens}
use Rattle.json.specs.Print.{print, ends_value, ArePrintable}
use Rattle.acdm_feed.specs.Lineviews.{LineView}
use Rattle.acdm_feed.specs.declared.line.FeedLine.TheInside.{Inside}

-- what was added
abbrev pub added_text : Inside → List ℕ
added_text l = drop l.kept l.out.items

abbrev pub added : Inside → List Token
added l = tokens (added_text l)

abbrev pub line_view : Inside → LineView
line_view l = record { before = take l.kept l.out.items; tokens = added l }

-- what was added is the print of its tokens, and it is known whether a comma comes before the next one
pub record IsLine (l : Inside) : Type 0 where
  pub within : l.kept ≤ length l.out.items
  pub printable : ArePrintable (added l)
  pub text : added_text l ≡ print (added l)
  pub place : l.after_value ≡ ends_value (added l)
