-- What a plain JSON object is read as: the members that were kept, and where the bytes of each part
-- end, in the words of json's lexer.
use Rattle.std.specs.Prelude.{ℕ, ◌≡◌, ◌≤◌, Bool, true, false, ◌||◌, ◌==◌, not, nat_lt, List, [], ◌∷◌, length}
use Rattle.std.specs.Prelude.{Some}
use Rattle.std.specs.Char.{is_ascii_digit}
use Rattle.json.specs.Token.{Token}
use Rattle.json.specs.Json.{value, members}
use Rattle.json.specs.Lex.{Place, may_begin, lex, between, token, colon, punctuate}
use Rattle.serde_json.specs.Data.{Data, null, number, string, object, unsigned, Members, no_members, put}
use Rattle.serde_json.specs.Read.{converted, of_members, number_of}
use Rattle.serde_json.specs.View.{view}
use Rattle.acdm_wire.specs.declared.plain.PlainValue.{PlainValue}
use Rattle.acdm_wire.specs.declared.plain.PlainValue.TheVariants.{Null, Number, Text}
use Rattle.acdm_wire.specs.declared.plain.PlainMember.{PlainMember}
use Rattle.acdm_wire.specs.declared.line_json.LineJson.{LineJson}
use Rattle.acdm_wire.specs.declared.line_json.LineJson.TheVariants as line_json

-- ---- what was kept

abbrev pub value_data : PlainValue → Data
value_data Null = null
value_data (Number n) = number (unsigned n)
value_data (Text s) = string s.now

-- these members put into others, one after another
abbrev pub with_members : List PlainMember → Members → Members
with_members [] ms = ms
with_members (m ∷ more) ms = with_members more (put m.name.now (value_data m.value) ms)

abbrev pub data_of : LineJson → Data
data_of (line_json.Plain ms) = object (with_members ms.now no_members)
data_of (line_json.Value v) = view v

-- ---- bytes

-- no text without escapes has this byte
abbrev pub is_stop : ℕ → Bool
is_stop b = (b == 34) || ((b == 92) || nat_lt b 32)

abbrev pub is_no_digit : ℕ → Bool
is_no_digit b = not (is_ascii_digit b)

-- a comma or a closing brace comes first
abbrev pub ends_value : List ℕ → Bool
ends_value [] = false
ends_value (b ∷ bs) = (b == 44) || (b == 125)

-- ---- parts of the text

-- one token is all of the value d
abbrev pub IsScalar : Token → Data → Type 0
IsScalar Token.begin_object d = ⊥
IsScalar Token.end_object d = ⊥
IsScalar Token.begin_array d = ⊥
IsScalar Token.end_array d = ⊥
IsScalar (Token.key s) d = ⊥
IsScalar (Token.string s) d = d ≡ string s
IsScalar (Token.number s) d = (n : ℕ) × (number_of s ≡ Some (unsigned n)) × (d ≡ number (unsigned n))
IsScalar (Token.boolean b) d = ⊥
IsScalar Token.null d = d ≡ null
IsScalar Token.bad d = ⊥

-- `old` is a token that is the value d, and then `new`
abbrev pub BeginsWith : List ℕ → Data → List ℕ → Type 0
BeginsWith old d new = (t : Token) × (lex between old ≡ token t ∷ lex between new) × IsScalar t d

-- `old` is a member, and then `new`
abbrev pub BeginsMember : List ℕ → List ℕ → Data → List ℕ → Type 0
BeginsMember old name d new = (t : Token)
    × (lex between old ≡ token (Token.string name) ∷ colon ∷ token t ∷ lex between new) × IsScalar t d

-- `rest` is what follows members of an object, and ends it: with those before, it has the members ms
abbrev pub Completes : List ℕ → Members → Members → Type 0
Completes rest before ms = (p : Place) (n : ℕ) → may_begin p ≡ true
    → length (punctuate p (lex between rest)) ≤ n
    → converted (λ js. of_members js before) (members (value 126) n (punctuate p (lex between rest)))
    ≡ Some (ms, [])
