-- The line of a journal, as it is put together and as it stays.
use Rattle.std.proofs.Common.{◌≡◌, ℕ, List, [], ◌∷◌, ◌++◌, refl, sym, ap, ◌∙◌, append_assoc, append-nil}
use Rattle.std.specs.Prelude.{None, Some, option_map}
use Rattle.json.specs.Token.{Token}
use Rattle.json.specs.Print.{print}
use Rattle.acdm_step.specs.declared.entry.Entry.{Entry}
use Rattle.acdm_step.specs.Commands.{History}
use Rattle.acdm_feed.specs.Naming.{first_entry, journal_name, name_of}
use Rattle.acdm_feed.specs.Resumed.{IsFront, journal_line, journal_since, journal_text, journal_tokens, named_line}
use Rattle.acdm_feed.proofs.Naming.{name_told, same_name, unnamed}

-- an object of one part, and of two
pub object_of_one : (old one two three head : List Token) (b e : Token) → one ≡ old ++ b ∷ []
    → two ≡ one ++ head → three ≡ two ++ e ∷ [] → three ≡ old ++ (b ∷ (head ++ e ∷ []))
object_of_one old one two three head b e h1 h2 h3 =
    h3 ∙ ap (λ l. l ++ e ∷ []) (h2 ∙ ap (λ l. l ++ head) h1)
    ∙ append_assoc (old ++ b ∷ []) head (e ∷ [])
    ∙ append_assoc old (b ∷ []) (head ++ e ∷ [])

pub object_of_two : (old one two three four head said : List Token) (b e : Token) → one ≡ old ++ b ∷ []
    → two ≡ one ++ head → three ≡ two ++ said → four ≡ three ++ e ∷ []
    → four ≡ old ++ (b ∷ ((head ++ said) ++ e ∷ []))
object_of_two old one two three four head said b e h1 h2 h3 h4 =
    object_of_one old one three four (head ++ said) b e h1
    (h3 ∙ ap (λ l. l ++ said) h2 ∙ append_assoc one head said) h4

pub journal_pieces : (next room : ℕ) (name old before : List ℕ) (tokens : List Token) (new : List ℕ)
    → before ≡ old → tokens ≡ journal_tokens name next room → new ≡ before ++ (print tokens ++ 10 ∷ [])
    → new ≡ old ++ named_line name next room
unfolding named_line
journal_pieces next room name old before tokens new same is all =
    all ∙ (λ i. same i ++ (print (is i) ++ 10 ∷ []))

-- the line of the journal of a name is that of its entries
pub named_text : (next room : ℕ) (J : History) (name old new : List ℕ) → name ≡ journal_name J
    → new ≡ old ++ named_line name next room → new ≡ old ++ journal_text next room J
unfolding journal_text
named_text next room J name old new named is = is ∙ ap (λ n. old ++ named_line n next room) named

-- that of the name of an entry is the line of the journal of it alone
pub text_of_one : (next room : ℕ) (e : Entry) → named_line (name_of e) next room ≡ journal_text next room (e ∷ [])
unfolding journal_text
text_of_one next room e = refl

-- where there is a name, the line is written, and none else
pub line_named : (next room : ℕ) (J : History) (name old new : List ℕ)
    → Some name ≡ option_map name_of (first_entry J) → new ≡ old ++ named_line name next room
    → new ≡ old ++ journal_line next room J
line_named next room [] name old new named is = absurd (cc)
line_named next room (e ∷ J) name old new named is =
    named_text next room (e ∷ J) name old new (name_told (e ∷ J) (Some name) named) is

pub line_unnamed : (next room : ℕ) (J : History) (old : List ℕ) → None ≡ option_map name_of (first_entry J)
    → old ≡ old ++ journal_line next room J
line_unnamed next room J old none =
    sym (ap (λ K. old ++ journal_line next room K) (unnamed J none) ∙ append-nil old)

-- the line of a journal is that of its first entries
pub same_line : (next room : ℕ) (more : List Entry) (e : Entry) (J : History)
    → journal_text next room (more ++ e ∷ J) ≡ journal_text next room (e ∷ J)
unfolding journal_text
same_line next room more e J =
    ap (λ n. named_line n next room) (same_name more e J)

-- so it stays as it is once there is an entry
pub line_stays : (next room : ℕ) (more : List Entry) (e : Entry) (J : History)
    → journal_line next room (more ++ e ∷ J) ≡ journal_line next room (e ∷ J)
line_stays next room [] e J = refl
line_stays next room (f ∷ more) e J = same_line next room (f ∷ more) e J

pub since_stays : (K : History) (next room : ℕ) (more : List Entry) (e : Entry) (J : History)
    → journal_since K next room (more ++ e ∷ J) ≡ journal_since K next room (e ∷ J)
since_stays [] next room more e J = line_stays next room more e J
since_stays (f ∷ K) next room more e J = refl

-- none is told behind entries that were passed over, of those alone
pub none_since : (K : History) (next room : ℕ) → journal_since K next room K ≡ []
none_since [] next room = refl
none_since (e ∷ K) next room = refl

-- the line before some first entries, or behind them, is that before all
pub line_since : (K J : History) (next room : ℕ) → IsFront K J
    → journal_line next room K ++ journal_since K next room J ≡ journal_line next room J
line_since [] J next room front = refl
line_since (e ∷ K) J next room (later, is) =
    append-nil (journal_text next room (e ∷ K))
    ∙ sym (ap (journal_line next room) is ∙ line_stays next room later e K)
