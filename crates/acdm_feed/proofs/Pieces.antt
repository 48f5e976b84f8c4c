-- Pieces of a line that are added one after the other.
use Rattle.std.proofs.Common.{◌≡◌, ℕ, List, [], ◌∷◌, ◌++◌, ap, ◌∙◌, append_assoc}
use Rattle.json.specs.Token.{Token}
use Rattle.json.specs.Print.{print}
use Rattle.acdm_step.specs.declared.entry.Entry.{Entry}
use Rattle.acdm_step.specs.Commands.{History}
use Rattle.acdm_feed.specs.Resumed.{board_text, board_tokens}
use Rattle.acdm_feed.specs.Told.{told, told_tokens}

pub list_pieces : (old one two three four items : List Token) (k b e : Token) → one ≡ old ++ k ∷ []
    → two ≡ one ++ b ∷ [] → three ≡ two ++ items → four ≡ three ++ e ∷ []
    → four ≡ old ++ (k ∷ b ∷ (items ++ e ∷ []))
list_pieces old one two three four items k b e h1 h2 h3 h4 =
    h4 ∙ ap (λ l. l ++ e ∷ []) (h3 ∙ ap (λ l. l ++ items) (h2 ∙ ap (λ l. l ++ b ∷ []) h1))
    ∙ append_assoc ((old ++ k ∷ []) ++ b ∷ []) items (e ∷ [])
    ∙ append_assoc (old ++ k ∷ []) (b ∷ []) (items ++ e ∷ [])
    ∙ append_assoc old (k ∷ []) (b ∷ (items ++ e ∷ []))

pub object_pieces : (old one two three four five head said changed : List Token) (b e : Token)
    → one ≡ old ++ b ∷ [] → two ≡ one ++ head → three ≡ two ++ said → four ≡ three ++ changed
    → five ≡ four ++ e ∷ []
    → five ≡ old ++ (b ∷ ((head ++ (said ++ changed)) ++ e ∷ []))
object_pieces old one two three four five head said changed b e h1 h2 h3 h4 h5 =
    h5 ∙ ap (λ l. l ++ e ∷ []) (h4 ∙ ap (λ l. l ++ changed) (h3 ∙ ap (λ l. l ++ said) h2)
    ∙ append_assoc (one ++ head) said changed ∙ append_assoc one head (said ++ changed)
    ∙ ap (λ l. l ++ (head ++ (said ++ changed))) h1)
    ∙ append_assoc (old ++ b ∷ []) (head ++ (said ++ changed)) (e ∷ [])
    ∙ append_assoc old (b ∷ []) ((head ++ (said ++ changed)) ++ e ∷ [])

pub line_pieces : (J : History) (e : Entry) (old before : List ℕ) (tokens : List Token) (new : List ℕ)
    → before ≡ old → tokens ≡ told_tokens J e → new ≡ before ++ (print tokens ++ 10 ∷ [])
    → new ≡ old ++ told J e
unfolding told
line_pieces J e old before tokens new same is all = all ∙ (λ i. same i ++ (print (is i) ++ 10 ∷ []))

pub standing_pieces : (room : ℕ) (J : History) (old before : List ℕ) (tokens : List Token) (new : List ℕ)
    → before ≡ old → tokens ≡ board_tokens room J → new ≡ before ++ (print tokens ++ 10 ∷ [])
    → new ≡ old ++ board_text room J
unfolding board_text
standing_pieces room J old before tokens new same is all = all ∙ (λ i. same i ++ (print (is i) ++ 10 ∷ []))
