-- A line put together of its words.
use Rattle.std.proofs.Common.{◌≡◌, ℕ, List, [], ◌∷◌, ◌++◌, refl, sym, ap, ◌∙◌, append_assoc}
use Rattle.std.proofs.Common.{append-nil}
use Rattle.std.specs.Fmt.{decimal}
use Rattle.std.specs.List.{join_with_byte}
use Rattle.acdm_step.specs.declared.command.Command.{Command}
use Rattle.acdm_step.specs.declared.command.Command.TheVariants as commands
use Rattle.acdm_step.specs.declared.entry.Entry.{Entry}
use Rattle.acdm_journal.specs.Text.{command_words, asked_words, asked_in, answer_words, head_words}
use Rattle.acdm_journal.specs.Text.{line_of, stated_in, entry_text}
use Rattle.acdm_journal.specs.Spaced.{spaced}

pub joined-spaced : (w : List ℕ) (ws : List (List ℕ)) → join_with_byte 32 (w ∷ ws) ≡ w ++ spaced ws
joined-spaced w [] = sym (append-nil w)
joined-spaced w (v ∷ vs) = ap (λ l. w ++ 32 ∷ l) (joined-spaced v vs)

pub spaced-append : (us vs : List (List ℕ)) → spaced (us ++ vs) ≡ spaced us ++ spaced vs
spaced-append [] vs = refl
spaced-append (u ∷ us) vs =
    ap (λ l. (32 ∷ u) ++ l) (spaced-append us vs)
    ∙ sym (append_assoc (32 ∷ u) (spaced us) (spaced vs))

words_in : (c : Command) → asked_words (asked_in c) ≡ command_words c
words_in (commands.Load l) = refl
words_in _ = refl

-- the text of an entry, piece by piece
pub entry_pieces : (e : Entry) (one two three : List ℕ)
    → one ≡ decimal e.number ++ spaced (head_words (stated_in e))
    → two ≡ one ++ spaced (answer_words e.answers)
    → three ≡ two ++ spaced (command_words e.command)
    → three ++ 10 ∷ [] ≡ entry_text e
entry_pieces e one two three a b c =
    let s = stated_in e in
    let head = spaced (head_words s) in
    let answers = spaced (answer_words e.answers) in
    let asked = spaced (command_words e.command) in
    let words : spaced (head_words s
    ++ (answer_words e.answers ++ asked_words (asked_in e.command)))
    ≡ head ++ (answers ++ asked) =
    spaced-append (head_words s) (answer_words e.answers ++ asked_words (asked_in e.command))
    ∙ ap (λ l. head ++ l) (spaced-append (answer_words e.answers) (asked_words (asked_in e.command))
    ∙ ap (λ l. answers ++ spaced l) (words_in e.command)) in
    let line : line_of s ≡ decimal e.number ++ (head ++ (answers ++ asked)) =
    joined-spaced (decimal e.number)
    (head_words s ++ (answer_words e.answers ++ asked_words (asked_in e.command)))
    ∙ ap (λ l. decimal e.number ++ l) words in
    let pieces : three ≡ ((decimal e.number ++ head) ++ answers) ++ asked =
    c ∙ ap (λ l. l ++ asked) (b ∙ ap (λ l. l ++ answers) a) in
    let same : ((decimal e.number ++ head) ++ answers) ++ asked
    ≡ decimal e.number ++ (head ++ (answers ++ asked)) =
    append_assoc (decimal e.number ++ head) answers asked
    ∙ append_assoc (decimal e.number) head (answers ++ asked) in
    ap (λ l. l ++ 10 ∷ []) (pieces ∙ same ∙ sym line)
