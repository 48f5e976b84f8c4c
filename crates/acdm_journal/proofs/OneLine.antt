-- A line may be read in one way, which is what it was written for.
use Rattle.std.proofs.Common.{◌≡◌, ◌≢◌, ℕ, List, [], ◌∷◌, ◌++◌, Some, None, Result, Ok, Err, sym}
use Rattle.std.proofs.Common.{Bool}
use Rattle.std.proofs.Common.{ap, subst, ◌∙◌, append-nil}
use Rattle.std.specs.Fmt.{decimal}
use Rattle.std.specs.List.{join_with_byte}
use Rattle.std.proofs.lemmas.Option.{same_Some}
use Rattle.acdm_journal.specs.declared.stated.Stated.{Stated}
use Rattle.acdm_journal.specs.Text.{answer_words, asked_words, line_words, line_of}
use Rattle.acdm_journal.specs.Ranges.{IsStated}
use Rattle.acdm_journal.specs.Reading.{Words, ◌>>=◌, stated_at, alone, words_of, stated_of}
use Rattle.acdm_journal.specs.Reading.{GivesLine}
use Rattle.std.specs.Prelude.{IfOk}
use Rattle.acdm_journal.specs.declared.stated.ReadError.{ReadError}
use Rattle.acdm_journal.specs.declared.stated.ReadError.TheVariants.{Memory, Unreadable}
use Rattle.acdm_journal.proofs.Parts.{bind_some, bind_is}
use Rattle.acdm_journal.proofs.PlainWords.{line_lacks}
use Rattle.acdm_journal.proofs.ReadBack.{ReadsLine, stated_at-is, stated_at-back}
use Rattle.acdm_journal.proofs.Splitting.{words_of-joined, joined-words_of}
use Rattle.acdm_milestones.specs.Names.{role_name}

-- what is written is read back
pub stated_of-line : (s : Stated) → IsStated s → stated_of (line_of s) ≡ Some s
unfolding stated_of
stated_of-line s is =
    ap (λ ws. stated_at ws >>= alone) (words_of-joined _ _ (line_lacks s is))
    ∙ bind_is (stated_at (line_words s)) alone (s, []) (stated_at-is s is)

record IsRead (line : List ℕ) (s : Stated) : Type 0 where
  line_is : line ≡ line_of s
  is : IsStated s

ends : (line : List ℕ) (r s : Stated) (left : Words) → ReadsLine (words_of line) r left
    → alone (r, left) ≡ Some s → IsRead line s
ends line r s (w ∷ ws) reads h = absurd (cc)
ends line r s [] reads h =
    let words : words_of line ≡ line_words r =
    reads.words ∙ ap (λ (l : Words). decimal r.number ∷ decimal r.session ∷ decimal r.moment
    ∷ role_name r.role ∷ decimal r.outcome ∷ (answer_words r.answers ++ l))
    (append-nil (asked_words r.asked)) in
    let here : IsRead line r = record {
      line_is = sym (joined-words_of line) ∙ ap (join_with_byte 32) words;
      is = reads.is;
    } in
    subst (λ x. IsRead line x) (same_Some r s h) here

-- what is read is what the line was written for
pub line-stated_of : (line : List ℕ) (s : Stated) → stated_of line ≡ Some s
    → (line ≡ line_of s) × IsStated s
unfolding stated_of
line-stated_of line s h =
    let r = bind_some (stated_at (words_of line)) alone s h in
    let e = ends line r.0.0 s r.0.1 (stated_at-back (words_of line) r.0.0 r.0.1 r.1) r.2 in
    (e.line_is, e.is)

pub one_line : (s t : Stated) → IsStated s → IsStated t → line_of s ≡ line_of t → s ≡ t
one_line s t p q e =
    same_Some s t (sym (stated_of-line s p) ∙ ap stated_of e ∙ stated_of-line t q)

-- a line that can't be read is that of nothing
pub no_line : (line : List ℕ) → stated_of line ≡ None → (s : Stated) → IsStated s → line ≢ line_of s
no_line line none s is e = cc (sym none ∙ ap stated_of e ∙ stated_of-line s is)

pub states : (line : List ℕ) (needs : Bool) (r : Result Stated ReadError)
    → GivesLine needs r (stated_of line)
    → IfOk r (λ s. (line ≡ line_of s) × IsStated s)
states line needs (Ok s) g = line-stated_of line s g
states line needs (Err e) g = tt

pub states_nothing : (line : List ℕ) (needs : Bool) (r : Result Stated ReadError)
    → GivesLine needs r (stated_of line)
    → r ≡ Err Unreadable → (s : Stated) → IsStated s → line ≢ line_of s
states_nothing line needs (Ok s) g e = absurd (cc)
states_nothing line needs (Err Memory) g e = absurd (cc)
states_nothing line needs (Err Unreadable) g e = no_line line g
