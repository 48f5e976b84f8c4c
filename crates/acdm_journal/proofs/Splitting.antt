-- A line and its words.
use Rattle.std.proofs.Common.{◌≡◌, ℕ, ◌+◌, ◌≤◌, Bool, true, false, cond, List, [], ◌∷◌, ◌++◌}
use Rattle.std.proofs.Common.{length, take, drop, Some, None, refl, sym, ap, ◌∙◌, arith, inl, inr}
use Rattle.std.proofs.Common.{◌⊎◌, leb-true}
use Rattle.std.specs.Prelude.{position, nat_le, nat_lt, not}
use Rattle.std.specs.List.{join_with_byte, position_or_len, onto_first, AllByRecursion}
use Rattle.std.proofs.lemmas.List.Splits.{slice_split-cons_yes, slice_split-cons_no}
use Rattle.std.proofs.lemmas.List.Splits.{join_with_byte-slice_split, slice_split_first}
use Rattle.std.proofs.lemmas.Bool.{ne_eqb}
use Rattle.std.proofs.lemmas.Grind.{common_steps}
use borrow.Author.Tests.{ltb-true}
use Rattle.acdm_journal.specs.Reading.{Words, is_space, words_of, word_at}

-- ---- the next word

found : (b : Bool) (n i : ℕ) → cond b (Some n) None ≡ Some i → (b ≡ true) × (n ≡ i)
found true n i h = (refl, cc)
found false n i h = absurd (cc)

pub words_of-some : (line : List ℕ) (i : ℕ) → position is_space line ≡ Some i
    → words_of line ≡ take i line ∷ words_of (drop (i + 1) line)
words_of-some line i h =
    let p = found (nat_lt (position_or_len is_space line) (length line)) _ i h in
    let parts = slice_split_first is_space line 0 (ltb-true _ _ p.0) in
    parts ∙ ap (λ n. take n line ∷ words_of (drop (n + 1) line)) p.1

-- each byte stands above the space, so that none is one, nor a line feed
abbrev pub Lacks : List ℕ → Type 0
Lacks w = AllByRecursion (λ b. nat_le 33 b ≡ true) w

no_space : (b : ℕ) → nat_le 33 b ≡ true → is_space b ≡ false
no_space b h =
    let high : 33 ≤ b = leb-true 33 b h in
    ne_eqb b 32 (λ e. absurd (omega arith))

abbrev pub AllLack : List (List ℕ) → Type 0
AllLack ws = AllByRecursion Lacks ws

pub words_of-lacks : (w : List ℕ) → Lacks w → words_of w ≡ w ∷ []
words_of-lacks [] h = refl
words_of-lacks (b ∷ bs) h =
    slice_split-cons_no is_space b bs (no_space b h.0) ∙ ap (onto_first b) (words_of-lacks bs h.1)

-- without a space a line is one word
lacks-cons : (b : ℕ) (bs : List ℕ) → position is_space (b ∷ bs) ≡ None
    → (is_space b ≡ false) × (position is_space bs ≡ None)
lacks-cons b bs h = grind (arith, common_steps)

pub words_of-none : (line : List ℕ) → position is_space line ≡ None → words_of line ≡ line ∷ []
words_of-none [] h = refl
words_of-none (b ∷ bs) h =
    let p = lacks-cons b bs h in
    slice_split-cons_no is_space b bs p.0 ∙ ap (onto_first b) (words_of-none bs p.1)

-- ---- words with a space between them

words_of-before : (w rest : List ℕ) → Lacks w → words_of (w ++ 32 ∷ rest) ≡ w ∷ words_of rest
words_of-before [] rest h = slice_split-cons_yes is_space 32 rest refl
words_of-before (b ∷ bs) rest h =
    slice_split-cons_no is_space b (bs ++ 32 ∷ rest) (no_space b h.0)
    ∙ ap (onto_first b) (words_of-before bs rest h.1)

pub words_of-joined : (w : List ℕ) (ws : List (List ℕ)) → AllLack (w ∷ ws)
    → words_of (join_with_byte 32 (w ∷ ws)) ≡ w ∷ ws
words_of-joined w [] h = words_of-lacks w h.0
words_of-joined w (v ∷ vs) h =
    words_of-before w (join_with_byte 32 (v ∷ vs)) h.0
    ∙ ap (λ (l : List (List ℕ)). w ∷ l) (words_of-joined v vs h.1)

pub joined-words_of : (line : List ℕ) → join_with_byte 32 (words_of line) ≡ line
joined-words_of line = join_with_byte-slice_split 32 line

-- ---- what is left of a line

pub cases_of : (b : Bool) → (b ≡ true) ⊎ (b ≡ false)
cases_of true = inl refl
cases_of false = inr refl

-- a line has a word
first_word : (line : List ℕ) → (w : List ℕ) × (ws : Words) × (words_of line ≡ w ∷ ws)
first_word [] = ([], [], refl)
first_word (b ∷ bs) =
    elim (cases_of (is_space b)) [
      | inl is ↦ ([], words_of bs, slice_split-cons_yes is_space b bs is)
      | inr not ↦
          let more = first_word bs in
          (b ∷ more.0, more.1, slice_split-cons_no is_space b bs not ∙ ap (onto_first b) more.2)
    ]

pub some_word : (ended : Bool) (rest : List ℕ) (left : Words) → ended ≡ false
    → cond ended [] (words_of rest) ≡ left → (w : List ℕ) × (ws : Words) × (left ≡ w ∷ ws)
some_word true rest left more is = absurd (cc)
some_word false rest left more is =
    let first = first_word rest in (first.0, first.1, sym is ∙ first.2)

pub taken-some : (ended : Bool) (rest : List ℕ) (i : ℕ) (left : Words) → ended ≡ false
    → cond ended [] (words_of rest) ≡ left → position is_space rest ≡ Some i
    → word_at left ≡ Some (take i rest, words_of (drop (i + 1) rest))
taken-some true rest i left more is at = absurd (cc)
taken-some false rest i left more is at = ap word_at (sym is ∙ words_of-some rest i at)

pub taken-none : (ended : Bool) (rest : List ℕ) (left : Words) → ended ≡ false
    → cond ended [] (words_of rest) ≡ left → position is_space rest ≡ None
    → word_at left ≡ Some (rest, [])
taken-none true rest left more is at = absurd (cc)
taken-none false rest left more is at = ap word_at (sym is ∙ words_of-none rest at)
