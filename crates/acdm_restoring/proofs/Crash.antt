-- What a crash leaves of a journal is the text of its first entries, and a part of one more line.
use Rattle.std.proofs.Common.{Bool, ◌≡◌, ℕ, zero, suc, ◌-◌, ◌≤◌, ◌<◌, false, ◌⊎◌, inl, inr, List, [], ◌∷◌, ◌++◌}
use Rattle.std.proofs.Common.{length, take, refl, sym, ap, subst, ◌∙◌, arith, append-nil, length-append}
use Rattle.bpf_helpers.specs.Promise.{Promise}
use Rattle.acdm_lines.specs.Lines.{is_line_feed, IsLine, IsWhole}
use Rattle.acdm_lines.proofs.Whole.{IsWhole-line, IsWhole-append}
use Rattle.acdm_step.specs.declared.entry.Entry.{Entry}
use Rattle.acdm_step.specs.Commands.{History}
use Rattle.acdm_step.specs.History.{IsLegal}
use Rattle.acdm_journal.specs.Text.{history_text, entry_text, line_of, stated_in}
use Rattle.acdm_journal.specs.Whole.{AreReadable}
use Rattle.acdm_journal.proofs.PlainWords.{line_is_line}
use Rattle.acdm_journal.proofs.OneText.{one_history}
use Rattle.acdm_journal.specs.Crash.{CrashLeaves}
use Rattle.acdm_restoring.specs.Crash.{HasKept, WasKept}
use Rattle.acdm_restoring.specs.Restored.{GaveAll}

-- ---- lines and a rest

same_head : (x y : ℕ) (xs ys : List ℕ) → x ∷ xs ≡ y ∷ ys → x ≡ y
same_head x y xs ys e = ap (λ l. first l) e
  where
    first : List ℕ → ℕ
    first [] = 0
    first (b ∷ bs) = b

same_tail : (x y : ℕ) (xs ys : List ℕ) → x ∷ xs ≡ y ∷ ys → xs ≡ ys
same_tail x y xs ys e = ap (λ l. rest l) e
  where
    rest : List ℕ → List ℕ
    rest [] = []
    rest (b ∷ bs) = bs

-- whole lines, of which there are some, are no part of a line
no_whole : (y : ℕ) (ys rest : List ℕ) → IsWhole (y ∷ ys) → IsLine ((y ∷ ys) ++ rest) → ⊥
no_whole y [] rest whole line =
    let bad : is_line_feed 10 ≡ false = subst (λ b. is_line_feed b ≡ false) whole line.0 in
    absurd (cc bad)
no_whole y (z ∷ zs) rest whole line = no_whole z zs rest whole line.1

tail_whole : (x : ℕ) (xs : List ℕ) → IsWhole (x ∷ xs) → IsWhole xs
tail_whole x [] whole = tt
tail_whole x (y ∷ ys) whole = whole

-- where lines end and a rest begins is told by the text
one_rest : (xs ys a b : List ℕ) → IsWhole xs → IsWhole ys → IsLine a → IsLine b → xs ++ a ≡ ys ++ b → xs ≡ ys
one_rest [] [] a b p q r s e = refl
one_rest [] (y ∷ ys) a b p q r s e = absurd (no_whole y ys b q (subst IsLine e r))
one_rest (x ∷ xs) [] a b p q r s e = absurd (no_whole x xs a p (subst IsLine (sym e) s))
one_rest (x ∷ xs) (y ∷ ys) a b p q r s e =
    ap (λ h. h ∷ xs) (same_head x y (xs ++ a) (ys ++ b) e)
    ∙ ap (λ l. y ∷ l) (one_rest xs ys a b (tail_whole x xs p) (tail_whole y ys q) r s (same_tail x y (xs ++ a) (ys ++ b) e))

-- ---- texts of entries

pub is_whole : (J : History) → IsWhole (history_text J)
is_whole [] = tt
is_whole (e ∷ J) =
    IsWhole-append (history_text J) (entry_text e) (is_whole J) (IsWhole-line (line_of (stated_in e)))

-- a first part of a line
part_of_line : (n : ℕ) (line : List ℕ) → IsLine line → IsLine (take n line)
part_of_line zero line p = tt
part_of_line (suc n) [] p = tt
part_of_line (suc n) (b ∷ bs) p = (p.0, part_of_line n bs p.1)

take_before : (n : ℕ) (xs ys : List ℕ) → n ≤ length xs → take n (xs ++ ys) ≡ take n xs
take_before zero xs ys h = refl
take_before (suc n) [] ys h = absurd (omega arith)
take_before (suc n) (x ∷ xs) ys h = ap (λ l. x ∷ l) (take_before n xs ys (omega arith))

take_behind : (n : ℕ) (xs ys : List ℕ) → length xs ≤ n → take n (xs ++ ys) ≡ xs ++ take (n - length xs) ys
take_behind n [] ys h =
    let same : n ≡ n - 0 = omega arith in
    ap (λ k. take k ys) same
take_behind zero (x ∷ xs) ys h = absurd (omega arith)
take_behind (suc n) (x ∷ xs) ys h =
    let same : n - length xs ≡ suc n - suc (length xs) = omega arith in
    ap (λ l. x ∷ l) (take_behind n xs ys (omega arith) ∙ ap (λ k. xs ++ take k ys) same)

take_whole : (n : ℕ) (xs : List ℕ) → length xs ≤ n → take n xs ≡ xs
take_whole zero [] h = refl
take_whole zero (x ∷ xs) h = absurd (omega arith)
take_whole (suc n) [] h = refl
take_whole (suc n) (x ∷ xs) h = ap (λ l. x ∷ l) (take_whole n xs (omega arith))

-- ---- a first part of a journal's text

-- the text of the first entries, and a part of one more line
pub record CutText (written kept : History) (left : List ℕ) : Type 0 where
  pub found : History
  pub part : List ℕ
  pub is_part : IsLine part
  pub left_is : left ≡ history_text found ++ part
  pub keeps : HasKept written kept found

all_left : (kept : History) (n : ℕ) (left : List ℕ) → length (history_text kept) ≤ n
    → left ≡ take n (history_text kept) → CutText kept kept left
all_left kept n left enough is = record {
  found = kept;
  part = [];
  is_part = tt;
  left_is = is ∙ take_whole n (history_text kept) enough ∙ sym (append-nil (history_text kept));
  keeps = record { lost = []; written_is = refl; more = []; found_is = refl };
}

one_more : (e : Entry) (J kept : History) (left : List ℕ) → CutText J kept left → CutText (e ∷ J) kept left
one_more e J kept left t = record {
  found = t.found;
  part = t.part;
  is_part = t.is_part;
  left_is = t.left_is;
  keeps = record {
    lost = e ∷ t.keeps.lost;
    written_is = ap (λ l. e ∷ l) t.keeps.written_is;
    more = t.keeps.more;
    found_is = t.keeps.found_is;
  };
}

pub cut_text : (sigs : List (ℕ × Promise)) (newer : List Entry) (kept : History) (n : ℕ) (left : List ℕ)
    → AreReadable sigs (newer ++ kept) → length (history_text kept) ≤ n
    → left ≡ take n (history_text (newer ++ kept)) → CutText (newer ++ kept) kept left
cut_text sigs [] kept n left readable enough is = all_left kept n left enough is
cut_text sigs (e ∷ newer) kept n left readable enough is =
    let J : History = newer ++ kept in
    let text = history_text J in
    let line = line_of (stated_in e) in
    elim (before_or n (length text)) [
      | inl before ↦ one_more e J kept left
          (cut_text sigs newer kept n left readable.0 enough
          (is ∙ take_before n text (entry_text e) before))
      | inr behind ↦
          let here : left ≡ text ++ take (n - length text) (entry_text e) =
          is ∙ take_behind n text (entry_text e) (omega (arith, behind)) in
          elim (before_or (n - length text) (length line)) [
            | inl within ↦ record {
              found = J;
              part = take (n - length text) line;
              is_part = part_of_line (n - length text) line (line_is_line (stated_in e) readable.1.stated);
              left_is = here ∙ ap (λ l. text ++ l) (take_before (n - length text) line (10 ∷ []) within);
              keeps = record { lost = e ∷ []; written_is = refl; more = newer; found_is = refl };
            }
            | inr whole ↦ record {
              found = e ∷ J;
              part = [];
              is_part = tt;
              left_is = here ∙ ap (λ l. text ++ l) (take_whole (n - length text) (entry_text e)
                  (omega (arith, whole, length-append line (10 ∷ []))))
                  ∙ sym (append-nil (text ++ entry_text e));
              keeps = record { lost = []; written_is = refl; more = e ∷ newer; found_is = refl };
            }
          ]
    ]
  where
    before_or : (a b : ℕ) → (a ≤ b) ⊎ (b < a)
    before_or zero b = inl (omega arith)
    before_or (suc a) zero = inr (omega arith)
    before_or (suc a) (suc b) = elim (before_or a b) [
      | inl le ↦ inl (omega (arith, le))
      | inr lt ↦ inr (omega (arith, lt))
    ]

-- ---- going on

same_rest : (log left all : List ℕ) → log ++ left ≡ log ++ all → left ≡ all
same_rest [] left all e = e
same_rest (x ∷ xs) left all e = same_rest xs left all (same_tail x x (xs ++ left) (xs ++ all) e)

-- what was read of it is the text of what was found
pub goes_on : (sigs : List (ℕ × Promise)) (J : History) (log log_after : List ℕ) (ended : Bool) (bytes : ℕ)
    → IsLegal sigs J → GaveAll sigs J log log_after ended bytes → (written kept : History) (left : List ℕ)
    → WasKept sigs written kept → CrashLeaves (history_text written) (length (history_text kept)) left
    → log_after ≡ log ++ left → HasKept written kept J
goes_on sigs J log log_after ended bytes legal gave written kept left was leaves is =
    let cut = subst (λ (w : History). CutText w kept left) (sym was.split)
    (cut_text sigs was.newer kept leaves.0 left (subst (λ (w : History). AreReadable sigs w) was.split was.readable)
    leaves.1 (leaves.2 ∙ ap (λ (w : History). take leaves.0 (history_text w)) was.split)) in
    let same : left ≡ history_text J ++ gave.rest = same_rest log left (history_text J ++ gave.rest) (sym is ∙ gave.gave) in
    let texts : history_text cut.found ≡ history_text J = one_rest (history_text cut.found) (history_text J) cut.part gave.rest
    (is_whole cut.found) (is_whole J) cut.is_part gave.is_rest (sym cut.left_is ∙ same) in
    let found_legal = front_legal sigs cut.keeps.lost cut.found (subst (IsLegal sigs) cut.keeps.written_is was.legal) in
    let found_readable = front_readable sigs cut.keeps.lost cut.found
    (subst (λ (w : History). AreReadable sigs w) cut.keeps.written_is was.readable) in
    let one : cut.found ≡ J = one_history sigs (history_text J) cut.found J
    (record { legal = found_legal; readable = found_readable; text_is = sym texts })
    (record { legal = legal; readable = gave.readable; text_is = refl }) in
    subst (λ (w : History). HasKept written kept w) one cut.keeps
  where
    front_legal : (s : List (ℕ × Promise)) (lost : List Entry) (K : History) → IsLegal s (lost ++ K) → IsLegal s K
    front_legal s [] K h = h
    front_legal s (e ∷ es) K h = front_legal s es K h.0

    front_readable : (s : List (ℕ × Promise)) (lost : List Entry) (K : History) → AreReadable s (lost ++ K) → AreReadable s K
    front_readable s [] K h = h
    front_readable s (e ∷ es) K h = front_readable s es K h.0
