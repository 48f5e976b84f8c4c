-- How whole lines are told.
use Rattle.std.proofs.Common.{◌≡◌, ℕ, List, [], ◌∷◌, ◌++◌, refl, sym, ap, ◌∙◌}
use Rattle.std.proofs.Common.{append_assoc, append-nil, subst, ◌+◌, ◌≤◌, length, take, drop, map}
use Rattle.std.proofs.Common.{Option, None}
use Rattle.std.proofs.lemmas.List.{drop-append-le, take-append-le, drop-drop, take-append-drop}
use Rattle.std.proofs.lemmas.List.{map-append}
use Rattle.std.specs.List.{flat_map}
use Rattle.std.proofs.lemmas.Grind.{flat_map-append}
use Rattle.std.proofs.lemmas.List.{append_cancel_right}
use Rattle.acdm_lines.specs.Counted.{SourceView}
use Rattle.acdm_lines.specs.Lines.{IsLine, kept}
use Rattle.acdm_partners.specs.Heard.{HearingView, Leaves, TellsOn, told, told_by, told_line}
use Rattle.acdm_partners.specs.Heard.{text_of, whole_lines}

-- a part of a line has no whole line
pub whole_lines-part : (part : List ℕ) → IsLine part → whole_lines part ≡ []
whole_lines-part [] h = refl
whole_lines-part (b ∷ bs) h = rw (h.0, whole_lines-part bs h.1) refl

-- a line with its line feed is the first
pub whole_lines-line : (line more : List ℕ) → IsLine line
    → whole_lines (line ++ 10 ∷ more) ≡ line ∷ whole_lines more
whole_lines-line [] more h = refl
whole_lines-line (b ∷ bs) more h = rw (h.0, whole_lines-line bs more h.1) refl

-- a line was taken of what was held and read
leaves-read : (text held read line later : List ℕ) → Leaves text held → IsLine line
    → held ++ read ≡ line ++ 10 ∷ later → Leaves (text ++ read) later
leaves-read text held read line later l h e = record {
  before = l.before ++ line ∷ [];
  splits = λ more.
      ap whole_lines (append_assoc text read more) ∙ l.splits (read ++ more)
      ∙ ap (λ t. l.before ++ whole_lines t)
      (sym (append_assoc held read more) ∙ ap (λ t. t ++ more) e
      ∙ append_assoc line (10 ∷ later) more)
      ∙ ap (λ t. l.before ++ t) (whole_lines-line line (later ++ more) h)
      ∙ sym (append_assoc l.before (line ∷ []) (whole_lines (later ++ more)));
}

pub leaves-line : (text held read line later all : List ℕ) → all ≡ text ++ read → Leaves text held
    → IsLine line → held ++ read ≡ line ++ 10 ∷ later → Leaves all later
leaves-line text held read line later all gave l h e =
    subst (λ t. Leaves t later) (sym gave) (leaves-read text held read line later l h e)

-- what a text tells: the lines before, and what is held tells
told-leaves : (most : ℕ) (text held : List ℕ) → (l : Leaves text held)
    → told most text ≡ flat_map (told_line most) l.before ++ told most held
told-leaves most text held l =
    ap (λ t. told most t) (sym (append-nil text))
    ∙ ap (flat_map (told_line most)) (l.splits [] ∙ ap (λ t. l.before ++ whole_lines t) (append-nil held))
    ∙ flat_map-append (told_line most) l.before (whole_lines held)

-- a line was taken: it is told, and then what is held behind it
pub tells-line : (most : ℕ) (text held read line later bytes all : List ℕ) → all ≡ text ++ read
    → Leaves text held → IsLine line → held ++ read ≡ line ++ 10 ∷ later → bytes ≡ kept most line
    → TellsOn most text held all (bytes ++ 10 ∷ []) later
unfolding leaves-read
tells-line most text held read line later bytes all gave l h e k =
    let front : List ℕ = flat_map (told_line most) l.before in
    let next = leaves-read text held read line later l h e in
    let is : told most (text ++ read) ≡ front ++ ((bytes ++ 10 ∷ []) ++ told most later) =
    told-leaves most (text ++ read) later next
    ∙ ap (λ t. t ++ told most later) (flat_map-append (told_line most) l.before (line ∷ []))
    ∙ append_assoc front (told_line most line ++ []) (told most later)
    ∙ ap (λ t. front ++ (t ++ told most later))
    (append-nil (told_line most line) ∙ ap (λ t. t ++ 10 ∷ []) (sym k)) in
    record { front = front; was = told-leaves most text held l; is = ap (told most) gave ∙ is }

-- the connection is over: what was held and read is part of a line, and tells nothing
pub tells-rest : (most : ℕ) (text held read all : List ℕ) → all ≡ text ++ read → Leaves text held
    → IsLine (held ++ read) → TellsOn most text held all [] []
tells-rest most text held read all gave l h =
    let front : List ℕ = flat_map (told_line most) l.before in
    let lines : whole_lines (text ++ read) ≡ l.before =
    ap whole_lines (sym (append-nil (text ++ read)) ∙ append_assoc text read [])
    ∙ l.splits (read ++ []) ∙ ap (λ t. l.before ++ whole_lines (held ++ t)) (append-nil read)
    ∙ ap (λ t. l.before ++ t) (whole_lines-part (held ++ read) h) ∙ append-nil l.before in
    record {
      front = front;
      was = told-leaves most text held l;
      is = ap (told most) gave ∙ ap (flat_map (told_line most)) lines ∙ sym (append-nil front);
    }

-- a connection has ended: its text is the last of theirs, and none is heard
pub texts-ended : {R S : Type 0} (log : S → List ℕ) (past now : List S) (last : S)
    (heard : Option (SourceView R)) (text : List ℕ)
    → now ≡ past ++ last ∷ [] → heard ≡ None → log last ≡ text
    → map log now ++ text_of heard ≡ map log past ++ text ∷ []
texts-ended log past now last heard text pushed gone is =
    rw (pushed, gone)
    (append-nil (map log (past ++ last ∷ [])) ∙ map-append log past (last ∷ [])
    ∙ ap (λ t. map log past ++ t ∷ []) is)

-- behind connections that have ended
pub tells-behind : (most : ℕ) (old : HearingView) (past : List (List ℕ)) (text held more bytes later : List ℕ)
    → old.texts ≡ past ++ text ∷ [] → old.held ≡ held → TellsOn most text held more bytes later
    → (given : List ℕ) → given ++ told most old.held ≡ told_by most old.texts
    → (given ++ []) ++ (bytes ++ told most later) ≡ told_by most (past ++ more ∷ [])
tells-behind most old past text held more bytes later a b t given e =
    let was : given ++ told most held ≡ (told_by most past ++ t.front) ++ told most held =
    ap (λ x. given ++ told most x) (sym b) ∙ e ∙ ap (told_by most) a
    ∙ flat_map-append (told most) past (text ∷ [])
    ∙ ap (λ x. told_by most past ++ x) (append-nil (told most text) ∙ t.was)
    ∙ sym (append_assoc (told_by most past) t.front (told most held)) in
    let same = append_cancel_right given (told_by most past ++ t.front) (told most held) was in
    ap (λ x. x ++ (bytes ++ told most later)) (append-nil given ∙ same)
    ∙ append_assoc (told_by most past) t.front (bytes ++ told most later)
    ∙ ap (λ x. told_by most past ++ x) (sym t.is ∙ sym (append-nil (told most more)))
    ∙ sym (flat_map-append (told most) past (more ∷ []))

-- ---- a line in parts

-- the end of a line is given, and its line feed
pub gives-end : (at : ℕ) (line held rest bytes given left all : List ℕ) → at ≤ length line
    → left ≡ drop at (line ++ 10 ∷ []) ++ held → rest ≡ drop at line → bytes ≡ rest ++ 10 ∷ []
    → given ++ left ≡ all → (given ++ bytes) ++ held ≡ all
gives-end at line held rest bytes given left all inside l r b e =
    append_assoc given bytes held
    ∙ ap (λ t. given ++ (t ++ held))
    (b ∙ ap (λ t. t ++ 10 ∷ []) r ∙ sym (drop-append-le at line (10 ∷ []) inside))
    ∙ ap (λ t. given ++ t) (sym l) ∙ e

-- a part of it is given
pub gives-part : (at count : ℕ) (line held rest bytes given left all : List ℕ) → at ≤ length line
    → left ≡ drop at (line ++ 10 ∷ []) ++ held → rest ≡ drop at line → bytes ≡ take count rest
    → count ≤ length rest → given ++ left ≡ all
    → (given ++ bytes) ++ (drop (at + count) (line ++ 10 ∷ []) ++ held) ≡ all
gives-part at count line held rest bytes given left all inside l r b fits e =
    let feed : List ℕ = drop at (line ++ 10 ∷ []) in
    let short : count ≤ length (drop at line) = subst (λ t. count ≤ length t) r fits in
    let first : bytes ≡ take count feed =
    b ∙ ap (take count) r ∙ sym (take-append-le count (drop at line) (10 ∷ []) short)
    ∙ ap (take count) (sym (drop-append-le at line (10 ∷ []) inside)) in
    let both : bytes ++ drop (at + count) (line ++ 10 ∷ []) ≡ feed =
    ap (λ t. t ++ drop (at + count) (line ++ 10 ∷ [])) first
    ∙ ap (λ t. take count feed ++ t) (sym (drop-drop count at (line ++ 10 ∷ [])))
    ∙ take-append-drop count feed in
    append_assoc given bytes (drop (at + count) (line ++ 10 ∷ []) ++ held)
    ∙ ap (λ t. given ++ t)
    (sym (append_assoc bytes (drop (at + count) (line ++ 10 ∷ [])) held)
    ∙ ap (λ t. t ++ held) both ∙ sym l)
    ∙ e
