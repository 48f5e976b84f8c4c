-- What connections told, one after the other: their whole lines.
use Rattle.std.specs.Prelude.{ℕ, ◌≡◌, Bool, true, false, if◌then◌else◌, List, [], ◌∷◌, ◌++◌, drop}
use Rattle.std.specs.Prelude.{Option, Some, None}
use Rattle.std.specs.List.{flat_map}
use Rattle.acdm_lines.specs.Counted.{SourceView}
use Rattle.acdm_lines.specs.Lines.{is_line_feed, kept}

-- a byte before a text whose whole lines are these: it belongs to the first of them, or to none
abbrev pub in_front : ℕ → List (List ℕ) → List (List ℕ)
in_front b [] = []
in_front b (l ∷ ls) = (b ∷ l) ∷ ls

-- the lines of a text that a line feed ends, without it; what is behind the last one is none
abbrev pub whole_lines : List ℕ → List (List ℕ)
whole_lines [] = []
whole_lines (b ∷ bs) = if is_line_feed b then [] ∷ whole_lines bs else in_front b (whole_lines bs)

-- a line with its line feed; of a line that is longer so many bytes are kept
abbrev pub told_line : ℕ → List ℕ → List ℕ
told_line most line = kept most line ++ 10 ∷ []

-- what a connection tells by a text: its whole lines
abbrev pub told : ℕ → List ℕ → List ℕ
told most text = flat_map (told_line most) (whole_lines text)

-- what connections tell that gave these texts, in order
abbrev pub told_by : ℕ → List (List ℕ) → List ℕ
told_by most texts = flat_map (told most) texts

-- the text of a connection, if there is one
abbrev pub text_of : {R : Type 0} → Option (SourceView R) → List (List ℕ)
text_of (Some s) = s.log ∷ []
text_of None = []

-- A reader over connections: the texts that they gave so far, in order, what of their whole lines is
-- left, since it was not given yet, and whether a line is given in part.
pub record HeardView : Type 0 where
  pub texts : List (List ℕ)
  pub left : List ℕ
  pub in_line : Bool

-- Where what was given and what is left were all that the connections told, so they are with these bytes
-- behind what was given.
abbrev pub GoesOn : ℕ → HeardView → HeardView → List ℕ → Type 0
GoesOn most old new bytes = (given : List ℕ) → given ++ old.left ≡ told_by most old.texts
    → (given ++ bytes) ++ new.left ≡ told_by most new.texts

-- ---- within

-- what is left of a line that is being given: behind so many of its bytes, its line feed with them
abbrev pub rest_of : Bool → ℕ → List ℕ → List ℕ
rest_of true at line = drop at (line ++ 10 ∷ [])
rest_of false at line = []

-- The texts of the connections so far, whether one is heard now, its line that was taken last, and what is
-- held of its text behind that.
pub record HearingView : Type 0 where
  pub texts : List (List ℕ)
  pub is_open : Bool
  pub line : List ℕ
  pub held : List ℕ

-- the reader over it that has given so many bytes of the line that was taken last, or all of it
abbrev pub heard : ℕ → HearingView → Bool → ℕ → HeardView
heard most h in_line at = record {
  texts = h.texts;
  left = rest_of in_line at h.line ++ told most h.held;
  in_line = in_line;
}

-- One connection gave more of its text: of what it tells now, what was left is told on, these bytes first.
pub record TellsOn (most : ℕ) (text held more bytes later : List ℕ) : Type 0 where
  pub front : List ℕ
  pub was : told most text ≡ front ++ told most held
  pub is : told most more ≡ front ++ (bytes ++ told most later)

-- no connection was heard yet
abbrev pub IsNothing : HearingView → Type 0
IsNothing h = (h.texts ≡ []) × (h.held ≡ [])

-- The rest of a text is what is held of it: the whole lines before are these, whatever comes behind.
pub record Leaves (text held : List ℕ) : Type 0 where
  pub before : List (List ℕ)
  pub splits : (more : List ℕ)
      → whole_lines (text ++ more) ≡ before ++ whole_lines (held ++ more)

-- the same of a connection; of none nothing is held
abbrev pub IsHeldOf : {R : Type 0} → Option (SourceView R) → List ℕ → Type 0
IsHeldOf (Some s) held = Leaves s.log held
IsHeldOf None held = held ≡ []
