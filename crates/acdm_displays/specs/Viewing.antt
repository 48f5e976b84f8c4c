-- Those who are sent the same, and what waits for each of them.
use Rattle.std.specs.Prelude.{◌≡◌, ℕ, List, [], ◌∷◌, ◌++◌, ⊤, drop, Bool, false}
use Rattle.acdm_step.specs.declared.entry.Entry.{Entry}
use Rattle.acdm_displays.specs.declared.asked.Start.{Start}
use Rattle.acdm_displays.specs.Displayed.{Begun, Telling}

-- what one asked for first, what was taken, what waits, and whether bytes that were taken wait for a flush
pub record ViewerView : Type 0 where
  pub start : Start
  pub log : List ℕ
  pub waiting : List ℕ
  pub waits : Bool

-- the bytes behind so many
abbrev pub behind : ℕ → List ℕ → List ℕ
behind n bytes = drop n bytes

-- each of some is so
abbrev pub Each : (ViewerView → Type 0) → List ViewerView → Type 0
Each P [] = ⊤
Each P (v ∷ others) = P v × Each P others

-- One was told all that was seen of a row with room for so many, since it has begun as it asked: that was taken and
-- flushed, or it waits.
abbrev pub IsTold : {T : Type 0} → Telling T → (Start → Begun → Type 0) → ℕ → T → List Entry → ViewerView → Type 0
IsTold tells begun room teller seen v = (b : Begun) × begun v.start b × (b.room ≡ room)
    × (v.waits ≡ false) × tells teller seen b (v.log ++ v.waiting)

-- a teller knows what was seen of a row with room for so many: it has told it to somebody, if only to nobody
abbrev pub IsUpTo : {T : Type 0} → Telling T → ℕ → T → List Entry → Type 0
IsUpTo tells room teller seen = (b : Begun) × (log : List ℕ) × (b.room ≡ room) × tells teller seen b log

-- it knows it, and each was told it
pub record AreTold {T : Type 0} (tells : Telling T) (begun : Start → Begun → Type 0) (room : ℕ) (teller : T)
    (seen : List Entry) (viewers : List ViewerView) : Type 0 where
  pub known : IsUpTo tells room teller seen
  pub each : Each (IsTold tells begun room teller seen) viewers

-- one of some was handed a text
pub record IsHanded (viewers : List ViewerView) (text : List ℕ) (after : ViewerView) : Type 0 where
  pub front : List ViewerView
  pub viewer : ViewerView
  pub back : List ViewerView
  pub among : viewers ≡ front ++ viewer ∷ back
  pub start : after.start ≡ viewer.start
  pub flushed : after.waits ≡ false
  pub handed : after.log ++ after.waiting ≡ (viewer.log ++ viewer.waiting) ++ text
