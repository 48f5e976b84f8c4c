-- What the passes of sessions tell of a journal that went on.
use Rattle.std.specs.Prelude.{ℕ, ◌≡◌, ◌<◌, ◌⊎◌, ◌==◌, Bool, true, false, nat_le}
use Rattle.std.specs.Prelude.{List, [], ◌∷◌, length, reverse, take, drop}
use Rattle.std.specs.List.{filter, list_all}
use Rattle.acdm_milestones.specs.declared.role.Role.{Role}
use Rattle.acdm_step.specs.declared.entry.Entry.{Entry}
use Rattle.acdm_row.specs.Views.{PassView}
use Rattle.acdm_board.specs.Desk.{DeskView, row_of}

-- a journal begins with another, both with the newest entry first
abbrev pub BeginsWith : List Entry → List Entry → Type 0
BeginsWith opening closed = reverse opening ≡ take (length opening) (reverse closed)

-- no number is below this one
abbrev pub are_from : ℕ → List ℕ → Bool
are_from n ks = list_all (λ k. nat_le n k) ks

-- entries that stand in others in the same order, each at a place of its own
abbrev pub IsPartOf : List Entry → List Entry → Type 0
IsPartOf [] ys = Unit {0}
IsPartOf (x ∷ xs) [] = ⊥
IsPartOf (x ∷ xs) (y ∷ ys) = ((x ≡ y) × IsPartOf xs ys) ⊎ IsPartOf (x ∷ xs) ys

-- the entries of a session in a journal, but for the first so many, the oldest first
abbrev pub made_since : ℕ → List Entry → ℕ → List Entry
made_since start closed session =
    filter (λ e. e.session == session) (drop start (reverse closed))

-- What the pass of a session tells of the closed journal, that had so many entries when sessions
-- began. Where it has seen more than there is, which no contract of a cell excludes, nothing more
-- is told.
pub record IsShown (start : ℕ) (closed : DeskView) (session : ℕ) (role : Role)
    (calls : ℕ) (torn : Bool) (pass : PassView) : Type 0 where
  pub row : pass.row ≡ row_of closed
  pub same_session : pass.session ≡ session
  pub same_role : pass.role ≡ role
  pub counted : length pass.own ≡ calls
  pub longer : torn ≡ true → length closed.history < length pass.seen
  pub begins : torn ≡ false → pass.seen ≡ take (length pass.seen) (reverse closed.history)
  pub own : torn ≡ false → IsPartOf pass.own (made_since start closed.history session)
