-- What is known of a row, and what a pass stands for.
use Rattle.std.specs.Prelude.{ℕ, ◌≡◌, ◌<◌, ◌≤◌, List, [], ◌∷◌, ◌++◌, length, reverse, slice_get}
use Rattle.std.specs.Prelude.{option_to_list}
use Rattle.bpf_helpers.specs.Promise.{Promise}
use Rattle.acdm_milestones.specs.declared.role.Role.{Role}
use Rattle.acdm_step.specs.declared.entry.Entry.{Entry}
use Rattle.acdm_step.specs.History.{IsLegal}

-- the names of a row's cells, and the signatures of the programs in its entries
pub record RowView : Type 0 where
  pub cells : List ℕ
  pub sigs : List (ℕ × Promise)

-- a row, the entries of its first cells, and for how many there is room
pub record FrontView : Type 0 where
  pub row : RowView
  pub entries : List Entry
  pub room : ℕ

-- a row, and the journal that its cells hold
pub record PublisherView : Type 0 where
  pub row : RowView
  pub entries : List Entry

-- whose calls a pass makes, what it has seen, and which entries its own calls made, with their
-- numbers
pub record PassView : Type 0 where
  pub row : RowView
  pub session : ℕ
  pub role : Role
  pub seen : List Entry
  pub numbers : List ℕ
  pub own : List Entry

-- the entries of these numbers
abbrev pub entries_at : List Entry → List ℕ → List Entry
entries_at seen [] = []
entries_at seen (k ∷ ks) = option_to_list (slice_get seen k) ++ entries_at seen ks

abbrev pub AreBelow : ℕ → List ℕ → Type 0
AreBelow n [] = Unit {0}
AreBelow n (k ∷ ks) = (k < n) × AreBelow n ks

abbrev pub AreAbove : ℕ → List ℕ → Type 0
AreAbove n [] = Unit {0}
AreAbove n (k ∷ ks) = (n < k) × AreAbove n ks

-- each number is below those behind it
abbrev pub AreRising : List ℕ → Type 0
AreRising [] = Unit {0}
AreRising (k ∷ ks) = AreAbove k ks × AreRising ks

-- entries that calls of a session in its role made
abbrev pub AreOf : ℕ → Role → List Entry → Type 0
AreOf session role [] = Unit {0}
AreOf session role (e ∷ es) = (e.session ≡ session) × (e.role ≡ role) × AreOf session role es

-- what a pass keeps: its session is one of 64, its own entries are of its session and role, in
-- rising order of their numbers, among those that it has seen, and these are the beginning of a
-- legal journal
pub record IsPass (front : FrontView) (session : ℕ) (role : Role) (own : List ℕ) : Type 0 where
  pub session_given : 1 ≤ session
  pub few_sessions : session ≤ 64
  pub below : AreBelow (length front.entries) own
  pub rising : AreRising own
  pub of_caller : AreOf session role (entries_at front.entries own)
  pub legal : IsLegal front.row.sigs (reverse front.entries)

-- whose calls a pass makes stays as it is
pub record IsSameCaller (old new : PassView) : Type 0 where
  pub row : new.row ≡ old.row
  pub session : new.session ≡ old.session
  pub role : new.role ≡ old.role
