-- The helpers that programs may call, by their numbers, with the tables of an airport (this project's
-- profile).
use Rattle.std.specs.Prelude.{ℕ, List, [], ◌∷◌, Bool, true, false, ◌&&◌, ◌==◌, nat_le, if◌then◌else◌}
use Rattle.std.specs.List.{list_all}
use Rattle.bpf_helpers.specs.Promise.{Promise, is_in, is_well_formed}
use Rattle.bpf_helpers.specs.Known.{turn_round, taxi, sum}

-- The tables of an airport, minutes each: the least turn-round time of each type that is known, by the
-- numbers of types, and of all others; the taxi time from each stand that a signature tells; and from
-- which stand on which taxi time holds.
pub record TablesView : Type 0 where
  pub types : List (ℕ × ℕ)
  pub other : ℕ
  pub stands : List (ℕ × ℕ)
  pub steps : List (ℕ × ℕ)

-- those that are built in
abbrev pub built_in : TablesView
built_in = record {
  types = turn_round.table;
  other = 60;
  stands = taxi.table;
  steps = (0, 10) ∷ (100, 15) ∷ (500, 20) ∷ [];
}

-- two tables of pairs are one
abbrev pub same_pairs : List (ℕ × ℕ) → List (ℕ × ℕ) → Bool
same_pairs [] [] = true
same_pairs (a ∷ one) (b ∷ other) = a.0 == b.0 && (a.1 == b.1 && same_pairs one other)
same_pairs _ _ = false

-- tables of an airport are one
abbrev pub same_tables : TablesView → TablesView → Bool
same_tables one other = one.other == other.other && (same_pairs one.types other.types
    && (same_pairs one.stands other.stands && same_pairs one.steps other.steps))

-- ---- what the helpers promise by them

abbrev pub turn_round_by : TablesView → Promise
turn_round_by tables = record turn_round { table = tables.types }

abbrev pub taxi_by : TablesView → Promise
taxi_by tables = record taxi { table = tables.stands }

abbrev pub helpers_by : TablesView → List (ℕ × Promise)
helpers_by tables = (1, turn_round_by tables) ∷ (2, taxi_by tables) ∷ (3, sum) ∷ []

-- the helpers with the tables that are built in
abbrev pub helpers : List (ℕ × Promise)
helpers = (1, turn_round) ∷ (2, taxi) ∷ (3, sum) ∷ []

-- both signatures are well formed, and all other answers lie in their ranges
abbrev pub is_right : TablesView → Bool
is_right tables = is_well_formed (turn_round_by tables) && is_well_formed (taxi_by tables)
    && is_in turn_round.answer tables.other && list_all (λ step. is_in taxi.answer step.1) tables.steps

-- ---- what they answer

-- what a table has for a key, else this
abbrev pub listed_or : ℕ → List (ℕ × ℕ) → ℕ → ℕ
listed_or other [] key = other
listed_or other (entry ∷ table) key =
    if entry.0 == key then entry.1 else listed_or other table key

-- what the last step has that begins at a stand or before it, else this
abbrev pub step_or : ℕ → List (ℕ × ℕ) → ℕ → ℕ
step_or minutes [] stand = minutes
step_or minutes (step ∷ steps) stand =
    step_or (if nat_le step.0 stand then step.1 else minutes) steps stand

-- the least turn-round time of a type, by its number
abbrev pub turn_round_minutes : TablesView → ℕ → ℕ
turn_round_minutes tables kind = listed_or tables.other tables.types kind

-- the taxi time from a stand
abbrev pub taxi_minutes : TablesView → ℕ → ℕ
taxi_minutes tables stand = listed_or (step_or 1 tables.steps stand) tables.stands stand
