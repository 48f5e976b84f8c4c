-- Worked examples over the definitions alone.
use Rattle.std.proofs.Common.{◌≡◌, true, false, [], ◌∷◌, map, refl}
use Rattle.acdm_tables.specs.Helpers.{TablesView, built_in, helpers, helpers_by, is_right, taxi_minutes}
use Rattle.acdm_tables.specs.Helpers.{turn_round_minutes}

-- the tables that are built in are right, and are those of the known helpers
right : is_right built_in ≡ true
right = refl

known : helpers_by built_in ≡ helpers
known = refl

-- the answers of each step, at its first stand and at the last one before it
steps : map (taxi_minutes built_in) (0 ∷ 99 ∷ 100 ∷ 499 ∷ 500 ∷ 999 ∷ [])
    ≡ 10 ∷ 10 ∷ 15 ∷ 15 ∷ 20 ∷ 20 ∷ []
steps = refl

-- A320, B738, A388, and one that is not known
types : map (turn_round_minutes built_in) (808596289 ∷ 942880578 ∷ 943207233 ∷ 7 ∷ [])
    ≡ 45 ∷ 45 ∷ 120 ∷ 60 ∷ []
types = refl

-- an airport of its own
abbrev own : TablesView
own = record {
  types = (808596289, 40) ∷ [];
  other = 75;
  stands = (0, 7) ∷ (40, 9) ∷ [];
  steps = (0, 7) ∷ (40, 9) ∷ [];
}

own_right : is_right own ≡ true
own_right = refl

own_answers : (map (taxi_minutes own) (0 ∷ 39 ∷ 40 ∷ 999 ∷ []) ≡ 7 ∷ 7 ∷ 9 ∷ 9 ∷ [])
    × (map (turn_round_minutes own) (808596289 ∷ 942880578 ∷ []) ≡ 40 ∷ 75 ∷ [])
own_answers = (refl, refl)

-- tables that are not right
no_minute : is_right (record own { other = 0 }) ≡ false
no_minute = refl

an_hour_and_more : is_right (record own { steps = (0, 7) ∷ (40, 61) ∷ [] }) ≡ false
an_hour_and_more = refl

not_rising : is_right (record own { stands = (40, 7) ∷ (0, 9) ∷ [] }) ≡ false
not_rising = refl

no_such_stand : is_right (record own { stands = (1000, 7) ∷ [] }) ≡ false
no_such_stand = refl
