-- The three helpers that programs of this project may call (profile): their signatures, and what
-- their code answers.
use Rattle.std.specs.Prelude.{ℕ, [], ◌∷◌, ◌==◌, nat_lt, if◌then◌else◌}
use Rattle.bpf_helpers.specs.Promise.{Promise}

-- Helper 1: the least turn-round time, in minutes, of an aircraft type, whose four bytes are a
-- little-endian number.
abbrev pub turn_round : Promise
turn_round = record {
  args = record { lo = 0; hi = 4294967295 } ∷ [];
  answer = record { lo = 1; hi = 1440 };
  table = (808596289, 45) ∷ (942880578, 45) ∷ (943207233, 120) ∷ [];
}

abbrev pub turn_round_of : ℕ → ℕ
turn_round_of kind = if kind == 808596289 then 45 else
    (if kind == 942880578 then 45 else (if kind == 943207233 then 120 else 60))

-- Helper 2: the taxi time, in minutes, from a stand.
abbrev pub taxi : Promise
taxi = record {
  args = record { lo = 0; hi = 999 } ∷ [];
  answer = record { lo = 1; hi = 60 };
  table = (12, 10) ∷ (120, 15) ∷ (900, 20) ∷ [];
}

abbrev pub taxi_from : ℕ → ℕ
taxi_from stand = if nat_lt stand 100 then 10 else (if nat_lt stand 500 then 15 else 20)

-- Helper 3: a sum of minutes.
abbrev pub sum : Promise
sum = record {
  args = record { lo = 0; hi = 4294967295 } ∷ record { lo = 0; hi = 10000 } ∷ [];
  answer = record { lo = 0; hi = 4294977295 };
  table = [];
}
