-- Worked examples over the definitions alone.
use Rattle.std.proofs.Common.{◌≡◌, true, false, [], ◌∷◌, refl}
use Rattle.bpf_helpers.specs.Promise.{is_answer, is_promised, is_question, is_well_formed}
use Rattle.bpf_helpers.specs.Known.{sum, taxi, turn_round}

-- ---- which signatures there are

all_three : (is_well_formed turn_round ≡ true) × (is_well_formed taxi ≡ true)
    × (is_well_formed sum ≡ true)
all_three = (refl, refl, refl)

six_arguments : is_well_formed (record {
  args = record { lo = 0; hi = 1 } ∷ record { lo = 0; hi = 1 } ∷ record { lo = 0; hi = 1 }
      ∷ record { lo = 0; hi = 1 } ∷ record { lo = 0; hi = 1 } ∷ record { lo = 0; hi = 1 } ∷ [];
  answer = record { lo = 0; hi = 1 };
  table = [];
}) ≡ false
six_arguments = refl

empty_range : is_well_formed (record taxi { answer = record { lo = 61; hi = 60 } }) ≡ false
empty_range = refl

equal_keys : is_well_formed (record taxi { table = (12, 10) ∷ (12, 10) ∷ [] }) ≡ false
equal_keys = refl

key_outside : is_well_formed (record taxi { table = (1000, 10) ∷ [] }) ≡ false
key_outside = refl

no_argument : is_well_formed (record taxi { args = [] }) ≡ false
no_argument = refl

answer_outside : is_well_formed (record taxi { table = (12, 61) ∷ [] }) ≡ false
answer_outside = refl

-- ---- what one promises

-- stand 5 isn't in the table, stand 12 is
stand_5 : (is_promised taxi (5 ∷ []) 20 ≡ true) × (is_promised taxi (5 ∷ []) 61 ≡ false)
    × (is_promised taxi (5 ∷ []) 0 ≡ false)
stand_5 = (refl, refl, refl)

stand_12 : (is_promised taxi (12 ∷ []) 20 ≡ false) × (is_promised taxi (12 ∷ []) 10 ≡ true)
stand_12 = (refl, refl)

-- arguments beyond the signature aren't read
beyond : is_promised taxi (12 ∷ 7 ∷ []) 10 ≡ true
beyond = refl

missing : is_promised sum (12 ∷ []) 12 ≡ false
missing = refl

-- ---- questions by number

asked : (is_question ((3, sum) ∷ []) 3 (7 ∷ 5 ∷ 0 ∷ 0 ∷ 0 ∷ []) ≡ true)
    × (is_question ((3, sum) ∷ []) 3 (7 ∷ 5 ∷ 1 ∷ 0 ∷ 0 ∷ []) ≡ false)
asked = (refl, refl)

unknown : (is_question ((3, sum) ∷ []) 2 (7 ∷ 0 ∷ 0 ∷ 0 ∷ 0 ∷ []) ≡ false)
    × (is_answer ((3, sum) ∷ []) 2 (7 ∷ []) 7 ≡ false)
unknown = (refl, refl)
