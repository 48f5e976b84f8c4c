-- What a signature promises of a helper's answers. RFC 9669, section 4.3.1, has helper functions
-- that a program calls by their number; signatures, ranges and tables are this project's profile.
use Rattle.std.specs.Prelude.{ℕ, ◌^◌, List, [], ◌∷◌, length, drop, filter, Bool, true, false, ◌&&◌}
use Rattle.std.specs.Prelude.{◌==◌, nat_lt, nat_le, Option, Some, None, if◌then◌else◌}
use Rattle.std.specs.List.{list_all}
use Rattle.bpf_helpers.specs.declared.range.Range.{Range}

-- a signature, without where it lies in memory
pub record Promise : Type 0 where
  pub args : List Range
  pub answer : Range
  pub table : List (ℕ × ℕ)

-- ---- ranges

abbrev pub is_in : Range → ℕ → Bool
is_in r x = nat_le r.lo x && nat_le x r.hi

-- lo to hi are words, and there is one
abbrev pub is_ordered : Range → Bool
is_ordered r = nat_le r.lo r.hi && nat_lt r.hi (2 ^ 64)

-- ---- which signatures there are

-- each key of the table is above the one before
abbrev pub do_keys_rise : List (ℕ × ℕ) → Bool
do_keys_rise [] = true
do_keys_rise (entry ∷ []) = true
do_keys_rise (entry ∷ next ∷ table) = nat_lt entry.0 next.0 && do_keys_rise (next ∷ table)

-- a first argument, if there is one, may be the key
abbrev pub is_key : List Range → ℕ → Bool
is_key [] key = false
is_key (first ∷ rest) key = is_in first key

-- at most five arguments, a range for each and for the answer, and a table within them by rising
-- keys
abbrev pub is_well_formed : Promise → Bool
is_well_formed sig =
    nat_le (length sig.args) 5 && list_all is_ordered sig.args && is_ordered sig.answer
    && do_keys_rise sig.table
    && list_all (λ entry. is_key sig.args entry.0 && is_in sig.answer entry.1) sig.table

-- ---- what a signature promises

-- each argument of the signature lies in its range
abbrev pub are_in : List Range → List ℕ → Bool
are_in [] xs = true
are_in (r ∷ rs) [] = false
are_in (r ∷ rs) (x ∷ xs) = is_in r x && are_in rs xs

-- where the first argument is a key of the table, the answer is the table's: so says each entry of
-- that key
abbrev pub agrees : List (ℕ × ℕ) → List ℕ → ℕ → Bool
agrees table [] answer = true
agrees table (first ∷ xs) answer =
    list_all (λ entry. entry.1 == answer) (filter (λ entry. entry.0 == first) table)

-- the helper may answer so
abbrev pub is_promised : Promise → List ℕ → ℕ → Bool
is_promised sig xs answer = are_in sig.args xs && is_in sig.answer answer
    && agrees sig.table xs answer

-- a helper may be called so: its arguments lie in their ranges, and nothing but zeros comes after
-- them
abbrev pub is_call : Promise → List ℕ → Bool
is_call sig xs = are_in sig.args xs && list_all (λ x. x == 0) (drop (length sig.args) xs)

-- ---- several signatures, each with its number

abbrev pub are_well_formed : List (ℕ × Promise) → Bool
are_well_formed sigs = list_all (λ entry. is_well_formed entry.1) sigs

abbrev pub signature_of : List (ℕ × Promise) → ℕ → Option Promise
signature_of [] number = None
signature_of (entry ∷ sigs) number =
    if entry.0 == number then Some entry.1 else signature_of sigs number

abbrev pub is_call_by : Option Promise → List ℕ → Bool
is_call_by None xs = false
is_call_by (Some sig) xs = is_call sig xs

abbrev pub is_answer_by : Option Promise → List ℕ → ℕ → Bool
is_answer_by None xs answer = false
is_answer_by (Some sig) xs answer = is_promised sig xs answer

-- the helper of this number is known and may be called so
abbrev pub is_question : List (ℕ × Promise) → ℕ → List ℕ → Bool
is_question sigs number xs = is_call_by (signature_of sigs number) xs

-- the helper of this number is known and may answer so
abbrev pub is_answer : List (ℕ × Promise) → ℕ → List ℕ → ℕ → Bool
is_answer sigs number xs answer = is_answer_by (signature_of sigs number) xs answer
