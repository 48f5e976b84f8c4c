-- A part of a list is replaced.
use Rattle.std.proofs.Common.{◌≡◌, ℕ, ◌+◌, ◌-◌, ◌<◌, ◌≤◌, List, ◌++◌, length, take, drop, ap, ◌∙◌}
use Rattle.std.proofs.Common.{arith, ◌⊎◌, inl, inr, get_or, ⊎_elim}
use Rattle.std.proofs.lemmas.Bool.{cases_lt}
use Rattle.std.proofs.lemmas.List.{get_or-drop, get_or-take, get_or-append_right}
use Rattle.std.proofs.lemmas.List.{get_or_append_left, length-append, length-drop, length-take-le}

pub outside : {X : Type 0} (xs ys : List X) (at n j : ℕ) (d : X) → length ys ≡ n
    → at + n ≤ length xs → (j < at) ⊎ (at + n ≤ j)
    → get_or (take at xs ++ (ys ++ drop (at + n) xs)) j d ≡ get_or xs j d
outside xs ys at n j d len fits (inl less) =
    let front : length (take at xs) ≡ at = length-take-le at xs (omega arith) in
    get_or_append_left (take at xs) (ys ++ drop (at + n) xs) d j (omega arith)
    ∙ get_or-take at xs j d less
outside xs ys at n j d len fits (inr more) =
    let front : length (take at xs) ≡ at = length-take-le at xs (omega arith) in
    let there : (at + n) + ((j - at) - n) ≡ j = omega arith in
    get_or-append_right (take at xs) (ys ++ drop (at + n) xs) at j d front (omega arith)
    ∙ get_or-append_right ys (drop (at + n) xs) n (j - at) d len (omega arith)
    ∙ get_or-drop (at + n) xs ((j - at) - n) d
    ∙ ap (λ (x : ℕ). get_or xs x d) there

pub inside : {X : Type 0} (xs ys : List X) (at n j : ℕ) (d : X) → length ys ≡ n → at + n ≤ length xs
    → at ≤ j → j < at + n
    → get_or (take at xs ++ (ys ++ drop (at + n) xs)) j d ≡ get_or ys (j - at) d
inside xs ys at n j d len fits low high =
    let front : length (take at xs) ≡ at = length-take-le at xs (omega arith) in
    get_or-append_right (take at xs) (ys ++ drop (at + n) xs) at j d front low
    ∙ get_or_append_left ys (drop (at + n) xs) d (j - at) (omega arith)

pub length-replaced : {X : Type 0} (xs ys : List X) (at n : ℕ) → length ys ≡ n → at + n ≤ length xs
    → length (take at xs ++ (ys ++ drop (at + n) xs)) ≡ length xs
length-replaced xs ys at n len fits =
    omega (
      arith,
      length-append (take at xs) (ys ++ drop (at + n) xs),
      length-append ys (drop (at + n) xs),
      length-take-le at xs (omega arith),
      length-drop (at + n) xs,
      len,
    )

-- before, in or behind a part
pub where_is : (at n j : ℕ) → ((j < at) ⊎ (at + n ≤ j)) ⊎ ((at ≤ j) × (j < at + n))
where_is at n j = ⊎_elim (λ (less : j < at). inl (inl less))
    (λ (low : at ≤ j). ⊎_elim (λ (high : j < at + n). inr (low, high))
    (λ (past : at + n ≤ j). inl (inr past)) (cases_lt j (at + n))) (cases_lt j at)
