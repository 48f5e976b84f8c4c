-- What is kept of words, by index.
use Rattle.std.proofs.Common.{◌≡◌, ℕ, zero, suc, ◌+◌, ◌-◌, ◌<◌, ◌≤◌, ◌⊎◌, List, [], ◌∷◌, ◌++◌}
use Rattle.std.proofs.Common.{length, take, replicate, set, refl, sym, ap, ◌∙◌, arith, ⊎_elim}
use Rattle.std.proofs.lemmas.List.{length-take}
use Rattle.bpf_helpers.specs.declared.range.Range.{Range}
use Rattle.bpf_regstate.specs.declared.reg.Reg.{Reg}
use Rattle.bpf_regstate.specs.declared.reg.Reg.TheVariants.{Uninit, Known}
use Rattle.bpf_regstate.specs.Effect.{with_word, without_words}
use Rattle.bpf_regstate.specs.Joins.{zip_with}
use Rattle.bpf_regstate.proofs.Shapes.{length-zip_with}

-- one more, in a list that has it, and in one that has to grow
pub with_inside : (xs : List Reg) (w : ℕ) (r : Range) → w < length xs
    → set xs w (Known r) ≡ with_word xs w r
with_inside [] w r less = absurd (omega arith)
with_inside (x ∷ xs) zero r less = refl
with_inside (x ∷ xs) (suc w) r less =
    ap (λ (l : List Reg). x ∷ l) (with_inside xs w r (omega arith))

pub with_grown : (xs : List Reg) (w : ℕ) (r : Range) → length xs ≤ w
    → set (take (suc w) xs ++ replicate (suc w - length xs) Uninit) w (Known r) ≡ with_word xs w r
with_grown [] zero r past = refl
with_grown [] (suc w) r past =
    let more : suc (suc w) - 0 ≡ suc (suc w) = omega arith in
    let fewer : suc w - 0 ≡ suc w = omega arith in
    rw more (ap (λ (l : List Reg). Uninit ∷ l) (rw fewer at (with_grown [] w r (omega arith))))
with_grown (x ∷ xs) zero r past = absurd (omega arith)
with_grown (x ∷ xs) (suc w) r past =
    let same : suc (suc w) - suc (length xs) ≡ suc w - length xs = omega arith in
    rw same (ap (λ (l : List Reg). x ∷ l) (with_grown xs w r (omega arith)))

-- a list that has grown
pub with_room : (xs after : List Reg) (w n : ℕ) (r : Range) → n ≡ length xs → n ≤ w
    → after ≡ take (w + 1) xs ++ replicate (w + 1 - n) Uninit
    → set after w (Known r) ≡ with_word xs w r
with_room xs after w n r e past is =
    let next : w + 1 ≡ suc w = omega arith in
    let grown : set (take (w + 1) xs ++ replicate (w + 1 - n) Uninit) w (Known r)
    ≡ with_word xs w r = rw (next, e) (with_grown xs w r (omega (arith, e, past))) in
    ap (λ (l : List Reg). set l w (Known r)) is ∙ grown

-- one fewer, and none of those behind the list
pub without_none : (xs : List Reg) (w : ℕ) → without_words xs w 0 ≡ xs
without_none [] w = refl
without_none (x ∷ xs) zero = refl
without_none (x ∷ xs) (suc w) = ap (λ (l : List Reg). x ∷ l) (without_none xs w)

pub without_more : (xs : List Reg) (w count : ℕ) → w + count < length xs
    → set (without_words xs w count) (w + count) Uninit ≡ without_words xs w (suc count)
without_more [] w count less = absurd (omega arith)
without_more (x ∷ xs) zero zero less =
    ap (λ (l : List Reg). Uninit ∷ l) (sym (without_none xs zero))
without_more (x ∷ xs) zero (suc count) less =
    let next : zero + suc count ≡ suc (zero + count) = omega arith in
    rw next (ap (λ (l : List Reg). Uninit ∷ l) (without_more xs zero count (omega arith)))
without_more (x ∷ xs) (suc w) count less =
    let next : suc w + count ≡ suc (w + count) = omega arith in
    rw next (ap (λ (l : List Reg). x ∷ l) (without_more xs w count (omega arith)))

pub without_rest : (xs : List Reg) (w few count : ℕ) → length xs ≤ w + few → few ≤ count
    → without_words xs w few ≡ without_words xs w count
without_rest [] w few count past more = refl
without_rest (x ∷ xs) zero zero count past more = absurd (omega arith)
without_rest (x ∷ xs) zero (suc few) zero past more = absurd (omega arith)
without_rest (x ∷ xs) zero (suc few) (suc count) past more =
    ap (λ (l : List Reg). Uninit ∷ l) (without_rest xs zero few count (omega arith) (omega arith))
without_rest (x ∷ xs) (suc w) few count past more =
    ap (λ (l : List Reg). x ∷ l) (without_rest xs w few count (omega arith) more)

-- a loop that forgets one word after the other
pub without_step : (xs moment : List Reg) (w place : ℕ) → w ≤ place → place < length xs
    → moment ≡ without_words xs w (place - w)
    → set moment place Uninit ≡ without_words xs w (place + 1 - w)
without_step xs moment w place low high e =
    let here : w + (place - w) ≡ place = omega (arith, low) in
    let next : place + 1 - w ≡ suc (place - w) = omega (arith, low) in
    let step : set (without_words xs w (place - w)) place Uninit
    ≡ without_words xs w (suc (place - w)) =
    rw here at (without_more xs w (place - w) (omega (arith, here, high))) in
    ap (λ (l : List Reg). set l place Uninit) e ∙ rw next step

pub without_end : (xs moment : List Reg) (w place count : ℕ) → w ≤ place
    → place ≤ w + count → (w + count ≤ place) ⊎ (length xs ≤ place)
    → moment ≡ without_words xs w (place - w) → moment ≡ without_words xs w count
without_end xs moment w place count low high past e = e ∙ ⊎_elim
    (λ (all : w + count ≤ place). let same : place - w ≡ count = omega (arith, low, high, all) in
    ap (without_words xs w) same)
    (λ (last : length xs ≤ place).
    without_rest xs w (place - w) count (omega (arith, low, last)) (omega (arith, high)))
    past

-- a join goes as far as both lists
pub zip_cut : (f : Reg → Reg → Reg) (xs ys : List Reg)
    → zip_with f (take (length ys) xs) (take (length (take (length ys) xs)) ys) ≡ zip_with f xs ys
zip_cut f [] [] = refl
zip_cut f [] (y ∷ ys) = refl
zip_cut f (x ∷ xs) [] = refl
zip_cut f (x ∷ xs) (y ∷ ys) = ap (λ (l : List Reg). f x y ∷ l) (zip_cut f xs ys)

pub join_cut : (f : Reg → Reg → Reg) (xs ys old new : List Reg) (n : ℕ)
    → old ≡ take (length ys) xs → n ≡ length old → new ≡ zip_with f old (take n ys)
    → (length new ≡ length old) × (new ≡ zip_with f xs ys)
join_cut f xs ys old new n e m j =
    let cut : new ≡ zip_with f (take (length ys) xs) (take (length (take (length ys) xs)) ys) =
    j ∙ ap (λ (k : ℕ). zip_with f old (take k ys)) (m ∙ ap length e)
    ∙ ap (λ (l : List Reg). zip_with f l (take (length (take (length ys) xs)) ys)) e in
    let few : length old ≡ length (take n ys) =
    omega (arith, ap length e, length-take (length ys) xs, length-take n ys, m) in
    (ap length j ∙ length-zip_with f old (take n ys) few, cut ∙ zip_cut f xs ys)
