-- What a writer took in one write and another.
use Rattle.std.proofs.Common.{◌≡◌, ℕ, ◌+◌, List, ◌++◌, take, drop, ap, ◌∙◌, append_assoc}
use Rattle.std.proofs.Math.Seq.{take-add}

-- the first bytes, and then more of them
pub log-further : (old mid new bs : List ℕ) (at n : ℕ) → mid ≡ old ++ take at bs
    → new ≡ mid ++ take n (drop at bs) → new ≡ old ++ take (at + n) bs
log-further old mid new bs at n p q =
    rw (take-add at n bs)
    (q ∙ ap (λ l. l ++ take n (drop at bs)) p ∙ append_assoc old (take at bs) (take n (drop at bs)))
