-- What is added in parts.
use Rattle.std.proofs.Common.{◌≡◌, ℕ, List, ◌++◌, ap, ◌∙◌, append_assoc}

-- a part was added behind another
pub behind : (old mid new front back : List ℕ) → mid ≡ old ++ front → new ≡ mid ++ back
    → new ≡ old ++ (front ++ back)
behind old mid new front back is added =
    added ∙ ap (λ l. l ++ back) is ∙ append_assoc old front back
