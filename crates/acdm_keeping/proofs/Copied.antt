-- What was copied in two parts.
use Rattle.std.proofs.Common.{◌≡◌, ℕ, ◌+◌, ◌-◌, ◌≤◌, ◌∙◌, ap, arith, List, ◌++◌, length, append_assoc, length-append}
use Rattle.acdm_keeping.specs.Copied.{Copies}

-- further bytes were copied behind others, and fewer are left of all
pub copied_more : (bytes left count : ℕ) (given given_then given_after taken taken_then taken_after : List ℕ)
    → (before : (done : ℕ) × (done + left ≡ bytes) × Copies done given given_then taken taken_then)
    → Copies count given_then given_after taken_then taken_after → count ≤ left
    → (done : ℕ) × (done + (left - count) ≡ bytes) × Copies done given given_after taken taken_after
copied_more bytes left count given given_then given_after taken taken_then taken_after before more within = (
  before.0 + count,
  omega arith,
  (
    before.2.0 ++ more.0,
    length-append before.2.0 more.0 ∙ ap (λ n. n + length more.0) before.2.1 ∙ ap (λ n. before.0 + n) more.1,
    more.2 ∙ ap (λ l. l ++ more.0) before.2.2 ∙ append_assoc given before.2.0 more.0,
    more.3 ∙ ap (λ l. l ++ more.0) before.2.3 ∙ append_assoc taken before.2.0 more.0,
  ),
)
