-- What a helper owes of its code: the two conditions that go with every helper.
use Rattle.std.specs.Prelude.{ℕ, [], ◌∷◌, IsTrue}
use Rattle.bpf_helpers.specs.Promise.{Promise, is_call, is_promised}

-- It may be called on all arguments of the signature, those that are not used being 0.
abbrev pub IsCallable : Promise → (ℕ → ℕ → ℕ → ℕ → ℕ → Type 0) → Type 0
IsCallable sig pre = (a b c d e : ℕ) → IsTrue (is_call sig (a ∷ b ∷ c ∷ d ∷ e ∷ [])) → pre a b c d e

-- Whatever it then answers, the signature promises.
abbrev pub KeepsPromise : Promise → (ℕ → ℕ → ℕ → ℕ → ℕ → ℕ → Type 0) → Type 0
KeepsPromise sig post =
    (a b c d e answer : ℕ) → IsTrue (is_call sig (a ∷ b ∷ c ∷ d ∷ e ∷ [])) → post a b c d e answer
    → IsTrue (is_promised sig (a ∷ b ∷ c ∷ d ∷ e ∷ []) answer)
