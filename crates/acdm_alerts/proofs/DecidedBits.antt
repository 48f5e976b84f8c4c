-- What is decided stands apart from what is computed, so that each can be read and changed alone.
use Rattle.std.proofs.Common.{◌≡◌, ℕ, ◌+◌, ◌*◌, ◌/◌, ◌%◌, ◌<◌, ◌≤◌, Bool, true, false, arith}
use Rattle.acdm_alerts.specs.Conditions.{kept_bits}
use Rattle.acdm_alerts.specs.Decided.{rejection_bit, decided_word, with_rejection, with_locals}
use Rattle.acdm_alerts.proofs.Sums.{IsComputed}

rejection : (b : Bool) → (n : ℕ) × (rejection_bit b ≡ n * 16384) × (n ≤ 1)
rejection true = (1, omega arith, omega arith)
rejection false = (0, omega arith, omega arith)

module _ (x : ℕ) (computed : IsComputed x) (b : Bool) (l : ℕ) where
  -- what is kept of a word is what was decided
  pub kept_bits-decided : kept_bits (decided_word b l + x) ≡ decided_word b l
  kept_bits-decided =
      let r = rejection b in
      go x (2 * computed.plan + 128 * computed.time) computed.fifteenth (rejection_bit b) r.0
      computed.is_sum (omega (arith, computed.plan_is_low, computed.time_is_low))
      computed.is_bit r.1 r.2
    where
      go : (x low bit rb n : ℕ) → x ≡ low + 32768 * bit → low < 16384 → bit ≤ 1 → rb ≡ n * 16384
          → n ≤ 1 → kept_bits (l * 65536 + rb + x) ≡ l * 65536 + rb
      go x low bit rb n e s t f u = omega arith

  pub with_rejection-decided : (c : Bool)
      → with_rejection c (decided_word b l + x) ≡ decided_word c l + x
  with_rejection-decided c =
      let r = rejection b in
      go x (2 * computed.plan + 128 * computed.time) computed.fifteenth (rejection_bit b) r.0
      (rejection_bit c) computed.is_sum
      (omega (arith, computed.plan_is_low, computed.time_is_low)) computed.is_bit r.1 r.2
    where
      go : (x low bit rb n cb : ℕ) → x ≡ low + 32768 * bit → low < 16384 → bit ≤ 1 → rb ≡ n * 16384
          → n ≤ 1
          → (l * 65536 + rb + x) / 32768 * 32768 + cb + (l * 65536 + rb + x) % 16384
          ≡ l * 65536 + cb + x
      go x low bit rb n cb e s t f u = omega arith

  pub with_locals-decided : (k : ℕ) → with_locals k (decided_word b l + x) ≡ decided_word b k + x
  with_locals-decided k =
      let r = rejection b in
      go x (2 * computed.plan + 128 * computed.time) computed.fifteenth (rejection_bit b) r.0
      computed.is_sum (omega (arith, computed.plan_is_low, computed.time_is_low))
      computed.is_bit r.1 r.2
    where
      go : (x low bit rb n : ℕ) → x ≡ low + 32768 * bit → low < 16384 → bit ≤ 1 → rb ≡ n * 16384
          → n ≤ 1
          → k * 65536 + (l * 65536 + rb + x) % 65536 ≡ k * 65536 + rb + x
      go x low bit rb n e s t f u = omega arith
