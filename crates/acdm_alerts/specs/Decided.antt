-- The alerts that local programs decide (this project's profile): CDM14, no automatic TOBT, which
-- is bit 14, and the local alerts, which are the bits from 16 on.
use Rattle.std.specs.Prelude.{ℕ, ◌+◌, ◌*◌, ◌/◌, ◌%◌, Bool, if◌then◌else◌}

-- bit 14, where a TOBT was rejected
abbrev pub rejection_bit : Bool → ℕ
rejection_bit rejected = if rejected then 16384 else 0

-- what programs decided: whether they rejected a TOBT, and which local alerts there are
abbrev pub decided_word : Bool → ℕ → ℕ
decided_word rejected locals = locals * 65536 + rejection_bit rejected

-- a word with CDM14 set or clear
abbrev pub with_rejection : Bool → ℕ → ℕ
with_rejection rejected word = word / 32768 * 32768 + rejection_bit rejected + word % 16384

-- a word with other local alerts
abbrev pub with_locals : ℕ → ℕ → ℕ
with_locals locals word = locals * 65536 + word % 65536
