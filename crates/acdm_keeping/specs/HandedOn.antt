-- What replies were handed on behind a keeper that is shared.
use Rattle.std.specs.Prelude.{ℕ, is_some, Option}
use Rattle.acdm_keeping.specs.Behind.{IsHanded}
use Rattle.acdm_keeping.specs.declared.replies.Replies.{Replies}
use Rattle.acdm_keeping.specs.declared.shared.Waiter.{Waiter}

-- of no entry is told by what was handed on that this receipt is not for, if a journal is kept
abbrev pub IsHandedBy : {F J Rt W : Type 0} → Replies (Waiter F J Rt) W → Option ℕ → Type 0
IsHandedBy replies receipt = IsHanded (is_some replies.backed.keeper.keeper) replies.backed.handed receipt
