-- When a board goes on from a journal that is kept, by its term and by that of the board's peer.
use Rattle.std.specs.Prelude.{ℕ, ◌≡◌, Bool, true, false, nat_lt, Option, Some, None}
use Rattle.acdm_failures.specs.declared.failure.Failure.{Failure}
use Rattle.acdm_failures.specs.declared.failure.Failure.TheVariants.{Keep, Memory, Peer, Replaced}
use Rattle.acdm_commands.specs.declared.term.AskedPeer.{AskedPeer}
use Rattle.acdm_commands.specs.declared.term.PeerTerm.{PeerTerm}
use Rattle.acdm_commands.specs.declared.term.PeerTerm.TheVariants.{Asked, Unasked, Unreached}

-- A journal of a term may be gone on from, beside what is known of the peer: it was asked, and has no later term; or it
-- could not be asked; or, where this board follows another one before it serves, it is asked only then.
abbrev pub IsNoLater : Bool → ℕ → PeerTerm → Type 0
IsNoLater follows own (Asked other) = nat_lt own other ≡ false
IsNoLater follows own (Unreached why) = follows ≡ false
IsNoLater follows own Unasked = follows ≡ true

abbrev pub MayGoOn : Bool → Bool → ℕ → Option AskedPeer → Type 0
MayGoOn follows peered own None = peered ≡ false
MayGoOn follows peered own (Some peer) = (peered ≡ true) × IsNoLater follows own peer.term

-- why it may not be gone on from: where there is a peer, it has a later term, or its address is none; the term of the
-- journal can't be read; or memory was refused
abbrev pub FailsByTerm : Bool → Failure → Type 0
FailsByTerm peered Replaced = peered ≡ true
FailsByTerm peered Peer = peered ≡ true
FailsByTerm peered Keep = Unit {0}
FailsByTerm peered Memory = Unit {0}
FailsByTerm peered failure = ⊥
