-- Where an instruction leads, and what is known there (this project's profile).
use Rattle.std.specs.Prelude.{ℕ, ◌+◌, List, [], ◌∷◌, ◌++◌, true, false, Option, Some, None}
use Rattle.bpf_decode.specs.declared.op.Op.{Op}
use Rattle.bpf_decode.specs.declared.op.Op.TheVariants.{Ja, Ja32, Jump, Exit, Tail}
use Rattle.bpf_helpers.specs.Promise.{Promise}
use Rattle.bpf_semantics.specs.Machine.{target, next_slot}
use Rattle.bpf_regstate.specs.Shape.{Shape}
use Rattle.bpf_regstate.specs.Effect.{after_op}
use Rattle.bpf_regstate.specs.Narrowing.{refined}

-- an edge to a slot, where there is one
abbrev pub edge : Option ℕ → Option Shape → List (ℕ × Shape)
edge None s = []
edge (Some to) None = []
edge (Some to) (Some s) = (to, s) ∷ []

module _ (record_length : ℕ) (sigs : List (ℕ × Promise)) where
  -- where a slot without a fault leads; a conditional jump has two edges, also where both lead to
  -- one slot
  abbrev pub edges : ℕ → Op → Shape → List (ℕ × Shape)
  edges slot (Ja offset) s = edge (target slot offset) (Some s)
  edges slot (Ja32 offset) s = edge (target slot offset) (Some s)
  edges slot (Jump w condition dst from offset) s =
      edge (target slot offset) (refined w condition dst from true s)
      ++ edge (Some (slot + 1)) (refined w condition dst from false s)
  edges slot Exit s = []
  edges slot Tail s = []
  edges slot op s = (next_slot slot op, after_op record_length sigs op s) ∷ []
