-- One pass forward over a program: what its slots have brought to the later ones so far (this
-- project's profile).
use Rattle.std.specs.Prelude.{ℕ, List, [], ◌∷◌, ◌++◌, Option, Some, None}
use Rattle.bpf_decode.specs.declared.op.Op.{Op}
use Rattle.bpf_helpers.specs.Promise.{Promise}
use Rattle.bpf_regstate.specs.Shape.{Shape}
use Rattle.bpf_regstate.specs.Joins.{joined}
use Rattle.bpf_regstate.specs.States.{arriving, entering, join_all, states}

-- one more edge, joined into what is there
abbrev pub with_edge : Option Shape → Shape → Option Shape
with_edge None s = Some s
with_edge (Some t) s = Some (joined t s)

-- one edge after the other
abbrev pub with_edges : Option Shape → List Shape → Option Shape
with_edges o [] = o
with_edges o (s ∷ ss) = with_edges (with_edge o s) ss

module _ (record_length : ℕ) (ops : List Op) (sigs : List (ℕ × Promise)) where
  -- what all edges from the first n slots bring to a slot
  abbrev pub so_far : ℕ → ℕ → Option Shape
  so_far n to =
      join_all (entering record_length to
      ++ arriving record_length ops sigs to 0 (states record_length ops sigs n))
