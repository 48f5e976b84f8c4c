-- The table of a forward pass: for each slot what edges have brought so far (this project's
-- profile).
use Rattle.std.specs.Prelude.{◌≡◌, ℕ, List, [], ◌∷◌, Option, Some, None, slice_get, slice_set}
use Rattle.std.specs.Prelude.{slice_index_or}
use Rattle.bpf_decode.specs.declared.op.Op.{Op}
use Rattle.bpf_helpers.specs.Promise.{Promise}
use Rattle.bpf_regstate.specs.Shape.{Shape}
use Rattle.bpf_regstate.specs.Edges.{edges}
use Rattle.bpf_regstate.specs.Faults.{faults, least}
use Rattle.bpf_regstate.specs.Pass.{with_edge}

-- one edge is joined into what its end has
abbrev pub put_edge : List (Option Shape) → ℕ × Shape → List (Option Shape)
put_edge table e = slice_set table e.0 (with_edge (slice_index_or table e.0 None) e.1)

-- all edges, one after the other
abbrev pub sent : List (Option Shape) → List (ℕ × Shape) → List (Option Shape)
sent table [] = table
sent table (e ∷ es) = sent (put_edge table e) es

-- all edges of a slot, by what is known there
abbrev pub sent_from : ℕ → List (ℕ × Promise) → ℕ → Op → Option Shape → List (Option Shape)
    → List (Option Shape)
sent_from record_length sigs slot op None table = table
sent_from record_length sigs slot op (Some s) table = sent table (edges record_length sigs slot op s)

-- the fault of a slot by its row of the table, and without one the table with its edges in the
-- row's place
pub record PassesAs (record_length : ℕ) (ops : List Op) (sigs : List (ℕ × Promise)) (slot : ℕ)
    (old new : List (Option Shape)) (op : Op) (fault : Option ℕ) : Type 0 where
  pub found : fault ≡ least (faults record_length ops sigs slot op (slice_index_or old slot None))
  pub sent_all : fault ≡ None
      → new ≡ sent_from record_length sigs slot op (slice_index_or old slot None) (slice_set old slot None)

abbrev pub Passes : ℕ → List Op → List (ℕ × Promise) → ℕ → List (Option Shape) → List (Option Shape)
    → Option ℕ → Type 0
Passes record_length ops sigs slot old new fault = (op : Op) → slice_get ops slot ≡ Some op
    → PassesAs record_length ops sigs slot old new op fault
