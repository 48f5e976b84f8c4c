-- What waits at the slots, row by row.
use Rattle.std.proofs.Common.{◌≡◌, ℕ, zero, suc, List, ◌++◌, [], ◌∷◌, set, get_or, replicate}
use Rattle.std.proofs.Common.{Option, Some, None, refl, ap, ◌∙◌}
use Rattle.std.proofs.lemmas.List.{set-set}
use Rattle.std.specs.declared.boxed.Box.{Box}
use Rattle.std.specs.declared.alloc.Global.{Global}
use Rattle.bpf_regstate.specs.Shape.{Shape}
use Rattle.bpf_regstate.specs.Pass.{with_edge}
use Rattle.bpf_verifier.specs.Rows.{rows_of}
use Rattle.bpf_verifier.specs.Table.{put_edge}

abbrev empty : Option (Box Shape Global)
empty = None

empty_rows : (n : ℕ) → rows_of (replicate n empty) ≡ replicate n None
empty_rows zero = refl
empty_rows (suc n) = ap (λ l. None ∷ l) (empty_rows n)

-- one state was pushed onto no rows, and then rows without any: it waits before them
pub first_waits : (rows pushed before : List (Option (Box Shape Global))) (b : Box Shape Global)
    (s : Shape) (n count : ℕ)
    → rows ≡ pushed ++ replicate count None → count ≡ n → pushed ≡ before ++ Some b ∷ []
    → before ≡ [] → b.value ≡ s → rows_of rows ≡ Some s ∷ replicate n None
first_waits rows pushed before b s n count all counted pushes none one =
    rw (all, pushes, none, counted, one) (ap (λ l. Some s ∷ l) (empty_rows n))

-- what waited is taken, joined and put back
pub put_back : (now after : List (Option Shape)) (to : ℕ) (known : Option Shape) (s both : Shape)
    → after ≡ set now to None
    → known ≡ get_or now to None → Some both ≡ with_edge known s
    → set after to (Some both) ≡ put_edge now (to, s)
put_back now after to known s both gone taken joined =
    ap (λ l. set l to (Some both)) gone
    ∙ set-set now to None (Some both)
    ∙ ap (λ o. set now to o) joined
    ∙ ap (λ k. set now to (with_edge k s)) taken
