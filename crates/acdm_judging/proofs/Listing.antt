-- The lines of a program, slot by slot.
use Rattle.std.proofs.Common.{◌≡◌, ℕ, zero, suc, ◌+◌, ◌<◌, List, [], ◌∷◌, ◌++◌, length, drop}
use Rattle.std.proofs.Common.{Option, Some, None, IfSome, refl, sym, ap, ◌∙◌, append_assoc, arith}
use Rattle.std.specs.Prelude.{slice_get}
use Rattle.std.proofs.lemmas.Option.{same_Some}
use Rattle.bpf_decode.specs.Listing.{line_text}
use Rattle.bpf_decode.specs.declared.op.Op.{Op}
use Rattle.acdm_judging.specs.Verdicts.{slots_text}

-- what is left before a slot: its operation, and what is left behind it
drop_next : (ops : List Op) (slot : ℕ) (op : Op) → slice_get ops slot ≡ Some op
    → drop slot ops ≡ op ∷ drop (suc slot) ops
drop_next [] slot op there = absurd (cc)
drop_next (x ∷ more) zero op there = ap (λ y. y ∷ more) (same_Some x op there)
drop_next (x ∷ more) (suc slot) op there = drop_next more slot op there

-- a place in a list has an element
no_place : (ops : List Op) (slot : ℕ) → slot < length ops → slice_get ops slot ≡ None → ⊥
no_place [] slot below none = omega (arith, below)
no_place (x ∷ more) zero below none = absurd (cc)
no_place (x ∷ more) (suc slot) below none = no_place more slot (omega (arith, below)) none

-- the line of one slot more was written
module _ (ops : List Op) (slot : ℕ) (old between new first : List ℕ) where
  line_then : (op : Op) → slice_get ops slot ≡ Some op
      → old ++ slots_text slot (drop slot ops) ≡ first
      → between ≡ old ++ line_text slot op → new ≡ between ++ 10 ∷ []
      → new ++ slots_text (slot + 1) (drop (slot + 1) ops) ≡ first
  line_then op there sofar wrote ended =
      let next : slot + 1 ≡ suc slot = omega arith in
      let left = slots_text (slot + 1) (drop (slot + 1) ops) in
      let behind : op ∷ drop (slot + 1) ops ≡ drop slot ops =
      ap (λ n. op ∷ drop n ops) next ∙ sym (drop_next ops slot op there) in
      ap (λ t. t ++ left) (ended ∙ ap (λ t. t ++ 10 ∷ []) wrote)
      ∙ append_assoc (old ++ line_text slot op) (10 ∷ []) left
      ∙ append_assoc old (line_text slot op) (10 ∷ left)
      ∙ ap (λ xs. old ++ slots_text slot xs) behind
      ∙ sofar

  go : (o : Option Op) → slice_get ops slot ≡ o → slot < length ops
      → IfSome o (λ op. between ≡ old ++ line_text slot op)
      → new ≡ between ++ 10 ∷ [] → old ++ slots_text slot (drop slot ops) ≡ first
      → new ++ slots_text (slot + 1) (drop (slot + 1) ops) ≡ first
  go (Some op) there below wrote ended sofar = line_then op there sofar wrote ended
  go None there below wrote ended sofar = absurd (no_place ops slot below there)

  pub one_line : slot < length ops
      → IfSome (slice_get ops slot) (λ op. between ≡ old ++ line_text slot op)
      → new ≡ between ++ 10 ∷ [] → old ++ slots_text slot (drop slot ops) ≡ first
      → new ++ slots_text (slot + 1) (drop (slot + 1) ops) ≡ first
  one_line = go (slice_get ops slot) refl
