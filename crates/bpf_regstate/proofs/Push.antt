-- What is state_from together over all edges is what they push, one after the other.
use Rattle.std.proofs.Common.{◌≡◌, ℕ, zero, suc, ◌+◌, ◌<◌, Bool, true, false, ◌&&◌, List, [], ◌∷◌}
use Rattle.std.proofs.Common.{◌++◌, length, Option, Some, None, refl, sym, ap, ◌∙◌, arith}
use Rattle.std.proofs.Common.{append_assoc, add-zero, min, max}
use Rattle.std.specs.Prelude.{slice_get}
use Rattle.std.proofs.lemmas.List.{append-nil}
use Rattle.bpf_decode.specs.declared.op.Op.{Op}
use Rattle.bpf_helpers.specs.Promise.{Promise}
use Rattle.bpf_regstate.specs.declared.reg.Reg.{Reg}
use Rattle.bpf_regstate.specs.declared.reg.Reg.TheVariants.{Uninit, Known}
use Rattle.bpf_regstate.specs.Shape.{Shape}
use Rattle.bpf_regstate.specs.Ranges.{span}
use Rattle.bpf_regstate.specs.Joins.{join_reg, join_registers, join_marks, joined}
use Rattle.bpf_regstate.proofs.JoinsHold.{length-states}
use Rattle.bpf_regstate.specs.States.{join_with, join_all, into, sends, arriving, entering, states}
use Rattle.bpf_regstate.specs.States.{state_at}
use Rattle.bpf_regstate.specs.Pass.{so_far, with_edge, with_edges}

reg_assoc : (x y z : Reg) → join_reg x (join_reg y z) ≡ join_reg (join_reg x y) z
reg_assoc Uninit y z = refl
reg_assoc (Known a) Uninit z = refl
reg_assoc (Known a) (Known b) Uninit = refl
reg_assoc (Known a) (Known b) (Known c) =
    let low : min a.lo (min b.lo c.lo) ≡ min (min a.lo b.lo) c.lo = omega arith in
    let high : max a.hi (max b.hi c.hi) ≡ max (max a.hi b.hi) c.hi = omega arith in
    ap (λ (l : ℕ). Known (span l (max a.hi (max b.hi c.hi)))) low
    ∙ ap (λ (h : ℕ). Known (span (min (min a.lo b.lo) c.lo) h)) high

registers_assoc : (xs ys zs : List Reg)
    → join_registers xs (join_registers ys zs) ≡ join_registers (join_registers xs ys) zs
registers_assoc [] ys zs = refl
registers_assoc (x ∷ xs) [] zs = refl
registers_assoc (x ∷ xs) (y ∷ ys) [] = refl
registers_assoc (x ∷ xs) (y ∷ ys) (z ∷ zs) =
    ap (λ (r : Reg). r ∷ join_registers xs (join_registers ys zs)) (reg_assoc x y z)
    ∙ ap (λ (rs : List Reg). join_reg (join_reg x y) z ∷ rs) (registers_assoc xs ys zs)

and_assoc : (a b c : Bool) → (a && (b && c)) ≡ ((a && b) && c)
and_assoc true b c = refl
and_assoc false b c = refl

marks_assoc : (xs ys zs : List Bool)
    → join_marks xs (join_marks ys zs) ≡ join_marks (join_marks xs ys) zs
marks_assoc [] ys zs = refl
marks_assoc (x ∷ xs) [] zs = refl
marks_assoc (x ∷ xs) (y ∷ ys) [] = refl
marks_assoc (x ∷ xs) (y ∷ ys) (z ∷ zs) =
    ap (λ (b : Bool). b ∷ join_marks xs (join_marks ys zs)) (and_assoc x y z)
    ∙ ap (λ (bs : List Bool). ((x && y) && z) ∷ bs) (marks_assoc xs ys zs)

pub joined_assoc : (s t u : Shape) → joined s (joined t u) ≡ joined (joined s t) u
joined_assoc s t u =
    ap (λ (rs : List Reg). record {
      registers = rs;
      marks = join_marks s.marks (join_marks t.marks u.marks);
      words = join_registers s.words (join_registers t.words u.words);
    })
    (registers_assoc s.registers t.registers u.registers)
    ∙ ap (λ (bs : List Bool). record {
      registers = join_registers (join_registers s.registers t.registers) u.registers;
      marks = bs;
      words = join_registers s.words (join_registers t.words u.words);
    }) (marks_assoc s.marks t.marks u.marks)
    ∙ ap (λ (ws : List Reg). record {
      registers = join_registers (join_registers s.registers t.registers) u.registers;
      marks = join_marks (join_marks s.marks t.marks) u.marks;
      words = ws;
    }) (registers_assoc s.words t.words u.words)

push_with : (x : Shape) (o : Option Shape) (s : Shape)
    → join_with x (with_edge o s) ≡ with_edge (join_with x o) s
push_with x None s = refl
push_with x (Some t) s = ap (λ (u : Shape). Some u) (joined_assoc x t s)

push_end : (xs : List Shape) (s : Shape) → join_all (xs ++ s ∷ []) ≡ with_edge (join_all xs) s
push_end [] s = refl
push_end (x ∷ xs) s = ap (join_with x) (push_end xs s) ∙ push_with x (join_all xs) s

pub push_append : (xs ys : List Shape) → join_all (xs ++ ys) ≡ with_edges (join_all xs) ys
push_append xs [] = ap join_all (append-nil xs)
push_append xs (y ∷ ys) =
    let regrouped : xs ++ y ∷ ys ≡ (xs ++ y ∷ []) ++ ys = sym (append_assoc xs (y ∷ []) ys) in
    ap join_all regrouped ∙ push_append (xs ++ y ∷ []) ys
    ∙ ap (λ (o : Option Shape). with_edges o ys) (push_end xs y)

module _ (record_length : ℕ) (ops : List Op) (sigs : List (ℕ × Promise)) where
  arriving_end : (ss : List (Option Shape)) (s : Option Shape) (to from : ℕ)
      → arriving record_length ops sigs to from (ss ++ s ∷ [])
      ≡ arriving record_length ops sigs to from ss
      ++ into to (sends record_length ops sigs (from + length ss) (slice_get ops (from + length ss))
      s)
  arriving_end [] s to from = rw add-zero
      (append-nil (into to (sends record_length ops sigs from (slice_get ops from) s)))
  arriving_end (x ∷ ss) s to from =
      let moved : from + suc (length ss) ≡ suc from + length ss = omega arith in
      let rest = arriving_end ss s to (suc from) in
      let front = into to (sends record_length ops sigs from (slice_get ops from) x) in
      rw moved (ap (λ (l : List Shape). front ++ l) rest
      ∙ sym (append_assoc front (arriving record_length ops sigs to (suc from) ss)
      (into to (sends record_length ops sigs (suc from + length ss)
      (slice_get ops (suc from + length ss)) s))))

  -- One more slot pushes its edges: the step of a forward pass.
  pub one_slot : (n to : ℕ) → so_far record_length ops sigs (suc n) to
      ≡ with_edges (so_far record_length ops sigs n to)
      (into to (sends record_length ops sigs n (slice_get ops n)
      (state_at record_length ops sigs n)))
  unfolding states
  one_slot n to =
      let len = length-states record_length ops sigs n in
      let grown = arriving_end (states record_length ops sigs n) (state_at record_length ops sigs n)
      to 0 in
      let there : 0 + length (states record_length ops sigs n) ≡ n = omega arith in
      let edges_of =
      into to (sends record_length ops sigs n (slice_get ops n)
      (state_at record_length ops sigs n)) in
      let grown_is : arriving record_length ops sigs to 0
      (states record_length ops sigs n ++ state_at record_length ops sigs n ∷ [])
      ≡ arriving record_length ops sigs to 0 (states record_length ops sigs n) ++ edges_of =
      rw there at grown in
      ap (λ (l : List Shape). join_all (entering record_length to ++ l)) grown_is
      ∙ ap join_all (sym (append_assoc (entering record_length to)
      (arriving record_length ops sigs to 0 (states record_length ops sigs n)) edges_of))
      ∙ push_append (entering record_length to
      ++ arriving record_length ops sigs to 0 (states record_length ops sigs n)) edges_of

  -- Before the first slot nothing has come to a later one.
  pub nothing_yet : (to : ℕ) → 0 < to → so_far record_length ops sigs 0 to ≡ None
  unfolding states
  nothing_yet zero h = absurd (omega arith)
  nothing_yet (suc to) h = refl
