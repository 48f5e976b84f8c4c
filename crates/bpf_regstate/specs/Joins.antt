-- What two edges have in common (this project's profile).
use Rattle.std.specs.Prelude.{List, [], ◌∷◌, Bool, ◌&&◌, min, max}
use Rattle.bpf_regstate.specs.declared.reg.Reg.{Reg}
use Rattle.bpf_regstate.specs.declared.reg.Reg.TheVariants.{Uninit, Known}
use Rattle.bpf_regstate.specs.Ranges.{span}
use Rattle.bpf_regstate.specs.Shape.{Shape}

-- Uninitialised where either is, else the least range that has the words of both.
abbrev pub join_reg : Reg → Reg → Reg
join_reg Uninit y = Uninit
join_reg (Known a) Uninit = Uninit
join_reg (Known a) (Known b) = Known (span (min a.lo b.lo) (max a.hi b.hi))

-- the results at each place of two lists
abbrev pub zip_with : {A : Type 0} → (A → A → A) → List A → List A → List A
zip_with f [] ys = []
zip_with f (x ∷ xs) [] = []
zip_with f (x ∷ xs) (y ∷ ys) = f x y ∷ zip_with f xs ys

-- of registers, or of words of the stack: of a word behind one of the lists nothing is known
abbrev pub join_registers : List Reg → List Reg → List Reg
join_registers xs ys = zip_with join_reg xs ys

-- a byte that both mark
abbrev pub join_marks : List Bool → List Bool → List Bool
join_marks xs ys = zip_with (λ a b. a && b) xs ys

-- what both have in common
abbrev pub joined : Shape → Shape → Shape
joined s t = record {
  registers = join_registers s.registers t.registers;
  marks = join_marks s.marks t.marks;
  words = join_registers s.words t.words;
}
