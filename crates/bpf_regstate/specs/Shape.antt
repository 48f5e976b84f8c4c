-- What is known before an instruction (this project's profile).
use Rattle.std.specs.Prelude.{◌≡◌, ℕ, ◌≤◌, ◌<◌, ◌^◌, List, Bool, length, slice_index_or}
use Rattle.bpf_helpers.specs.declared.range.Range.{Range}
use Rattle.bpf_regstate.specs.declared.reg.Reg.{Reg}
use Rattle.bpf_regstate.specs.declared.reg.Reg.TheVariants.{Uninit, Known}

-- What is known of r0 to r10, which of the 512 bytes of the stack are marked as written, and what
-- is known of its aligned words, from its end down: word w has the eight bytes from 504 - 8 * w on.
-- Of a word behind the list nothing is known.
pub record Shape : Type 0 where
  pub registers : List Reg
  pub marks : List Bool
  pub words : List Reg

abbrev pub known : Shape → ℕ → Reg
known s r = slice_index_or s.registers r Uninit

abbrev pub known_word : Shape → ℕ → Reg
known_word s w = slice_index_or s.words w Uninit

-- a range has a word, and words alone
pub record IsRange (r : Range) : Type 0 where
  pub ordered : r.lo ≤ r.hi
  pub words : r.hi < 2 ^ 64

abbrev pub IsReg : Reg → Type 0
IsReg Uninit = Unit {0}
IsReg (Known r) = IsRange r

-- eleven registers, 512 bytes and at most 64 words of the stack, and each range has a word
pub record IsShape (s : Shape) : Type 0 where
  pub registers : length s.registers ≡ 11
  pub marks : length s.marks ≡ 512
  pub words : length s.words ≤ 64
  pub ranges : (r : ℕ) → IsReg (known s r)
  pub word_ranges : (w : ℕ) → IsReg (known_word s w)
