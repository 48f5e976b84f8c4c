-- What tells whether two names are one, and the first value of a name.
use Rattle.std.proofs.Common.{◌≡◌, ℕ, Bool, true, false, List, ◌∷◌, map, refl, sym, ap, subst, ◌∙◌, IsTrue, ◌↔◌, All, length}
use Rattle.std.proofs.Common.{if◌then◌else◌}
use Rattle.std.specs.Prelude.{Some}
use Rattle.std.specs.Str.{bytes_eq}
use Rattle.std.proofs.lemmas.Slice.Eq.{bytes_eq-Decides}
use Rattle.std.proofs.lemmas.List.Elements.{All-tail}
use Rattle.httparse.specs.declared.spans.HeaderSpan.{HeaderSpan}
use Rattle.httparse.specs.Spans.{IsHeaderWithin, header_bytes}
use Rattle.acdm_web.specs.Wanted.{is_name, value_of}

pub is_bytes_eq : (r : Bool) (a b : List ℕ) → IsTrue r ↔ (a ≡ b) → r ≡ bytes_eq a b
is_bytes_eq true a b h = sym ((bytes_eq-Decides a b).1 (h.0 refl))
is_bytes_eq false a b h = either (bytes_eq a b) refl
  where
    either : (t : Bool) → bytes_eq a b ≡ t → false ≡ t
    either true e = h.1 ((bytes_eq-Decides a b).0 e)
    either false e = refl

-- a field with another name is passed over
pub passed_over : (name : List ℕ) (buf : List ℕ) (field : HeaderSpan) (more rest : List HeaderSpan) (wanted : _)
    → rest ≡ field ∷ more → is_name (header_bytes buf field).0 name ≡ false
    → (value_of name (map (header_bytes buf) rest) ≡ wanted) × All (IsHeaderWithin (length buf)) rest
    → (value_of name (map (header_bytes buf) more) ≡ wanted) × All (IsHeaderWithin (length buf)) more
passed_over name buf field more rest wanted is other here =
    let value = subst (λ r. value_of name (map (header_bytes buf) r) ≡ wanted) is here.0 in
    let within = subst (λ r. All (IsHeaderWithin (length buf)) r) is here.1 in (
      sym (ap (λ b. if b then Some (header_bytes buf field).1 else value_of name (map (header_bytes buf) more)) other)
          ∙ value,
      All-tail (IsHeaderWithin (length buf)) field more within,
    )
