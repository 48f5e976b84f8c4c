-- The name of a journal is told by the line of its first entry.
use Rattle.std.proofs.Common.{◌≡◌, ◌≢◌, ℕ, ◌<◌, List, [], ◌∷◌, ◌++◌, length, take, Option, Some, None}
use Rattle.std.proofs.Common.{Bool, true, false, refl, sym, ap, ◌∙◌, arith, append_assoc, append-nil}
use Rattle.std.specs.Prelude.{is_some, option_map, reverse, slice_get, IsTrue, ◌↔◌}
use Rattle.std.proofs.lemmas.List.{reverse-append, length-reverse}
use Rattle.hex.specs.Hex.{encode_lower}
use Rattle.sha2.specs.Sha256.{sha256}
use Rattle.bpf_helpers.specs.Promise.{Promise}
use Rattle.acdm_lines.specs.Lines.{IsLine}
use Rattle.acdm_step.specs.declared.entry.Entry.{Entry}
use Rattle.acdm_step.specs.Commands.{History}
use Rattle.acdm_journal.specs.Text.{entry_text, history_text, line_of, stated_in}
use Rattle.acdm_journal.specs.Whole.{AreReadable}
use Rattle.acdm_journal.proofs.OneText.{one_cut}
use Rattle.acdm_journal.proofs.PlainWords.{line_is_line}
use Rattle.acdm_feed.specs.Naming.{first_entry, journal_name, name_of, named_by}
use Rattle.acdm_feed.proofs.Naming.{first_is_there, same_name}
use Rattle.acdm_following.specs.Entering.{TellsName, name_by}
use Rattle.acdm_following.specs.Heads.{IsNamed}

-- ---- the first entry of a desk

front_get : (xs ys : List Entry) → 0 < length xs → slice_get (xs ++ ys) 0 ≡ slice_get xs 0
front_get [] ys some = absurd (omega arith)
front_get (x ∷ xs) ys some = refl

pub first_is : (J : History) → slice_get (reverse J) 0 ≡ first_entry J
first_is [] = refl
first_is (e ∷ []) = refl
first_is (e ∷ f ∷ J) =
    let some : 0 < length (reverse (f ∷ J)) = omega (arith, length-reverse (f ∷ J)) in
    ap (λ l. slice_get l 0) (reverse-append (e ∷ []) (f ∷ J))
    ∙ front_get (reverse (f ∷ J)) (reverse (e ∷ [])) some ∙ first_is (f ∷ J)

-- ---- the name that a history has

named_from : (o : Option Entry) (bytes : List ℕ) → option_map name_of o ≡ Some bytes → named_by o ≡ bytes
named_from None bytes h = absurd (cc)
named_from (Some e) bytes h = cc

-- a history has no other name
pub one_name : (J : History) (bytes name : List ℕ) → option_map name_of (first_entry J) ≡ Some bytes
    → bytes ≢ name → IsNamed name J → ⊥
one_name [] bytes name is other named = absurd (cc is)
one_name (e ∷ J) bytes name is other named =
    other (sym (named_from (first_entry (e ∷ J)) bytes is) ∙ sym named)

pub has_name : (J : History) (bytes name : List ℕ) → option_map name_of (first_entry J) ≡ Some bytes
    → bytes ≡ name → IsNamed name J
has_name [] bytes name is same = tt
has_name (e ∷ J) bytes name is same = sym same ∙ sym (named_from (first_entry (e ∷ J)) bytes is)

none_none : (o : Option Entry) → is_some o ≡ true → option_map name_of o ≡ None → ⊥
none_none None some h = cc
none_none (Some e) some h = cc

pub no_name : (J : History) (name : List ℕ) → option_map name_of (first_entry J) ≡ None → IsNamed name J
no_name [] name none = tt
no_name (e ∷ J) name none = absurd (none_none (first_entry (e ∷ J)) (first_is_there e J) none)

pub tells_name : (J : History) (bytes name : List ℕ) (is : Bool) → option_map name_of (first_entry J) ≡ Some bytes
    → IsTrue is ↔ (bytes ≡ name) → TellsName name J is
tells_name J bytes name true same h = has_name J bytes name same (h.0 refl)
tells_name J bytes name false same h = one_name J bytes name same (λ e. no_true (h.1 e))
  where
    no_true : false ≡ true → ⊥
    no_true e = absurd (cc)

-- ---- the line of the first entry

name_is : (e : Entry) (line : List ℕ) → line_of (stated_in e) ≡ line → name_of e ≡ name_by line
unfolding name_of
name_is e line same = ap (λ l. encode_lower (take 16 (sha256 l))) same

first_line : (e : Entry) (rest : List ℕ) → entry_text e ++ rest ≡ line_of (stated_in e) ++ 10 ∷ rest
first_line e rest = append_assoc (line_of (stated_in e)) (10 ∷ []) rest

-- a text of entries begins with the line of the first one
pub first_named : (sigs : List (ℕ × Promise)) (e : Entry) (J : History) (rest line later : List ℕ)
    → AreReadable sigs (e ∷ J) → IsLine line → history_text (e ∷ J) ++ rest ≡ line ++ 10 ∷ later
    → journal_name (e ∷ J) ≡ name_by line
first_named sigs e [] rest line later readable is_line same =
    name_is e line
    (one_cut (line_of (stated_in e)) line rest later (line_is_line (stated_in e) readable.1.stated) is_line
    (sym (first_line e rest) ∙ same)).0
first_named sigs e (f ∷ J) rest line later readable is_line same =
    first_named sigs f J (entry_text e ++ rest) line later readable.0 is_line
    (sym (append_assoc (history_text (f ∷ J)) (entry_text e) rest) ∙ same)

-- With newer entries a history has the name that it had; where it had no entry, the first line is to be that of the first
-- entry of the journal of this name.
pub named_then : (sigs : List (ℕ × Promise)) (name : List ℕ) (J newer : History) (rest line later : List ℕ)
    → AreReadable sigs newer → IsLine line → history_text newer ++ rest ≡ line ++ 10 ∷ later
    → (J ≡ [] → name_by line ≡ name) → IsNamed name J → IsNamed name (newer ++ J)
named_then sigs name J [] rest line later readable is_line same may named = named
named_then sigs name [] (e ∷ newer) rest line later readable is_line same may named =
    sym (may refl) ∙ sym (first_named sigs e newer rest line later readable is_line same)
    ∙ ap journal_name (sym (append-nil (e ∷ newer)))
named_then sigs name (f ∷ J) (e ∷ newer) rest line later readable is_line same may named =
    named ∙ sym (same_name (e ∷ newer) f J)
