-- The name of a journal stays that of its first entry.
use Rattle.std.proofs.Common.{◌≡◌, ℕ, List, [], ◌∷◌, ◌++◌, ◌-◌, true, false, refl, sym, ap, ◌∙◌, length, arith}
use Rattle.std.proofs.Common.{Some, None}
use Rattle.std.proofs.Math.Seq.{take-append_seam}
use Rattle.std.proofs.lemmas.List.{length-append}
use Rattle.std.specs.Prelude.{Option, is_some, option_map, string_bytes, take, unwrap_or}
use Rattle.hex.specs.Hex.{encode_lower}
use Rattle.sha2.specs.Sha256.{sha256}
use Rattle.acdm_step.specs.declared.entry.Entry.{Entry}
use Rattle.acdm_step.specs.Commands.{History}
use Rattle.acdm_journal.specs.Text.{line_of, stated_in}
use Rattle.acdm_feed.specs.Knowing.{IsNamed}
use Rattle.acdm_feed.specs.Naming.{first_entry, journal_name, name_of, named_by}
use Rattle.acdm_feed.specs.declared.known.Known.{Known}

-- ---- the first entry

pub first_is_there : (e : Entry) (J : History) → is_some (first_entry (e ∷ J)) ≡ true
first_is_there e [] = refl
first_is_there e (f ∷ J) = first_is_there f J

map_some : {X Y : Type 0} (g : X → Y) (o : Option X) → is_some (option_map g o) ≡ is_some o
map_some g None = refl
map_some g (Some x) = refl

false_true : false ≡ true → ⊥
false_true h = absurd (cc)

-- a name that is there is that of an entry before
pub still_named : (J : History) (e : Entry) (known : Known) → is_some known.name ≡ true
    → IsNamed J known → IsNamed (e ∷ J) known
still_named [] e known some named =
    absurd (false_true (ap is_some (sym named) ∙ map_some string_bytes known.name ∙ some))
still_named (f ∷ J) e known some named = named

-- where there is none, the entry that comes is the first one
pub first_named : (J : History) (e : Entry) (known : Known) (name : Option (List ℕ)) (bytes : List ℕ)
    → is_some known.name ≡ false → IsNamed J known → bytes ≡ name_of e → name ≡ Some bytes
    → name ≡ option_map name_of (first_entry (e ∷ J))
first_named [] e known name bytes none named is now = now ∙ ap Some is
first_named (f ∷ J) e known name bytes none named is now =
    absurd (false_true (sym none ∙ sym (map_some string_bytes known.name) ∙ ap is_some named
    ∙ map_some name_of (first_entry (f ∷ J)) ∙ first_is_there f J))

-- what is told as the name is it
pub name_told : (J : History) (name : Option (List ℕ)) → name ≡ option_map name_of (first_entry J)
    → unwrap_or name [] ≡ journal_name J
name_told J name is = ap (λ o. unwrap_or o []) is ∙ either (first_entry J)
  where
    either : (o : Option Entry) → unwrap_or (option_map name_of o) [] ≡ named_by o
    either None = refl
    either (Some e) = refl

-- where none is told, there is no entry
pub unnamed : (J : History) → None ≡ option_map name_of (first_entry J) → J ≡ []
unnamed [] none = refl
unnamed (e ∷ J) none =
    absurd (false_true (ap is_some none ∙ map_some name_of (first_entry (e ∷ J)) ∙ first_is_there e J))

-- ---- the text that is named

pub without_feed : (line old new : List ℕ) (count : ℕ) → old ≡ line ++ 10 ∷ [] → count ≡ length old
    → new ≡ take (count - 1) old → new ≡ line
without_feed line old new count is counted taken =
    let some : count - 1 ≡ length line =
    ap (λ n. n - 1) (counted ∙ ap length is ∙ length-append line (10 ∷ [])) ∙ omega arith in
    taken ∙ ap (λ n. take n old) some ∙ ap (take (length line)) is ∙ take-append_seam line (10 ∷ [])

pub name_is : (e : Entry) (line bytes : List ℕ) → line ≡ line_of (stated_in e)
    → bytes ≡ encode_lower (take 16 (sha256 line)) → bytes ≡ name_of e
unfolding name_of
name_is e line bytes is digits = digits ∙ ap (λ l. encode_lower (take 16 (sha256 l))) is

-- ---- names later on

-- The name is that of any first entries.
pub same_first : (more : List Entry) (e : Entry) (J : History) → first_entry (more ++ e ∷ J) ≡ first_entry (e ∷ J)
same_first [] e J = refl
same_first (f ∷ []) e J = refl
same_first (f ∷ g ∷ more) e J = same_first (g ∷ more) e J

pub same_name : (more : List Entry) (e : Entry) (J : History) → journal_name (more ++ e ∷ J) ≡ journal_name (e ∷ J)
same_name more e J = ap named_by (same_first more e J)
