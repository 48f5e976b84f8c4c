-- A journal, as it is kept entry by entry behind what was written before.
use Rattle.std.proofs.Common.{◌≡◌, ◌≤◌, ℕ, List, [], ◌∷◌, ◌++◌, length, take, sym, ap, subst, ◌∙◌, append_assoc, append-nil}
use Rattle.std.specs.Prelude.{Result, Ok, Err, OnErr, reverse}
use Rattle.std.proofs.lemmas.List.{reverse-append}
use Rattle.acdm_step.specs.declared.entry.Entry.{Entry}
use Rattle.acdm_journal.specs.Text.{entry_text, history_text}
use Rattle.acdm_journal.specs.Ranges.{FitsTypes}
use Rattle.acdm_journal.specs.Whole.{Saves}
use Rattle.acdm_keeping.specs.Kept.{AtAnyMoment, GrowsFrom, IsWriting, Keeps, SeesOn}

-- one entry more was seen, and its text added
pub keeps_one : (seen later : List Entry) (e : Entry) (old new : List ℕ) → later ≡ seen ++ e ∷ []
    → new ≡ old ++ entry_text e → FitsTypes e → Keeps seen later old new
keeps_one seen later e old new took added fits before start saves =
    subst (λ K. Saves K start (before ++ new))
    (sym (ap reverse took ∙ reverse-append seen (e ∷ []))) (record {
      text = ap (λ l. before ++ l) added ∙ sym (append_assoc before old (entry_text e))
          ∙ ap (λ l. l ++ entry_text e) saves.text
          ∙ append_assoc start (history_text (reverse seen)) (entry_text e);
      types = (fits, saves.types);
    })

-- what was added to a text was added behind what a writer had taken before it
pub added_behind : (seen later : List Entry) (taken text more : List ℕ) → Keeps seen later text more
    → Keeps seen later (taken ++ text) (taken ++ more)
added_behind seen later taken text more adds before start saves =
    subst (λ l. Saves (reverse later) start l) (append_assoc before taken more)
    (adds (before ++ taken) start (subst (λ l. Saves (reverse seen) start l)
    (sym (append_assoc before taken text)) saves))

-- and was then written, so that nothing is left of it
pub written_behind : (seen later : List Entry) (taken text more new none : List ℕ) → none ≡ []
    → new ≡ taken ++ more → Keeps seen later text more → Keeps seen later (taken ++ text) (new ++ none)
written_behind seen later taken text more new none empty wrote adds =
    subst (λ l. Keeps seen later (taken ++ text) l)
    (sym (ap (λ l. new ++ l) empty ∙ append-nil new ∙ wrote))
    (added_behind seen later taken text more adds)

-- nothing was gathered at first, and all of it was written in the end
pub all_behind : (seen later : List Entry) (taken none gone more new : List ℕ) → none ≡ []
    → new ≡ gone ++ more → Keeps seen later (taken ++ none) (gone ++ more) → Keeps seen later taken new
all_behind seen later taken none gone more new empty wrote keeps =
    subst (λ l. Keeps seen later l new) (ap (λ l. taken ++ l) empty ∙ append-nil taken)
    (subst (λ l. Keeps seen later (taken ++ none) l) (sym wrote) keeps)

-- ---- what was written in part

pub sees_on : (seen then later : List Entry) → SeesOn seen then → SeesOn then later → SeesOn seen later
sees_on seen then later a b =
    (a.0 ++ b.0, b.1 ∙ ap (λ l. l ++ b.0) a.1 ∙ append_assoc seen a.0 b.0)

pub sees_not : (seen : List Entry) → SeesOn seen seen
sees_not seen = ([], sym (append-nil seen))

-- all of what was gathered
pub all_of : (seen later : List Entry) (old new : List ℕ) → SeesOn seen later → Keeps seen later old new
    → IsWriting seen later old new
all_of seen later old new sees keeps = record {
  taken = later;
  behind = sees;
  within = sees_not later;
  rest = [];
  keeps = subst (λ l. Keeps seen later old l) (sym (append-nil new)) keeps;
}

-- nothing was made of what was seen since
pub none_of : (seen later : List Entry) (old log text : List ℕ) → SeesOn seen later → old ≡ log ++ text
    → IsWriting seen later old log
none_of seen later old log text sees gathered = record {
  taken = seen;
  behind = sees_not seen;
  within = sees;
  rest = text;
  keeps = λ before start saves. subst (λ l. Saves (reverse seen) start (before ++ l)) gathered saves;
}

-- a first part of what was gathered
pub part_of : (seen later : List Entry) (old gathered new rest : List ℕ) → SeesOn seen later
    → Keeps seen later old gathered → gathered ≡ new ++ rest → IsWriting seen later old new
part_of seen later old gathered new rest sees keeps split = record {
  taken = later;
  behind = sees;
  within = sees_not later;
  rest = rest;
  keeps = subst (λ l. Keeps seen later old l) split keeps;
}

-- behind what was gathered before
pub further : (seen then later : List Entry) (old between new : List ℕ) → SeesOn seen then
    → Keeps seen then old between → IsWriting then later between new → IsWriting seen later old new
further seen then later old between new sees keeps w = record {
  taken = w.taken;
  behind = sees_on seen then w.taken sees w.behind;
  within = w.within;
  rest = w.rest;
  keeps = λ before start saves. w.keeps before start (keeps before start saves);
}

pub grows_on : (old between new : List ℕ) → GrowsFrom old between → GrowsFrom between new → GrowsFrom old new
grows_on old between new a b =
    (a.0 ++ b.0, b.1 ∙ ap (λ l. l ++ b.0) a.1 ∙ append_assoc old a.0 b.0)

pub grows_not : (old : List ℕ) → GrowsFrom old old
grows_not old = ([], sym (append-nil old))

-- a crash at any moment leaves the text of entries
pub at_any_moment : (seen later : List Entry) (old new : List ℕ) → GrowsFrom old new → IsWriting seen later old new
    → AtAnyMoment seen later old new
at_any_moment seen later old new grows w = record {
  grows = grows;
  taken = w.taken;
  behind = w.behind;
  within = w.within;
  rest = w.rest;
  saves = λ before saves. w.keeps before [] saves;
  crash = λ before left saves leaves.
      let text = (w.keeps before [] saves).text in (
        leaves.0,
        subst (λ l. length l ≤ leaves.0) saves.text leaves.1,
        leaves.2 ∙ ap (λ l. take leaves.0 l) text,
      );
}

pub on_any : {T E : Type 0} (r : Result T E) (P : Type 0) → P → OnErr r P
on_any (Ok x) P p = tt
on_any (Err e) P p = p
