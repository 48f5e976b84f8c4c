-- What was told to be kept stands where it was written.
use Rattle.std.proofs.Common.{◌≡◌, ◌≤◌, ℕ, List, [], ◌++◌, length, sym, ap, subst, ◌∙◌, refl, arith, append-nil, length-append}
use Rattle.std.specs.Prelude.{reverse}
use Rattle.acdm_step.specs.declared.entry.Entry.{Entry}
use Rattle.acdm_journal.specs.Whole.{Saves}
use Rattle.acdm_keeping.specs.Kept.{AtAnyMoment, Keeps, Stands}
use Rattle.acdm_keeping.proofs.Behind.{grows_not, grows_on, sees_not, sees_on}

-- what had been kept before
pub stands_first : (opening seen : List Entry) (kept : ℕ) (log : List ℕ) → seen ≡ opening → log ≡ [] → kept ≡ length seen
    → Stands opening seen kept log
stands_first opening seen kept log same none all = record {
  taken = seen;
  count = sym all;
  behind = ([], same ∙ sym (append-nil opening));
  within = sees_not seen;
  front = [];
  first = (log, refl);
  keeps = λ before start saves. subst (λ l. Saves (reverse l) start (before ++ [])) (sym same) saves;
}

-- all that was seen, once it is kept
pub stands_all : (opening seen later : List Entry) (kept kept_later : ℕ) (old new : List ℕ) → Stands opening seen kept old
    → AtAnyMoment seen later old new → Keeps opening seen [] old → Keeps seen later old new → kept_later ≡ length later
    → Stands opening later kept_later new
stands_all opening seen later kept kept_later old new stood moment kept_before keeps all = record {
  taken = later;
  count = sym all;
  behind = sees_on opening seen later (sees_on opening stood.taken seen stood.behind stood.within)
      (sees_on seen moment.taken later moment.behind moment.within);
  within = sees_not later;
  front = new;
  first = grows_not new;
  keeps = λ before start saves. keeps before start (kept_before before start saves);
}

-- and it stands whatever is written behind it
pub stands_on : (opening seen later : List Entry) (kept : ℕ) (old new : List ℕ) → Stands opening seen kept old
    → AtAnyMoment seen later old new → Stands opening later kept new
stands_on opening seen later kept old new stood moment = record {
  taken = stood.taken;
  count = stood.count;
  behind = stood.behind;
  within = sees_on stood.taken seen later stood.within (sees_on seen moment.taken later moment.behind moment.within);
  front = stood.front;
  first = grows_on stood.front old new stood.first moment.grows;
  keeps = stood.keeps;
}

-- no more is kept than was seen
pub stands_few : (opening seen : List Entry) (kept : ℕ) (log : List ℕ) → Stands opening seen kept log → kept ≤ length seen
stands_few opening seen kept log stood =
    omega (arith, stood.count, ap length stood.within.1, length-append stood.taken stood.within.0)

-- and not more than is seen later
pub stands_fewer : (opening seen later : List Entry) (kept : ℕ) (old new : List ℕ) → Stands opening seen kept old
    → AtAnyMoment seen later old new → kept ≤ length later
stands_fewer opening seen later kept old new stood moment =
    stands_few opening later kept new (stands_on opening seen later kept old new stood moment)
