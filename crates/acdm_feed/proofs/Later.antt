-- A watch that has seen one entry more.
use Rattle.std.proofs.Common.{◌≡◌, ℕ, List, [], ◌∷◌, ◌++◌, sym, ap, subst, ◌∙◌, append_assoc}
use Rattle.std.proofs.Common.{append-nil}
use Rattle.std.proofs.Common.{length, nat_lt, if◌then◌else◌}
use Rattle.std.proofs.lemmas.List.{length-reverse}
use Rattle.std.specs.Prelude.{reverse}
use Rattle.std.proofs.lemmas.List.{reverse-append}
use Rattle.acdm_step.specs.declared.entry.Entry.{Entry}
use Rattle.acdm_watch.specs.Watching.{WatchView}
use Rattle.acdm_feed.specs.declared.known.Known.{Known}
use Rattle.acdm_feed.specs.Knowing.{Knows}
use Rattle.acdm_feed.specs.Resumed.{feed_from}
use Rattle.acdm_feed.specs.Told.{told}
use Rattle.acdm_feed.specs.Telling.{Passes, Tells}

pub one_later : (seen later : List Entry) (e : Entry) → later ≡ seen ++ e ∷ []
    → reverse later ≡ e ∷ reverse seen
one_later seen later e took = ap reverse took ∙ reverse-append seen (e ∷ [])

pub passes_one : (old new : WatchView) (e : Entry) (known known_after : Known)
    → new.seen ≡ old.seen ++ e ∷ []
    → (Knows (reverse old.seen) known → Knows (e ∷ reverse old.seen) known_after)
    → Passes old new known known_after
passes_one old new e known known_after took follows = record {
  grows = (e ∷ [], took);
  knows = λ k. subst (λ K. Knows K known_after) (sym (one_later old.seen new.seen e took))
      (follows k);
}

pub passes_none : (old new : WatchView) (known : Known) → new ≡ old → Passes old new known known
passes_none old new known same =
    subst (λ w. Passes old w known known) (sym same) (record {
      grows = ([], sym (append-nil old.seen));
      knows = λ k. k;
    })

pub tells_one : (from number : ℕ) (old new : WatchView) (e : Entry) (known known_after : Known)
    (text text_after : List ℕ) → new.seen ≡ old.seen ++ e ∷ [] → number ≡ length old.seen
    → (Knows (reverse old.seen) known
    → text_after ≡ text ++ (if nat_lt number from then [] else told (reverse old.seen) e))
    → (Knows (reverse old.seen) known → Knows (e ∷ reverse old.seen) known_after)
    → Tells from old new known known_after text text_after
tells_one from number old new e known known_after text text_after took count added follows =
    let J = reverse old.seen in
    let more : ℕ → List ℕ = λ n. if nat_lt n from then [] else told J e in
    record {
      passes = passes_one old new e known known_after took follows;
      told = λ k before start is.
          ap (λ l. before ++ l) (added k) ∙ sym (append_assoc before text (more number))
          ∙ ap (λ l. l ++ more number) is
          ∙ append_assoc start (feed_from from J) (more number)
          ∙ ap (λ n. start ++ (feed_from from J ++ more n)) (count ∙ sym (length-reverse old.seen))
          ∙ ap (λ K. start ++ feed_from from K) (sym (one_later old.seen new.seen e took));
    }
