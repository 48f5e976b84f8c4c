-- Behind no entry stands a whole journal.
use Rattle.std.proofs.Common.{◌≡◌, ℕ, ◌≤◌, ◌⊎◌, inl, inr, true, Bool, List, [], ◌∷◌, ◌++◌}
use Rattle.std.proofs.Common.{length, refl, ap, subst, ◌∙◌, append_assoc, append-nil}
use Rattle.bpf_helpers.specs.Promise.{Promise}
use Rattle.acdm_lines.specs.Counted.{SourceView}
use Rattle.acdm_lines.specs.Lines.{IsLine}
use Rattle.acdm_lines.proofs.Feeds.{none_or_first}
use Rattle.acdm_step.specs.Commands.{History}
use Rattle.acdm_step.specs.History.{IsLegal}
use Rattle.acdm_journal.specs.declared.judge.Clause.{Clause}
use Rattle.acdm_journal.specs.declared.judge.Clause.TheVariants as clauses
use Rattle.acdm_journal.specs.declared.journal_reader.JournalEnd.{JournalEnd}
use Rattle.acdm_journal.specs.declared.journal_reader.JournalEnd.TheVariants as ends
use Rattle.acdm_journal.specs.declared.journal_reader.TheConstants.{MOST_KEPT}
use Rattle.acdm_journal.specs.Text.{history_text}
use Rattle.acdm_journal.specs.Whole.{AreReadable, BreaksNext, at_line, at_end, FirstFault}
use Rattle.acdm_journal.specs.Behind.{AtFault, AtRest, EndsBehind, GaveBehind, ReadsBehind}
use Rattle.acdm_journal.specs.Uses.{FindsFault, ReadsJournal}
use Rattle.acdm_journal.proofs.Sofar.{breaks-long}

-- the first fault of a text is that of what stands behind its front
fault_of : (sigs : List (ℕ × Promise)) (J : History) (text rest : List ℕ) (entry : ℕ) (clause : Clause)
    → IsLegal sigs J → AreReadable sigs J → text ≡ history_text J ++ rest → length J ≡ entry
    → BreaksNext sigs J rest clause → FirstFault sigs text entry clause
fault_of sigs J text rest entry clause legal readable same count breaks = record {
  front = J;
  rest = rest;
  legal = legal;
  readable = readable;
  text_is = same;
  count = count;
  breaks = breaks;
}

module _ {R : Type 0} (sigs : List (ℕ × Promise)) (bounded : Bool) (has : History → Type 0)
    (old new : SourceView R) (J : History) (rest : List ℕ) (entry : ℕ)
    (legal : IsLegal sigs J) (readable : AreReadable sigs J) (gave : new.log ≡ old.log ++ (history_text J ++ rest))
  where
    at_fault : (clause : Clause) → AtFault sigs bounded has old new J rest entry clause
        → FindsFault sigs bounded has old new entry clause
    unfolding fault_of
    at_fault clause f = record {
      gave = record {
        text = history_text J ++ rest;
        gave = gave;
        first = fault_of sigs J (history_text J ++ rest) rest entry clause legal readable refl f.count
            (at_line f.line f.later f.is_line f.split f.breaks);
        stays = inr (λ later.
            fault_of sigs J ((history_text J ++ rest) ++ later) (rest ++ later) entry clause legal readable
            (append_assoc (history_text J) rest later) f.count
            (at_line f.line (f.later ++ later) f.is_line
            (ap (λ l. l ++ later) f.split ∙ append_assoc f.line (10 ∷ f.later) later) f.breaks));
      };
      taken = f.taken;
      soon = f.soon;
      well = f.well;
    }

    at_rest : AtRest bounded has old new J rest entry
        → (f : FindsFault sigs bounded has old new entry clauses.Unreadable) × IsLine f.gave.first.rest
    unfolding fault_of
    at_rest r = (
      record {
        gave = record {
          text = history_text J ++ rest;
          gave = gave;
          first = fault_of sigs J (history_text J ++ rest) rest entry clauses.Unreadable legal readable refl
              r.count_is (at_end r.is_line r.some refl);
          stays = stays r.why;
        };
        taken = r.taken;
        soon = r.soon;
        well = r.well;
      },
      r.is_line,
    )
      where
        stays : (new.ended ≡ true) ⊎ (MOST_KEPT ≤ length rest) → (new.ended ≡ true)
            ⊎ ((later : List ℕ)
            → FirstFault sigs ((history_text J ++ rest) ++ later) entry clauses.Unreadable)
        stays (inl ended) = inl ended
        stays (inr long) =
            inr (λ later.
            fault_of sigs J ((history_text J ++ rest) ++ later) (rest ++ later) entry clauses.Unreadable legal
            readable (append_assoc (history_text J) rest later) r.count_is
            (breaks-long sigs J rest later r.is_line long (none_or_first later)))

-- where nothing stood before, the newer entries are all
pub from_none : {R S : Type 0} (sigs : List (ℕ × Promise)) (bounded : Bool) (has : History → Type 0)
    (stops : History → S → Type 0) (old new : SourceView R) (end : JournalEnd S)
    → ReadsBehind sigs bounded [] has stops old new end → ReadsJournal sigs bounded has stops old new end
from_none {R} {S} sigs bounded has stops old new end h =
    let g : GaveBehind sigs [] old.log new.log = h.0 in
    let all : g.newer ++ [] ≡ g.newer = append-nil g.newer in
    from end g.newer g.rest (subst (λ (H : History). IsLegal sigs H) all g.legal) g.readable g.gave
    (subst (λ (H : History). EndsBehind sigs bounded has stops old new H (history_text g.newer) g.rest end) all h.1)
  where
    from : (end : JournalEnd S) (J : History) (rest : List ℕ) → IsLegal sigs J → AreReadable sigs J
        → new.log ≡ old.log ++ (history_text J ++ rest)
        → EndsBehind sigs bounded has stops old new J (history_text J) rest end
        → ReadsJournal sigs bounded has stops old new end
    from (ends.Whole n) J rest legal readable gave h = (
      record {
        text = history_text J;
        history = J;
        gave = gave
            ∙ ap (λ l. old.log ++ l) (ap (λ l. history_text J ++ l) h.0 ∙ append-nil (history_text J));
        at_end = h.1;
        is = record { legal = legal; readable = readable; text_is = refl };
        count_is = h.2;
      },
      h.3,
      h.4,
    )
    from (ends.Rest n) J rest legal readable gave h =
        let f = at_rest sigs bounded has old new J rest n legal readable gave h in (f.0, f.1, h.all)
    from (ends.Faulty entry clause) J rest legal readable gave h =
        at_fault sigs bounded has old new J rest entry legal readable gave clause h
    from ends.Read J rest legal readable gave h = (
      record {
        front = J;
        part = rest;
        legal = legal;
        readable = readable;
        is_part = h.0;
        gave = gave;
        why = h.2;
      },
      h.1,
      h.3,
    )
    from ends.Memory J rest legal readable gave h = (J, legal, h.0, h.1)
    from (ends.Stopped s) J rest legal readable gave h = record {
      history = J;
      rest = rest;
      why = h.0;
      gave = gave;
      more = h.1;
      well = h.2;
    }
