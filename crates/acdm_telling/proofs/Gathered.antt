-- What is known while a saved journal is told.
use Rattle.std.proofs.Common.{◌≡◌, ℕ, true, List, [], ◌∷◌, ◌++◌, length, Ok, Err}
use Rattle.std.proofs.Common.{Some, None, Result, take}
use Rattle.std.proofs.Math.Seq.{take-append_seam}
use Rattle.std.proofs.Common.{refl, sym, ap, subst, ◌∙◌, append_assoc, append-nil, inl, inr}
use Rattle.bpf_helpers.specs.Promise.{Promise}
use Rattle.acdm_lines.specs.declared.run_error.RunError.{RunError}
use Rattle.acdm_lines.specs.declared.run_error.RunError.TheVariants as errors
use Rattle.acdm_lines.specs.Counted.{SinkView, SourceView}
use Rattle.acdm_step.specs.declared.entry.Entry.{Entry}
use Rattle.acdm_step.specs.Commands.{History}
use Rattle.acdm_step.specs.History.{Board, IsLegal, replay}
use Rattle.acdm_step.specs.Prepared.{after_change}
use Rattle.acdm_journal.specs.declared.judge.Clause.{Clause}
use Rattle.acdm_journal.specs.Text.{history_text}
use Rattle.acdm_journal.specs.declared.judge.PlannedEntry.{PlannedEntry}
use Rattle.acdm_journal.specs.Uses.{FindsFault, IsNext}
use Rattle.acdm_journal.specs.Whole.{FoundUnended, GaveLegal}
use Rattle.acdm_wire.specs.Writes.{AppendsPart, Wrote, WroteInPart}
use Rattle.acdm_wire.proofs.Writing.{wrote-back, wrote-both, wrote-front}
use Rattle.acdm_judging.specs.Findings.{Tells, finding_text}
use Rattle.acdm_judging.specs.declared.auditing.Finding.{Finding}
use Rattle.acdm_judging.specs.declared.auditing.Finding.TheVariants.{Legal, Faulty}
use Rattle.acdm_failures.specs.declared.failure.Failure.{Failure}
use Rattle.acdm_feed.specs.Told.{feed, told}
use Rattle.acdm_telling.specs.declared.judged.Judged.{Judged}
use Rattle.acdm_telling.specs.Told.{FailsToTell, Gathered, Gathers, TellsFound, TellsPart, TellsUnended}
use Rattle.acdm_telling.specs.Told.{Told, WritesMany, told_of}
use Rattle.acdm_telling.specs.Telling.{HasTold}

-- ---- what was gathered of a text

part_of : (start log done text all : List ℕ) → log ≡ start ++ done → done ++ text ≡ all
    → AppendsPart start log all
part_of start log done text all is whole =
    (length done, is ∙ ap (λ l. start ++ l) (sym (take-append_seam done text) ∙ ap (take (length done)) whole))

module _ {W : Type 0} (J : History) (text : List ℕ) (first old : SinkView W) (g : Gathers J text first old)
  where
    -- one line more
    pub more : (e : Entry) (after : List ℕ) → after ≡ text ++ told J e → Gathers (e ∷ J) after first old
    more e after added = record {
      done = g.done;
      wrote = g.wrote;
      whole = ap (λ t. g.done ++ t) added ∙ sym (append_assoc g.done text (told J e))
          ∙ ap (λ t. t ++ told J e) g.whole;
    }

    -- all was written
    pub written : (new : SinkView W) → Wrote old new text → Wrote first new (feed J)
    written new w = subst (λ t. Wrote first new t) g.whole (wrote-both first old new g.done text g.wrote w)

    -- all was written, and more
    pub written_more : (new : SinkView W) (last : List ℕ) → Wrote old new (text ++ last)
        → Wrote first new (feed J ++ last)
    written_more new last w =
        subst (λ t. Wrote first new t)
        (sym (append_assoc g.done text last) ∙ ap (λ t. t ++ last) g.whole)
        (wrote-both first old new g.done (text ++ last) g.wrote w)

    -- a first part of it was, and of more
    pub failed_more : (new : SinkView W) (last : List ℕ) → WroteInPart old new (text ++ last) errors.Write
        → WroteInPart first new (feed J ++ last) errors.Write
    failed_more new last w =
        subst (λ t. WroteInPart first new t errors.Write)
        (sym (append_assoc g.done text last) ∙ ap (λ t. t ++ last) g.whole)
        (wrote-back first old new g.done (text ++ last) errors.Write g.wrote w)

    pub failed : (sigs : List (ℕ × Promise)) (new : SinkView W) → IsLegal sigs J
        → WroteInPart old new text errors.Write → FailsToTell sigs first new
    failed sigs new legal w = record {
      history = J;
      legal = legal;
      last = None;
      told = failed_more new []
          (subst (λ t. WroteInPart old new t errors.Write) (sym (append-nil text)) w);
    }

    -- a first part of the feed stands there
    pub in_part : (sigs : List (ℕ × Promise)) → IsLegal sigs J → TellsPart sigs first old
    in_part sigs legal = record {
      history = J;
      legal = legal;
      told = part_of first.log old.log g.done text (feed J) g.wrote.wrote g.whole;
    }

    -- what was gathered was written where it is much
    pub many : (new : SinkView W) (after : List ℕ)
        → WritesMany {T = Unit {0}} old new text after (Ok tt) → Gathers J after first new
    many new after (inl same) =
        subst (λ t. Gathers J t first new) (sym same.1) (subst (λ w. Gathers J text first w) (sym same.0) g)
    many new after (inr wrote) =
        subst (λ t. Gathers J t first new) (sym wrote.1) (record {
          done = feed J;
          wrote = written new wrote.0;
          whole = append-nil (feed J);
        })

-- ---- an entry

module _ {W : Type 0} (sigs : List (ℕ × Promise)) (J : History) (line : List ℕ) (judged : Judged)
    (n : PlannedEntry) (first old : SinkView W) (told : HasTold sigs J judged first old)
    (next : IsNext sigs J line n) where
  pub legal_next : IsLegal sigs (n.entry ∷ J)
  legal_next = subst (λ e. IsLegal sigs (e ∷ J)) next.entry_is next.continues.legal

  -- what was planned was done on the board
  pub comes_to : (core : Board) → core ≡ after_change judged.core n.plan.change
      → core ≡ replay sigs (n.entry ∷ J)
  comes_to core done =
      done ∙ ap (λ b. after_change b n.plan.change) told.board ∙ next.continues.replays
      ∙ ap (λ e. replay sigs (e ∷ J)) next.entry_is

  -- a first part of the feed stands there
  pub told_part : TellsPart sigs first old
  told_part = in_part J judged.text.items first old told.gathers sigs next.continues.legal.0

-- ---- the end

-- a first part of a text is one of a longer text
pub in_longer : {W : Type 0} (old new : SinkView W) (text more : List ℕ) (e : RunError)
    → WroteInPart old new text e → WroteInPart old new (text ++ more) errors.Write
in_longer old new text more e w =
    wrote-front old new text more errors.Write
    (subst (λ k. WroteInPart old new text k) w.kind w)

pub in_write : {W : Type 0} (old new : SinkView W) (text : List ℕ) (e : RunError)
    → WroteInPart old new text e → WroteInPart old new text errors.Write
in_write old new text e w = subst (λ k. WroteInPart old new text k) w.kind w

module _ {W : Type 0} (old mid new : SinkView W) (text : List ℕ) (w : Wrote old mid text) where
  fault_told : (entry : ℕ) (clause : Clause) (work : Result ℕ Failure)
      → Tells (Faulty entry clause) mid new work → TellsFound (Faulty entry clause) text old new work
  fault_told entry clause (Ok status) t =
      (wrote-both old mid new text (finding_text (Faulty entry clause)) w t.0, t.1, t.2)
  fault_told entry clause (Err failure) t =
      (wrote-back old mid new text (finding_text (Faulty entry clause)) errors.Write w t.0, t.1)

  -- the first fault was told behind the lines
  pub tells_fault : (finding : Finding) (entry : ℕ) (clause : Clause) (work : Result ℕ Failure)
      → finding ≡ Faulty entry clause → Tells finding mid new work
      → TellsFound finding text old new work
  tells_fault finding entry clause work is t =
      subst (λ f. TellsFound f text old new work) (sym is)
      (fault_told entry clause work (subst (λ f. Tells f mid new work) is t))

module _ {R W : Type 0} (sigs : List (ℕ × Promise)) (text : List ℕ) (read read_after : SourceView R)
    (first old new : SinkView W) where
  -- the rest was written, and what was found
  pub told_found : (finding : Finding) (work : Result ℕ Failure)
      → Gathered sigs finding text read read_after first old
      → TellsFound finding text old new work
      → Told sigs read read_after first new work
  told_found finding (Ok status) g t = record {
    finding = finding;
    finds = g.finds;
    history = g.history;
    rest = g.rest;
    gives = g.gives;
    count = g.count;
    leaves = g.leaves;
    told = written_more g.history text first old g.gathers new (told_of finding) t.0;
    flushed = t.1;
    status_is = t.2;
  }
  told_found finding (Err failure) g t =
      subst (λ f. Told sigs read read_after first new (Err f)) (sym t.1) (record {
        history = g.history;
        legal = g.gives.legal;
        last = Some finding;
        told = failed_more g.history text first old g.gathers new (told_of finding) t.0;
      })

-- ---- how the reading ends

module _ {R W : Type 0} (sigs : List (ℕ × Promise)) (judged : Judged) (r0 r : SourceView R)
    (first old : SinkView W) where
  pub gathered_whole : (n : ℕ) (g : GaveLegal sigs r0.log r.log r.ended n)
      → HasTold sigs g.history judged first old
      → Gathered sigs (Legal n) judged.text.items r0 r first old
  gathered_whole n g told = record {
    finds = g;
    history = g.history;
    rest = [];
    gives = record {
      legal = g.is.legal;
      readable = g.is.readable;
      gave = g.gave ∙ ap (λ t. r0.log ++ t) (g.is.text_is ∙ sym (append-nil (history_text g.history)));
    };
    count = g.count_is;
    leaves = refl;
    gathers = told.gathers;
  }

  pub gathered_fault : (entry : ℕ) (clause : Clause)
      → FindsFault sigs true (λ J. HasTold sigs J judged first old) r0 r entry clause
      → Gathered sigs (Faulty entry clause) judged.text.items r0 r first old
  gathered_fault entry clause f = record {
    finds = (f.gave, f.soon refl);
    history = f.gave.first.front;
    rest = f.gave.first.rest;
    gives = record {
      legal = f.gave.first.legal;
      readable = f.gave.first.readable;
      gave = f.gave.gave ∙ ap (λ t. r0.log ++ t) f.gave.first.text_is;
    };
    count = f.gave.first.count;
    leaves = tt;
    gathers = f.taken.gathers;
  }

  -- no more could be read, and the rest was written
  pub told_rest : (new : SinkView W) (u : FoundUnended sigs r0.log r.log r0.faults r.faults)
      → HasTold sigs u.0.front judged first old → Wrote old new judged.text.items
      → TellsUnended sigs r0 r first new
  told_rest new u told w = record {
    unended = u;
    history = u.0.front;
    rest = u.0.part;
    gives = record { legal = u.0.legal; readable = u.0.readable; gave = u.0.gave };
    told = written u.0.front judged.text.items first old told.gathers new w;
  }
