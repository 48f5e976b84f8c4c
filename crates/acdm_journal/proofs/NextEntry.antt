-- The entry that a line adds to a legal history, or the clause that it breaks.
use Rattle.std.proofs.Common.{◌≡◌, ◌≢◌, ℕ, ◌≤◌, false, List, length, Result, Ok, Err, refl, sym, ap}
use Rattle.std.proofs.Common.{subst, ◌∙◌, IfOk}
use Rattle.bpf_helpers.specs.Promise.{Promise}
use Rattle.acdm_step.specs.declared.command.Command.{Command}
use Rattle.acdm_step.specs.declared.command.Command.TheVariants as commands
use Rattle.acdm_step.specs.declared.entry.Entry.{Entry}
use Rattle.acdm_step.specs.declared.entry.Verdict.{Verdict}
use Rattle.acdm_step.specs.Commands.{History, is_load}
use Rattle.acdm_step.specs.Verdicts.{verdict_of}
use Rattle.acdm_step.specs.History.{Board, IsLegal, IsChecked, replay}
use Rattle.acdm_step.specs.Prepared.{Fits}
use Rattle.acdm_journal.specs.declared.stated.Stated.{Stated}
use Rattle.acdm_step.specs.declared.stated.StatedCommand.{StatedCommand}
use Rattle.acdm_step.specs.declared.stated.StatedCommand.TheVariants.{Plain, Load}
use Rattle.acdm_journal.specs.declared.judge.Clause.TheVariants as clauses
use Rattle.acdm_journal.specs.declared.judge.AuditError.{AuditError}
use Rattle.acdm_journal.specs.declared.judge.AuditError.TheVariants.{Memory, Faulty}
use Rattle.acdm_journal.specs.Text.{line_of, stated_in, asked_in, outcome_code}
use Rattle.acdm_journal.specs.Ranges.{IsStated, IsAsked}
use Rattle.acdm_journal.specs.Audit.{IsCommandOf, States, StatesNext, Continues, Breaks, Judges}
use Rattle.acdm_journal.specs.Audit.{Commands, Enters, JudgesCommand, PlansLine}
use Rattle.acdm_journal.specs.declared.judge.PlannedEntry.{PlannedEntry}
use Rattle.acdm_journal.specs.Uses.{PlansNext}
use Rattle.acdm_journal.specs.declared.reading.TheConstants.{LONGEST_ENTRY}

plain_is : (c : Command) → is_load c ≡ false → asked_in c ≡ Plain c
plain_is (commands.Load l) h = absurd (cc)
plain_is _ h = refl

asked_is : (sigs : List (ℕ × Promise)) (a : StatedCommand) (c : Command) → IsAsked a → IsCommandOf sigs a c
    → asked_in c ≡ a
asked_is sigs (Plain p) c is e = ap asked_in e ∙ plain_is p is.0
asked_is sigs (Load l) c is e =
    ap asked_in e.3
    ∙ ap (λ bytes. Load record {
      milestone = l.milestone;
      kind = l.kind;
      program = bytes;
      record_length = l.record_length;
    })
    (sym e.1.bytes_are)

plain_checked : (sigs : List (ℕ × Promise)) (c : Command) → is_load c ≡ false → IsChecked sigs c
plain_checked sigs (commands.Load l) h = absurd (cc)
plain_checked sigs _ h = tt

checked_is : (sigs : List (ℕ × Promise)) (a : StatedCommand) (c : Command) → IsAsked a
    → IsCommandOf sigs a c → IsChecked sigs c
checked_is sigs (Plain p) c is e = subst (λ x. IsChecked sigs x) (sym e) (plain_checked sigs p is.0)
checked_is sigs (Load l) c is e = subst (λ x. IsChecked sigs x) (sym e.3) (refl, e.2)

module _ (sigs : List (ℕ × Promise)) (J : History) (line : List ℕ) (s : Stated)
    (legal : IsLegal sigs J) (short : length line ≤ LONGEST_ENTRY)
    (states : States line s) where
  -- the number is another one
  pub misnumbered : s.number ≢ length J → Breaks sigs J line clauses.Number
  misnumbered other = (s, states, other)

  module _ (number : s.number ≡ length J) where
    next_states : StatesNext J line s
    next_states = record { states = states; number = number }

    -- no program may be loaded
    pub unloadable : (board : Board) (e : AuditError) → Commands sigs s.asked (Err e)
        → Judges {T = Unit {0}} sigs J line board (Err e)
    unloadable board Memory h = tt
    unloadable board (Faulty clause) h =
        subst (λ x. Breaks sigs J line x) (sym h.0) (s, next_states, h.1)

    module _ (c : Command) (is : IsCommandOf sigs s.asked c) (board : Board) where
      entry : Entry
      entry = record {
        number = length J;
        session = s.session;
        role = s.role;
        moment = s.moment;
        command = c;
        verdict = verdict_of sigs J s.role c;
        answers = s.answers;
      }

      entered : Enters sigs J s.role s.moment c s.answers s.outcome board
          → Continues sigs J line board
      unfolding entry next_states
      entered e =
          let same : stated_in entry ≡ s =
          ap (λ n. record s {
            number = n;
            outcome = outcome_code (verdict_of sigs J s.role c);
            asked = asked_in c;
          }) (sym number)
          ∙ ap (λ o. record s { outcome = o; asked = asked_in c }) (sym e.outcome_is)
          ∙ ap (λ a. record s { asked = a }) (asked_is sigs s.asked c states.is.asked is) in
          record {
            entry = entry;
            line_is = states.line_is ∙ ap line_of (sym same);
            is = subst (λ x. IsStated x) (sym same) states.is;
            short = short;
            legal = (
              legal,
              refl,
              states.is.where_and_when,
              checked_is sigs s.asked c states.is.asked is,
              record { verdict_is = refl; used = e.uses.used; unused = e.uses.unused },
            );
            command = subst (λ a. IsCommandOf sigs a c)
                (sym (asked_is sigs s.asked c states.is.asked is)) is;
            replays = e.replays s.session;
          }

      -- the entry is the one that the line states, with this verdict
      pub planned : (v : Verdict) → v ≡ verdict_of sigs J s.role c
          → Enters sigs J s.role s.moment c s.answers s.outcome board
          → (k : Continues sigs J line board) × (k.entry ≡ record {
            number = s.number;
            session = s.session;
            role = s.role;
            moment = s.moment;
            command = c;
            verdict = v;
            answers = s.answers;
          })
      unfolding entered entry
      planned v same e = (
        entered e,
        λ i. record {
          number = sym number i;
          session = s.session;
          role = s.role;
          moment = s.moment;
          command = c;
          verdict = sym same i;
          answers = s.answers;
        },
      )

      pub judged : (r : Result (Unit {0}) AuditError)
          → JudgesCommand sigs J s.role s.moment c s.answers s.outcome board r
          → Judges sigs J line board r
      judged (Ok x) h = entered h
      judged (Err Memory) h = tt
      judged (Err (Faulty clauses.Unreadable)) h = absurd h
      judged (Err (Faulty clauses.Number)) h = absurd h
      judged (Err (Faulty clauses.Program)) h = absurd h
      judged (Err (Faulty clauses.Answers)) h = (s, c, next_states, is, h)
      judged (Err (Faulty clauses.Outcome)) h = (s, c, next_states, is, h.0, h.1)

-- the next line, judged by the board of a legal history
pub planned_next : (sigs sigs' : List (ℕ × Promise)) (J : History) (line : List ℕ) (core : Board) (number : ℕ)
    (r : Result PlannedEntry AuditError) → sigs' ≡ core.slots.sigs → core ≡ replay sigs J
    → IsLegal sigs J → length J ≡ number
    → ((K : History) → IsLegal sigs' K → length K ≡ number → core ≡ replay sigs' K
    → PlansLine sigs' K line core r)
    → IfOk r (λ n. Fits core n.plan.change) → PlansNext sigs J line r
planned_next sigs sigs' J line core number r sigs_are replays legal count plans fits =
    let same : sigs' ≡ sigs = sigs_are ∙ ap (λ (b : Board). b.slots.sigs) replays in
    let p = plans J (subst (λ s. IsLegal s J) (sym same) legal) count
    (replays ∙ ap (λ s. replay s J) (sym same)) in
    by_board r (subst (λ s. PlansLine s J line (replay sigs J) r) same
    (subst (λ b. PlansLine sigs' J line b r) replays p))
    (subst (λ b. IfOk r (λ n. Fits b n.plan.change)) replays fits)
  where
    by_board : (r : Result PlannedEntry AuditError) → PlansLine sigs J line (replay sigs J) r
        → IfOk r (λ n. Fits (replay sigs J) n.plan.change) → PlansNext sigs J line r
    by_board (Ok n) p f = record { continues = p.0; entry_is = p.1; fits = f }
    by_board (Err (Faulty clause)) p f = p
    by_board (Err Memory) p f = tt
