-- A line that goes on with a legal history breaks no clause.
use Rattle.std.proofs.Common.{◌≡◌, ℕ, List, sym, ap, subst, ◌∙◌}
use Rattle.bpf_decode.proofs.OnceLemmas.{one_program}
use Rattle.bpf_decode.specs.declared.op.Op.{Op}
use Rattle.bpf_helpers.specs.Promise.{Promise}
use Rattle.acdm_step.specs.declared.command.Command.{Command}
use Rattle.acdm_step.specs.declared.command.Command.TheVariants as commands
use Rattle.acdm_step.specs.Commands.{History, is_accepted}
use Rattle.acdm_step.specs.Verdicts.{verdict_of}
use Rattle.acdm_step.specs.History.{Board, IsAnswered}
use Rattle.acdm_journal.specs.declared.stated.Stated.{Stated}
use Rattle.acdm_step.specs.declared.stated.StatedCommand.{StatedCommand}
use Rattle.acdm_step.specs.declared.stated.StatedCommand.TheVariants.{Plain, Load}
use Rattle.acdm_journal.specs.declared.judge.Clause.{Clause}
use Rattle.acdm_journal.specs.declared.judge.Clause.TheVariants as clauses
use Rattle.acdm_journal.specs.Text.{stated_in, outcome_code}
use Rattle.acdm_journal.specs.Audit.{IsCommandOf, States, Continues, Breaks}
use Rattle.acdm_step.specs.Planning.{UsesAnswers}
use Rattle.acdm_journal.proofs.OneLine.{one_line}

pub one_command : (sigs : List (ℕ × Promise)) (a : StatedCommand) (c d : Command) → IsCommandOf sigs a c
    → IsCommandOf sigs a d → c ≡ d
one_command sigs (Plain p) c d e f = e ∙ sym f
one_command sigs (Load l) c d e f =
    let same : e.0 ≡ f.0 = one_program l.program e.0 f.0 e.1 f.1 in
    e.3
    ∙ ap (λ (ops : List Op). commands.Load record {
      milestone = l.milestone;
      kind = l.kind;
      program = record { record_length = l.record_length; ops = ops; sigs = sigs };
    }) same
    ∙ sym f.3

module _ (sigs : List (ℕ × Promise)) (J : History) (line : List ℕ) (board : Board)
    (t : Continues sigs J line board) where
  answered : IsAnswered sigs J t.entry.role t.entry.moment t.entry.command t.entry.verdict
      t.entry.answers
  answered = t.legal.4

  uses : UsesAnswers sigs J t.entry.role t.entry.moment t.entry.command t.entry.answers
  unfolding answered
  uses = record {
    used = λ accepted. answered.used (ap is_accepted answered.verdict_is ∙ accepted);
    unused = λ refused. answered.unused (ap is_accepted answered.verdict_is ∙ refused);
  }

  -- whatever the line states is what the entry's line states
  same : (s : Stated) → States line s → s ≡ stated_in t.entry
  same s states = one_line s (stated_in t.entry) states.is t.is (sym states.line_is ∙ t.line_is)

  same_command : (s : Stated) (c : Command) → States line s → IsCommandOf sigs s.asked c
      → c ≡ t.entry.command
  same_command s c states is =
      one_command sigs (stated_in t.entry).asked c t.entry.command
      (subst (λ (x : Stated). IsCommandOf sigs x.asked c) (same s states) is) t.command

  pub breaks_none : (clause : Clause) → Breaks sigs J line clause → ⊥
  breaks_none clauses.Unreadable h = h t.short (stated_in t.entry) t.is t.line_is
  breaks_none clauses.Number h = h.2 (ap (λ (x : Stated). x.number) (same h.0 h.1) ∙ t.legal.1)
  breaks_none clauses.Program h =
      h.2 t.entry.command
      (subst (λ (x : Stated). IsCommandOf sigs x.asked t.entry.command) (sym (same h.0 h.1.states))
      t.command)
  breaks_none clauses.Answers h =
      h.4
      (subst (λ (x : Stated). UsesAnswers sigs J x.role x.moment h.1 x.answers)
      (sym (same h.0 h.2.states))
      (subst (λ c. UsesAnswers sigs J t.entry.role t.entry.moment c t.entry.answers)
      (sym (same_command h.0 h.1 h.2.states h.3)) uses))
  breaks_none clauses.Outcome h =
      h.5
      (subst (λ (x : Stated). x.outcome ≡ outcome_code (verdict_of sigs J x.role h.1))
      (sym (same h.0 h.2.states))
      (subst (λ c. outcome_code t.entry.verdict ≡ outcome_code (verdict_of sigs J t.entry.role c))
      (sym (same_command h.0 h.1 h.2.states h.3))
      (ap outcome_code answered.verdict_is)))
