use Rattle.std.proofs.Common.{◌≡◌, ◌<◌, ◌++◌, ◌∷◌, [], List, length, reverse, refl, ap, sym, subst}
use Rattle.std.proofs.Common.{◌∙◌}
use Rattle.bpf_helpers.specs.Oracles.{is_full, view_of_live}
use Rattle.acdm_step.specs.declared.entry.Entry.{Entry}
use Rattle.acdm_step.specs.declared.outcome.Outcome.{Outcome}
use Rattle.acdm_step.specs.InSlots.{answers_room}
use Rattle.acdm_step.specs.History.{Board, IsChecked, IsLegal}
use Rattle.acdm_step.specs.Prepared.{after_change}
use Rattle.acdm_milestones.specs.declared.role.Role.{Role}
use Rattle.acdm_row.specs.Views.{RowView}
use Rattle.acdm_board.specs.Desk.{DeskView, Enters, Keeps}
use Rattle.acdm_board.proofs.Longer.{keeps-pushed, enters}
use Rattle.acdm_board.proofs.book.Book.enter.Goals as goal

pub enter-requires-clause-legal : goal.enter-requires-clause-legal
enter-requires-clause-legal g c =
    let e : Entry = record {
      number = c.len.result;
      session = c.session-session.result;
      role = c.role-role.result;
      moment = c.args.moment;
      command = c.args.command;
      verdict = c.verdict.result;
      answers = c.in_ok-answers.answers;
    } in
    let ys : List Entry = c.self.inside.journal.entries ++ e ∷ [] in
    let kept = keeps-pushed
    c.self.inside.core (after_change c.self.inside.core c.in_ok-plan.plan.change)
    c.self.inside.journal.entries ys
    (length c.self.inside.journal.row.cells) c.len.result c.session-session.result c.args.moment c.role-role.result
    c.args.command c.in_ok-plan.plan.outcome c.verdict.result c.in_ok-answers.answers
    (view_of_live c.args.live) (view_of_live c.plan.new.oracle) c.self.invariant.keeps
    (subst (λ (d : DeskView). IsChecked d.sigs c.args.command) (sym c.self.view_is)
    c.requires.checked)
    (record {
      session_given = c.session-session.ensures.some;
      few_sessions = c.session-session.ensures.few;
      minute_given = c.requires.moment_given;
      few_minutes = c.ranges.moment.fits;
    }) c.requires.log
    (ap (λ n. λ log helper arguments. is_full n log)
    (subst (λ (d : DeskView). c.args.live.room ≡ answers_room d.history c.args.command)
    (sym c.self.view_is) c.requires.room))
    c.len.ensures.value c.verdict.ensures c.in_ok-answers.ensures.accepted
    c.in_ok-answers.ensures.refused
    refl
    (c.in_ok-plan.ensures.outcome c.self.inside.core.slots.sigs
    (reverse c.self.inside.journal.entries) c.self.invariant.keeps.legal
    c.self.invariant.keeps.replays)
    (λ us given. c.in_ok-plan.ensures.board c.self.inside.core.slots.sigs
    (reverse c.self.inside.journal.entries) c.session-session.result us c.self.invariant.keeps.legal
    c.self.invariant.keeps.replays given)
    (subst (λ (d : DeskView). length d.history < d.capacity) (sym c.self.view_is)
    c.requires.place) in
    subst (λ s. IsLegal s (reverse ys))
    (c.in_ok-plan.ensures.sigs ∙ sym c.self.invariant.sigs_are) kept.legal

pub invariant_of-self-2 : goal.invariant_of-self-2
invariant_of-self-2 g c =
    let kept = keeps-pushed
    c.self.inside.core c.commit.new.self c.self.inside.journal.entries c.enter.new.self.entries
    (length c.self.inside.journal.row.cells) c.len.result c.session-session.result c.args.moment c.role-role.result
    c.args.command c.in_ok-plan.plan.outcome c.verdict.result c.in_ok-answers.answers
    (view_of_live c.args.live) (view_of_live c.plan.new.oracle) c.self.invariant.keeps
    (subst (λ (d : DeskView). IsChecked d.sigs c.args.command) (sym c.self.view_is)
    c.requires.checked)
    (record {
      session_given = c.session-session.ensures.some;
      few_sessions = c.session-session.ensures.few;
      minute_given = c.requires.moment_given;
      few_minutes = c.ranges.moment.fits;
    }) c.requires.log
    (ap (λ n. λ log helper arguments. is_full n log)
    (subst (λ (d : DeskView). c.args.live.room ≡ answers_room d.history c.args.command)
    (sym c.self.view_is) c.requires.room))
    c.len.ensures.value c.verdict.ensures c.in_ok-answers.ensures.accepted
    c.in_ok-answers.ensures.refused
    c.in_ok-enter.ensures.entry
    (c.in_ok-plan.ensures.outcome c.self.inside.core.slots.sigs
    (reverse c.self.inside.journal.entries) c.self.invariant.keeps.legal
    c.self.invariant.keeps.replays)
    (λ us given. c.commit.ensures.board
    ∙ c.in_ok-plan.ensures.board c.self.inside.core.slots.sigs
    (reverse c.self.inside.journal.entries) c.session-session.result us c.self.invariant.keeps.legal
    c.self.invariant.keeps.replays given)
    (subst (λ (d : DeskView). length d.history < d.capacity) (sym c.self.view_is)
    c.requires.place) in
    record {
      keeps = subst (λ (r : RowView). Keeps c.commit.new.self c.enter.new.self.entries
          (length r.cells)) (sym c.enter.ensures.row) kept;
      sigs_are = ap (λ (r : RowView). r.sigs) c.enter.ensures.row ∙ c.self.invariant.sigs_are
          ∙ sym (ap (λ (b : Board). b.slots.sigs) c.commit.ensures.board
          ∙ c.in_ok-plan.ensures.sigs);
    }

pub returns-clause-enters : goal.returns-clause-enters
returns-clause-enters g c =
    let here = enters
    c.self.inside.core c.commit.new.self c.self.inside.journal.entries c.enter.new.self.entries
    (length c.self.inside.journal.row.cells) c.len.result c.session-session.result c.args.moment c.role-role.result
    c.args.command c.in_ok-plan.plan.outcome c.verdict.result c.in_ok-answers.answers
    (view_of_live c.args.live) (view_of_live c.plan.new.oracle) c.self.invariant.keeps
    (subst (λ (d : DeskView). IsChecked d.sigs c.args.command) (sym c.self.view_is)
    c.requires.checked)
    (record {
      session_given = c.session-session.ensures.some;
      few_sessions = c.session-session.ensures.few;
      minute_given = c.requires.moment_given;
      few_minutes = c.ranges.moment.fits;
    }) c.requires.log
    (ap (λ n. λ log helper arguments. is_full n log)
    (subst (λ (d : DeskView). c.args.live.room ≡ answers_room d.history c.args.command)
    (sym c.self.view_is) c.requires.room))
    c.len.ensures.value c.verdict.ensures c.in_ok-answers.ensures.accepted
    c.in_ok-answers.ensures.refused
    c.in_ok-enter.ensures.entry
    (c.in_ok-plan.ensures.outcome c.self.inside.core.slots.sigs
    (reverse c.self.inside.journal.entries) c.self.invariant.keeps.legal
    c.self.invariant.keeps.replays)
    (λ us given. c.commit.ensures.board
    ∙ c.in_ok-plan.ensures.board c.self.inside.core.slots.sigs
    (reverse c.self.inside.journal.entries) c.session-session.result us c.self.invariant.keeps.legal
    c.self.invariant.keeps.replays given)
    c.self.inside.journal.row.cells c.args.self.now c.self.view_is in
    let after : DeskView = record {
      history = reverse c.enter.new.self.entries;
      capacity = length c.enter.new.self.row.cells;
      sigs = c.commit.new.self.slots.sigs;
      cells = c.enter.new.self.row.cells;
    } in
    let planned : Enters c.args.self.now c.session-session.result c.role-role.result c.args.moment
    c.args.command after c.in_ok-plan.plan.outcome =
    subst (λ (r : RowView). Enters c.args.self.now c.session-session.result c.role-role.result
    c.args.moment c.args.command (record {
      history = reverse c.enter.new.self.entries;
      capacity = length r.cells;
      sigs = c.commit.new.self.slots.sigs;
      cells = r.cells;
    }) c.in_ok-plan.plan.outcome) (sym c.enter.ensures.row) here in
    subst (λ session. Enters c.args.self.now session c.args.pass.now.role c.args.moment
    c.args.command after c.commit.result) c.session-session.ensures.value
    (subst (λ (r : Role). Enters c.args.self.now c.session-session.result r c.args.moment
    c.args.command after c.commit.result) c.role-role.ensures
    (subst (λ (o : Outcome). Enters c.args.self.now c.session-session.result c.role-role.result
    c.args.moment c.args.command after o) (sym c.commit.ensures.outcome) planned))
