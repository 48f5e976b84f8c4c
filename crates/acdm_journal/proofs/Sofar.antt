-- What the reader of journals knows at any time of the text that it reads.
use Rattle.std.proofs.Common.{◌≡◌, ◌≢◌, ℕ, ◌+◌, ◌-◌, ◌^◌, ◌<◌, ◌≤◌, ◌⊎◌, true, false, nat_le}
use Rattle.std.proofs.Common.{Bool, List, [], ◌∷◌, ◌++◌}
use Rattle.std.proofs.Common.{length, Err, refl, sym, ap, subst, ◌∙◌, arith}
use Rattle.std.proofs.Common.{append_assoc}
use Rattle.std.proofs.Common.{length-append, append-nil, inl, inr, leb-true, leb-false}
use Rattle.std.proofs.lemmas.List.{take_all, length-take-le}
use Rattle.bpf_helpers.specs.Promise.{Promise}
use Rattle.acdm_lines.specs.declared.lines.Lines.{Lines}
use Rattle.acdm_lines.specs.declared.run_error.RunError.{RunError}
use Rattle.acdm_lines.specs.Counted.{SourceView, faults_after}
use Rattle.acdm_lines.specs.Lines.{IsLine, kept, most_held}
use Rattle.acdm_lines.proofs.Feeds.{IsLine-append, NoneOrFirst}
use Rattle.acdm_lines.specs.NextLine.{TakesLine, TakesNone, TakesPart, FailsOrEndless, ReadsSoon}
use Rattle.acdm_lines.proofs.Reading.{kept-empty, kept-some, faults-more, logged-more, gave-more}
use Rattle.acdm_step.specs.declared.entry.Entry.{Entry}
use Rattle.acdm_step.specs.Commands.{History}
use Rattle.acdm_step.specs.History.{Board, IsLegal}
use Rattle.acdm_journal.specs.declared.stated.Stated.{Stated}
use Rattle.acdm_journal.specs.declared.judge.Clause.{Clause}
use Rattle.acdm_journal.specs.declared.judge.Clause.TheVariants as clauses
use Rattle.acdm_journal.specs.declared.journal_reader.JournalEnd.{JournalEnd}
use Rattle.acdm_journal.specs.declared.journal_reader.JournalEnd.TheVariants as ends
use Rattle.acdm_journal.specs.Text.{line_of, stated_in, history_text}
use Rattle.acdm_journal.specs.Ranges.{IsStated}
use Rattle.acdm_journal.specs.Audit.{States, StatesNext, Continues, Breaks}
use Rattle.acdm_journal.specs.Whole.{AreReadable, BreaksNext, at_line, at_end}
use Rattle.acdm_journal.specs.Behind.{AtFault, GaveBehind, ReadsBehind}
use Rattle.acdm_journal.specs.Uses.{UsesLine}
use Rattle.acdm_journal.specs.declared.reading.TheConstants.{LONGEST_ENTRY}
use Rattle.acdm_journal.specs.declared.journal_reader.TheConstants.{MOST_KEPT}

-- ---- a line, and what is kept of it

kept-short : (line : List ℕ) → length line ≤ LONGEST_ENTRY → kept MOST_KEPT line ≡ line
kept-short line short = take_all MOST_KEPT line (omega arith)

short-kept : (line : List ℕ) → length (kept MOST_KEPT line) ≤ LONGEST_ENTRY
    → length line ≤ LONGEST_ENTRY
short-kept line short =
    elim (nat_le (length line) LONGEST_ENTRY) as
    (λ v. nat_le (length line) LONGEST_ENTRY ≡ v → length line ≤ LONGEST_ENTRY) [
      | true ↦ λ e. leb-true (length line) LONGEST_ENTRY e
      | false ↦ λ e.
          let long : LONGEST_ENTRY < length line = leb-false (length line) LONGEST_ENTRY e in
          let cut : length (kept MOST_KEPT line) ≡ MOST_KEPT =
          length-take-le MOST_KEPT line (omega arith) in
          absurd (omega arith)
    ] refl

kept-is : (line : List ℕ) → length (kept MOST_KEPT line) ≤ LONGEST_ENTRY → kept MOST_KEPT line ≡ line
kept-is line short = kept-short line (short-kept line short)

module _ (sigs : List (ℕ × Promise)) (J : History) (line : List ℕ) where
  states-line : (s : Stated) → States (kept MOST_KEPT line) s → States line s
  states-line s t = record {
    line_is = sym (kept-is line t.short) ∙ t.line_is;
    is = t.is;
    short = short-kept line t.short;
  }

  next-line : (s : Stated) → StatesNext J (kept MOST_KEPT line) s → StatesNext J line s
  next-line s t = record { states = states-line s t.states; number = t.number }

  -- what is kept of a line breaks the clauses that the line breaks
  breaks-line : (clause : Clause) → Breaks sigs J (kept MOST_KEPT line) clause
      → Breaks sigs J line clause
  breaks-line clauses.Unreadable h =
      λ short. subst (λ l. length l ≤ LONGEST_ENTRY → (s : Stated) → IsStated s → l ≢ line_of s)
      (kept-short line short) h short
  breaks-line clauses.Number h = (h.0, states-line h.0 h.1, h.2)
  breaks-line clauses.Program h = (h.0, next-line h.0 h.1, h.2)
  breaks-line clauses.Answers h = (h.0, h.1, next-line h.0 h.2, h.3, h.4)
  breaks-line clauses.Outcome h = (h.0, h.1, next-line h.0 h.2, h.3, h.4, h.5)

  continues-line : (board : Board) → Continues sigs J (kept MOST_KEPT line) board
      → Continues sigs J line board
  continues-line board t = record {
    entry = t.entry;
    line_is = sym (kept-is line t.short) ∙ t.line_is;
    is = t.is;
    short = short-kept line t.short;
    legal = t.legal;
    command = t.command;
    replays = t.replays;
  }

-- a line that is too long breaks the first clause, whatever stands behind it
module _ (sigs : List (ℕ × Promise)) (J : History) (part later : List ℕ) (line : IsLine part)
    (long : MOST_KEPT ≤ length part) where
  pub breaks-long : NoneOrFirst later → BreaksNext sigs J (part ++ later) clauses.Unreadable
  breaks-long (inl none) =
      let sum : length (part ++ later) ≡ length part + length later = length-append part later in
      at_end (IsLine-append part later line none) (omega arith) refl
  breaks-long (inr first) =
      let sum : length (part ++ first.0) ≡ length part + length first.0 =
      length-append part first.0 in
      at_line (part ++ first.0) first.1 (IsLine-append part first.0 line first.2)
      (ap (λ l. part ++ l) first.3 ∙ sym (append_assoc part first.0 (10 ∷ first.1)))
      (λ short s. absurd (omega (arith, short, sum, long)))

-- ---- what was judged so far, and one line more

-- The reader gave the text of entries with which a legal history stays legal, which a use has, so many in all, and what
-- is held, and each read so far gave something.
pub record Sofar (sigs : List (ℕ × Promise)) (J : History) (has : History → Type 0) (start log held : List ℕ)
    (reads : ℕ) (entry : ℕ) : Type 0 where
  pub text : List ℕ
  pub newer : List Entry
  pub logged : log ≡ start ++ text
  pub gave : 2 ^ 40 ≤ length text + reads
  pub split : text ≡ history_text newer ++ held
  pub legal : IsLegal sigs (newer ++ J)
  pub readable : AreReadable sigs newer
  pub count : length (newer ++ J) ≡ entry
  pub taken : has (newer ++ J)

pub sofar-begins : (sigs : List (ℕ × Promise)) (J : History) (has : History → Type 0) (log held : List ℕ)
    (reads entry : ℕ) → held ≡ [] → reads ≡ 1099511627776 → IsLegal sigs J → length J ≡ entry → has J
    → Sofar sigs J has log log held reads entry
sofar-begins sigs J has log held reads entry none all legal count taken = record {
  text = [];
  newer = [];
  logged = sym (append-nil log);
  gave = omega (arith, all);
  split = sym none;
  legal = legal;
  readable = tt;
  count = count;
  taken = taken;
}

-- without memory for a line nothing was read
pub none-read : {R S : Type 0} (sigs : List (ℕ × Promise)) (bounded : Bool) (J : History) (has : History → Type 0)
    (stops : History → S → Type 0) (r : SourceView R) → IsLegal sigs J → has J
    → ReadsBehind sigs bounded J has stops r r ends.Memory
none-read sigs bounded J has stops r legal taken =
    (record { newer = []; rest = []; legal = legal; readable = tt; gave = sym (append-nil r.log) }, (taken, refl))

module _ {R : Type 0} (sigs : List (ℕ × Promise)) (bounded : Bool) (J : History) (has : History → Type 0)
    (r0 r1 r2 : SourceView R) (l1 l2 : Lines MOST_KEPT) (entry : ℕ)
    (so_far : Sofar sigs J has r0.log r1.log l1.window l1.reads_left entry) (before : r1.faults ≡ r0.faults)
    (is_soon : bounded ≡ true → ReadsSoon MOST_KEPT r1 r2 l1)
  where
    logged_with : (more : List ℕ) → r2.log ≡ r1.log ++ more
        → r2.log ≡ r0.log ++ (history_text so_far.newer ++ (l1.window ++ more))
    logged_with more e =
        logged-more r0.log r1.log r2.log so_far.text (history_text so_far.newer) l1.window more
        so_far.logged so_far.split e

    gave_with : (more : List ℕ) (left : ℕ) → l1.reads_left ≤ length more + left
        → 2 ^ 40 ≤ length (history_text so_far.newer ++ (l1.window ++ more)) + left
    gave_with more left g =
        gave-more so_far.text (history_text so_far.newer) l1.window more (2 ^ 40) l1.reads_left
        left so_far.gave so_far.split g

    -- no more was read behind the entries than is kept of a line and one read gives
    few : (more : List ℕ) → r2.log ≡ r1.log ++ more → bounded ≡ true
        → length (l1.window ++ more) ≤ MOST_KEPT + most_held
    few more e is =
        let read : length r2.log ≡ length r1.log + length more =
        ap length e ∙ length-append r1.log more in
        let sum : length (l1.window ++ more) ≡ length l1.window + length more =
        length-append l1.window more in
        omega (arith, is_soon is)

    -- what the reader gave then
    given : (more : List ℕ) → r2.log ≡ r1.log ++ more → GaveBehind sigs J r0.log r2.log
    given more e = record {
      newer = so_far.newer;
      rest = l1.window ++ more;
      legal = so_far.legal;
      readable = so_far.readable;
      gave = logged_with more e;
    }

    -- an entry more
    pub sofar-entry : (has' : History → Type 0) (line : List ℕ) → TakesLine MOST_KEPT r1 r2 l1 l2
        → line ≡ l2.line
        → ((board : Board) × (k : Continues sigs (so_far.newer ++ J) line board)
        × has' (k.entry ∷ (so_far.newer ++ J)))
        → Sofar sigs J has' r0.log r2.log l2.window l2.reads_left (entry + 1)
    unfolding continues-line
    sofar-entry has' line t is h =
        let k = subst (λ l. (board : Board) × (k : Continues sigs (so_far.newer ++ J) l board)
        × has' (k.entry ∷ (so_far.newer ++ J))) (is ∙ t.bytes_are) h in
        let n = continues-line sigs (so_far.newer ++ J) t.line k.0 k.1 in
        let text : List ℕ = line_of (stated_in n.entry) in
        let count : length (so_far.newer ++ J) ≡ entry = so_far.count in
        record {
          text = history_text so_far.newer ++ (l1.window ++ t.text);
          newer = n.entry ∷ so_far.newer;
          logged = logged_with t.text t.gave;
          gave = gave_with t.text l2.reads_left t.each_gave;
          split = ap (λ l. history_text so_far.newer ++ l)
              (t.split ∙ ap (λ l. l ++ 10 ∷ l2.window) n.line_is
              ∙ sym (append_assoc text (10 ∷ []) l2.window))
              ∙ sym (append_assoc (history_text so_far.newer) (text ++ 10 ∷ []) l2.window);
          legal = n.legal;
          readable = (
            so_far.readable,
            record {
              stated = n.is;
              command = n.command;
              short = subst (λ l. length l ≤ LONGEST_ENTRY) n.line_is n.short;
            },
          );
          count = omega arith;
          taken = k.2;
        }

    -- the line breaks a clause
    faulty-line : (has' : History → Type 0) (clause : Clause) (t : TakesLine MOST_KEPT r1 r2 l1 l2)
        → Breaks sigs (so_far.newer ++ J) l2.line clause → has' (so_far.newer ++ J)
        → AtFault sigs bounded has' r0 r2 (so_far.newer ++ J) (l1.window ++ t.text) entry clause
    faulty-line has' clause t h taken = record {
      count = so_far.count;
      taken = taken;
      line = t.line;
      later = l2.window;
      is_line = t.is_line;
      split = t.split;
      breaks = breaks-line sigs (so_far.newer ++ J) t.line clause
          (subst (λ l. Breaks sigs (so_far.newer ++ J) l clause) t.bytes_are h);
      soon = few t.text t.gave;
      well = t.well ∙ before;
    }

    -- the line ends the reading
    pub not-taken : {S : Type 0} (has' : History → Type 0) (stops : History → S → Type 0) (line : List ℕ)
        (end : JournalEnd S) → TakesLine MOST_KEPT r1 r2 l1 l2 → line ≡ l2.line
        → UsesLine {T = Unit {0}} sigs has' stops (so_far.newer ++ J) line (Err end)
        → ReadsBehind sigs bounded J has' stops r0 r2 end
    unfolding given
    not-taken has' stops line (ends.Faulty number clause) t is h = (
      given t.text t.gave,
      subst (λ n. AtFault sigs bounded has' r0 r2 (so_far.newer ++ J) (l1.window ++ t.text) n clause)
          (sym (h.0 ∙ so_far.count))
          (faulty-line has' clause t (subst (λ l. Breaks sigs (so_far.newer ++ J) l clause) is h.1) h.2),
    )
    not-taken has' stops line ends.Memory t is h = (given t.text t.gave, (h, t.well ∙ before))
    not-taken has' stops line (ends.Stopped s) t is h =
        let some : length (l1.window ++ t.text) ≡ length t.line + length (10 ∷ l2.window) =
        ap length t.split ∙ length-append t.line (10 ∷ l2.window) in
        (given t.text t.gave, (h, omega (arith, some), t.well ∙ before))
    not-taken has' stops line (ends.Whole n) t is h = absurd h
    not-taken has' stops line (ends.Rest n) t is h = absurd h
    not-taken has' stops line ends.Read t is h = absurd h

    -- the text has ended
    pub ends-whole : {S : Type 0} (stops : History → S → Type 0) → TakesNone MOST_KEPT r1 r2 l1 l2
        → length l2.line ≡ 0 → ReadsBehind sigs bounded J has stops r0 r2 (ends.Whole entry)
    unfolding given
    ends-whole stops t empty =
        let none : l1.window ++ t.text ≡ [] =
        kept-empty LONGEST_ENTRY (l1.window ++ t.text) (ap length (sym t.bytes_are) ∙ empty) in
        (given t.text t.gave, (none, ended_where t.why none, so_far.count, so_far.taken, t.well ∙ before))
      where
        ended_where : {rest : List ℕ} → (r2.ended ≡ true) ⊎ (MOST_KEPT ≤ length rest) → rest ≡ []
            → r2.ended ≡ true
        ended_where (inl ended) none = ended
        ended_where {rest} (inr long) none =
            let empty : length rest ≡ 0 = ap length none in
            absurd (omega (arith, long))

    -- the text has ended with the rest of a line, or a line is too long
    pub ends-rest : {S : Type 0} (stops : History → S → Type 0) → TakesNone MOST_KEPT r1 r2 l1 l2
        → 0 < length l2.line → (bounded ≡ false → r2.ended ≡ true)
        → ReadsBehind sigs bounded J has stops r0 r2 (ends.Rest entry)
    unfolding given
    ends-rest stops t some all =
        let rest : List ℕ = l1.window ++ t.text in
        let there : 0 < length rest =
        kept-some LONGEST_ENTRY rest (subst (λ l. 0 < length l) t.bytes_are some) in (
          given t.text t.gave,
          record {
            count_is = so_far.count;
            taken = so_far.taken;
            is_line = t.is_line;
            some = there;
            why = t.why;
            all = all;
            soon = few t.text t.gave;
            well = t.well ∙ before;
          },
        )

    -- no line more could be read
    pub unended : {S : Type 0} (stops : History → S → Type 0) (error : RunError)
        → TakesPart MOST_KEPT r1 r2 l1 l2 error → r0.faults < 2 ^ 64 - 1
        → ReadsBehind sigs bounded J has stops r0 r2 ends.Read
    unfolding given
    unended stops error t room =
        (given t.text t.gave, (t.is_line, so_far.taken, why t.why, few t.text t.gave))
      where
        why : (r2.faults ≡ faults_after true r1.faults)
            ⊎ ((r2.faults ≡ r1.faults) × (l1.reads_left ≤ length t.text))
            → FailsOrEndless r0.faults r2.faults
            (history_text so_far.newer ++ (l1.window ++ t.text))
        why (inl e) = inl (e ∙ ap (faults_after true) before ∙ faults-more r0.faults room)
        why (inr few) =
            let most : l1.reads_left ≤ length t.text = few.1 in
            let all = gave_with t.text 0 (omega arith) in
            inr (few.0 ∙ before, omega (arith, all))
