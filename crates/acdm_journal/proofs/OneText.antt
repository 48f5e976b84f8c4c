-- What is said of a text is decided: a line breaks one clause first, and a text has one verdict.
use Rattle.std.proofs.Common.{◌≡◌, ◌≢◌, ℕ, ◌<◌, ◌≤◌, true, false, nat_lt, List, [], ◌∷◌}
use Rattle.std.proofs.Common.{◌++◌, length, refl, sym, ap, subst, ◌∙◌, arith, append_assoc}
use Rattle.std.proofs.Common.{append-nil}
use borrow.Author.Tests.{ltb-true, ltb-false}
use Rattle.bpf_helpers.specs.Promise.{Promise}
use Rattle.acdm_lines.specs.Lines.{is_line_feed, IsLine}
use Rattle.acdm_step.specs.declared.command.Command.{Command}
use Rattle.acdm_step.specs.declared.entry.Entry.{Entry}
use Rattle.acdm_step.specs.declared.entry.Verdict.{Verdict}
use Rattle.acdm_step.specs.Commands.{History}
use Rattle.acdm_step.specs.Verdicts.{verdict_of}
use Rattle.acdm_step.specs.History.{IsLegal, replay}
use Rattle.acdm_journal.specs.declared.stated.Stated.{Stated}
use Rattle.acdm_journal.specs.declared.judge.Clause.{Clause}
use Rattle.acdm_journal.specs.declared.judge.Clause.TheVariants as clauses
use Rattle.acdm_journal.specs.Text.{line_of, stated_in, asked_in, entry_text}
use Rattle.acdm_journal.specs.Text.{history_text}
use Rattle.acdm_journal.specs.Audit.{IsCommandOf, States, StatesNext}
use Rattle.acdm_step.specs.Planning.{UsesAnswers}
use Rattle.acdm_journal.specs.Audit.{Breaks}
use Rattle.acdm_journal.specs.Whole.{IsReadable, AreReadable, IsTextOf, BreaksNext, at_line, at_end}
use Rattle.acdm_journal.specs.Whole.{FirstFault}
use Rattle.acdm_journal.proofs.PlainWords.{line_is_line}
use Rattle.acdm_journal.proofs.OneLine.{one_line}
use Rattle.acdm_journal.proofs.OneVerdict.{one_command, breaks_none}
use Rattle.acdm_journal.specs.declared.reading.TheConstants.{LONGEST_ENTRY}

-- ---- one clause

module _ (sigs : List (ℕ × Promise)) (J : History) (line : List ℕ) where
  same_stated : (s t : Stated) → States line s → States line t → s ≡ t
  same_stated s t p q = one_line s t p.is q.is (sym p.line_is ∙ q.line_is)

  commands_as : (s t : Stated) (c d : Command) → s ≡ t → IsCommandOf sigs s.asked c
      → IsCommandOf sigs t.asked d → c ≡ d
  commands_as s t c d e p q =
      one_command sigs t.asked c d (subst (λ (x : Stated). IsCommandOf sigs x.asked c) e p) q

  unread : (s : Stated) → States line s → Breaks sigs J line clauses.Unreadable → ⊥
  unread s t h = h t.short s t.is t.line_is

  misnumbered : (s t : Stated) → States line s → s.number ≢ length J → StatesNext J line t → ⊥
  misnumbered s t p other q =
      other (ap (λ (x : Stated). x.number) (same_stated s t p q.states) ∙ q.number)

  unloadable : (s t : Stated) (d : Command) → StatesNext J line s
      → ((c : Command) → IsCommandOf sigs s.asked c → ⊥) → StatesNext J line t
      → IsCommandOf sigs t.asked d → ⊥
  unloadable s t d p none q is =
      none d (subst (λ (x : Stated). IsCommandOf sigs x.asked d)
      (same_stated t s q.states p.states) is)

  unused : (s t : Stated) (c d : Command) → StatesNext J line s → IsCommandOf sigs s.asked c
      → (UsesAnswers sigs J s.role s.moment c s.answers → ⊥) → StatesNext J line t
      → IsCommandOf sigs t.asked d → UsesAnswers sigs J t.role t.moment d t.answers → ⊥
  unused s t c d p is none q js uses =
      let e : t ≡ s = same_stated t s q.states p.states in
      none (subst (λ x. UsesAnswers sigs J s.role s.moment x s.answers)
      (commands_as t s d c e js is)
      (subst (λ (x : Stated). UsesAnswers sigs J x.role x.moment d x.answers) e uses))

  pub one_clause : (c d : Clause) → Breaks sigs J line c → Breaks sigs J line d → c ≡ d
  one_clause clauses.Unreadable clauses.Unreadable p q = refl
  one_clause clauses.Unreadable clauses.Number p q = absurd (unread q.0 q.1 p)
  one_clause clauses.Unreadable clauses.Program p q = absurd (unread q.0 q.1.states p)
  one_clause clauses.Unreadable clauses.Answers p q = absurd (unread q.0 q.2.states p)
  one_clause clauses.Unreadable clauses.Outcome p q = absurd (unread q.0 q.2.states p)
  one_clause clauses.Number clauses.Unreadable p q = absurd (unread p.0 p.1 q)
  one_clause clauses.Number clauses.Number p q = refl
  one_clause clauses.Number clauses.Program p q = absurd (misnumbered p.0 q.0 p.1 p.2 q.1)
  one_clause clauses.Number clauses.Answers p q = absurd (misnumbered p.0 q.0 p.1 p.2 q.2)
  one_clause clauses.Number clauses.Outcome p q = absurd (misnumbered p.0 q.0 p.1 p.2 q.2)
  one_clause clauses.Program clauses.Unreadable p q = absurd (unread p.0 p.1.states q)
  one_clause clauses.Program clauses.Number p q = absurd (misnumbered q.0 p.0 q.1 q.2 p.1)
  one_clause clauses.Program clauses.Program p q = refl
  one_clause clauses.Program clauses.Answers p q =
      absurd (unloadable p.0 q.0 q.1 p.1 p.2 q.2 q.3)
  one_clause clauses.Program clauses.Outcome p q =
      absurd (unloadable p.0 q.0 q.1 p.1 p.2 q.2 q.3)
  one_clause clauses.Answers clauses.Unreadable p q = absurd (unread p.0 p.2.states q)
  one_clause clauses.Answers clauses.Number p q = absurd (misnumbered q.0 p.0 q.1 q.2 p.2)
  one_clause clauses.Answers clauses.Program p q =
      absurd (unloadable q.0 p.0 p.1 q.1 q.2 p.2 p.3)
  one_clause clauses.Answers clauses.Answers p q = refl
  one_clause clauses.Answers clauses.Outcome p q =
      absurd (unused p.0 q.0 p.1 q.1 p.2 p.3 p.4 q.2 q.3 q.4)
  one_clause clauses.Outcome clauses.Unreadable p q = absurd (unread p.0 p.2.states q)
  one_clause clauses.Outcome clauses.Number p q = absurd (misnumbered q.0 p.0 q.1 q.2 p.2)
  one_clause clauses.Outcome clauses.Program p q =
      absurd (unloadable q.0 p.0 p.1 q.1 q.2 p.2 p.3)
  one_clause clauses.Outcome clauses.Answers p q =
      absurd (unused q.0 p.0 q.1 p.1 q.2 q.3 q.4 p.2 p.3 p.4)
  one_clause clauses.Outcome clauses.Outcome p q = refl

-- ---- one cut

same_head : (a b : ℕ) (xs ys : List ℕ) → a ∷ xs ≡ b ∷ ys → a ≡ b
same_head a b xs ys e = cc

same_tail : (a b : ℕ) (xs ys : List ℕ) → a ∷ xs ≡ b ∷ ys → xs ≡ ys
same_tail a b xs ys e = cc

no_feed : (b : ℕ) → is_line_feed b ≡ false → 10 ≡ b → ⊥
no_feed b other e =
    let bad : is_line_feed 10 ≡ false = subst (λ v. is_line_feed v ≡ false) (sym e) other in
    absurd (cc bad)

pub one_cut : (xs ys a b : List ℕ) → IsLine xs → IsLine ys → xs ++ 10 ∷ a ≡ ys ++ 10 ∷ b
    → (xs ≡ ys) × (a ≡ b)
one_cut [] [] a b p q e = (refl, same_tail 10 10 a b e)
one_cut [] (y ∷ ys) a b p q e = absurd (no_feed y q.0 (same_head 10 y a (ys ++ 10 ∷ b) e))
one_cut (x ∷ xs) [] a b p q e =
    absurd (no_feed x p.0 (sym (same_head x 10 (xs ++ 10 ∷ a) b e)))
one_cut (x ∷ xs) (y ∷ ys) a b p q e =
    let rest = one_cut xs ys a b p.1 q.1 (same_tail x y (xs ++ 10 ∷ a) (ys ++ 10 ∷ b) e) in (
      ap (λ h. h ∷ xs) (same_head x y (xs ++ 10 ∷ a) (ys ++ 10 ∷ b) e)
          ∙ ap (λ l. y ∷ l) rest.0,
      rest.1,
    )

-- a line feed is in no line
cut_is_none : (xs a : List ℕ) → IsLine (xs ++ 10 ∷ a) → ⊥
cut_is_none [] a p = absurd (cc p.0)
cut_is_none (x ∷ xs) a p = cut_is_none xs a p.1

nothing_is_cut : (xs a : List ℕ) → [] ≡ xs ++ 10 ∷ a → ⊥
nothing_is_cut [] a e = absurd (cc)
nothing_is_cut (x ∷ xs) a e = absurd (cc)

-- ---- one history

-- what stands behind the text of an entry
behind : (J : History) (e : Entry) (more : List ℕ)
    → history_text (e ∷ J) ++ more ≡ history_text J ++ (line_of (stated_in e) ++ 10 ∷ more)
behind J e more =
    append_assoc (history_text J) (entry_text e) more
    ∙ ap (λ l. history_text J ++ l) (append_assoc (line_of (stated_in e)) (10 ∷ []) more)

entry_with : Stated → Command → Verdict → Entry
entry_with s c v = record {
  number = s.number;
  session = s.session;
  role = s.role;
  moment = s.moment;
  command = c;
  verdict = v;
  answers = s.answers;
}

-- after one history, entries of one line are one
same_entry : (sigs : List (ℕ × Promise)) (J : History) (e f : Entry) → IsLegal sigs (e ∷ J)
    → IsLegal sigs (f ∷ J) → IsReadable sigs e → IsReadable sigs f
    → line_of (stated_in e) ≡ line_of (stated_in f) → e ≡ f
unfolding entry_with
same_entry sigs J e f p q r t h =
    let s : stated_in e ≡ stated_in f =
    one_line (stated_in e) (stated_in f) r.stated t.stated h in
    let asked : IsCommandOf sigs (asked_in f.command) e.command =
    subst (λ (x : Stated). IsCommandOf sigs x.asked e.command) s r.command in
    let c : e.command ≡ f.command =
    one_command sigs (asked_in f.command) e.command f.command asked t.command in
    let role : e.role ≡ f.role = ap (λ (x : Stated). x.role) s in
    let v : e.verdict ≡ f.verdict =
    p.4.verdict_is ∙ ap (λ r. verdict_of sigs J r e.command) role
    ∙ ap (λ d. verdict_of sigs J f.role d) c ∙ sym q.4.verdict_is in
    ap (λ x. entry_with x e.command e.verdict) s
    ∙ ap (λ d. entry_with (stated_in f) d e.verdict) c
    ∙ ap (λ w. entry_with (stated_in f) f.command w) v

-- as many entries at the front of one text are the same
same_front : (sigs : List (ℕ × Promise)) (J K : History) (a b : List ℕ) → length J ≡ length K
    → IsLegal sigs J → IsLegal sigs K → AreReadable sigs J → AreReadable sigs K
    → history_text J ++ a ≡ history_text K ++ b → (J ≡ K) × (a ≡ b)
same_front sigs [] [] a b n p q r t h = (refl, h)
same_front sigs [] (f ∷ K) a b n p q r t h = absurd (omega arith)
same_front sigs (e ∷ J) [] a b n p q r t h = absurd (omega arith)
same_front sigs (e ∷ J) (f ∷ K) a b n p q r t h =
    let fewer : length J ≡ length K = omega arith in
    let d = line_of (stated_in e) in
    let g = line_of (stated_in f) in
    let rest = same_front sigs J K (d ++ 10 ∷ a) (g ++ 10 ∷ b) fewer p.0 q.0 r.0 t.0
    (sym (behind J e a) ∙ h ∙ behind K f b) in
    let cut = one_cut d g a b (line_is_line (stated_in e) r.1.stated)
    (line_is_line (stated_in f) t.1.stated) rest.1 in
    let same = same_entry sigs K e f (subst (λ H. IsLegal sigs (e ∷ H)) rest.0 p) q r.1 t.1 cut.0 in
    (ap (λ x. x ∷ J) same ∙ ap (λ H. f ∷ H) rest.0, cut.1)

-- behind a legal history stands an entry with which it stays legal
record GoesOn (sigs : List (ℕ × Promise)) (J : History) (rest : List ℕ) : Type 0 where
  entry : Entry
  later : List ℕ
  legal : IsLegal sigs (entry ∷ J)
  readable : IsReadable sigs entry
  is : rest ≡ line_of (stated_in entry) ++ 10 ∷ later

-- the first so many entries of a longer history, and that behind them
record Older (sigs : List (ℕ × Promise)) (n : ℕ) (K : History) : Type 0 where
  front : History
  readable : AreReadable sigs front
  count : length front ≡ n
  legal : IsLegal sigs front
  goes_on : (b : List ℕ) → (rest : List ℕ) × (history_text K ++ b ≡ history_text front ++ rest)
      × GoesOn sigs front rest

older : (sigs : List (ℕ × Promise)) (n : ℕ) (K : History) → IsLegal sigs K → AreReadable sigs K
    → n < length K → Older sigs n K
older sigs n [] p r h = absurd (omega arith)
older sigs n (e ∷ K) p r h =
    elim (nat_lt n (length K)) as (λ v. nat_lt n (length K) ≡ v → Older sigs n (e ∷ K)) [
      | true ↦ λ less.
          let o = older sigs n K p.0 r.0 (ltb-true n (length K) less) in
          record {
            front = o.front;
            readable = o.readable;
            count = o.count;
            legal = o.legal;
            goes_on = λ b.
                let more = o.goes_on (line_of (stated_in e) ++ 10 ∷ b) in
                (more.0, behind K e b ∙ more.1, more.2);
          }
      | false ↦ λ more.
          let least : length K ≤ n = ltb-false n (length K) more in
          record {
            front = K;
            readable = r.0;
            count = omega arith;
            legal = p.0;
            goes_on = λ b. (
              line_of (stated_in e) ++ 10 ∷ b,
              behind K e b,
              record {
                entry = e;
                later = b;
                legal = p;
                readable = r.1;
                is = refl;
              },
            );
          }
    ] refl

-- two legal fronts of one text: they are the same, or behind one of them an entry goes on
data Meets (sigs : List (ℕ × Promise)) (J K : History) (a b : List ℕ) : Type 0 where
  same : J ≡ K → a ≡ b → Meets sigs J K a b
  first_goes_on : GoesOn sigs J a → Meets sigs J K a b
  second_goes_on : GoesOn sigs K b → Meets sigs J K a b

module _ (sigs : List (ℕ × Promise)) (J K : History) (a b : List ℕ) (p : IsLegal sigs J)
    (q : IsLegal sigs K) (r : AreReadable sigs J) (t : AreReadable sigs K)
    (h : history_text J ++ a ≡ history_text K ++ b)
  where
    first_shorter : length J < length K → GoesOn sigs J a
    first_shorter less =
        let o = older sigs (length J) K q t less in
        let more = o.goes_on b in
        let e = same_front sigs o.front J more.0 a o.count o.legal p o.readable r
        (sym more.1 ∙ sym h) in
        subst (λ x. GoesOn sigs J x) e.1 (subst (λ H. GoesOn sigs H more.0) e.0 more.2)

    second_shorter : length K < length J → GoesOn sigs K b
    second_shorter less =
        let o = older sigs (length K) J p r less in
        let more = o.goes_on a in
        let e = same_front sigs o.front K more.0 b o.count o.legal q o.readable t
        (sym more.1 ∙ h) in
        subst (λ x. GoesOn sigs K x) e.1 (subst (λ H. GoesOn sigs H more.0) e.0 more.2)

    meets : Meets sigs J K a b
    meets =
        elim (nat_lt (length J) (length K)) as
        (λ v. nat_lt (length J) (length K) ≡ v → Meets sigs J K a b) [
          | true ↦ λ less. first_goes_on (first_shorter (ltb-true (length J) (length K) less))
          | false ↦ λ more.
              elim (nat_lt (length K) (length J)) as
              (λ w. nat_lt (length K) (length J) ≡ w → Meets sigs J K a b) [
                | true ↦ λ less.
                    second_goes_on (second_shorter (ltb-true (length K) (length J) less))
                | false ↦ λ most.
                    let low : length K ≤ length J = ltb-false (length J) (length K) more in
                    let high : length J ≤ length K = ltb-false (length K) (length J) most in
                    let e = same_front sigs J K a b (omega arith) p q r t h in
                    same e.0 e.1
              ] refl
        ] refl

-- ---- one verdict

module _ (sigs : List (ℕ × Promise)) (J : History) (rest : List ℕ) where
  no_break : (clause : Clause) → GoesOn sigs J rest → BreaksNext sigs J rest clause → ⊥
  no_break clause g (at_line line more is cut_so breaks) =
      let next : List ℕ = line_of (stated_in g.entry) in
      let cut = one_cut line next more g.later is (line_is_line _ g.readable.stated)
      (sym cut_so ∙ g.is) in
      breaks_none sigs J line (replay sigs (g.entry ∷ J)) (record {
        entry = g.entry;
        line_is = cut.0;
        is = g.readable.stated;
        short = subst (λ l. length l ≤ LONGEST_ENTRY) (sym cut.0) g.readable.short;
        legal = g.legal;
        command = g.readable.command;
        replays = refl;
      }) clause breaks
  no_break clause g (at_end is some which) =
      cut_is_none (line_of (stated_in g.entry)) g.later (subst IsLine g.is is)

  one_break : (c d : Clause) → BreaksNext sigs J rest c → BreaksNext sigs J rest d → c ≡ d
  one_break c d (at_line line more is cut_so breaks) (at_line line' more' is' cut_so' breaks') =
      let cut = one_cut line line' more more' is is' (sym cut_so ∙ cut_so') in
      one_clause sigs J line' c d (subst (λ l. Breaks sigs J l c) cut.0 breaks) breaks'
  one_break c d (at_line line more is cut_so breaks) (at_end is' some which) =
      absurd (cut_is_none line more (subst IsLine cut_so is'))
  one_break c d (at_end is some which) (at_line line more is' cut_so breaks) =
      absurd (cut_is_none line more (subst IsLine cut_so is))
  one_break c d (at_end is some which) (at_end is' some' which') = which ∙ sym which'

nothing_breaks : (sigs : List (ℕ × Promise)) (J : History) (clause : Clause)
    → BreaksNext sigs J [] clause → ⊥
nothing_breaks sigs J clause (at_line line more is cut_so breaks) = nothing_is_cut line more cut_so
nothing_breaks sigs J clause (at_end is some which) = absurd (omega arith)

nothing_goes_on : (sigs : List (ℕ × Promise)) (J : History) → GoesOn sigs J [] → ⊥
nothing_goes_on sigs J g = nothing_is_cut (line_of (stated_in g.entry)) g.later g.is

-- a text is that of one legal history
pub one_history : (sigs : List (ℕ × Promise)) (text : List ℕ) (J K : History)
    → IsTextOf sigs text J → IsTextOf sigs text K → J ≡ K
one_history sigs text J K s t =
    let e : history_text J ++ [] ≡ history_text K ++ [] =
    append-nil (history_text J) ∙ sym s.text_is ∙ t.text_is ∙ sym (append-nil (history_text K)) in
    only (meets sigs J K [] [] s.legal t.legal s.readable t.readable e)
  where
    only : Meets sigs J K [] [] → J ≡ K
    only (same e f) = e
    only (first_goes_on g) = absurd (nothing_goes_on sigs J g)
    only (second_goes_on g) = absurd (nothing_goes_on sigs K g)

-- the text of a legal history has no fault
pub no_fault : (sigs : List (ℕ × Promise)) (text : List ℕ) (J : History) (entry : ℕ)
    (clause : Clause) → IsTextOf sigs text J → FirstFault sigs text entry clause → ⊥
no_fault sigs text J entry clause t f =
    let e : history_text J ++ [] ≡ history_text f.front ++ f.rest =
    append-nil (history_text J) ∙ sym t.text_is ∙ f.text_is in
    none (meets sigs J f.front [] f.rest t.legal f.legal t.readable f.readable e)
  where
    none : Meets sigs J f.front [] f.rest → ⊥
    none (same e g) =
        nothing_breaks sigs f.front clause
        (subst (λ l. BreaksNext sigs f.front l clause) (sym g) f.breaks)
    none (first_goes_on g) = nothing_goes_on sigs J g
    none (second_goes_on g) = no_break sigs f.front f.rest clause g f.breaks

-- a text has one first fault
pub one_fault : (sigs : List (ℕ × Promise)) (text : List ℕ) (m n : ℕ) (c d : Clause)
    → FirstFault sigs text m c → FirstFault sigs text n d → (m ≡ n) × (c ≡ d)
one_fault sigs text m n c d f g =
    only (meets sigs f.front g.front f.rest g.rest f.legal g.legal f.readable g.readable
    (sym f.text_is ∙ g.text_is))
  where
    only : Meets sigs f.front g.front f.rest g.rest → (m ≡ n) × (c ≡ d)
    only (same e h) = (
      sym f.count ∙ ap length e ∙ g.count,
      one_break sigs g.front g.rest c d
          (subst (λ l. BreaksNext sigs g.front l c) h
          (subst (λ H. BreaksNext sigs H f.rest c) e f.breaks)) g.breaks,
    )
    only (first_goes_on o) = absurd (no_break sigs f.front f.rest c o f.breaks)
    only (second_goes_on o) = absurd (no_break sigs g.front g.rest d o g.breaks)
