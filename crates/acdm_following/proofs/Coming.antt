-- What comes of one connection.
use Rattle.std.proofs.Common.{◌≡◌, ℕ, ◌+◌, ◌-◌, ◌^◌, ◌≤◌, inl, inr, true, Bool, List, [], ◌∷◌, ◌++◌}
use Rattle.std.proofs.Common.{length, drop, Some, Result, Ok, Err}
use Rattle.std.proofs.Common.{refl, sym, ap, subst, ◌∙◌, arith, append_assoc, append-nil, length-append}
use Rattle.acdm_board.specs.Desk.{DeskView}
use Rattle.acdm_failures.specs.declared.failure.Failure.{Failure}
use Rattle.acdm_failures.specs.declared.failure.Failure.TheVariants as failures
use Rattle.acdm_keeping.specs.Kept.{CutsShort}
use Rattle.acdm_lines.specs.Counted.{SourceView}
use Rattle.acdm_lines.specs.Lines.{IsLine}
use Rattle.acdm_step.specs.Commands.{History}
use Rattle.acdm_step.specs.History.{IsLegal}
use Rattle.acdm_following.specs.declared.first_board.Parting.{Parting}
use Rattle.acdm_following.specs.declared.first_board.Parting.TheVariants as partings
use Rattle.acdm_following.specs.Comes.{BringsText, Comes, Fits, HearsHead, IsLeft, IsUnfit, TakesHead}
use Rattle.acdm_following.specs.Entering.{Enters, EntersLines, LacksRoom, Stays}
use Rattle.acdm_following.specs.Heads.{HeadView, IsNamed, IsNoJournal, Says, head_of}
use Rattle.acdm_following.specs.Hearing.{Heard, Hears}
use Rattle.acdm_following.proofs.Entered.{enters_both, enters_none}

-- ---- the first line

drop_front : (xs ys : List ℕ) (n : ℕ) → n ≡ length xs → drop n (xs ++ ys) ≡ ys
drop_front [] ys n e = ap (λ k. drop k ys) e
drop_front (x ∷ xs) ys n e = ap (λ k. drop k ((x ∷ xs) ++ ys)) e ∙ drop_front xs ys (length xs) refl

pub says_so : (text line later : List ℕ) (head : HeadView) → IsLine line → text ≡ line ++ 10 ∷ later
    → head_of line ≡ Some head → Says text head later
says_so text line later head is_line split is =
    record { line = line; first = record { is_line = is_line; split = split }; head_is = is }

-- no first line is in what was read, which is all that came
pub heard_none : (faults : ℕ) (gave : List ℕ) (ended : Bool) (text left : List ℕ) (why : Parting)
    → gave ≡ text → TakesHead text left (Err why) → HearsHead faults gave ended left (Err why)
heard_none faults gave ended text left partings.NotAJournal same h = subst IsNoJournal (sym same) h
heard_none faults gave ended text left (partings.Failed failures.Memory) same h = tt
heard_none faults gave ended text left partings.Ended same h = absurd h
heard_none faults gave ended text left partings.Read same h = absurd h
heard_none faults gave ended text left partings.OtherJournal same h = absurd h
heard_none faults gave ended text left (partings.Behind has) same h = absurd h
heard_none faults gave ended text left (partings.Ahead next) same h = absurd h
heard_none faults gave ended text left (partings.Faulty entry clause) same h = absurd h
heard_none faults gave ended text left (partings.Failed f) same h = absurd h

-- no more came
pub heard_part : {R : Type 0} (old new : SourceView R) (pending after : List ℕ) (why : Parting) → old.log ≡ pending
    → IsLine pending → Hears old new pending after (Err why) → HearsHead new.faults new.log new.ended after (Err why)
heard_part old new pending after partings.Read same line h = (subst IsLine (sym (h.0 ∙ same)) line, h.1)
heard_part old new pending after (partings.Failed failures.Memory) same line h = tt
heard_part old new pending after partings.NotAJournal same line h = absurd h
heard_part old new pending after partings.Ended same line h = absurd h
heard_part old new pending after partings.OtherJournal same line h = absurd h
heard_part old new pending after (partings.Behind has) same line h = absurd h
heard_part old new pending after (partings.Ahead next) same line h = absurd h
heard_part old new pending after (partings.Faulty entry clause) same line h = absurd h
heard_part old new pending after (partings.Failed f) same line h = absurd h

-- ---- nothing was entered

pub unfit_head : (J : History) (faults : ℕ) (gave : List ℕ) (ended : Bool) (later : List ℕ) (why : Parting)
    → HearsHead faults gave ended later (Err why) → IsUnfit J faults gave ended why
unfit_head J faults gave ended later partings.Ended h = h
unfit_head J faults gave ended later partings.Read h = h
unfit_head J faults gave ended later partings.NotAJournal h = h
unfit_head J faults gave ended later (partings.Failed failures.Memory) h = tt
unfit_head J faults gave ended later partings.OtherJournal h = absurd h
unfit_head J faults gave ended later (partings.Behind has) h = absurd h
unfit_head J faults gave ended later (partings.Ahead next) h = absurd h
unfit_head J faults gave ended later (partings.Faulty entry clause) h = absurd h
unfit_head J faults gave ended later (partings.Failed f) h = absurd h

pub unfit_other : (T : Type 0) (J : History) (faults : ℕ) (gave : List ℕ) (ended : Bool) (later : List ℕ)
    (head : HeadView) (why : Parting) → Says gave head later → Fits {T = T} J head (Err why)
    → IsUnfit J faults gave ended why
unfit_other T J faults gave ended later head partings.OtherJournal says h =
    record { head = head; later = later; says = says; other = h }
unfit_other T J faults gave ended later head (partings.Behind has) says h =
    (record { head = head; later = later; says = says; named = h.0; next_is = h.1 }, h.2)
unfit_other T J faults gave ended later head (partings.Ahead next) says h =
    (record { head = head; later = later; says = says; named = h.0; next_is = h.1 }, h.2)
unfit_other T J faults gave ended later head (partings.Failed failures.Memory) says h = tt
unfit_other T J faults gave ended later head partings.Ended says h = absurd h
unfit_other T J faults gave ended later head partings.Read says h = absurd h
unfit_other T J faults gave ended later head partings.NotAJournal says h = absurd h
unfit_other T J faults gave ended later head (partings.Faulty entry clause) says h = absurd h
unfit_other T J faults gave ended later head (partings.Failed f) says h = absurd h

-- ---- entries came

-- What was read and entered so far behind the first line, in all reads but so many that are left, each of which gave
-- something.
pub record SoFar {R : Type 0} (name : List ℕ) (before desk : DeskView) (start now : SourceView R)
    (first pending : List ℕ) (reads : ℕ) : Type 0 where
  pub more : List ℕ
  pub text : List ℕ
  pub count : 2 ^ 64 - 1 ≤ length more + reads
  pub gave : now.log ≡ start.log ++ more
  pub split : first ++ more ≡ text ++ pending
  pub enters : Enters before desk text
  pub named : IsNamed name before.history → IsNamed name desk.history
  pub well : now.faults ≡ 0

pub begins : {R : Type 0} (name : List ℕ) (desk : DeskView) (start : SourceView R) (first : List ℕ) (reads : ℕ)
    → IsLegal desk.sigs desk.history → start.faults ≡ 0 → reads ≡ 18446744073709551615
    → SoFar name desk desk start start first first reads
begins name desk start first reads legal well all = record {
  more = [];
  text = [];
  count = omega (arith, all);
  gave = sym (append-nil start.log);
  split = append-nil first;
  enters = enters_none desk legal;
  named = λ h. h;
  well = well;
}

-- with what was entered of what was read
entered_more : {R T : Type 0} (name : List ℕ) (before desk after : DeskView) (start now : SourceView R)
    (first pending left : List ℕ) (reads : ℕ) (result : Result T Parting)
    → SoFar name before desk start now first pending reads
    → (t : EntersLines name desk after pending left result) → SoFar name before after start now first t.rest reads
entered_more name before desk after start now first pending left reads result s t = record {
  more = s.more;
  count = s.count;
  text = s.text ++ t.front;
  gave = s.gave;
  split = s.split ∙ ap (λ l. s.text ++ l) t.split ∙ sym (append_assoc s.text t.front t.rest);
  enters = enters_both before desk after s.text t.front s.enters t.enters;
  named = λ h. t.named (s.named h);
  well = s.well;
}

-- with what was read more
heard_more : {R : Type 0} (name : List ℕ) (before desk : DeskView) (start now later : SourceView R)
    (first pending more : List ℕ) (reads fewer : ℕ) → SoFar name before desk start now first pending reads
    → Heard now later more → reads ≤ length more + fewer
    → SoFar name before desk start later first (pending ++ more) fewer
heard_more name before desk start now later first pending more reads fewer s h some = record {
  more = s.more ++ more;
  count = omega (arith, s.count, some, length-append s.more more);
  text = s.text;
  gave = h.gave ∙ ap (λ l. l ++ more) s.gave ∙ append_assoc start.log s.more more;
  split = sym (append_assoc first s.more more) ∙ ap (λ l. l ++ more) s.split ∙ append_assoc s.text pending more;
  enters = s.enters;
  named = s.named;
  well = h.well ∙ s.well;
}

-- and no more
ends_so : {R : Type 0} (name : List ℕ) (before after : DeskView) (start now later : SourceView R)
    (first rest : List ℕ) (reads : ℕ) (why : Parting) → (s : SoFar name before after start now first rest reads)
    → later.log ≡ now.log → IsLeft name after later.faults s.text later.ended rest why
    → BringsText name before after start later first why
ends_so name before after start now later first rest reads why s same left = record {
  more = s.more;
  text = s.text;
  rest = rest;
  gave = same ∙ s.gave;
  split = s.split;
  enters = s.enters;
  named = s.named;
  left = left;
}

-- keeping failed
pub ends_unkept : {R T : Type 0} (name : List ℕ) (before desk after : DeskView) (start now : SourceView R)
    (first pending left : List ℕ) (reads : ℕ) (result : Result T Parting) (failure : Failure)
    → SoFar name before desk start now first pending reads → EntersLines name desk after pending left result
    → CutsShort failure → BringsText name before after start now first (partings.Failed failure)
unfolding entered_more
ends_unkept name before desk after start now first pending left reads result failure s t cut =
    let e = entered_more name before desk after start now first pending left reads result s t in
    ends_so name before after start now now first t.rest reads (partings.Failed failure) e refl
    (is_left failure cut e.text)
  where
    is_left : (f : Failure) → CutsShort f → (text : List ℕ)
        → IsLeft name after now.faults text now.ended t.rest (partings.Failed f)
    is_left failures.Save cut text = tt
    is_left failures.Memory cut text = tt
    is_left f cut text = absurd cut

more_room : (desk : DeskView) (text front rest : List ℕ) → LacksRoom desk front rest
    → LacksRoom desk (text ++ front) rest
more_room desk text front rest (inl full) = inl full
more_room desk text front rest (inr many) = inr (omega (arith, many, length-append text front))

-- a line was not entered
pub ends_there : {R T : Type 0} (name : List ℕ) (before desk after : DeskView) (start now : SourceView R)
    (first pending left : List ℕ) (reads : ℕ) (why : Parting)
    → SoFar name before desk start now first pending reads
    → EntersLines {T = T} name desk after pending left (Err why) → BringsText name before after start now first why
unfolding entered_more
ends_there {R} {T} name before desk after start now first pending left reads why s t =
    ends_so name before after start now now first t.rest reads why
    (entered_more {T = T} name before desk after start now first pending left reads (Err why) s t) refl
    (is_left why t.stays)
  where
    is_left : (w : Parting) → Stays {T = T} name after t.front t.rest (Err w)
        → IsLeft name after now.faults (s.text ++ t.front) now.ended t.rest w
    is_left partings.OtherJournal h = h
    is_left (partings.Faulty entry clause) h = h
    is_left (partings.Failed failures.Room) h = more_room after s.text t.front t.rest h
    is_left (partings.Failed failures.Memory) h = tt
    is_left partings.Ended h = absurd h
    is_left partings.Read h = absurd h
    is_left partings.NotAJournal h = absurd h
    is_left (partings.Behind has) h = absurd h
    is_left (partings.Ahead next) h = absurd h
    is_left (partings.Failed f) h = absurd h

-- all whole lines were entered
pub entered_all : {R T : Type 0} (name : List ℕ) (before desk after : DeskView) (start now : SourceView R)
    (first pending left : List ℕ) (reads : ℕ) (x : T) → SoFar name before desk start now first pending reads
    → EntersLines name desk after pending left (Ok x)
    → SoFar name before after start now first left reads × IsLine left
unfolding entered_more
entered_all name before desk after start now first pending left reads x s t =
    let same = sym t.left_is in (
      subst (λ l. SoFar name before after start now first l reads) same
          (entered_more name before desk after start now first pending left reads (Ok x) s t),
      subst IsLine same t.stays,
    )

-- the connection has ended
pub ends_ended : {R : Type 0} (name : List ℕ) (before after : DeskView) (start now later : SourceView R)
    (first rest : List ℕ) (reads : ℕ) → SoFar name before after start now first rest reads × IsLine rest
    → later.log ≡ now.log
    → later.ended ≡ true → BringsText name before after start later first partings.Ended
ends_ended name before after start now later first rest reads s same ended =
    ends_so name before after start now later first rest reads partings.Ended s.0 same (s.1, ended)

-- no more could be read
pub ends_unread : {R : Type 0} (name : List ℕ) (before after : DeskView) (start now later : SourceView R)
    (first rest left : List ℕ) (reads : ℕ) (why : Parting)
    → SoFar name before after start now first rest reads × IsLine rest
    → Hears now later rest left (Err why) → BringsText name before after start later first why
unfolding heard_more
ends_unread name before after start now later first rest left reads partings.Read s h =
    ends_so name before after start now later first rest reads partings.Read s.0 h.0 (inl (s.1, h.1))
ends_unread name before after start now later first rest left reads (partings.Failed failures.Memory) s h =
    ends_so name before after start later later first (rest ++ h.0) reads (partings.Failed failures.Memory)
    (heard_more name before after start now later first rest h.0 reads reads s.0 h.1 (omega arith)) refl tt
ends_unread name before after start now later first rest left reads partings.Ended s h = absurd h
ends_unread name before after start now later first rest left reads partings.NotAJournal s h = absurd h
ends_unread name before after start now later first rest left reads partings.OtherJournal s h = absurd h
ends_unread name before after start now later first rest left reads (partings.Behind has) s h = absurd h
ends_unread name before after start now later first rest left reads (partings.Ahead next) s h = absurd h
ends_unread name before after start now later first rest left reads (partings.Faulty entry clause) s h = absurd h
ends_unread name before after start now later first rest left reads (partings.Failed f) s h = absurd h

-- more was read
pub goes_on : {R : Type 0} (name : List ℕ) (before after : DeskView) (start now later : SourceView R)
    (first rest left : List ℕ) (reads fewer : ℕ) → SoFar name before after start now first rest reads × IsLine rest
    → Hears now later rest left (Ok true) → reads ≤ fewer + 1 → SoFar name before after start later first left fewer
unfolding heard_more
goes_on name before after start now later first rest left reads fewer s h less =
    subst (λ l. SoFar name before after start later first l fewer) (sym h.3)
    (heard_more name before after start now later first rest h.0 reads fewer s.0 h.1 (omega (arith, h.2, less)))

-- as much was read as may be
pub ends_long : {R : Type 0} (name : List ℕ) (before after : DeskView) (start now : SourceView R)
    (first rest : List ℕ) (reads : ℕ) → SoFar name before after start now first rest reads → reads ≡ 0
    → BringsText name before after start now first partings.Read
ends_long name before after start now first rest reads s none =
    ends_so name before after start now now first rest reads partings.Read s refl
    (inr (omega (arith, s.count, none, ap length s.split, length-append first s.more)))

-- ---- with the first line

pub says_more : (gave later more text rest all : List ℕ) (head : HeadView) → Says gave head later
    → all ≡ gave ++ more → later ++ more ≡ text ++ rest → Says all head (text ++ rest)
says_more gave later more text rest all head says same split = record {
  line = says.line;
  first = record {
    is_line = says.first.is_line;
    split = same ∙ ap (λ l. l ++ more) says.first.split
        ∙ append_assoc says.line (10 ∷ later) more ∙ ap (λ l. says.line ++ 10 ∷ l) split;
  };
  head_is = says.head_is;
}

pub brings_all : {R : Type 0} (head : HeadView) (before after : DeskView) (old new : SourceView R)
    (later : List ℕ) (why : Parting) → Says old.log head later → IsNamed head.name before.history
    → head.next ≡ length before.history → BringsText head.name before after old new later why
    → Comes before after new.faults new.log new.ended why
brings_all head before after old new later why says named next b = inr (record {
  head = head;
  text = b.text;
  rest = b.rest;
  says = says_more old.log later b.more b.text b.rest new.log head says b.gave b.split;
  next_is = next;
  enters = b.enters;
  named = b.named named;
  left = b.left;
})
