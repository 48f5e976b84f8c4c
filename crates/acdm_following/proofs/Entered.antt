-- What is entered of a text.
use Rattle.std.proofs.Common.{◌≡◌, ℕ, ◌^◌, ◌<◌, ◌≤◌, ◌⊎◌, inl, inr, true, List, [], ◌∷◌, ◌++◌}
use Rattle.std.proofs.Common.{length, drop, Some, Result, Ok, Err}
use Rattle.std.proofs.Common.{refl, sym, ap, subst, ◌∙◌, arith, append_assoc, append-nil, length-append}
use Rattle.std.specs.Prelude.{OnOk}
use Rattle.std.specs.Io.KnownBytes.{Consumes}
use Rattle.bpf_helpers.specs.Promise.{Promise}
use Rattle.acdm_board.specs.Desk.{DeskView}
use Rattle.acdm_failures.specs.declared.failure.Failure.TheVariants as failures
use Rattle.acdm_journal.specs.Behind.{GaveBehind}
use Rattle.acdm_journal.specs.Text.{history_text}
use Rattle.acdm_journal.specs.Whole.{AreReadable}
use Rattle.acdm_lines.specs.Counted.{SourceView}
use Rattle.acdm_lines.specs.Lines.{IsLine}
use Rattle.acdm_restoring.specs.declared.restoring.RestoreError.{RestoreError}
use Rattle.acdm_restoring.specs.declared.restoring.RestoreError.TheVariants as errors
use Rattle.acdm_restoring.specs.Restored.{EndsRestoring, LacksRoom, RestoresBehind, with_entries}
use Rattle.acdm_restoring.proofs.Behind.{text_behind}
use Rattle.acdm_step.specs.declared.entry.Entry.{Entry}
use Rattle.acdm_step.specs.Commands.{History}
use Rattle.acdm_step.specs.History.{IsLegal}
use Rattle.acdm_following.specs.declared.first_board.Parting.{Parting}
use Rattle.acdm_following.specs.declared.first_board.Parting.TheVariants as partings
use Rattle.acdm_following.specs.Entering.{at_line, Enters, EntersLines, EntersText, Stays, TakesBytes}
use Rattle.acdm_following.specs.Entering.{answer_of, name_by}
use Rattle.acdm_following.specs.Heads.{IsNamed}
use Rattle.acdm_following.proofs.Named.{named_then}

-- ---- entries behind others

pub enters_none : (desk : DeskView) → IsLegal desk.sigs desk.history → Enters desk desk []
enters_none desk legal =
    record { newer = []; legal = legal; readable = tt; after_is = refl; text_is = refl }

readable_both : (sigs : List (ℕ × Promise)) (xs ys : History) → AreReadable sigs xs → AreReadable sigs ys
    → AreReadable sigs (xs ++ ys)
readable_both sigs [] ys p q = q
readable_both sigs (e ∷ xs) ys p q = (readable_both sigs xs ys p.0 q, p.1)

pub enters_both : (before middle after : DeskView) (one two : List ℕ) → Enters before middle one
    → Enters middle after two → Enters before after (one ++ two)
enters_both before middle after one two p q =
    let m : List Entry = p.newer in
    let n : List Entry = q.newer in
    let all : n ++ middle.history ≡ (n ++ m) ++ before.history =
    ap (λ (d : DeskView). n ++ d.history) p.after_is ∙ sym (append_assoc n m before.history) in
    record {
      newer = n ++ m;
      legal = subst (λ (H : History). IsLegal before.sigs H) all
          (subst (λ s. IsLegal s (n ++ middle.history)) (ap (λ (d : DeskView). d.sigs) p.after_is) q.legal);
      readable = readable_both before.sigs n m
          (subst (λ s. AreReadable s n) (ap (λ (d : DeskView). d.sigs) p.after_is) q.readable) p.readable;
      after_is = q.after_is
          ∙ ap (λ (d : DeskView). with_entries d n) p.after_is
          ∙ ap (λ (H : History). record before { history = H }) (sym (append_assoc n m before.history));
      text_is = ap (λ l. l ++ two) p.text_is ∙ ap (λ l. history_text m ++ l) q.text_is ∙ sym (text_behind n m);
    }

-- ---- a text that is read to its end

module _ {R : Type 0} (before after : DeskView) (old new : SourceView R) (text left : List ℕ)
    (g : GaveBehind before.sigs before.history old.log new.log) (fresh : old.log ≡ [])
    (is : text ≡ new.log ++ left) (after_is : after ≡ with_entries before g.newer)
  where
    split_is : text ≡ history_text g.newer ++ (g.rest ++ left)
    split_is =
        is ∙ ap (λ l. l ++ left) (g.gave ∙ ap (λ l. l ++ (history_text g.newer ++ g.rest)) fresh)
        ∙ append_assoc (history_text g.newer) g.rest left

    entered : Enters before after (history_text g.newer)
    entered = record {
      newer = g.newer;
      legal = g.legal;
      readable = g.readable;
      after_is = after_is;
      text_is = refl;
    }

    pub text_entered : (result : Result ℕ Parting)
        → TakesBytes after (history_text g.newer) (g.rest ++ left) result
        → EntersText before after text result
    unfolding split_is entered
    text_entered result takes = record {
      front = history_text g.newer;
      rest = g.rest ++ left;
      split = split_is;
      enters = entered;
      takes = takes;
    }

line_or_more : (xs ys : List ℕ) → 0 < length xs → 0 < length (xs ++ ys)
line_or_more xs ys some = omega (arith, some, length-append xs ys)

takes_bytes : {R : Type 0} (after : DeskView) (old new : SourceView R) (text rest left : List ℕ)
    (result : Result ℕ RestoreError) → (new.ended ≡ true → left ≡ [])
    → EndsRestoring after old new text rest result
    → TakesBytes after text (rest ++ left) (answer_of result)
takes_bytes after old new text rest left (Ok bytes) none h =
    (subst IsLine (sym (ap (λ l. rest ++ l) (none h.1) ∙ append-nil rest)) h.0, h.2)
takes_bytes after old new text rest left (Err (errors.Faulty entry clause)) none h =
    let f = h.0 in (
      sym f.count,
      at_line f.line (f.later ++ left)
          (record {
            is_line = f.is_line;
            split = ap (λ l. l ++ left) f.split ∙ append_assoc f.line (10 ∷ f.later) left;
          }) f.breaks,
    )
takes_bytes after old new text rest left (Err errors.Full) none h = room h.0
  where
    room : LacksRoom after.capacity after.history text rest
        → ((length after.history ≡ after.capacity) × (0 < length (rest ++ left))) ⊎ (2 ^ 64 ≤ length text)
    room (inl full) = inl (full.0, line_or_more rest left full.1)
    room (inr many) = inr many
takes_bytes after old new text rest left (Err errors.Read) none h = tt
takes_bytes after old new text rest left (Err errors.Memory) none h = tt

pub left_of : (text left log : List ℕ) → Consumes (Some text) (Some left) log → text ≡ log ++ left
left_of text left log h = h

pub text_restored : {R : Type 0} (before after : DeskView) (old new : SourceView R) (text left : List ℕ)
    (result : Result ℕ RestoreError) → old.log ≡ [] → text ≡ new.log ++ left → (new.ended ≡ true → left ≡ [])
    → RestoresBehind before after old new result → EntersText before after text (answer_of result)
text_restored before after old new text left result fresh is none h =
    let g : GaveBehind before.sigs before.history old.log new.log = h.0 in
    text_entered before after old new text left g fresh is h.1 (answer_of result)
    (takes_bytes after old new (history_text g.newer) g.rest left result none
    (subst (λ (d : DeskView). EndsRestoring d old new (history_text g.newer) g.rest result) (sym h.1) h.2))

-- ---- the lines of a journal of this name

taken : (front rest : List ℕ) (n : ℕ) → n ≡ length front → drop n (front ++ rest) ≡ rest
taken [] rest n e = ap (λ k. drop k rest) e
taken (x ∷ front) rest n e =
    ap (λ k. drop k ((x ∷ front) ++ rest)) e ∙ taken front rest (length front) refl

-- what was entered of a text, by the name of its journal
named_lines : (name : List ℕ) (before after : DeskView) (text line later front rest : List ℕ) → IsLine line
    → text ≡ line ++ 10 ∷ later → (before.history ≡ [] → name_by line ≡ name) → text ≡ front ++ rest
    → Enters before after front → IsNamed name before.history → IsNamed name after.history
named_lines name before after text line later front rest is_line first may split e named =
    subst (λ (d : DeskView). IsNamed name d.history) (sym e.after_is)
    (named_then before.sigs name before.history e.newer rest line later e.readable is_line
    (ap (λ l. l ++ rest) (sym e.text_is) ∙ sym split ∙ first) may named)

pub lines_taken : {T : Type 0} (x : T) (name : List ℕ) (before after : DeskView) (text line later left : List ℕ)
    (bytes : ℕ) → IsLine line → text ≡ line ++ 10 ∷ later → (before.history ≡ [] → name_by line ≡ name)
    → EntersText before after text (Ok bytes) → left ≡ drop bytes text
    → EntersLines name before after text left (Ok x)
lines_taken x name before after text line later left bytes is_line first may t is = record {
  front = t.front;
  rest = t.rest;
  split = t.split;
  enters = t.enters;
  named = named_lines name before after text line later t.front t.rest is_line first may t.split t.enters;
  stays = t.takes.0;
  left_is = is ∙ ap (drop bytes) t.split ∙ taken t.front t.rest bytes t.takes.1;
}

pub lines_stopped : {T : Type 0} (name : List ℕ) (before after : DeskView) (text line later left : List ℕ)
    (why : Parting) → IsLine line → text ≡ line ++ 10 ∷ later → (before.history ≡ [] → name_by line ≡ name)
    → EntersText before after text (Err why) → EntersLines {T = T} name before after text left (Err why)
lines_stopped {T} name before after text line later left why is_line first may t = record {
  front = t.front;
  rest = t.rest;
  split = t.split;
  enters = t.enters;
  named = named_lines name before after text line later t.front t.rest is_line first may t.split t.enters;
  stays = stays why t.takes;
  left_is = tt;
}
  where
    stays : (w : Parting) → TakesBytes after t.front t.rest (Err w) → Stays {T = T} name after t.front t.rest (Err w)
    stays (partings.Faulty entry clause) h = h
    stays (partings.Failed failures.Room) h = h
    stays (partings.Failed failures.Memory) h = h
    stays partings.Ended h = absurd h
    stays partings.Read h = absurd h
    stays partings.NotAJournal h = absurd h
    stays partings.OtherJournal h = absurd h
    stays (partings.Behind has) h = absurd h
    stays (partings.Ahead next) h = absurd h
    stays (partings.Failed f) h = absurd h

-- nothing was entered
pub none_entered : {T : Type 0} (name : List ℕ) (desk : DeskView) (text : List ℕ) (result : Result T Parting)
    → IsLegal desk.sigs desk.history → Stays name desk [] text result → EntersLines name desk desk text text result
none_entered {T} name desk text result legal stays = record {
  front = [];
  rest = text;
  split = refl;
  enters = enters_none desk legal;
  named = λ h. h;
  stays = stays;
  left_is = same result;
}
  where
    same : (r : Result T Parting) → OnOk r (text ≡ text)
    same (Ok x) = refl
    same (Err e) = tt
