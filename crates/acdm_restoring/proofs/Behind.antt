-- What a desk has of entries that stand behind those it has.
use Rattle.std.proofs.Common.{◌≡◌, ℕ, ◌+◌, ◌^◌, ◌<◌, ◌≤◌, ◌⊎◌, inl, inr, true, false, Option, Some, None}
use Rattle.std.proofs.Common.{Result, Ok, Err, List, [], ◌∷◌, ◌++◌, length}
use Rattle.std.proofs.Common.{refl, sym, ap, subst, ◌∙◌, arith, append_assoc, append-nil, length-append}
use Rattle.bpf_helpers.specs.Promise.{Promise}
use Rattle.acdm_lines.specs.Counted.{SourceView}
use Rattle.acdm_lines.specs.Lines.{IsLine}
use Rattle.acdm_step.specs.declared.entry.Entry.{Entry}
use Rattle.acdm_step.specs.Commands.{History}
use Rattle.acdm_step.specs.History.{IsLegal}
use Rattle.acdm_board.specs.Desk.{DeskView}
use Rattle.acdm_journal.specs.declared.judge.Clause.{Clause}
use Rattle.acdm_journal.specs.declared.journal_reader.JournalEnd.{JournalEnd}
use Rattle.acdm_journal.specs.declared.journal_reader.JournalEnd.TheVariants as ends
use Rattle.acdm_journal.specs.Audit.{Breaks}
use Rattle.acdm_journal.specs.Text.{entry_text, history_text}
use Rattle.acdm_journal.specs.Whole.{AreReadable, BreaksNext, at_line, FirstFault, GaveFaulty, GaveUnended}
use Rattle.acdm_journal.specs.Behind.{AtFault, AtRest, EndsBehind, GaveBehind, ReadsBehind}
use Rattle.acdm_restoring.specs.declared.restoring.RestoreError.{RestoreError}
use Rattle.acdm_restoring.specs.declared.restoring.RestoreError.TheVariants as errors
use Rattle.acdm_restoring.specs.Restored.{EndsRestoring, GaveAll, GaveMore, HasEntries, IsFaulty, IsGrowth, LacksRoom}
use Rattle.acdm_restoring.specs.Restored.{Restores, RestoresBehind, StopsAt, answer_of}
use Rattle.acdm_restoring.specs.Restored.{with_entries}

-- ---- texts

pub text_behind : (newer : List Entry) (J : History) → history_text (newer ++ J) ≡ history_text J ++ history_text newer
text_behind [] J = sym (append-nil (history_text J))
text_behind (e ∷ newer) J =
    ap (λ l. l ++ entry_text e) (text_behind newer J)
    ∙ append_assoc (history_text J) (history_text newer) (entry_text e)

bytes_behind : (newer : List Entry) (J : History)
    → length (history_text (newer ++ J)) ≡ length (history_text J) + length (history_text newer)
bytes_behind newer J =
    ap length (text_behind newer J) ∙ length-append (history_text J) (history_text newer)

-- ---- how reading ends

module _ {R : Type 0} (before after : DeskView) (bytes : Option ℕ) (old new : SourceView R)
    (g : GaveBehind before.sigs before.history old.log new.log)
  where
    Has : History → Type 0
    Has J = HasEntries before after bytes J

    Stops : History → RestoreError → Type 0
    Stops J error = StopsAt before after J error

    -- the desk has all that was read
    counted : (b : Option ℕ) → IsLine g.rest → new.ended ≡ true → new.faults ≡ old.faults
        → IsGrowth b (length (history_text before.history)) (length (history_text (g.newer ++ before.history)))
        → (n : ℕ) → EndsRestoring (with_entries before g.newer) old new (history_text g.newer) g.rest
        (answer_of (ends.Whole n) b)
    counted (Some b) line ended well grown n =
        (line, ended, omega (arith, grown, bytes_behind g.newer before.history), well)
    counted None line ended well grown n =
        (inr (omega (arith, grown, bytes_behind g.newer before.history)), well)

    ended : (end : JournalEnd RestoreError)
        → EndsBehind before.sigs false Has Stops old new (g.newer ++ before.history) (history_text g.newer) g.rest end
        → (after ≡ with_entries before g.newer)
        × EndsRestoring (with_entries before g.newer) old new (history_text g.newer) g.rest (answer_of end bytes)
    unfolding Has Stops counted
    ended (ends.Whole n) h =
        (h.3.desk_is, counted bytes (subst IsLine (sym h.0) tt) h.1 h.4 h.3.counted n)
    ended (ends.Rest n) h =
        (h.taken.desk_is, rest bytes (counted bytes h.is_line (h.all refl) h.well h.taken.counted n))
      where
        rest : (b : Option ℕ) → EndsRestoring (with_entries before g.newer) old new (history_text g.newer) g.rest
            (answer_of (ends.Whole n) b)
            → EndsRestoring (with_entries before g.newer) old new (history_text g.newer) g.rest
            (answer_of (ends.Rest n) b)
        rest (Some b) k = k
        rest None k = k
    ended (ends.Faulty entry clause) h = (
      h.taken.desk_is,
      (
        record {
          count = h.count;
          line = h.line;
          later = h.later;
          is_line = h.is_line;
          split = h.split;
          breaks = h.breaks;
        },
        h.well,
      ),
    )
    ended ends.Read h = (h.1.desk_is, (h.0, h.2))
    ended ends.Memory h = (h.0.desk_is, h.1)
    ended (ends.Stopped errors.Full) h = (h.0.0, (room h.0.1, h.2))
      where
        room : (length (g.newer ++ before.history) ≡ before.capacity)
            ⊎ (length (history_text before.history) + 2 ^ 64 ≤ length (history_text (g.newer ++ before.history)))
            → LacksRoom before.capacity (g.newer ++ before.history) (history_text g.newer) g.rest
        room (inl full) = inl (full, h.1)
        room (inr many) = inr (omega (arith, many, bytes_behind g.newer before.history))
    ended (ends.Stopped errors.Memory) h = (h.0, h.2)
    ended (ends.Stopped (errors.Faulty entry clause)) h = absurd h.0
    ended (ends.Stopped errors.Read) h = absurd h.0

pub restored : {R : Type 0} (before after : DeskView) (bytes : Option ℕ) (old new : SourceView R)
    (end : JournalEnd RestoreError)
    → ReadsBehind before.sigs false before.history (λ J. HasEntries before after bytes J)
    (λ J error. StopsAt before after J error) old new end
    → RestoresBehind before after old new (answer_of end bytes)
unfolding ended Has Stops
restored before after bytes old new end h =
    let e = ended before after bytes old new h.0 end h.1 in (h.0, e.0, e.1)

-- nothing was read
pub none_restored : {R : Type 0} (desk : DeskView) (reader : SourceView R) → IsLegal desk.sigs desk.history
    → RestoresBehind desk desk reader reader (Err errors.Memory)
none_restored desk reader legal =
    (record { newer = []; rest = []; legal = legal; readable = tt; gave = sym (append-nil reader.log) }, refl, refl)

-- ---- behind no entry

pub restored_first : {R : Type 0} (before after : DeskView) (old new : SourceView R) (result : Result ℕ RestoreError)
    → before.history ≡ [] → RestoresBehind before after old new result → Restores before after old new result
restored_first {R} before after old new result none h =
    let g : GaveBehind before.sigs before.history old.log new.log = h.0 in
    let all : g.newer ++ before.history ≡ g.newer =
    ap (λ (H : History). g.newer ++ H) none ∙ append-nil g.newer in
    let is : after ≡ record before { history = g.newer } =
    h.1 ∙ ap (λ (H : History). record before { history = H }) all in
    let has : after.history ≡ g.newer = ap (λ (d : DeskView). d.history) is in
    first result g.newer g.rest (subst (λ (H : History). IsLegal before.sigs H) all g.legal) g.readable g.gave is
    (subst (λ (H : History). EndsRestoring (record before { history = H }) old new (history_text g.newer) g.rest result)
    all h.2)
  where
    first : (result : Result ℕ RestoreError) (J : History) (rest : List ℕ) → IsLegal before.sigs J
        → AreReadable before.sigs J → new.log ≡ old.log ++ (history_text J ++ rest)
        → after ≡ record before { history = J }
        → EndsRestoring (record before { history = J }) old new (history_text J) rest result
        → Restores before after old new result
    first (Ok bytes) J rest legal readable gave is h =
        let same = sym (ap (λ (d : DeskView). d.history) is) in (
          subst (λ (H : History). GaveAll before.sigs H old.log new.log new.ended bytes) same
              (record {
                rest = rest;
                is_rest = h.0;
                gave = gave;
                at_end = h.1;
                readable = readable;
                bytes_are = h.2;
              }),
          subst (λ (H : History). after ≡ record before { history = H }) same is,
          h.3,
        )
    first (Err (errors.Faulty entry clause)) J rest legal readable gave is h =
        let f = h.0 in (
          record {
            text = history_text J ++ rest;
            gave = gave;
            first = record {
              front = J;
              rest = rest;
              legal = legal;
              readable = readable;
              text_is = refl;
              count = f.count;
              breaks = at_line f.line f.later f.is_line f.split f.breaks;
            };
            stays = inr (λ later. record {
              front = J;
              rest = rest ++ later;
              legal = legal;
              readable = readable;
              text_is = append_assoc (history_text J) rest later;
              count = f.count;
              breaks = at_line f.line (f.later ++ later) f.is_line
                  (ap (λ l. l ++ later) f.split ∙ append_assoc f.line (10 ∷ f.later) later) f.breaks;
            });
          },
          h.1,
        )
    first (Err errors.Full) J rest legal readable gave is h =
        let same = sym (ap (λ (d : DeskView). d.history) is) in (
          subst (λ (H : History). GaveMore before.capacity H old.log new.log) same
              (record { more = rest; gave = gave; full = h.0 }),
          h.1,
        )
    first (Err errors.Read) J rest legal readable gave is h = record {
      front = J;
      part = rest;
      legal = legal;
      readable = readable;
      is_part = h.0;
      gave = gave;
      why = h.1;
    }
    first (Err errors.Memory) J rest legal readable gave is h = h
