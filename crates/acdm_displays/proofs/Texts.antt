-- The journal for who has its first entries, as it is written entry by entry.
use Rattle.std.proofs.Common.{◌≡◌, ◌≤◌, ◌==◌, ℕ, List, [], ◌∷◌, ◌++◌, refl, sym, ap, subst, ◌∙◌}
use Rattle.std.proofs.Common.{◌<◌, append_assoc, append-nil, arith, length, if◌then◌else◌, Bool, true, false}
use Rattle.std.proofs.Math.Dec.{eqb-suc-zero}
use Rattle.std.specs.Prelude.{None, Some, option_map, reverse, String, string_bytes}
use Rattle.std.specs.declared.alloc.Global.{Global}
use Rattle.std.proofs.lemmas.List.{length-reverse, reverse-append}
use Rattle.acdm_step.specs.declared.entry.Entry.{Entry}
use Rattle.acdm_step.specs.Commands.{History}
use Rattle.acdm_journal.specs.Text.{entry_text, history_text}
use Rattle.acdm_journal.specs.Ranges.{FitsTypes}
use Rattle.acdm_feed.specs.Naming.{first_entry, name_of}
use Rattle.acdm_feed.specs.Resumed.{journal_line, journal_since, named_line}
use Rattle.acdm_feed.proofs.Heading.{line_named, line_since, line_unnamed, none_since, since_stays, text_of_one}
use Rattle.acdm_displays.specs.Displayed.{BeginsText, Begun, IsNameOf, SaysFrom, TextFrom, at_entry}
use Rattle.acdm_displays.proofs.Written.{nothing_behind}

-- ---- the name of what was seen

pub none_named : (seen : List Entry) → seen ≡ [] → IsNameOf seen None
none_named seen none = sym (ap (λ l. option_map name_of (first_entry (reverse l))) none)

pub one_named : (seen later : List Entry) (e : Entry) (name : String Global) → seen ≡ []
    → later ≡ seen ++ e ∷ [] → string_bytes name ≡ name_of e → IsNameOf later (Some name)
one_named seen later e name none took is =
    ap Some is ∙ sym (ap (λ l. option_map name_of (first_entry (reverse l))) (took ∙ ap (λ l. l ++ e ∷ []) none))

pub named_more : (seen later : List Entry) (e : Entry) (name : String Global) → later ≡ seen ++ e ∷ []
    → IsNameOf seen (Some name) → IsNameOf later (Some name)
named_more seen later e name took is =
    step (reverse seen) is
    ∙ sym (ap (λ K. option_map name_of (first_entry K)) (ap reverse took ∙ reverse-append seen (e ∷ [])))
  where
    step : (K : History) → Some (string_bytes name) ≡ option_map name_of (first_entry K)
        → Some (string_bytes name) ≡ option_map name_of (first_entry (e ∷ K))
    step [] none = absurd (cc)
    step (f ∷ K) same = same

-- ---- what is written

-- what is written before an entry of this number: the line of the journal, where that is the first one
abbrev name_before : ℕ → ℕ → Entry → List ℕ
name_before number room e = if number == 0 then named_line (name_of e) 0 room else []

one_behind : (F J behind : History) (e : Entry) (room : ℕ) (S : List ℕ) → J ≡ behind ++ F
    → ((S ++ journal_since F (length F) room J) ++ history_text behind) ++ (name_before (length J) room e ++ entry_text e)
    ≡ (S ++ journal_since F (length F) room (e ∷ J)) ++ history_text (e ∷ behind)
one_behind [] [] [] e room S is =
    let line = named_line (name_of e) 0 room in
    ap (λ l. l ++ (line ++ entry_text e)) (append-nil (S ++ []) ∙ append-nil S)
    ∙ sym (append_assoc S line (entry_text e)) ∙ ap (λ l. (S ++ l) ++ entry_text e) (text_of_one 0 room e)
one_behind [] [] (f ∷ behind) e room S is = absurd (cc)
one_behind (f ∷ F) [] behind e room S is = absurd (nothing_behind behind f F is)
one_behind F (g ∷ J) behind e room S is =
    let since = journal_since F (length F) room (g ∷ J) in
    let text = history_text behind in
    ap (λ b. ((S ++ since) ++ text) ++ ((if b then named_line (name_of e) 0 room else []) ++ entry_text e))
    (eqb-suc-zero (length J))
    ∙ append_assoc (S ++ since) text (entry_text e)
    ∙ ap (λ l. (S ++ l) ++ (text ++ entry_text e)) (sym (since_stays F (length F) room (e ∷ []) g J))

-- one entry more was seen, and its text added, and the line of the journal before the first one
pub text_more : (room : ℕ) (seen later : List Entry) (e : Entry) (text mid after : List ℕ) (number : ℕ)
    → later ≡ seen ++ e ∷ [] → number ≡ length seen → mid ≡ text ++ name_before number room e
    → after ≡ mid ++ entry_text e → FitsTypes e → (before : List ℕ) (start : Begun)
    → TextFrom room seen start (before ++ text) → TextFrom room later start (before ++ after)
text_more room seen later e text mid after number took at named added fits before start k =
    let J = reverse seen in
    let F = start.front in
    let more = name_before (length J) start.room e ++ entry_text e in
    let K_is : reverse later ≡ e ∷ J = ap reverse took ∙ reverse-append seen (e ∷ []) in
    let count : number ≡ length J = at ∙ sym (length-reverse seen) in
    let is : after ≡ text ++ more =
    added ∙ ap (λ l. l ++ entry_text e) (named ∙ ap (λ m. text ++ name_before m room e) count
    ∙ ap (λ r. text ++ name_before (length J) r e) k.room_is)
    ∙ append_assoc text (name_before (length J) start.room e) (entry_text e) in
    record {
      room_is = k.room_is;
      behind = e ∷ k.behind;
      split = K_is ∙ ap (λ l. e ∷ l) k.split;
      saves = record {
        text = ap (λ l. before ++ l) is ∙ sym (append_assoc before text more)
            ∙ ap (λ l. l ++ more) k.saves.text
            ∙ one_behind F J k.behind e start.room start.before k.split
            ∙ ap (λ K. (start.before ++ journal_since F (length F) start.room K) ++ history_text (e ∷ k.behind))
            (sym K_is);
        types = (fits, k.saves.types);
      };
    }

-- the line of the journal was written, if one of its entries was passed over
pub text_begun : (room n : ℕ) (seen : List Entry) (before log : List ℕ) → length seen ≤ n
    → log ≡ before ++ journal_line (length (reverse seen)) room (reverse seen)
    → BeginsText room n seen before log
text_begun room n seen before log few wrote =
    let K = reverse seen in
    let line = journal_line (length K) room K in
    record {
      few = few;
      text = record {
        room_is = refl;
        behind = [];
        split = refl;
        saves = record {
          text = wrote ∙ sym (append-nil (before ++ line))
              ∙ ap (λ t. (before ++ line) ++ t) (sym (none_since K (length K) room))
              ∙ sym (append-nil ((before ++ line) ++ journal_since K (length K) room K));
          types = tt;
        };
      };
    }

-- no more entries were passed over than so many
pub few_passed : (all : Bool) (count n : ℕ) → (all ≡ true → count ≡ n) → (all ≡ false → count < n) → count ≤ n
few_passed true count n is less = let same : count ≡ n = is refl in omega arith
few_passed false count n is less = let past : count < n = less refl in omega arith

-- it is begun where none was passed over
pub begun_unnamed : (room n : ℕ) (all : Bool) (seen : List Entry) (before : List ℕ)
    → (all ≡ true → length seen ≡ n) → (all ≡ false → length seen < n) → IsNameOf seen None
    → BeginsText room n seen before before
begun_unnamed room n all seen before is less none =
    text_begun room n seen before before (few_passed all (length seen) n is less)
    (line_unnamed (length (reverse seen)) room (reverse seen) before none)

-- and where some were
pub begun_named : (room n next : ℕ) (all : Bool) (seen : List Entry) (name : String Global) (before log : List ℕ)
    → (all ≡ true → length seen ≡ n) → (all ≡ false → length seen < n) → IsNameOf seen (Some name)
    → next ≡ length seen → log ≡ before ++ named_line (string_bytes name) next room
    → BeginsText room n seen before log
begun_named room n next all seen name before log is less named count wrote =
    text_begun room n seen before log (few_passed all (length seen) n is less)
    (line_named (length (reverse seen)) room (reverse seen) (string_bytes name) before log named
    (wrote ∙ ap (λ m. before ++ named_line (string_bytes name) m room) (count ∙ sym (length-reverse seen))))

-- what was begun so was gone on with
pub says_from : (room said n : ℕ) (seen later : List Entry) (before old new : List ℕ)
    → BeginsText room n seen before old
    → ((begun : Begun) → TextFrom room seen begun old → TextFrom said later begun new)
    → SaysFrom room n later before new
says_from room said n seen later before old new begins follows =
    let K = reverse seen in
    let J = reverse later in
    let t = follows (at_entry room before K) begins.text in
    let line = journal_line (length K) room K in
    record {
      passed = K;
      behind = t.behind;
      split = t.split;
      few = subst (λ m. m ≤ n) (sym (length-reverse seen)) begins.few;
      saves = record {
        text = t.saves.text ∙ ap (λ l. l ++ history_text t.behind)
            (append_assoc before line (journal_since K (length K) room J)
            ∙ ap (λ l. before ++ l) (line_since K J (length K) room (t.behind, t.split)));
        types = t.saves.types;
      };
    }
