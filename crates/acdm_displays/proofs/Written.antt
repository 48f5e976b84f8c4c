-- What was told, as it is written entry by entry behind what was written before.
use Rattle.std.proofs.Common.{◌≡◌, ◌≢◌, ◌≤◌, ◌<◌, ◌+◌, ◌==◌, ℕ, List, [], ◌∷◌, ◌++◌, refl, sym, ap, subst, ◌∙◌}
use Rattle.std.proofs.Common.{append_assoc, append-nil, arith, length, lt-ltb, nat_lt, if◌then◌else◌, zero, suc}
use Rattle.std.proofs.Common.{false, inl, inr, Ok, Err, OnOk, Result}
use Rattle.std.proofs.Math.Dec.{eqb-suc-zero}
use Rattle.std.specs.Prelude.{Option, None, Some, reverse}
use Rattle.std.proofs.lemmas.Bool.{le-ltb}
use Rattle.std.proofs.lemmas.List.{append_cancel_left, length-append, length-reverse, reverse-append}
use Rattle.acdm_step.specs.declared.entry.Entry.{Entry}
use Rattle.acdm_watch.specs.Watching.{WatchView}
use Rattle.acdm_journal.specs.Text.{entry_text, history_text}
use Rattle.acdm_journal.specs.Ranges.{FitsTypes}
use Rattle.acdm_journal.specs.Whole.{Saves}
use Rattle.acdm_feed.specs.declared.known.Known.{Known}
use Rattle.acdm_feed.specs.Knowing.{Knows}
use Rattle.acdm_feed.specs.Told.{told}
use Rattle.acdm_feed.specs.Resumed.{IsFront, board_text, feed_from, journal_line, journal_since, journal_text}
use Rattle.acdm_feed.specs.Telling.{Tells}
use Rattle.acdm_feed.proofs.Heading.{line_since, none_since, same_line, since_stays}
use Rattle.acdm_step.specs.Commands.{History}
use Rattle.acdm_web.specs.Events.{event_text}
use Rattle.acdm_displays.specs.Displayed.{Begun, EventsFrom, IsBegun, SaysEvents, SaysFeed, start_of}
use Rattle.acdm_displays.specs.Displayed.{TellsFrom, at_board, at_board_event, at_entry, at_event}
use Rattle.acdm_displays.specs.Displayed.{board_event, board_events, board_feed, events_since, feed_since, journal_event}
use Rattle.acdm_displays.specs.Displayed.{journal_event_since, named_events, named_feed}
use Rattle.acdm_displays.specs.Displayed.{events_from}
use Rattle.acdm_displays.specs.declared.asked.Start.{Start}
use Rattle.acdm_displays.specs.declared.asked.Start.TheVariants as starts

-- one entry more was seen, and its text added
pub adds_one : (seen later : List Entry) (e : Entry) (old new : List ℕ) → later ≡ seen ++ e ∷ []
    → new ≡ old ++ entry_text e → FitsTypes e → (before start : List ℕ)
    → Saves (reverse seen) start (before ++ old) → Saves (reverse later) start (before ++ new)
adds_one seen later e old new took added fits before start saves =
    subst (λ K. Saves K start (before ++ new))
    (sym (ap reverse took ∙ reverse-append seen (e ∷ []))) (record {
      text = ap (λ l. before ++ l) added ∙ sym (append_assoc before old (entry_text e))
          ∙ ap (λ l. l ++ entry_text e) saves.text
          ∙ append_assoc start (history_text (reverse seen)) (entry_text e);
      types = (fits, saves.types);
    })

-- where nothing was seen before, the text of all that is seen was written
pub nothing_saved : (seen : List Entry) (start : List ℕ) → seen ≡ []
    → Saves (reverse seen) start start
nothing_saved seen start none =
    subst (λ l. Saves (reverse l) start start) (sym none) (record {
      text = sym (append-nil start);
      types = tt;
    })

-- no entry is told of those before the one that is told first
pub none_from : (n : ℕ) (J : History) → length J ≤ n → feed_from n J ≡ []
none_from n [] few = refl
none_from n (e ∷ J) few =
    let less : length J < n = omega (arith, few) in
    let rest : length J ≤ n = omega (arith, less) in
    ap (λ t. t ++ (if nat_lt (length J) n then [] else told J e)) (none_from n J rest)
    ∙ ap (λ b. if b then [] else told J e) (lt-ltb (length J) n less)

-- an entry stands in no empty history
pub nothing_behind : (later : List Entry) (f : Entry) (F : History) → [] ≡ later ++ f ∷ F → ⊥
nothing_behind [] f F is = absurd (cc)
nothing_behind (g ∷ later) f F is = absurd (cc)

-- nothing is told behind what was seen, of that alone
nothing_since : (room : ℕ) (K : History) → feed_since K (length K) room K ≡ []
nothing_since room K =
    ap (λ l. l ++ feed_from (length K) K) (none_since K (length K) room)
    ∙ none_from (length K) K (omega arith)

-- the line of the board of what was seen was written
pub board_told : (room : ℕ) (seen : List Entry) (known : Known) (before text log : List ℕ)
    → Knows (reverse seen) known → text ≡ board_text room (reverse seen) → log ≡ before ++ text
    → TellsFrom known room seen (at_board room before (reverse seen)) log
board_told room seen known before text log knows is wrote =
    let line = board_text room (reverse seen) in
    record {
      knows = knows;
      passed = omega arith;
      room_is = refl;
      front = ([], refl);
      told = wrote ∙ ap (λ t. before ++ t) is ∙ sym (append-nil (before ++ line))
          ∙ ap (λ t. (before ++ line) ++ t) (sym (nothing_since room (reverse seen)));
    }

-- the line of the journal is told where there is an entry, and none else
pub line_of_none : (n room : ℕ) (K : History) → length K ≡ 0 → journal_line n room K ≡ []
line_of_none n room [] none = refl
line_of_none n room (e ∷ K) none = absurd (cc)

pub line_of_some : (n room : ℕ) (K : History) → length K ≢ 0 → journal_line n room K ≡ journal_text n room K
line_of_some n room [] some = absurd (some refl)
line_of_some n room (e ∷ K) some = refl

-- it was told of what was seen
pub entry_told : (room : ℕ) (seen : List Entry) (known : Known) (before log : List ℕ)
    → Knows (reverse seen) known → log ≡ before ++ journal_line (length (reverse seen)) room (reverse seen)
    → TellsFrom known room seen (at_entry room before (reverse seen)) log
entry_told room seen known before log knows wrote =
    let line = journal_line (length (reverse seen)) room (reverse seen) in
    record {
      knows = knows;
      passed = omega arith;
      room_is = refl;
      front = ([], refl);
      told = wrote ∙ sym (append-nil (before ++ line))
          ∙ ap (λ t. (before ++ line) ++ t) (sym (nothing_since room (reverse seen)));
    }

-- what was seen more is behind the same first entries
later_front : (K : History) (seen later more : List Entry) → later ≡ seen ++ more
    → IsFront K (reverse seen) → IsFront K (reverse later)
later_front K seen later more grew front = (
  reverse more ++ front.0,
  ap reverse grew ∙ reverse-append seen more ∙ ap (λ l. reverse more ++ l) front.1
      ∙ sym (append_assoc (reverse more) front.0 K),
)

-- what `tell_next` adds to an empty text is the line of the entry that was seen, from the one on that is told first
pub line_of : (from : ℕ) (old new : WatchView) (known known_after : Known) (e : Entry) (line : List ℕ)
    → Knows (reverse old.seen) known → Tells from old new known known_after [] line
    → new.seen ≡ old.seen ++ e ∷ []
    → line ≡ (if nat_lt (length (reverse old.seen)) from then [] else told (reverse old.seen) e)
line_of from old new known known_after e line knows tells took =
    let J = reverse old.seen in
    let K_is : reverse new.seen ≡ e ∷ J = ap reverse took ∙ reverse-append old.seen (e ∷ []) in
    append_cancel_left (feed_from from J) line
    (if nat_lt (length J) from then [] else told J e)
    (tells.told knows (feed_from from J) [] (append-nil (feed_from from J))
    ∙ ap (λ K. feed_from from K) K_is)

-- a text behind another one
behind : (before text start since more : List ℕ) → before ++ text ≡ start ++ since
    → before ++ (text ++ more) ≡ start ++ (since ++ more)
behind before text start since more is =
    sym (append_assoc before text more) ∙ ap (λ l. l ++ more) is ∙ append_assoc start since more

-- what is told of an entry behind these: the line of the journal before the first one, and its own
abbrev entry_line : ℕ → History → Entry → List ℕ
entry_line n J e = if nat_lt (length J) n then [] else told J e

abbrev name_line : ℕ → ℕ → ℕ → History → List ℕ
name_line number n room K = if number == 0 then journal_text n room K else []

one_more : (F J : History) (e : Entry) (n room : ℕ) → IsFront F J
    → feed_since F n room J ++ (name_line (length J) n room (e ∷ J) ++ entry_line n J e)
    ≡ feed_since F n room (e ∷ J)
one_more [] [] e n room front = refl
one_more (f ∷ F) [] e n room (later, is) = absurd (nothing_behind later f F is)
one_more F (g ∷ J) e n room front =
    ap (λ b. feed_since F n room (g ∷ J) ++ ((if b then journal_text n room (e ∷ g ∷ J) else []) ++ entry_line n (g ∷ J) e))
    (eqb-suc-zero (length J))
    ∙ append_assoc (journal_since F n room (g ∷ J)) (feed_from n (g ∷ J)) (entry_line n (g ∷ J) e)
    ∙ ap (λ l. l ++ (feed_from n (g ∷ J) ++ entry_line n (g ∷ J) e))
    (sym (since_stays F n room (e ∷ []) g J))

-- it is the same from whichever of the entries that were seen on it is told
name_same : (number n room : ℕ) (K : History) → n ≤ number → name_line number 0 room K ≡ name_line number n room K
name_same zero n room K past = ap (λ m. journal_text m room K) (let none : 0 ≡ n = omega (arith, past) in none)
name_same (suc number) n room K past =
    ap (λ b. if b then journal_text 0 room K else []) (eqb-suc-zero number)
    ∙ sym (ap (λ b. if b then journal_text n room K else []) (eqb-suc-zero number))

entry_same : (n : ℕ) (J : History) (e : Entry) → n ≤ length J → entry_line 0 J e ≡ entry_line n J e
entry_same n J e past = ap (λ b. if b then [] else told J e)
    (le-ltb (length J) 0 (omega arith) ∙ sym (le-ltb (length J) n past))

pub feed_more : (room : ℕ) (old new : WatchView) (known known_after : Known) (e : Entry)
    (line text text_mid text_after : List ℕ) (number : ℕ) → Tells 0 old new known known_after [] line
    → new.seen ≡ old.seen ++ e ∷ [] → number ≡ length old.seen
    → ((J : History) → Knows J known_after → text_mid ≡ text ++ name_line number 0 room J)
    → text_after ≡ text_mid ++ line → (before : List ℕ) (start : Begun)
    → TellsFrom known room old.seen start (before ++ text)
    → TellsFrom known_after room new.seen start (before ++ text_after)
feed_more room old new known known_after e line text text_mid text_after number tells took at named added before start k =
    let J = reverse old.seen in
    let K_is : reverse new.seen ≡ e ∷ J = ap reverse took ∙ reverse-append old.seen (e ∷ []) in
    let count : number ≡ length J = at ∙ sym (length-reverse old.seen) in
    let knows = tells.passes.knows k.knows in
    let F = start.front in
    let n = start.from in
    let more = name_line (length J) n room (e ∷ J) ++ entry_line n J e in
    let is : text_after ≡ text ++ more =
    added ∙ ap (λ l. l ++ line) (named (reverse new.seen) knows
    ∙ ap (λ m. text ++ name_line m 0 room (reverse new.seen)) count
    ∙ ap (λ K. text ++ name_line (length J) 0 room K) K_is)
    ∙ append_assoc text (name_line (length J) 0 room (e ∷ J)) line
    ∙ ap (λ l. text ++ (name_line (length J) 0 room (e ∷ J) ++ l))
    (line_of 0 old new known known_after e line k.knows tells took ∙ entry_same n J e k.passed)
    ∙ ap (λ l. text ++ (l ++ entry_line n J e)) (name_same (length J) n room (e ∷ J) k.passed) in
    let told_before : before ++ text ≡ start.before ++ feed_since F n room J =
    k.told ∙ ap (λ r. start.before ++ feed_since F n r J) (sym k.room_is) in
    record {
      knows = knows;
      passed = subst (λ (K : History). n ≤ length K) (sym K_is)
          (let past : n ≤ length J = k.passed in let more : n ≤ length (e ∷ J) = omega (arith, past) in more);
      room_is = k.room_is;
      front = later_front F old.seen new.seen tells.passes.grows.0 tells.passes.grows.1 k.front;
      told = ap (λ l. before ++ l) is
          ∙ behind before text start.before (feed_since F n room J) more told_before
          ∙ ap (λ l. start.before ++ l) (one_more F J e n room k.front)
          ∙ ap (λ r. start.before ++ feed_since F n r (e ∷ J)) k.room_is
          ∙ ap (λ K. start.before ++ feed_since F n start.room K) (sym K_is);
    }

-- ---- what was begun as a display asked was gone on with

front_length : (K J : History) → IsFront K J → length K ≤ length J
front_length K J (later, is) =
    subst (λ n. length K ≤ n) (sym (ap length is ∙ length-append later K)) (omega arith)

-- the feed from the entry on that came next then, with the line of the journal before it
named_told : (K J : History) (room : ℕ) (before log : List ℕ) → IsFront K J
    → log ≡ (before ++ journal_line (length K) room K) ++ feed_since K (length K) room J
    → log ≡ before ++ named_feed (length K) room J
named_told K J room before log front is =
    let line = journal_line (length K) room K in
    let since = journal_since K (length K) room J in
    let rest = feed_from (length K) J in
    is ∙ append_assoc before line (since ++ rest)
    ∙ ap (λ l. before ++ l) (sym (append_assoc line since rest)
    ∙ ap (λ l. l ++ rest) (line_since K J (length K) room front))

-- what was told since it has begun so
entry_log : (room : ℕ) (K J : History) (before log : List ℕ) (b : Begun) → b ≡ at_entry b.room before K → room ≡ b.room
    → log ≡ b.before ++ feed_since b.front b.from b.room J
    → log ≡ (before ++ journal_line (length K) room K) ++ feed_since K (length K) room J
entry_log room K J before log b is same told =
    subst (λ r. log ≡ (before ++ journal_line (length K) r K) ++ feed_since K (length K) r J) (sym same)
    (told ∙ ap (λ (b : Begun). b.before ++ feed_since b.front b.from b.room J) is)

board_log : (room : ℕ) (K J : History) (before log : List ℕ) (b : Begun) → b ≡ at_board b.room before K → room ≡ b.room
    → log ≡ b.before ++ feed_since b.front b.from b.room J
    → log ≡ (before ++ board_text room K) ++ feed_since K (length K) room J
board_log room K J before log b is same told =
    subst (λ r. log ≡ (before ++ board_text r K) ++ feed_since K (length K) r J) (sym same)
    (told ∙ ap (λ (b : Begun). b.before ++ feed_since b.front b.from b.room J) is)

board_since : (K J : History) (room : ℕ) (before log : List ℕ)
    → log ≡ (before ++ board_text room K) ++ feed_since K (length K) room J
    → log ≡ before ++ board_feed K room J
board_since K J room before log is =
    is ∙ append_assoc before (board_text room K) (feed_since K (length K) room J)

pub says_feed : (room : ℕ) (start : Start) (known : Known) (later : List Entry) (before new : List ℕ) (begun : Begun)
    → IsBegun at_entry at_board before start begun → TellsFrom known room later begun new
    → SaysFeed room start later before new
says_feed room (starts.Entry n) known later before new begun (K, inl (all, is)) t =
    let J = reverse later in
    let front : IsFront K J = subst (λ (b : Begun). IsFront b.front J) is t.front in
    inl (
      subst (λ m. m ≤ length later) all
          (subst (λ m. length K ≤ m) (length-reverse later) (front_length K J front)),
      named_told K J room before new front (entry_log room K J before new begun is t.room_is t.told)
          ∙ ap (λ m. before ++ named_feed m room J) all,
    )
says_feed room (starts.Entry n) known later before new begun (K, inr (few, is)) t =
    let J = reverse later in
    inr (
      K,
      subst (λ (b : Begun). IsFront b.front J) is t.front,
      few,
      board_since K J room before new (board_log room K J before new begun is t.room_is t.told),
    )
says_feed room starts.Board known later before new begun (K, is) t =
    let J = reverse later in (
      K,
      subst (λ (b : Begun). IsFront b.front J) is t.front,
      board_since K J room before new (board_log room K J before new begun is t.room_is t.told),
    )

-- ---- events for browsers

-- the event of an entry, if it is none of those before the one that is told first
abbrev event_from : ℕ → History → Entry → List ℕ
event_from n J e = if nat_lt (length J) n then [] else event_text (1 + length J) (told J e)

event_line : (J : History) (e : Entry) (line : List ℕ) → line ≡ entry_line 0 J e
    → event_text (1 + length J) line ≡ event_from 0 J e
event_line J e line is = ap (λ l. event_text (1 + length J) l)
    (is ∙ ap (λ b. if b then [] else told J e) none)
    ∙ ap (λ b. if b then [] else event_text (1 + length J) (told J e)) (sym none)
  where
    none : nat_lt (length J) 0 ≡ false
    none = le-ltb (length J) 0 (omega arith)

-- the event of the journal before the first entry
abbrev name_event : ℕ → ℕ → ℕ → History → List ℕ
name_event number n room K = if number == 0 then event_text n (journal_text n room K) else []

-- the event of a journal stays as it is once there is an entry
event_stays : (K : History) (n room : ℕ) (e g : Entry) (J : History)
    → journal_event_since K n room (e ∷ g ∷ J) ≡ journal_event_since K n room (g ∷ J)
event_stays [] n room e g J = ap (λ l. event_text n l) (same_line n room (e ∷ []) g J)
event_stays (f ∷ K) n room e g J = refl

one_event_more : (F J : History) (e : Entry) (n room : ℕ) → IsFront F J
    → events_since F n room J ++ (name_event (length J) n room (e ∷ J) ++ event_from n J e)
    ≡ events_since F n room (e ∷ J)
one_event_more [] [] e n room front = refl
one_event_more (f ∷ F) [] e n room (later, is) = absurd (nothing_behind later f F is)
one_event_more F (g ∷ J) e n room front =
    ap (λ b. events_since F n room (g ∷ J) ++ ((if b then event_text n (journal_text n room (e ∷ g ∷ J)) else []) ++ event_from n (g ∷ J) e))
    (eqb-suc-zero (length J))
    ∙ append_assoc (journal_event_since F n room (g ∷ J)) (events_from n (g ∷ J)) (event_from n (g ∷ J) e)
    ∙ ap (λ l. l ++ (events_from n (g ∷ J) ++ event_from n (g ∷ J) e)) (sym (event_stays F n room e g J))

name_event_same : (number n room : ℕ) (K : History) → n ≤ number
    → name_event number 0 room K ≡ name_event number n room K
name_event_same zero n room K past =
    ap (λ m. event_text m (journal_text m room K)) (let none : 0 ≡ n = omega (arith, past) in none)
name_event_same (suc number) n room K past =
    ap (λ b. if b then event_text 0 (journal_text 0 room K) else []) (eqb-suc-zero number)
    ∙ sym (ap (λ b. if b then event_text n (journal_text n room K) else []) (eqb-suc-zero number))

event_same : (n : ℕ) (J : History) (e : Entry) → n ≤ length J → event_from 0 J e ≡ event_from n J e
event_same n J e past = ap (λ b. if b then [] else event_text (1 + length J) (told J e))
    (le-ltb (length J) 0 (omega arith) ∙ sym (le-ltb (length J) n past))

-- one entry more was seen, and its event added
pub event_more : (room : ℕ) (old new : WatchView) (known known_after : Known) (e : Entry)
    (line text text_mid text_after : List ℕ) (number next : ℕ) → Tells 0 old new known known_after [] line
    → new.seen ≡ old.seen ++ e ∷ [] → number ≡ length old.seen → next ≡ length new.seen
    → ((J : History) → Knows J known_after → text_mid ≡ text ++ name_event number 0 room J)
    → text_after ≡ text_mid ++ event_text next line
    → (before : List ℕ) (start : Begun)
    → EventsFrom known room old.seen start (before ++ text)
    → EventsFrom known_after room new.seen start (before ++ text_after)
event_more room old new known known_after e line text text_mid text_after number next tells took at next_is named added before start k =
    let J = reverse old.seen in
    let K_is : reverse new.seen ≡ e ∷ J = ap reverse took ∙ reverse-append old.seen (e ∷ []) in
    let count : number ≡ length J = at ∙ sym (length-reverse old.seen) in
    let then_is : next ≡ 1 + length J =
    next_is ∙ ap length took ∙ length-append old.seen (e ∷ []) ∙ omega arith in
    let knows = tells.passes.knows k.knows in
    let F = start.front in
    let n = start.from in
    let more = name_event (length J) n room (e ∷ J) ++ event_from n J e in
    let is : text_after ≡ text ++ more =
    added ∙ ap (λ l. l ++ event_text next line) (named (reverse new.seen) knows
    ∙ ap (λ m. text ++ name_event m 0 room (reverse new.seen)) count
    ∙ ap (λ K. text ++ name_event (length J) 0 room K) K_is)
    ∙ append_assoc text (name_event (length J) 0 room (e ∷ J)) (event_text next line)
    ∙ ap (λ l. text ++ (name_event (length J) 0 room (e ∷ J) ++ l))
    (ap (λ m. event_text m line) then_is
    ∙ event_line J e line (line_of 0 old new known known_after e line k.knows tells took)
    ∙ event_same n J e k.passed)
    ∙ ap (λ l. text ++ (l ++ event_from n J e)) (name_event_same (length J) n room (e ∷ J) k.passed) in
    let told_before : before ++ text ≡ start.before ++ events_since F n room J =
    k.told ∙ ap (λ r. start.before ++ events_since F n r J) (sym k.room_is) in
    record {
      knows = knows;
      passed = subst (λ (K : History). n ≤ length K) (sym K_is)
          (let past : n ≤ length J = k.passed in let more : n ≤ length (e ∷ J) = omega (arith, past) in more);
      room_is = k.room_is;
      front = later_front F old.seen new.seen tells.passes.grows.0 tells.passes.grows.1 k.front;
      told = ap (λ l. before ++ l) is
          ∙ behind before text start.before (events_since F n room J) more told_before
          ∙ ap (λ l. start.before ++ l) (one_event_more F J e n room k.front)
          ∙ ap (λ r. start.before ++ events_since F n r (e ∷ J)) k.room_is
          ∙ ap (λ K. start.before ++ events_since F n start.room K) (sym K_is);
    }

-- no event is that of an entry before the one that is told first
no_event_from : (n : ℕ) (J : History) → length J ≤ n → events_from n J ≡ []
no_event_from n [] few = refl
no_event_from n (e ∷ J) few =
    let less : length J < n = omega (arith, few) in
    let rest : length J ≤ n = omega (arith, less) in
    ap (λ t. t ++ event_from n J e) (no_event_from n J rest)
    ∙ ap (λ b. if b then [] else event_text (1 + length J) (told J e)) (lt-ltb (length J) n less)

no_journal_event : (K : History) (n room : ℕ) → journal_event_since K n room K ≡ []
no_journal_event [] n room = refl
no_journal_event (e ∷ K) n room = refl

no_event_since : (room : ℕ) (K : History) → events_since K (length K) room K ≡ []
no_event_since room K =
    ap (λ l. l ++ events_from (length K) K) (no_journal_event K (length K) room)
    ∙ no_event_from (length K) K (omega arith)

-- the event of the board of what was seen was written
pub board_event_told : (room : ℕ) (seen : List Entry) (known : Known) (before line text log : List ℕ) (entries : ℕ)
    → Knows (reverse seen) known → entries ≡ length (reverse seen) → line ≡ board_text room (reverse seen)
    → text ≡ event_text entries line → log ≡ before ++ text
    → EventsFrom known room seen (at_board_event room before (reverse seen)) log
board_event_told room seen known before line text log entries knows count is event wrote = record {
  knows = knows;
  passed = omega arith;
  room_is = refl;
  front = ([], refl);
  told = wrote
      ∙ ap (λ t. before ++ t) (event ∙ ap (λ n. event_text n line) count
      ∙ ap (λ l. event_text (length (reverse seen)) l) is)
      ∙ sym (append-nil (before ++ board_event room (reverse seen)))
      ∙ ap (λ t. (before ++ board_event room (reverse seen)) ++ t)
      (sym (no_event_since room (reverse seen)));
}

-- the event of the journal is told where there is an entry, and none else
pub event_of_none : (n room : ℕ) (K : History) → length K ≡ 0 → journal_event n room K ≡ []
event_of_none n room [] none = refl
event_of_none n room (e ∷ K) none = absurd (cc)

pub event_of_some : (n room : ℕ) (K : History) → length K ≢ 0
    → journal_event n room K ≡ event_text n (journal_text n room K)
event_of_some n room [] some = absurd (some refl)
event_of_some n room (e ∷ K) some = refl

-- it was told of what was seen
pub entry_event_told : (room : ℕ) (seen : List Entry) (known : Known) (before log : List ℕ)
    → Knows (reverse seen) known → log ≡ before ++ journal_event (length (reverse seen)) room (reverse seen)
    → EventsFrom known room seen (at_event room before (reverse seen)) log
entry_event_told room seen known before log knows wrote =
    let event = journal_event (length (reverse seen)) room (reverse seen) in
    record {
      knows = knows;
      passed = omega arith;
      room_is = refl;
      front = ([], refl);
      told = wrote ∙ sym (append-nil (before ++ event))
          ∙ ap (λ t. (before ++ event) ++ t) (sym (no_event_since room (reverse seen)));
    }

-- the event before some first entries, or behind them, is that before all
event_since : (K J : History) (n room : ℕ) → IsFront K J
    → journal_event n room K ++ journal_event_since K n room J ≡ journal_event n room J
event_since [] J n room front = refl
event_since (e ∷ K) J n room (later, is) =
    append-nil (event_text n (journal_text n room (e ∷ K)))
    ∙ sym (ap (journal_event n room) is ∙ stays later)
  where
    stays : (more : List Entry)
        → journal_event n room (more ++ e ∷ K) ≡ event_text n (journal_text n room (e ∷ K))
    stays [] = refl
    stays (f ∷ more) = ap (λ l. event_text n l) (same_line n room (f ∷ more) e K)

-- what was told since it has begun so
event_log : (room : ℕ) (K J : History) (before log : List ℕ) (b : Begun) → b ≡ at_event b.room before K → room ≡ b.room
    → log ≡ b.before ++ events_since b.front b.from b.room J
    → log ≡ (before ++ journal_event (length K) room K) ++ events_since K (length K) room J
event_log room K J before log b is same told =
    subst (λ r. log ≡ (before ++ journal_event (length K) r K) ++ events_since K (length K) r J) (sym same)
    (told ∙ ap (λ (b : Begun). b.before ++ events_since b.front b.from b.room J) is)

board_event_log : (room : ℕ) (K J : History) (before log : List ℕ) (b : Begun) → b ≡ at_board_event b.room before K
    → room ≡ b.room → log ≡ b.before ++ events_since b.front b.from b.room J
    → log ≡ before ++ board_events K room J
board_event_log room K J before log b is same told =
    subst (λ r. log ≡ (before ++ board_event r K) ++ events_since K (length K) r J) (sym same)
    (told ∙ ap (λ (b : Begun). b.before ++ events_since b.front b.from b.room J) is)
    ∙ append_assoc before (board_event room K) (events_since K (length K) room J)

-- what was begun for a browser was gone on with
pub says_events : (room : ℕ) (last : Option ℕ) (known : Known) (later : List Entry) (before new : List ℕ) (begun : Begun)
    → IsBegun at_event at_board_event before (start_of last) begun → EventsFrom known room later begun new
    → SaysEvents room last later before new
says_events room (Some n) known later before new begun (K, inl (all, is)) t =
    let J = reverse later in
    let front : IsFront K J = subst (λ (b : Begun). IsFront b.front J) is t.front in
    let event = journal_event (length K) room K in
    let since = journal_event_since K (length K) room J in
    let rest = events_from (length K) J in
    inl (
      n,
      refl,
      subst (λ m. m ≤ length later) all
          (subst (λ m. length K ≤ m) (length-reverse later) (front_length K J front)),
      event_log room K J before new begun is t.room_is t.told ∙ append_assoc before event (since ++ rest)
          ∙ ap (λ l. before ++ l) (sym (append_assoc event since rest)
          ∙ ap (λ l. l ++ rest) (event_since K J (length K) room front))
          ∙ ap (λ m. before ++ named_events m room J) all,
    )
says_events room (Some n) known later before new begun (K, inr (few, is)) t =
    let J = reverse later in
    inr (
      K,
      subst (λ (b : Begun). IsFront b.front J) is t.front,
      few,
      board_event_log room K J before new begun is t.room_is t.told,
    )
says_events room None known later before new begun (K, is) t =
    let J = reverse later in
    inr (
      K,
      subst (λ (b : Begun). IsFront b.front J) is t.front,
      tt,
      board_event_log room K J before new begun is t.room_is t.told,
    )

-- ---- what is known of a board has been told of all of it

pub all_feed : (room count : ℕ) (seen : List Entry) (known : Known) → room ≡ count → Knows (reverse seen) known
    → (b : Begun) × (log : List ℕ) × (b.room ≡ count) × TellsFrom known room seen b log
all_feed room count seen known same knows = (
  record { before = []; from = 0; room = room; front = [] },
  feed_since [] 0 room (reverse seen),
  same,
  record {
    knows = knows;
    passed = omega arith;
    room_is = refl;
    front = (reverse seen, sym (append-nil (reverse seen)));
    told = refl;
  },
)

pub all_events : (room count : ℕ) (seen : List Entry) (known : Known) → room ≡ count → Knows (reverse seen) known
    → (b : Begun) × (log : List ℕ) × (b.room ≡ count) × EventsFrom known room seen b log
all_events room count seen known same knows = (
  record { before = []; from = 0; room = room; front = [] },
  events_since [] 0 room (reverse seen),
  same,
  record {
    knows = knows;
    passed = omega arith;
    room_is = refl;
    front = (reverse seen, sym (append-nil (reverse seen)));
    told = refl;
  },
)

-- ---- it was begun as one asked, after what was seen

pub begun_journal : (room count number : ℕ) (seen : List Entry) (known : Known) (start : Start) (before log : List ℕ)
    → room ≡ count → start ≡ starts.Entry number → length seen ≤ number → number ≤ length seen
    → TellsFrom known room seen (at_entry room before (reverse seen)) log
    → (b : Begun) × IsBegun at_entry at_board before start b × (b.room ≡ count) × TellsFrom known room seen b log
begun_journal room count number seen known start before log same is next all t =
    let K = reverse seen in
    let all_seen : length K ≡ number = length-reverse seen ∙ (let is_all : length seen ≡ number = omega (arith, next, all) in is_all) in (
      at_entry room before K,
      subst (λ s. IsBegun at_entry at_board before s (at_entry room before K)) (sym is) (K, inl (all_seen, refl)),
      same,
      t,
    )

pub begun_board : (room count : ℕ) (seen : List Entry) (known : Known) (start : Start) (before log : List ℕ)
    → room ≡ count → ((number : ℕ) → start ≡ starts.Entry number → length seen < number)
    → TellsFrom known room seen (at_board room before (reverse seen)) log
    → (b : Begun) × IsBegun at_entry at_board before start b × (b.room ≡ count) × TellsFrom known room seen b log
begun_board room count seen known (starts.Entry n) before log same few t =
    let K = reverse seen in (
      at_board room before K,
      (K, inr (subst (λ m. m < n) (sym (length-reverse seen)) (few n refl), refl)),
      same,
      t,
    )
begun_board room count seen known starts.Board before log same few t =
    let K = reverse seen in
    (at_board room before K, (K, refl), same, t)

pub begun_events : (room count number : ℕ) (seen : List Entry) (known : Known) (start : Start) (before log : List ℕ)
    → room ≡ count → start ≡ starts.Entry number → length seen ≤ number → number ≤ length seen
    → EventsFrom known room seen (at_event room before (reverse seen)) log
    → (b : Begun) × IsBegun at_event at_board_event before start b × (b.room ≡ count) × EventsFrom known room seen b log
begun_events room count number seen known start before log same is next all t =
    let K = reverse seen in
    let all_seen : length K ≡ number = length-reverse seen ∙ (let is_all : length seen ≡ number = omega (arith, next, all) in is_all) in (
      at_event room before K,
      subst (λ s. IsBegun at_event at_board_event before s (at_event room before K)) (sym is) (K, inl (all_seen, refl)),
      same,
      t,
    )

pub begun_board_event : (room count : ℕ) (seen : List Entry) (known : Known) (start : Start) (before log : List ℕ)
    → room ≡ count → ((number : ℕ) → start ≡ starts.Entry number → length seen < number)
    → EventsFrom known room seen (at_board_event room before (reverse seen)) log
    → (b : Begun) × IsBegun at_event at_board_event before start b × (b.room ≡ count) × EventsFrom known room seen b log
begun_board_event room count seen known (starts.Entry n) before log same few t =
    let K = reverse seen in (
      at_board_event room before K,
      (K, inr (subst (λ m. m < n) (sym (length-reverse seen)) (few n refl), refl)),
      same,
      t,
    )
begun_board_event room count seen known starts.Board before log same few t =
    let K = reverse seen in
    (at_board_event room before K, (K, refl), same, t)

-- an entry that is asked for was not seen yet
abbrev number_of : Start → ℕ
number_of (starts.Entry n) = n
number_of starts.Board = 0

pub few_entry : (start : Start) (number count n : ℕ) (seen : List Entry) → start ≡ starts.Entry number
    → count < number → count ≡ length seen → start ≡ starts.Entry n → length seen < n
few_entry start number count n seen is past counted other =
    let same : number ≡ n = sym (ap number_of is) ∙ ap number_of other in
    subst (λ m. length seen < m) same (subst (λ m. m < number) counted past)

pub few_board : (start : Start) (n : ℕ) (seen : List Entry) → start ≡ starts.Board → start ≡ starts.Entry n
    → length seen < n
few_board start n seen is other = absurd (cc)

-- what a call says where it went well, of another thing
pub on_ok : {X E P Q : Type 0} (r : Result X E) → (P → Q) → OnOk r P → OnOk r Q
on_ok (Ok x) f p = f p
on_ok (Err e) f p = p
