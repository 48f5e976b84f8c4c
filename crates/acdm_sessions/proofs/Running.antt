-- What was answered at any time of the text that is read.
use Rattle.std.proofs.Common.{◌≡◌, ℕ, ◌+◌, ◌-◌, ◌^◌, ◌<◌, ◌≤◌, ◌⊎◌, Bool, true, List, [], ◌∷◌, ◌++◌}
use Rattle.std.proofs.Common.{length}
use Rattle.std.proofs.Common.{refl, sym, ap, subst, ◌∙◌, arith, append_assoc, append-nil}
use Rattle.std.proofs.Common.{inl, inr, Result, Err}
use Rattle.acdm_wire.specs.declared.request.TheConstants.{LONGEST_REQUEST}
use Rattle.acdm_sessions.specs.declared.stream.TheConstants.{MOST_KEPT}
use Rattle.acdm_sessions.specs.declared.answer.Answer.{Answer}
use Rattle.acdm_lines.specs.declared.lines.Lines.{Lines}
use Rattle.acdm_lines.specs.declared.run_error.RunError.{RunError}
use Rattle.acdm_lines.specs.declared.run_error.RunError.TheVariants.{Memory, Read, Write}
use Rattle.acdm_lines.specs.Counted.{SourceView, SinkView, faults_after}
use Rattle.acdm_lines.specs.Lines.{IsLine, IsWhole, lines_of}
use Rattle.acdm_lines.specs.NextLine.{TakesLine, TakesRest, TakesPart, FailsOrEndless}
use Rattle.acdm_sessions.specs.Output.{reply_text}
use Rattle.acdm_sessions.specs.Stream.{Answered, AnsweredInPart, AnswersEach, replies_text}
use Rattle.acdm_sessions.specs.Stream.{AnswersText, AnswersAll, AnswersLines, AnswersWhole, EndsSo}
use Rattle.acdm_sessions.specs.Stream.{FailsToRead, FailsToWrite, Serving, StopsAtFlush, StopsInReply}
use Rattle.acdm_sessions.specs.Stream.{kept, serving_by}
use Rattle.acdm_lines.proofs.Feeds.{lines_of-line, lines_of-rest}
use Rattle.acdm_wire.proofs.Writing.{log-both}
use Rattle.acdm_lines.proofs.Whole.{lines_of-whole, IsWhole-line, IsWhole-append}
use Rattle.acdm_lines.proofs.Reading.{kept-empty, kept-some, faults-more, logged-more, gave-more}

-- ---- what was answered so far, and one line more

module _ {A : Type 0} (may : A → A → List ℕ → Answer → Type 0) where
  each_more : (ls : List (List ℕ)) (xs : List Answer) (before d after : A) (line : List ℕ)
      (x : Answer) → AnswersEach may before d ls xs → may d after (kept line) x
      → AnswersEach may before after (ls ++ line ∷ []) (xs ++ x ∷ [])
  each_more [] [] before d after line x e h =
      (after, subst (λ b. may b after (kept line) x) (sym e) h, refl)
  each_more [] (y ∷ ys) before d after line x e h = absurd e
  each_more (l ∷ ls) [] before d after line x e h = absurd e
  each_more (l ∷ ls) (y ∷ ys) before d after line x e h =
      (e.0, e.1, each_more ls ys e.0 d after line x e.2 h)

replies_text-more : (xs : List Answer) (x : Answer)
    → replies_text (xs ++ x ∷ []) ≡ replies_text xs ++ reply_text x
replies_text-more [] x = append-nil (reply_text x)
replies_text-more (y ∷ ys) x =
    ap (λ t. reply_text y ++ t) (replies_text-more ys x)
    ∙ sym (append_assoc (reply_text y) (replies_text ys) (reply_text x))

-- lines were answered, and their replies were written
pub record Spoken {A : Type 0} (may : A → A → List ℕ → Answer → Type 0) (ls : List (List ℕ))
    (before after : A) (old new : List ℕ) : Type 0 where
  pub answers : List Answer
  pub are_right : AnswersEach may before after ls answers
  pub wrote : new ≡ old ++ replies_text answers

-- The reader gave whole lines and what is held, all of the lines are answered, and each read so far
-- gave something.
pub record Sofar {A : Type 0} (may : A → A → List ℕ → Answer → Type 0)
    (start log : List ℕ) (held : List ℕ) (reads : ℕ)
    (before after : A) (old new : List ℕ) : Type 0 where
  pub text : List ℕ
  pub whole : List ℕ
  pub logged : log ≡ start ++ text
  pub gave : 2 ^ 40 ≤ length text + reads
  pub is_whole : IsWhole whole
  pub split : text ≡ whole ++ held
  pub spoken : Spoken may (lines_of whole) before after old new

pub sofar-begins : {A : Type 0} (may : A → A → List ℕ → Answer → Type 0)
    (log : List ℕ) (d : A) (w : List ℕ)
    → Sofar may log log [] 1099511627776 d d w w
sofar-begins may log d w = record {
  text = [];
  whole = [];
  logged = sym (append-nil log);
  gave = omega arith;
  is_whole = tt;
  split = refl;
  spoken = record { answers = []; are_right = refl; wrote = sym (append-nil w) };
}

-- a writer whose log is the same
pub sofar-same : {A : Type 0} (may : A → A → List ℕ → Answer → Type 0)
    (start log held : List ℕ) (reads : ℕ) (before after : A) (old new new' : List ℕ)
    → new' ≡ new → Sofar may start log held reads before after old new
    → Sofar may start log held reads before after old new'
sofar-same may start log held reads before after old new new' same so_far =
    subst (λ w. Sofar may start log held reads before after old w) (sym same) so_far

lines_with : (whole line : List ℕ) → IsWhole whole → IsLine line
    → lines_of (whole ++ (line ++ 10 ∷ [])) ≡ lines_of whole ++ line ∷ []
lines_with whole line w l =
    lines_of-whole whole (line ++ 10 ∷ []) w
    ∙ ap (λ ls. lines_of whole ++ ls) (lines_of-line line [] l)

-- a line with its line feed is taken off the rest of the text
text_with : (whole line rest : List ℕ)
    → whole ++ (line ++ 10 ∷ rest) ≡ (whole ++ (line ++ 10 ∷ [])) ++ rest
text_with whole line rest =
    ap (λ l. whole ++ l) (sym (append_assoc line (10 ∷ []) rest))
    ∙ sym (append_assoc whole (line ++ 10 ∷ []) rest)

-- the lines of a text that ends with the rest of a line
lines_to_end : (whole rest : List ℕ) → IsWhole whole → IsLine rest → 0 < length rest
    → lines_of (whole ++ rest) ≡ lines_of whole ++ rest ∷ []
lines_to_end whole [] w l some = absurd (omega arith)
lines_to_end whole (b ∷ bs) w l some =
    lines_of-whole whole (b ∷ bs) w ∙ ap (λ ls. lines_of whole ++ ls) (lines_of-rest b bs l)

rest-alone : (rest : List ℕ) → IsLine rest → 0 < length rest → lines_of rest ≡ rest ∷ []
rest-alone [] l some = absurd (omega arith)
rest-alone (b ∷ bs) l some = lines_of-rest b bs l

module _ {A R W : Type 0} (may : A → A → List ℕ → Answer → Type 0)
    (r0 r1 r2 : SourceView R) (l1 l2 : Lines MOST_KEPT) (w1 w2 : SinkView W)
    (before d : A) (old : List ℕ)
    (so_far : Sofar may r0.log r1.log l1.window l1.reads_left before d old w1.log)
  where
    -- what was answered is so for a text of these lines
    text_as : (text : List ℕ) (ls : List (List ℕ)) (after : A) (new : List ℕ)
        → ls ≡ lines_of text → Spoken may ls before after old new
        → AnswersText may text before after old new
    text_as text ls after new all h =
        let moved : Spoken may (lines_of text) before after old new =
        subst (λ v. Spoken may v before after old new) all h in
        record { answers = moved.answers; are_right = moved.are_right; wrote = moved.wrote }

    -- one more line is answered
    spoken-more : (line bytes : List ℕ) (after : A) → bytes ≡ kept line
        → Answered may w1 w2 d after bytes
        → Spoken may (lines_of so_far.whole ++ line ∷ []) before after old w2.log
    spoken-more line bytes after same a =
        let xs : List Answer = so_far.spoken.answers in
        record {
          answers = xs ++ a.answer ∷ [];
          are_right = each_more may (lines_of so_far.whole) xs before d after line a.answer
              so_far.spoken.are_right (subst (λ bs. may d after bs a.answer) same a.is_right);
          wrote = subst (λ t. w2.log ≡ old ++ t) (sym (replies_text-more xs a.answer))
              (log-both old w1.log w2.log (replies_text xs)
              (reply_text a.answer) so_far.spoken.wrote a.wrote);
        }

    -- all that was read, with what was read for one more line
    logged_more : (more : List ℕ) → r2.log ≡ r1.log ++ more
        → r2.log ≡ r0.log ++ (so_far.whole ++ (l1.window ++ more))
    logged_more more c =
        logged-more r0.log r1.log r2.log so_far.text
        so_far.whole l1.window more so_far.logged so_far.split c

    -- so much was read with it
    gave_more : (more : List ℕ) (left : ℕ) → l1.reads_left ≤ length more + left
        → 2 ^ 40 ≤ length (so_far.whole ++ (l1.window ++ more)) + left
    gave_more more left g =
        gave-more so_far.text so_far.whole l1.window more (2 ^ 40) l1.reads_left left so_far.gave
        so_far.split g

    -- one more line is answered
    pub sofar-line : (after : A) → TakesLine MOST_KEPT r1 r2 l1 l2
        → Answered may w1 w2 d after l2.line
        → Sofar may r0.log r2.log l2.window l2.reads_left
        before after old w2.log
    sofar-line after t a =
        let whole : List ℕ = so_far.whole ++ (t.line ++ 10 ∷ []) in
        let lines = lines_with so_far.whole t.line so_far.is_whole t.is_line in
        let more = spoken-more t.line l2.line after t.bytes_are a in
        record {
          text = so_far.whole ++ (l1.window ++ t.text);
          whole = whole;
          logged = logged_more t.text t.gave;
          gave = gave_more t.text l2.reads_left t.each_gave;
          is_whole = IsWhole-append so_far.whole (t.line ++ 10 ∷ []) so_far.is_whole
              (IsWhole-line t.line);
          split = ap (λ l. so_far.whole ++ l) t.split ∙ text_with so_far.whole t.line l2.window;
          spoken = subst (λ ls. Spoken may ls before after old w2.log) (sym lines)
              more;
        }

    -- its reply could not be written
    pub part-line : (after : A) (error : RunError) → TakesLine MOST_KEPT r1 r2 l1 l2
        → AnsweredInPart may w1 w2 d after l2.line error
        → StopsInReply (serving_by may) r0.log r2.log before after old
        w2.log
    part-line after error t a = record {
      whole = so_far.whole;
      line = t.line;
      later = 10 ∷ l2.window;
      others = lines_of l2.window;
      is_whole = so_far.is_whole;
      is_next = lines_of-line t.line l2.window t.is_line;
      gave = subst
          (λ l. r2.log ≡ r0.log ++ (so_far.whole ++ l)) t.split
          (logged_more t.text t.gave);
      middle = d;
      between = w1.log;
      served = text_as so_far.whole (lines_of so_far.whole) d w1.log refl
          so_far.spoken;
      in_hand = record {
        answer = a.answer;
        is_right = subst (λ bs. may d after bs a.answer) t.bytes_are a.is_right;
        wrote = a.wrote;
      };
    }

    -- no line more could be read
    pub sofar-part : (error : RunError) → TakesPart MOST_KEPT r1 r2 l1 l2 error
        → r1.faults ≡ r0.faults → r0.faults < 2 ^ 64 - 1
        → AnswersWhole (serving_by may) r0.log r2.log r0.faults r2.faults before d
        old w1.log
    sofar-part error t well room = record {
      whole = so_far.whole;
      part = l1.window ++ t.text;
      is_whole = so_far.is_whole;
      is_part = t.is_line;
      gave = logged_more t.text t.gave;
      why = why t.why;
      served = text_as so_far.whole (lines_of so_far.whole) d w1.log refl
          so_far.spoken;
    }
      where
        why : (r2.faults ≡ faults_after true r1.faults)
            ⊎ ((r2.faults ≡ r1.faults) × (l1.reads_left ≤ length t.text))
            → FailsOrEndless r0.faults r2.faults (so_far.whole ++ (l1.window ++ t.text))
        why (inl e) = inl (e ∙ ap (faults_after true) well ∙ faults-more r0.faults room)
        why (inr few) =
            let most : l1.reads_left ≤ length t.text = few.1 in
            let all = gave_more t.text 0 (omega arith) in
            inr (few.0 ∙ well, omega (arith, all))

    -- the text has ended with a line feed, or was empty
    pub sofar-ends : TakesRest MOST_KEPT r1 r2 l1 l2 → length l2.line ≡ 0
        → AnswersAll (serving_by may) r0.log r2.log r2.ended before d old w1.log
    sofar-ends t empty =
        let none : l1.window ++ t.text ≡ [] =
        kept-empty LONGEST_REQUEST (l1.window ++ t.text) (ap length (sym t.bytes_are) ∙ empty) in
        record {
          text = so_far.whole;
          gave = subst (λ l. r2.log ≡ r0.log ++ l)
              (ap (λ l. so_far.whole ++ l) none ∙ append-nil so_far.whole)
              (logged_more t.text t.gave);
          at_end = t.ended;
          served = text_as so_far.whole (lines_of so_far.whole) d w1.log refl
              so_far.spoken;
        }

    -- the text has ended with the rest of a line, which is answered
    pub sofar-rest : (after : A) → TakesRest MOST_KEPT r1 r2 l1 l2 → 0 < length l2.line
        → Answered may w1 w2 d after l2.line
        → AnswersAll (serving_by may) r0.log r2.log r2.ended before after old
        w2.log
    sofar-rest after t some a =
        let rest : List ℕ = l1.window ++ t.text in
        let there : 0 < length rest = kept-some LONGEST_REQUEST rest
        (subst (λ l. 0 < length l) t.bytes_are some) in
        let more = spoken-more rest l2.line after t.bytes_are a in
        let lines = lines_to_end so_far.whole rest so_far.is_whole t.is_line there in
        record {
          text = so_far.whole ++ rest;
          gave = logged_more t.text t.gave;
          at_end = t.ended;
          served = text_as (so_far.whole ++ rest) (lines_of so_far.whole ++ rest ∷ []) after
              w2.log (sym lines) more;
        }

    -- its reply could not be written
    pub part-rest : (after : A) (error : RunError) → TakesRest MOST_KEPT r1 r2 l1 l2
        → 0 < length l2.line → AnsweredInPart may w1 w2 d after l2.line error
        → StopsInReply (serving_by may) r0.log r2.log before after old
        w2.log
    part-rest after error t some a =
        let rest : List ℕ = l1.window ++ t.text in
        let there : 0 < length rest = kept-some LONGEST_REQUEST rest
        (subst (λ l. 0 < length l) t.bytes_are some) in
        record {
          whole = so_far.whole;
          line = rest;
          later = [];
          others = [];
          is_whole = so_far.is_whole;
          is_next = ap lines_of (append-nil rest) ∙ rest-alone rest t.is_line there;
          gave = subst
              (λ l. r2.log ≡ r0.log ++ (so_far.whole ++ l))
              (sym (append-nil rest)) (logged_more t.text t.gave);
          middle = d;
          between = w1.log;
          served = text_as so_far.whole (lines_of so_far.whole) d w1.log refl
              so_far.spoken;
          in_hand = record {
            answer = a.answer;
            is_right = subst (λ bs. may d after bs a.answer) t.bytes_are a.is_right;
            wrote = a.wrote;
          };
        }

-- ---- a flush that failed

-- the replies to all lines that were read, with a reader that is as it was
pub flush-same : {A R : Type 0} (may : A → A → List ℕ → Answer → Type 0)
    (start : List ℕ) (r1 r2 : SourceView R) (held : List ℕ) (reads : ℕ) (before after : A)
    (old new : List ℕ) → r2 ≡ r1 → IsLine held
    → Sofar may start r1.log held reads before after old new
    → StopsAtFlush (serving_by may) start r2.log before after old new
flush-same may start r1 r2 held reads before after old new same line so_far = record {
  text = so_far.whole;
  part = held;
  is_part = line;
  apart = lines_of-whole so_far.whole held so_far.is_whole;
  gave = ap (λ r. r.log) same ∙ so_far.logged ∙ ap (λ t. start ++ t) so_far.split;
  served = record {
    answers = so_far.spoken.answers;
    are_right = so_far.spoken.are_right;
    wrote = so_far.spoken.wrote;
  };
}

-- the reply to the last line, which lacks its line feed
pub flush-last : {A : Type 0} (may : A → A → List ℕ → Answer → Type 0)
    (log later : List ℕ) (ended : Bool) (before after : A) (old new : List ℕ)
    → AnswersAll (serving_by may) log later ended before after old new
    → StopsAtFlush (serving_by may) log later before after old new
flush-last may log later ended before after old new all = record {
  text = all.text;
  part = [];
  is_part = tt;
  apart = ap lines_of (append-nil all.text) ∙ sym (append-nil (lines_of all.text));
  gave = all.gave ∙ ap (λ t. log ++ t) (sym (append-nil all.text));
  served = all.served;
}

-- ---- the error of a call

-- nothing was done, since memory was refused
pub none_done : {A R W T : Type 0} (serving : Serving A) (r r' : SourceView R) (w w' : SinkView W)
    (a b : A) (result : Result T RunError) → result ≡ Err Memory
    → AnswersLines serving r r' w w' a b result → b ≡ a
none_done serving r r' w w' a b result same h =
    (subst (λ v. EndsSo serving r r' w w' a b v) same h.ends).2

module _ {A R W T : Type 0} (serving : Serving A) (r r' : SourceView R) (w w' : SinkView W) (a b : A)
  where
    -- a call that gives something else failed, and memory was not refused
    pub fails_so : {U : Type 0} (e : RunError) → w'.first ≡ w.first
        → (◌≡◌ {A = Result U RunError} (Err e) (Err Memory) → ⊥)
        → (◌≡◌ {A = Result U RunError} (Err e) (Err Read)
        → (r'.first ≡ r.first) × FailsToRead serving r r' w w' a b)
        → (◌≡◌ {A = Result U RunError} (Err e) (Err Write)
        → (r'.first ≡ r.first) × FailsToWrite serving r r' w w' a b)
        → AnswersLines {T = T} serving r r' w w' a b (Err e)
    fails_so Memory same none read write = absurd (none refl)
    fails_so Read same none read write =
        let h = read refl in
        record { same_reader = h.0; same_writer = same; ends = h.1 }
    fails_so Write same none read write =
        let h = write refl in
        record { same_reader = h.0; same_writer = same; ends = h.1 }

    -- the writer failed
    pub fails_writing : (e : RunError) → e ≡ Write → r'.first ≡ r.first → w'.first ≡ w.first
        → FailsToWrite serving r r' w w' a b → AnswersLines {T = T} serving r r' w w' a b (Err e)
    fails_writing e kind same_reader same_writer h =
        subst (λ x. AnswersLines {T = T} serving r r' w w' a b (Err x)) (sym kind)
        (record { same_reader = same_reader; same_writer = same_writer; ends = h })
