-- What stays as it is while lines are answered, and what another sees of it.
use Rattle.std.proofs.Common.{◌≡◌, ℕ, Bool, List, [], ◌∷◌, Result, Ok, Err, sym, ap, ◌∙◌}
use Rattle.std.proofs.Common.{refl, subst, inl, inr}
use Rattle.acdm_milestones.specs.declared.role.Role.{Role}
use Rattle.bpf_helpers.specs.Promise.{Promise}
use Rattle.acdm_row.specs.Views.{PassView}
use Rattle.acdm_lines.specs.Counted.{SinkView, SourceView}
use Rattle.acdm_lines.specs.Lines.{lines_of}
use Rattle.acdm_lines.specs.declared.run_error.RunError.{RunError}
use Rattle.acdm_lines.specs.declared.run_error.RunError.TheVariants.{Read, Write, Memory}
use Rattle.acdm_sessions.specs.declared.answer.Answer.{Answer}
use Rattle.acdm_sessions.specs.Sessions.{SessionAnswers, StaysItself}
use Rattle.acdm_sessions.specs.Stream.{Answering, AnswersAll, AnswersEach, AnswersLinePart}
use Rattle.acdm_sessions.specs.Stream.{AnswersLines, AnswersPart, AnswersText, AnswersWhole, EndsSo}
use Rattle.acdm_sessions.specs.Stream.{Serving, StopsAtFlush, StopsInReply, kept, serving_by}

module _ {A X : Type 0} (f : A → X) (may : Answering A)
    (keeps : (a b : A) (l : List ℕ) (x : Answer) → may a b l x → f b ≡ f a) where
  each_keeps : (a b : A) (ls : List (List ℕ)) (xs : List Answer) → AnswersEach may a b ls xs
      → f b ≡ f a
  each_keeps a b [] [] e = ap f (sym e)
  each_keeps a b (l ∷ ls) (x ∷ xs) e =
      each_keeps e.0 b ls xs e.2 ∙ keeps a e.0 (kept l) x e.1
  each_keeps a b [] (x ∷ xs) e = absurd e
  each_keeps a b (l ∷ ls) [] e = absurd e

  text_keeps : (text : List ℕ) (a b : A) (old new : List ℕ) → AnswersText may text a b old new
      → f b ≡ f a
  text_keeps text a b old new h = each_keeps a b (lines_of text) h.answers h.are_right

  part_keeps : (a b : A) (log later old new : List ℕ)
      → AnswersPart (serving_by may) log later a b old new → f b ≡ f a
  part_keeps a b log later old new (inl h) =
      keeps h.middle b (kept h.line) h.in_hand.answer h.in_hand.is_right
      ∙ text_keeps h.whole a h.middle old h.between h.served
  part_keeps a b log later old new (inr h) = text_keeps h.text a b old new h.served

  -- however it ended
  ends_keep : {R W T : Type 0} (r r' : SourceView R) (w w' : SinkView W) (a b : A)
      (result : Result T RunError) → EndsSo (serving_by may) r r' w w' a b result → f b ≡ f a
  ends_keep r r' w w' a b (Ok x) h = text_keeps h.output.text a b w.log w'.log h.output.served
  ends_keep r r' w w' a b (Err Read) h = text_keeps h.read.whole a b w.log w'.log h.read.served
  ends_keep r r' w w' a b (Err Write) h =
      part_keeps a b r.log r'.log w.log w'.log h.written_in_part
  ends_keep r r' w w' a b (Err Memory) h = ap f h.2

  lines_keep : {R W T : Type 0} (r r' : SourceView R) (w w' : SinkView W) (a b : A)
      (result : Result T RunError) → AnswersLines (serving_by may) r r' w w' a b result → f b ≡ f a
  lines_keep r r' w w' a b result h = ends_keep r r' w w' a b result h.ends

-- What is seen of those who answer, through f, while something stays so of them: where texts and lines
-- that were answered are so in what is seen, all that was answered is.
module _ {A B : Type 0} (f : A → B) (serving : Serving A) (seen : Serving B) (stays : A → Type 0)
    (texts : (text : List ℕ) (a b : A) (old new : List ℕ) → stays a
    → serving.text text a b old new → seen.text text (f a) (f b) old new × stays b)
    (parts : (line : List ℕ) (a b : A) (old new : List ℕ) → stays a
    → serving.line_part line a b old new → seen.line_part line (f a) (f b) old new) where
  module _ (a b : A) (log later old new : List ℕ) (start : stays a) where
    all_seen : (ended : Bool) → AnswersAll serving log later ended a b old new
        → AnswersAll seen log later ended (f a) (f b) old new
    all_seen ended h = record {
      text = h.text;
      gave = h.gave;
      at_end = h.at_end;
      served = (texts h.text a b old new start h.served).0;
    }

    whole_seen : (faults more : ℕ) → AnswersWhole serving log later faults more a b old new
        → AnswersWhole seen log later faults more (f a) (f b) old new
    whole_seen faults more h = record {
      whole = h.whole;
      part = h.part;
      is_whole = h.is_whole;
      is_part = h.is_part;
      gave = h.gave;
      why = h.why;
      served = (texts h.whole a b old new start h.served).0;
    }

    in_reply : StopsInReply serving log later a b old new
        → StopsInReply seen log later (f a) (f b) old new
    in_reply h =
        let so_far = texts h.whole a h.middle old h.between start h.served in
        record {
          whole = h.whole;
          line = h.line;
          later = h.later;
          others = h.others;
          is_whole = h.is_whole;
          is_next = h.is_next;
          gave = h.gave;
          middle = f h.middle;
          between = h.between;
          served = so_far.0;
          in_hand = parts h.line h.middle b h.between new so_far.1 h.in_hand;
        }

    at_flush : StopsAtFlush serving log later a b old new
        → StopsAtFlush seen log later (f a) (f b) old new
    at_flush h = record {
      text = h.text;
      part = h.part;
      is_part = h.is_part;
      apart = h.apart;
      gave = h.gave;
      served = (texts h.text a b old new start h.served).0;
    }

    part_seen : AnswersPart serving log later a b old new
        → AnswersPart seen log later (f a) (f b) old new
    part_seen (inl h) = inl (in_reply h)
    part_seen (inr h) = inr (at_flush h)

  ends_seen : {R W T : Type 0} (r r' : SourceView R) (w w' : SinkView W) (a b : A)
      (result : Result T RunError) → stays a → EndsSo serving r r' w w' a b result
      → EndsSo seen r r' w w' (f a) (f b) result
  ends_seen r r' w w' a b (Ok x) start h = record {
    output = all_seen a b r.log r'.log w.log w'.log start r'.ended h.output;
    read_well = h.read_well;
    wrote_well = h.wrote_well;
    flushed = h.flushed;
  }
  ends_seen r r' w w' a b (Err Read) start h = record {
    read = whole_seen a b r.log r'.log w.log w'.log start r.faults r'.faults h.read;
    read_alone = h.read_alone;
    quiet = h.quiet;
  }
  ends_seen r r' w w' a b (Err Write) start h = record {
    write = h.write;
    write_alone = h.write_alone;
    written_in_part = part_seen a b r.log r'.log w.log w'.log start h.written_in_part;
  }
  ends_seen r r' w w' a b (Err Memory) start h = (h.0, h.1, ap f h.2)

  pub lines_seen : {R W T : Type 0} (r r' : SourceView R) (w w' : SinkView W) (a b : A)
      (result : Result T RunError) → stays a → AnswersLines serving r r' w w' a b result
      → AnswersLines seen r r' w w' (f a) (f b) result
  lines_seen r r' w w' a b result start h = record {
    same_reader = h.same_reader;
    same_writer = h.same_writer;
    ends = ends_seen r r' w w' a b result start h.ends;
  }

-- the same, where each line is answered as it may be, and what may be is seen so
module _ {A B : Type 0} (f : A → B) (may : Answering A) (seen : Answering B) (stays : A → Type 0)
    (goes : (a b : A) (l : List ℕ) (x : Answer) → stays a → may a b l x
    → seen (f a) (f b) l x × stays b) where
  each_seen : (a b : A) (ls : List (List ℕ)) (xs : List Answer) → stays a
      → AnswersEach may a b ls xs → AnswersEach seen (f a) (f b) ls xs × stays b
  each_seen a b [] [] s e = (ap f e, subst stays e s)
  each_seen a b (l ∷ ls) (x ∷ xs) s e =
      let one = goes a e.0 (kept l) x s e.1 in
      let more = each_seen e.0 b ls xs one.1 e.2 in
      ((f e.0, one.0, more.0), more.1)
  each_seen a b [] (x ∷ xs) s e = absurd e
  each_seen a b (l ∷ ls) [] s e = absurd e

  text_seen : (text : List ℕ) (a b : A) (old new : List ℕ) → stays a
      → AnswersText may text a b old new → AnswersText seen text (f a) (f b) old new × stays b
  text_seen text a b old new s h =
      let all = each_seen a b (lines_of text) h.answers s h.are_right in (
        record { answers = h.answers; are_right = all.0; wrote = h.wrote },
        all.1,
      )

  line_seen : (line : List ℕ) (a b : A) (old new : List ℕ) → stays a
      → AnswersLinePart may line a b old new → AnswersLinePart seen line (f a) (f b) old new
  line_seen line a b old new s h = record {
    answer = h.answer;
    is_right = (goes a b (kept line) h.answer s h.is_right).0;
    wrote = h.wrote;
  }

  answers_seen : {R W T : Type 0} (r r' : SourceView R) (w w' : SinkView W) (a b : A)
      (result : Result T RunError) → stays a → AnswersLines (serving_by may) r r' w w' a b result
      → AnswersLines (serving_by seen) r r' w w' (f a) (f b) result
  answers_seen r r' w w' a b result start h =
      lines_seen f (serving_by may) (serving_by seen) stays text_seen line_seen r r' w w' a b result
      start h

-- Those who answer as sessions: what is seen of them is the pass of each.
module _ {A R W T : Type 0} (gives : A → ℕ → Bool) (pass : A → PassView) (number : A → ℕ)
    (role : A → Role) (sigs : List (ℕ × Promise)) (r r' : SourceView R) (w w' : SinkView W) (a b : A)
    (result : Result T RunError) where
  abbrev MayAnswer : Answering A
  MayAnswer x y line answer =
      SessionAnswers (gives x) sigs (pass x) (pass y) line answer
      × StaysItself (gives x) (gives y) (number x) (number y) (role x) (role y)

  pub session_lines : AnswersLines (serving_by MayAnswer) r r' w w' a b result
      → AnswersLines (serving_by (SessionAnswers (gives a) sigs)) r r' w w' (pass a) (pass b) result
  session_lines h =
      answers_seen pass MayAnswer (SessionAnswers (gives a) sigs) (λ x. gives x ≡ gives a)
      (λ x y l answer same step. (
        subst (λ gs. SessionAnswers gs sigs (pass x) (pass y) l answer) same step.0,
        step.1.same_clock ∙ same,
      )) r r' w w' a b result refl h

  pub session_number : AnswersLines (serving_by MayAnswer) r r' w w' a b result → number b ≡ number a
  session_number h =
      lines_keep number MayAnswer (λ x y l answer step. step.1.same_number) r r' w w' a b result h

  pub session_role : AnswersLines (serving_by MayAnswer) r r' w w' a b result → role b ≡ role a
  session_role h =
      lines_keep role MayAnswer (λ x y l answer step. step.1.same_role) r r' w w' a b result h
