use Rattle.std.proofs.Common.{◌≡◌, ap, sym, ◌∙◌, ◌++◌, ◌∷◌, ◌==◌, [], cond, Some, None, append-nil, append_assoc}
use Rattle.std.specs.List.{list_any}
use Rattle.acdm_feed.specs.Knowing.{word_of}
use Rattle.acdm_feed.proofs.Following.{one_put, none_put, none_left}
use Rattle.acdm_feed.proofs.known.put_words.Goals as goal

pub loop-flight-preserved-in_ok-put_word : goal.loop-flight-preserved-in_ok-put_word
loop-flight-preserved-in_ok-put_word c = record {
  done = c.loop-flight.invariant.done ++ c.in-Some.flight.now ∷ [];
  split = append_assoc c.loop-flight.invariant.done (c.in-Some.flight.now ∷ []) c.in-Some.more.now
      ∙ ap (λ l. c.loop-flight.invariant.done ++ l) (sym c.in-Some.ensures.cases.0)
      ∙ c.loop-flight.invariant.split;
  words = λ sigs K eq f.
      one_put K c.loop-flight.invariant.done c.in-Some.flight.now f _ _
      (Some c.in-Some-word_on.word) (c.loop-flight.invariant.words sigs K eq f)
      (sym (c.word_on.ensures sigs K eq) ∙ c.in-Some-word_on.is) (c.in_ok-put_word.ensures f);
}

pub loop-flight-preserved : goal.loop-flight-preserved
loop-flight-preserved c = record {
  done = c.loop-flight.invariant.done ++ c.in-Some.flight.now ∷ [];
  split = append_assoc c.loop-flight.invariant.done (c.in-Some.flight.now ∷ []) c.in-Some.more.now
      ∙ ap (λ l. c.loop-flight.invariant.done ++ l) (sym c.in-Some.ensures.cases.0)
      ∙ c.loop-flight.invariant.split;
  words = λ sigs K eq f.
      none_put K c.loop-flight.invariant.done c.in-Some.flight.now f _
      (c.loop-flight.invariant.words sigs K eq f)
      (sym (c.word_on.ensures sigs K eq) ∙ c.in_default-word_on.is);
}

pub returns : goal.returns
returns c sigs K eq f =
    let all : c.loop-flight.invariant.done ≡ c.args.flights.now =
    sym (append-nil c.loop-flight.invariant.done)
    ∙ ap (λ l. c.loop-flight.invariant.done ++ l) (sym (none_left _ c.in_default.ensures.cases))
    ∙ c.loop-flight.invariant.split in
    c.loop-flight.invariant.words sigs K eq f
    ∙ ap (λ l. cond (list_any (λ g. g == f) l) (word_of K f) None) all
