use Rattle.std.proofs.Common.{ap, map}
use Rattle.acdm_commands.proofs.FromSettings.{gives_none, gives_words}
use Rattle.acdm_commands.proofs.settings.words_given.Goals as goal

pub returns-in-Some-words_on : goal.returns-in-Some-words_on
returns-in-Some-words_on g c =
    gives_words (map (λ w. w.now) c.args.words.now) c.in-Some.place.before c.in-Some.place.path.now _
    c.new.result c.words_on.new.reader c.args.errors.now c.words_on.new.errors c.in-Some-words_on.whole
    c.in-Some.ensures.place
    (ap (λ s. s.log) c.new.ensures, ap (λ s. s.faults) c.new.ensures, ap (λ s. s.ended) c.new.ensures)
    c.in-Some-words_on.ensures.some c.in-Some-words_on.ensures.quiet

pub returns-in-Ok : goal.returns-in-Ok
returns-in-Ok g c =
    gives_none (map (λ w. w.now) c.args.words.now) c.in-Some.place.before c.in-Some.place.path.now _
    c.new.result c.words_on.new.reader c.args.errors.now c.words_on.new.errors
    c.in-Some.ensures.place
    (ap (λ s. s.log) c.new.ensures, ap (λ s. s.faults) c.new.ensures, ap (λ s. s.ended) c.new.ensures)
    c.in-None.ensures.none
