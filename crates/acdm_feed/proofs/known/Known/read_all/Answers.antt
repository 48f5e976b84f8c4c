use Rattle.std.proofs.Common.{ap, ◌∙◌, ◌==◌, cond, None}
use Rattle.std.specs.List.{list_any}
use Rattle.acdm_feed.specs.Knowing.{word_of}
use Rattle.acdm_feed.proofs.Following.{knows_all, still_knows}
use Rattle.acdm_feed.proofs.known.Known.read_all.Goals as goal

pub returns-then-is_up_to_date-clause-knows : goal.returns-then-is_up_to_date-clause-knows
returns-then-is_up_to_date-clause-knows c sigs J K eq k same =
    still_knows J K c.args.self.now k same (c.is_up_to_date.ensures c.if-is_up_to_date.true sigs K eq)

pub returns-clause-knows : goal.returns-clause-knows
returns-clause-knows c sigs J K eq k same =
    knows_all K record {
      name = c.args.self.now.name;
      flights = c.args.self.now.flights;
      words = c.put_words.new.words;
      day = c.args.self.now.day;
    } (k.flights_are ∙ same)
    (λ f. c.in_ok-put_words.ensures sigs K eq f
    ∙ ap (λ fs. cond (list_any (λ g. g == f) fs) (word_of K f) None) c.as_slice.ensures.value)
