use Rattle.std.proofs.Common.{ap, ◌∙◌, nat_eq}
use Rattle.std.specs.Prelude.{option_map, string_bytes}
use Rattle.indexmap.specs.IndexMap.{get}
use Rattle.acdm_feed.specs.Knowing.{Knows}
use Rattle.acdm_feed.proofs.Following.{same_knows}
use Rattle.acdm_feed.proofs.known.Known.follow.Goals as goal

pub returns : goal.returns
returns c sigs J eq before =
    let k : Knows J c.follow_day.new.self =
    same_knows J c.args.self.now c.follow_day.new.self c.follow_day.ensures.name c.follow_day.ensures.flights
    c.follow_day.ensures.words before in
    record {
      named = ap (option_map string_bytes) c.follow_flights.ensures.name ∙ c.in_ok-follow_name.ensures.named J k;
      of_flights = c.in_ok-follow_flights.ensures.knows sigs J eq (record {
        flights_are = ap (λ v. v.items) c.follow_name.ensures.flights ∙ k.of_flights.flights_are;
        words = λ f. ap (λ w. get nat_eq w f) c.follow_name.ensures.words ∙ k.of_flights.words f;
      });
    }
