-- What is found on a board is what the history says.
use Rattle.std.proofs.Common.{◌≡◌, ℕ, Bool, true, false, cond, ◌==◌, List, [], Some, None, refl, ap, sym, ◌∷◌}
use Rattle.std.proofs.Common.{◌∙◌}
use Rattle.std.specs.Prelude.{Option}
use Rattle.std.specs.List.{flat_map}
use Rattle.json.specs.Token.{Token}
use Rattle.acdm_record.specs.declared.field.Field.TheVariants.{Alerts}
use Rattle.acdm_record.specs.Fields.{Fields, number_of}
use Rattle.acdm_step.specs.declared.entry.Entry.{Entry}
use Rattle.acdm_step.specs.Commands.{History, is_accepted, is_tick, changes_flight, flight_of}
use Rattle.acdm_step.specs.Summaries.{record_of, exists, flights}
use Rattle.acdm_feed.specs.Records.{record_tokens}
use Rattle.acdm_feed.specs.Found.{found_tokens, other_from}
use Rattle.acdm_feed.specs.Knowing.{word_of}
use Rattle.acdm_feed.specs.Told.{alerts_of, flight_tokens, other_tokens, changed_by, changed_tokens}

pub found_by : (K : History) (f : ℕ) (o : Option Fields)
    → o ≡ cond (exists K f) (Some (record_of K f)) None → found_tokens o ≡ flight_tokens K f
found_by K f o h =
    ap found_tokens h
    ∙ (elim (exists K f) as (λ b. found_tokens (cond b (Some (record_of K f)) None)
    ≡ cond b (record_tokens (record_of K f)) []) [
      | true ↦ refl
      | false ↦ refl
    ])

other_cases : (a b : Bool) (word : ℕ) (r : Fields)
    → other_from (cond a (Some word) None) (cond b (Some r) None)
    ≡ cond a (cond b (cond (word == number_of r Alerts) [] (record_tokens r)) []) []
other_cases true true word r = refl
other_cases true false word r = refl
other_cases false true word r = refl
other_cases false false word r = refl

pub other_by : (J K : History) (f : ℕ) (w : Option ℕ) (o : Option Fields) → w ≡ word_of J f
    → o ≡ cond (exists K f) (Some (record_of K f)) None → other_from w o ≡ other_tokens J K f
other_by J K f w o is found =
    ap (λ x. other_from x o) is ∙ ap (other_from (word_of J f)) found
    ∙ other_cases (exists J f) (exists K f) (alerts_of J f) (record_of K f)

-- ---- which records an entry changed

accepted_tokens : (J : History) (e : Entry) → is_accepted e.verdict ≡ true
    → changed_by J e ≡ changed_tokens J e
accepted_tokens J e accepted = sym (ap (λ b. cond b (changed_by J e) []) accepted)

pub tick_tokens : (J : History) (e : Entry) (ts : List Token) → is_accepted e.verdict ≡ true
    → is_tick e.command ≡ true
    → ts ≡ flat_map (other_tokens J (e ∷ J)) (flights J) → ts ≡ changed_tokens J e
tick_tokens J e ts accepted tick is =
    is ∙ sym (ap (λ b. cond b (flat_map (other_tokens J (e ∷ J)) (flights J))
    (cond (changes_flight e.command) (flight_tokens (e ∷ J) (flight_of e.command)) [])) tick)
    ∙ accepted_tokens J e accepted

no_tick : (J : History) (e : Entry) → is_tick e.command ≡ false
    → cond (changes_flight e.command) (flight_tokens (e ∷ J) (flight_of e.command)) []
    ≡ changed_by J e
no_tick J e h =
    sym (ap (λ b. cond b (flat_map (other_tokens J (e ∷ J)) (flights J))
    (cond (changes_flight e.command) (flight_tokens (e ∷ J) (flight_of e.command)) [])) h)

pub one_tokens : (J : History) (e : Entry) (f : ℕ) → is_accepted e.verdict ≡ true
    → is_tick e.command ≡ false → changes_flight e.command ≡ true → flight_of e.command ≡ f
    → flight_tokens (e ∷ J) f ≡ changed_tokens J e
one_tokens J e f accepted tick changes is =
    ap (flight_tokens (e ∷ J)) (sym is)
    ∙ sym (ap (λ b. cond b (flight_tokens (e ∷ J) (flight_of e.command)) []) changes)
    ∙ no_tick J e tick ∙ accepted_tokens J e accepted
