-- What is known of a board beside it.
use Rattle.std.specs.Prelude.{ℕ, ◌≡◌, ◌==◌, if◌then◌else◌, nat_eq, true, List, [], ◌∷◌, ◌++◌, Option, Some, None, is_some}
use Rattle.std.specs.Prelude.{option_map, string_bytes}
use Rattle.std.specs.List.{list_any}
use Rattle.indexmap.specs.IndexMap.{get}
use Rattle.acdm_step.specs.Commands.{History}
use Rattle.acdm_step.specs.Summaries.{flights, exists}
use Rattle.acdm_feed.specs.Naming.{first_entry, name_of}
use Rattle.acdm_feed.specs.Told.{alerts_of}
use Rattle.acdm_feed.specs.declared.known.Known.{Known}

-- the alerts of a flight that is on the board
abbrev pub word_of : History → ℕ → Option ℕ
word_of J f = if exists J f then Some (alerts_of J f) else None

-- the flights in order of creation, and the alerts of each
pub record KnowsFlights (J : History) (known : Known) : Type 0 where
  pub flights_are : known.flights.items ≡ flights J
  pub words : (f : ℕ) → get nat_eq known.words f ≡ word_of J f

-- the name of the journal, where it has a first entry
abbrev pub IsNamed : History → Known → Type 0
IsNamed J known = option_map string_bytes known.name ≡ option_map name_of (first_entry J)

-- the alert words of these flights
abbrev pub AreKnown : List ℕ → History → Known → Type 0
AreKnown fs J known = (f : ℕ) → list_any (λ g. g == f) fs ≡ true → get nat_eq known.words f ≡ word_of J f

pub record Knows (J : History) (known : Known) : Type 0 where
  pub named : IsNamed J known
  pub of_flights : KnowsFlights J known

-- the alerts of a flight were put, where it has any to tell
abbrev pub Puts : Option ℕ → ℕ → Known → Known → Type 0
Puts None flight old new = new ≡ old
Puts (Some word) flight old new =
    ((f : ℕ) → get nat_eq new.words f ≡ (if flight == f then Some word else get nat_eq old.words f))
    × (new.flights.items ≡ (if is_some (get nat_eq old.words flight) then old.flights.items
    else old.flights.items ++ flight ∷ []))
