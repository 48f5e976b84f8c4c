-- What is known of a board follows its entries.
use Rattle.std.proofs.Common.{◌≡◌, ℕ, Bool, true, false, cond, ◌==◌, ◌||◌, ◌&&◌, nat_eq, List, []}
use Rattle.std.proofs.Common.{◌∷◌, ◌++◌, Some, None, refl, sym, ap, subst, ◌∙◌, length}
use Rattle.std.proofs.lemmas.List.Folds.{list_any-append}
use Rattle.std.proofs.lemmas.Bool.{eqb-true}
use Rattle.std.specs.List.{list_any}
use Rattle.std.specs.Option.{option_map}
use Rattle.std.specs.Prelude.{Option, is_some, string_bytes, unwrap_or}
use Rattle.indexmap.specs.IndexMap.{get}
use Rattle.acdm_record.specs.declared.field.Field.TheVariants.{Alerts}
use Rattle.acdm_record.specs.Fields.{Fields, number_of}
use Rattle.acdm_step.specs.declared.command.Command.{Command}
use Rattle.acdm_step.specs.declared.command.Command.TheVariants as commands
use Rattle.acdm_step.specs.declared.entry.Entry.{Entry}
use Rattle.acdm_step.specs.Commands.{History, is_accepted, changes_flight, flight_of, is_tick}
use Rattle.acdm_step.specs.Commands.{is_migrate, creates, is_of}
use Rattle.acdm_step.specs.Summaries.{record_of, flights, exists, with_flight}
use Rattle.acdm_step.proofs.Flights.{and_false, has-with_flight}
use Rattle.acdm_step.proofs.Records.{record_same}
use Rattle.acdm_feed.specs.Told.{alerts_of}
use Rattle.acdm_feed.specs.Knowing.{AreKnown, Knows, KnowsFlights, Puts, word_of}
use Rattle.acdm_feed.specs.declared.known.Known.{Known}

pub word_from_record : (J : History) (f : ℕ) (o : Option Fields)
    → o ≡ cond (exists J f) (Some (record_of J f)) None
    → option_map (λ r. number_of r Alerts) o ≡ word_of J f
word_from_record J f o h =
    ap (option_map (λ r. number_of r Alerts)) h
    ∙ (elim (exists J f) as (λ b. option_map (λ r. number_of r Alerts)
    (cond b (Some (record_of J f)) None) ≡ cond b (Some (number_of (record_of J f) Alerts)) None) [
      | true ↦ refl
      | false ↦ refl
    ])

-- ---- an entry that changes no alerts

word_same : (J : History) (e : Entry) → flights (e ∷ J) ≡ flights J → (f : ℕ)
    → record_of (e ∷ J) f ≡ record_of J f → word_of J f ≡ word_of (e ∷ J) f
word_same J e same f r =
    ap (λ fs. cond (list_any (λ g. g == f) fs) (Some (number_of (record_of J f) Alerts)) None)
    (sym same)
    ∙ ap (λ x. cond (exists (e ∷ J) f) (Some (number_of x Alerts)) None) (sym r)

same_words : (J : History) (e : Entry) (known : Known) → flights (e ∷ J) ≡ flights J
    → ((f : ℕ) → record_of (e ∷ J) f ≡ record_of J f) → KnowsFlights J known → KnowsFlights (e ∷ J) known
same_words J e known same r k = record {
  flights_are = k.flights_are ∙ sym same;
  words = λ f. k.words f ∙ word_same J e same f (r f);
}

no_and : (a b : Bool) → a ≡ false → (a && b) ≡ false
no_and a b none = ap (λ x. x && b) none

refused_record : (J : History) (e : Entry) → is_accepted e.verdict ≡ false → (flight : ℕ)
    → record_of (e ∷ J) flight ≡ record_of J flight
refused_record J e none flight =
    record_same e J flight (no_and (is_accepted e.verdict) _ none)
    (no_and (is_accepted e.verdict) _ none) (no_and (is_accepted e.verdict) _ none)

refused_flights : (J : History) (e : Entry) → is_accepted e.verdict ≡ false
    → flights (e ∷ J) ≡ flights J
refused_flights J e none =
    ap (λ b. with_flight (flights J)
    (cond (b && creates e.command) (Some (flight_of e.command)) None)) none

creates_nothing : (c : Command) → changes_flight c ≡ false → creates c ≡ false
creates_nothing (commands.Schedule c) h = absurd (cc)
creates_nothing (commands.Report c) h = absurd (cc)
creates_nothing (commands.Deice c) h = absurd (cc)
creates_nothing (commands.Load l) h = refl
creates_nothing (commands.Unload u) h = refl
creates_nothing commands.Tick h = refl
creates_nothing commands.Migrate h = refl
creates_nothing (commands.Show f) h = refl
creates_nothing commands.Alerts h = refl

no_flight : (J : History) (e : Entry) → creates e.command ≡ false → flights (e ∷ J) ≡ flights J
no_flight J e h =
    ap (λ b. with_flight (flights J) (cond b (Some (flight_of e.command)) None))
    (and_false (is_accepted e.verdict) (creates e.command) h)

of_none : (e : Entry) (g : ℕ) → changes_flight e.command ≡ false → is_of g e ≡ false
of_none e g h =
    and_false (is_accepted e.verdict) _ (ap (λ b. b && (flight_of e.command == g)) h)

neither_left : (a b : Bool) → (a || b) ≡ false → a ≡ false
neither_left true b h = absurd (cc)
neither_left false b h = refl

neither_right : (a b : Bool) → (a || b) ≡ false → b ≡ false
neither_right true b h = absurd (cc)
neither_right false b h = h

all_create_nothing : (c : Command) → (is_tick c || is_migrate c) ≡ true → creates c ≡ false
all_create_nothing (commands.Schedule c) h = absurd (cc)
all_create_nothing (commands.Report c) h = absurd (cc)
all_create_nothing (commands.Deice c) h = absurd (cc)
all_create_nothing (commands.Load l) h = refl
all_create_nothing (commands.Unload u) h = refl
all_create_nothing commands.Tick h = refl
all_create_nothing commands.Migrate h = refl
all_create_nothing (commands.Show f) h = refl
all_create_nothing commands.Alerts h = refl

pub same_flights : (J : History) (e : Entry) → (is_tick e.command || is_migrate e.command) ≡ true
    → flights (e ∷ J) ≡ flights J
same_flights J e all = no_flight J e (all_create_nothing e.command all)

-- ---- all alerts anew

cond_twice : {X : Type 0} (b : Bool) (x y : X) → cond b (cond b x y) y ≡ cond b x y
cond_twice true x y = refl
cond_twice false x y = refl

pub knows_all : (K : History) (new : Known) → new.flights.items ≡ flights K
    → ((f : ℕ) → get nat_eq new.words f
    ≡ cond (list_any (λ g. g == f) new.flights.items) (word_of K f) None)
    → KnowsFlights K new
knows_all K new same words = record {
  flights_are = same;
  words = λ f. words f
      ∙ ap (λ fs. cond (list_any (λ g. g == f) fs) (word_of K f) None) same
      ∙ cond_twice (exists K f) _ None;
}

one_more : (any is : Bool) (o w before : Option ℕ) → before ≡ cond any o None → (is ≡ true → w ≡ o)
    → cond is w before ≡ cond (any || (is || false)) o None
one_more true true o w before h t = t refl
one_more true false o w before h t = h
one_more false true o w before h t = t refl
one_more false false o w before h t = h

pub one_put : (K : History) (done : List ℕ) (g f : ℕ) (before after w : Option ℕ)
    → before ≡ cond (list_any (λ x. x == f) done) (word_of K f) None → word_of K g ≡ w
    → after ≡ cond (g == f) w before
    → after ≡ cond (list_any (λ x. x == f) (done ++ g ∷ [])) (word_of K f) None
one_put K done g f before after w h is put =
    put ∙ one_more (list_any (λ x. x == f) done) (g == f) (word_of K f) w before h
    (λ t. sym is ∙ ap (word_of K) (eqb-true g f t))
    ∙ ap (λ b. cond b (word_of K f) None) (sym (list_any-append (λ x. x == f) done (g ∷ [])))

none_more : (any is : Bool) (o before : Option ℕ) → before ≡ cond any o None → (is ≡ true → o ≡ None)
    → before ≡ cond (any || (is || false)) o None
none_more true is o before h t = h
none_more false true o before h t = h ∙ sym (t refl)
none_more false false o before h t = h

pub none_put : (K : History) (done : List ℕ) (g f : ℕ) (before : Option ℕ)
    → before ≡ cond (list_any (λ x. x == f) done) (word_of K f) None → word_of K g ≡ None
    → before ≡ cond (list_any (λ x. x == f) (done ++ g ∷ [])) (word_of K f) None
none_put K done g f before h is =
    none_more (list_any (λ x. x == f) done) (g == f) (word_of K f) before h
    (λ t. sym (ap (word_of K) (eqb-true g f t)) ∙ is)
    ∙ ap (λ b. cond b (word_of K f) None) (sym (list_any-append (λ x. x == f) done (g ∷ [])))

-- ---- a command of a flight

pub is_changed : (b : Bool) (g f : ℕ) → cond b (Some g) None ≡ Some f → (b ≡ true) × (g ≡ f)
is_changed true g f h = (refl, ap (λ o. unwrap_or o g) h)
is_changed false g f h = absurd (cc)

not_tick : (c : Command) → changes_flight c ≡ true → is_tick c ≡ false
not_tick (commands.Schedule c) h = refl
not_tick (commands.Report c) h = refl
not_tick (commands.Deice c) h = refl
not_tick (commands.Load l) h = absurd (cc)
not_tick (commands.Unload u) h = absurd (cc)
not_tick commands.Tick h = absurd (cc)
not_tick commands.Migrate h = absurd (cc)
not_tick (commands.Show f) h = absurd (cc)
not_tick commands.Alerts h = absurd (cc)

not_migrate : (c : Command) → changes_flight c ≡ true → is_migrate c ≡ false
not_migrate (commands.Schedule c) h = refl
not_migrate (commands.Report c) h = refl
not_migrate (commands.Deice c) h = refl
not_migrate (commands.Load l) h = absurd (cc)
not_migrate (commands.Unload u) h = absurd (cc)
not_migrate commands.Tick h = absurd (cc)
not_migrate commands.Migrate h = absurd (cc)
not_migrate (commands.Show f) h = absurd (cc)
not_migrate commands.Alerts h = absurd (cc)

others_stay : (J : History) (e : Entry) (g : ℕ) → changes_flight e.command ≡ true
    → (flight_of e.command == g) ≡ false → record_of (e ∷ J) g ≡ record_of J g
others_stay J e g changes other =
    record_same e J g
    (and_false (is_accepted e.verdict) _ (and_false (changes_flight e.command) _ other))
    (and_false (is_accepted e.verdict) _ (not_tick e.command changes))
    (and_false (is_accepted e.verdict) _ (not_migrate e.command changes))

flights_after : (J : History) (e : Entry) (f : ℕ) → is_accepted e.verdict ≡ true
    → flight_of e.command ≡ f
    → flights (e ∷ J) ≡ with_flight (flights J) (cond (creates e.command) (Some f) None)
flights_after J e f accepted is =
    ap (λ b. with_flight (flights J)
    (cond (b && creates e.command) (Some (flight_of e.command)) None)) accepted
    ∙ ap (λ g. with_flight (flights J) (cond (creates e.command) (Some g) None)) is

there_after : (fs : List ℕ) (b : Bool) (f : ℕ)
    → list_any (λ x. x == f) (with_flight fs (cond b (Some f) None)) ≡ true
    → with_flight fs (cond b (Some f) None)
    ≡ cond (list_any (λ x. x == f) fs) fs (fs ++ f ∷ [])
there_after fs true f h = refl
there_after fs false f h = sym (ap (λ b. cond b fs (fs ++ f ∷ [])) h)

true_false : true ≡ false → ⊥
true_false h = absurd (cc)

or_none : (b : Bool) → (b || false) ≡ b
or_none true = refl
or_none false = refl

absent_after : (fs : List ℕ) (b : Bool) (f : ℕ)
    → list_any (λ x. x == f) (with_flight fs (cond b (Some f) None)) ≡ false
    → with_flight fs (cond b (Some f) None) ≡ fs
absent_after fs true f h = absurd (true_false (sym (has-with_flight f fs) ∙ h))
absent_after fs false f h = refl

any_other : (fs : List ℕ) (f g : ℕ) (b : Bool) → (f == g) ≡ false
    → list_any (λ x. x == g) (cond b fs (fs ++ f ∷ [])) ≡ list_any (λ x. x == g) fs
any_other fs f g true h = refl
any_other fs f g false h =
    list_any-append (λ x. x == g) fs (f ∷ [])
    ∙ ap (λ c. list_any (λ x. x == g) fs || (c || false)) h ∙ or_none (list_any (λ x. x == g) fs)

some_is : {X : Type 0} (b : Bool) (x : X) → is_some (cond b (Some x) None) ≡ b
some_is true x = refl
some_is false x = refl

flight_there : (J : History) (e : Entry) (f : ℕ) (old new : Known) → is_accepted e.verdict ≡ true
    → changes_flight e.command ≡ true → flight_of e.command ≡ f → exists (e ∷ J) f ≡ true
    → Puts (Some (alerts_of (e ∷ J) f)) f old new → KnowsFlights J old → KnowsFlights (e ∷ J) new
flight_there J e f old new accepted changes is there puts k =
    let after = flights_after J e f accepted is in
    let grown : flights (e ∷ J) ≡ cond (exists J f) (flights J) (flights J ++ f ∷ []) =
    after ∙ there_after (flights J) (creates e.command) f
    (sym (ap (list_any (λ x. x == f)) after) ∙ there) in
    record {
      flights_are = puts.1
          ∙ ap (λ o. cond (is_some o) old.flights.items (old.flights.items ++ f ∷ [])) (k.words f)
          ∙ ap (λ b. cond b old.flights.items (old.flights.items ++ f ∷ []))
          (some_is (exists J f) _)
          ∙ ap (λ fs. cond (exists J f) fs (fs ++ f ∷ [])) k.flights_are ∙ sym grown;
      words = λ g. puts.0 g
          ∙ (elim (f == g) as (λ b. (f == g) ≡ b
          → cond b (Some (alerts_of (e ∷ J) f)) (get nat_eq old.words g) ≡ word_of (e ∷ J) g) [
            | true ↦ λ q.
                sym (ap (λ b. cond b (Some (alerts_of (e ∷ J) f)) None) there)
                ∙ ap (word_of (e ∷ J)) (eqb-true f g q)
            | false ↦ λ q.
                k.words g
                ∙ ap (λ b. cond b (Some (alerts_of J g)) None)
                (sym (ap (list_any (λ x. x == g)) grown
                ∙ any_other (flights J) f g (exists J f) q))
                ∙ ap (λ r. cond (exists (e ∷ J) g) (Some (number_of r Alerts)) None)
                (sym (others_stay J e g changes (ap (λ x. x == g) is ∙ q)))
          ] refl);
    }

flight_absent : (J : History) (e : Entry) (f : ℕ) (old : Known) → is_accepted e.verdict ≡ true
    → changes_flight e.command ≡ true → flight_of e.command ≡ f → exists (e ∷ J) f ≡ false
    → KnowsFlights J old → KnowsFlights (e ∷ J) old
flight_absent J e f old accepted changes is absent k =
    let after = flights_after J e f accepted is in
    let same : flights (e ∷ J) ≡ flights J =
    after ∙ absent_after (flights J) (creates e.command) f
    (sym (ap (list_any (λ x. x == f)) after) ∙ absent) in
    record {
      flights_are = k.flights_are ∙ sym same;
      words = λ g. k.words g
          ∙ (elim (f == g) as (λ b. (f == g) ≡ b → word_of J g ≡ word_of (e ∷ J) g) [
            | true ↦ λ q.
                sym (ap (word_of J) (eqb-true f g q))
                ∙ ap (λ b. cond b (Some (alerts_of J f)) None)
                (sym (ap (list_any (λ x. x == f)) same) ∙ absent)
                ∙ sym (ap (λ b. cond b (Some (alerts_of (e ∷ J) f)) None) absent)
                ∙ ap (word_of (e ∷ J)) (eqb-true f g q)
            | false ↦ λ q.
                word_same J e same g (others_stay J e g changes (ap (λ x. x == g) is ∙ q))
          ] refl);
    }

pub knows_flight : (J : History) (e : Entry) (f : ℕ) (old new : Known)
    → is_accepted e.verdict ≡ true → changes_flight e.command ≡ true → flight_of e.command ≡ f
    → Puts (word_of (e ∷ J) f) f old new → KnowsFlights J old → KnowsFlights (e ∷ J) new
knows_flight J e f old new accepted changes is puts k =
    elim (exists (e ∷ J) f) as (λ b. exists (e ∷ J) f ≡ b
    → Puts (cond b (Some (alerts_of (e ∷ J) f)) None) f old new → KnowsFlights (e ∷ J) new) [
      | true ↦ λ t p. flight_there J e f old new accepted changes is t p k
      | false ↦ λ t p.
          subst (KnowsFlights (e ∷ J)) (sym p) (flight_absent J e f old accepted changes is t k)
    ] refl puts

pub none_left : (l : List ℕ) → length l ≡ 0 → l ≡ []
none_left [] h = refl
none_left (x ∷ xs) h = absurd (cc)

-- what is known is the same, whatever else is kept beside it
pub same_knows : (J : History) (old new : Known) → new.name ≡ old.name → new.flights ≡ old.flights
    → new.words ≡ old.words → Knows J old → Knows J new
same_knows J old new name flights words k = record {
  named = ap (option_map string_bytes) name ∙ k.named;
  of_flights = record {
    flights_are = ap (λ v. v.items) flights ∙ k.of_flights.flights_are;
    words = λ f. ap (λ w. get nat_eq w f) words ∙ k.of_flights.words f;
  };
}

-- ---- alert words that stayed

pub none_known : (K : History) (known : Known) → AreKnown [] K known
none_known K known f h = absurd (cc)

pub one_known : (K : History) (known : Known) (g : ℕ) (more : List ℕ) → get nat_eq known.words g ≡ word_of K g
    → AreKnown more K known → AreKnown (g ∷ more) K known
one_known K known g more one all f h =
    (elim (g == f) as (λ b. (g == f) ≡ b → (b || list_any (λ x. x == f) more) ≡ true
    → get nat_eq known.words f ≡ word_of K f) [
      | true ↦ λ q t. subst (λ (x : ℕ). get nat_eq known.words x ≡ word_of K x) (eqb-true g f q) one
      | false ↦ λ q t. all f t
    ]) refl h

pub still_knows : (J K : History) (known : Known) → KnowsFlights J known → flights J ≡ flights K
    → AreKnown known.flights.items K known → KnowsFlights K known
still_knows J K known k same all = record {
  flights_are = k.flights_are ∙ same;
  words = λ f. (elim (exists K f) as (λ b. exists K f ≡ b → get nat_eq known.words f ≡ word_of K f) [
    | true ↦ λ t. all f (ap (list_any (λ g. g == f)) (k.flights_are ∙ same) ∙ t)
    | false ↦ λ t.
        k.words f
        ∙ ap (λ b. cond b (Some (alerts_of J f)) None) (ap (list_any (λ g. g == f)) same ∙ t)
        ∙ sym (ap (λ b. cond b (Some (alerts_of K f)) None) t)
  ]) refl;
}
