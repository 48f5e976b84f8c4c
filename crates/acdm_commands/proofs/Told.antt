-- Partners who were served, by what was told of them.
use Rattle.std.proofs.Common.{◌≡◌, ℕ, Bool, List, [], ◌∷◌, ◌++◌, length, map, option_map, refl, ap}
use Rattle.std.proofs.Common.{Some, Option, Result, Ok, Err, IfErr, OnOk, inl, inr, ◌⊎◌, ◌∙◌, subst, sym, true, false}
use Rattle.bpf_helpers.specs.Promise.{Promise}
use Rattle.acdm_judging.specs.Findings.{Tells}
use Rattle.acdm_judging.specs.declared.auditing.Finding.{Finding}
use Rattle.acdm_commands.specs.Keeping.{BeginsWith, ClosesLed, ComesLed, FailsToBegin, FailsToKeep, IsLed}
use Rattle.acdm_commands.specs.Keeping.{AnswersSome, ServesKept, ServesLed, ServesTo, ServesWordsTo, StopsAnswering}
use Rattle.acdm_commands.specs.declared.serve_command.BeginError.TheVariants as begin_errors
use Rattle.std.specs.List.{flat_map}
use Rattle.acdm_milestones.specs.declared.role.Role.{Role}
use Rattle.acdm_lines.specs.Counted.{SinkView, SourceView}
use Rattle.acdm_board.specs.Desk.{DeskView}
use Rattle.acdm_sessions.specs.Sessions.{ServesSessions, SessionStart, SessionTold, new_session}
use Rattle.acdm_sessions.proofs.Seats.{map_map}
use Rattle.acdm_serving.specs.Partners.{Telling, TellsPartners, starts_of, told_text}
use Rattle.acdm_commands.specs.Minutes.{is_minute}
use Rattle.acdm_commands.specs.Partners.{FailsToServe, IsNamedBy, Named, SavesSo, ServesNamed, ServesPartners, role_in, ticking}
use Rattle.acdm_serving.specs.declared.reconnecting.Partners.{Partners}
use Rattle.acdm_commands.proofs.Ticks.{ticking_by}
use Rattle.acdm_commands.specs.Served.{FailsToSave, IsSaved}
use Rattle.acdm_failures.specs.Failures.{failure_of_keeping}
use Rattle.acdm_failures.specs.declared.failure.Failure.{Failure}
use Rattle.acdm_failures.specs.declared.failure.Failure.TheVariants as failures
use Rattle.acdm_keeping.specs.Kept.{CutsShort}
use Rattle.acdm_step.specs.Commands.{History}

told_texts : {X : Type 0} (f : X → SessionTold) (xs : List X)
    → flat_map (λ x. told_text (f x)) xs ≡ flat_map told_text (map f xs)
told_texts f [] = refl
told_texts f (x ∷ xs) = ap (λ t. told_text (f x) ++ t) (told_texts f xs)

-- partners were served, and it was told how their sessions ended
pub serves_partners : {W X : Type 0} (told : X → SessionTold) (xs : List X) (desk closed : DeskView)
    (roles : List Role) (starts : List SessionStart) (old new : SinkView W)
    → ServesSessions desk closed starts (map told xs) → (said : Telling)
    → TellsPartners roles (flat_map (λ x. told_text (told x)) xs) (length closed.history) old new said
    → (Kept : History → Type 0) → Kept closed.history
    → ServesPartners desk roles starts old new said Kept
serves_partners told xs desk closed roles starts old new serves said tells Kept kept = record {
  closed = closed;
  sessions = map told xs;
  serves = serves;
  kept = kept;
  tells = subst (λ t. TellsPartners roles t (length closed.history) old new said) (told_texts told xs)
      tells;
}

-- what is known of the history that a desk was closed with is said otherwise
pub kept_as : {W : Type 0} (desk : DeskView) (named : Named) (old new : SinkView W) (said : Telling) (J : History)
    (Kept : History → Type 0) → Kept J → ServesNamed desk named old new said (λ H. H ≡ J)
    → ServesNamed desk named old new said Kept
kept_as desk named old new said J Kept kept named_so =
    let served = named_so.partners in
    record {
      roles = named_so.roles;
      are_named = named_so.are_named;
      partners = record {
        closed = served.closed;
        sessions = served.sessions;
        serves = served.serves;
        kept = subst Kept (sym served.kept) kept;
        tells = served.tells;
      };
    }

module _ {W F : Type 0} (kept : Bool) (desk : DeskView) (named : Named) (old new : SinkView W)
    (saved later : Option (SinkView F)) (J : History) (said : Telling)
    (served : ServesNamed desk named old new said (λ H. H ≡ J)) where
  -- partners were served, and what they made was saved
  pub comes_saved : SavesSo {T = Unit {0}} said J saved later (Ok tt)
      → ServesWordsTo kept desk named old new saved later (Ok 0)
  comes_saved saves = (
    subst (λ t. ServesNamed desk named old new t (λ K. IsSaved K saved later)) saves.0
        (kept_as desk named old new said J (λ K. IsSaved K saved later) saves.1 served),
    refl,
  )

  -- they were, and it was not, or it could not be told how they ended
  pub comes_unsaved : (failure : Failure) → SavesSo {T = Unit {0}} said J saved later (Err failure)
      → ServesWordsTo kept desk named old new saved later (Err failure)
  comes_unsaved failure saves =
      inr (
        said,
        kept_as desk named old new said J (λ K. SavesSo {T = Unit {0}} said K saved later (Err failure)) saves
            served,
      )

-- the partners that words name were served
pub serves_named : {W P : Type 0} (ps : List P) (role : P → Role) (behind : List SessionStart) (desk : DeskView)
    (named : Named) (old new : SinkView W) → map role_in named.words ≡ map (λ p. Some (role p)) ps
    → behind ≡ ticking named.ticks → (said : Telling) (Kept : History → Type 0)
    → ServesPartners desk (map role ps) (map (λ p. new_session (role p) is_minute) ps ++ behind) old new said Kept
    → ServesNamed desk named old new said Kept
serves_named ps role behind desk named old new are_named is_behind said Kept served = record {
  roles = map role ps;
  are_named = are_named ∙ map_map Some role ps;
  partners = subst (λ starts. ServesPartners desk (map role ps) starts old new said Kept)
      (λ i. map_map (λ r. new_session r is_minute) role ps i ++ is_behind i) served;
}

-- ---- a desk by which another board was followed, or not

-- where it was told how partners ended, it can only be that nothing was saved
unsaved_alone : {F : Type 0} (saved later : Option (SinkView F)) (J : History) (said : Telling) (failure : Failure)
    → said ≡ Ok tt → SavesSo {T = Unit {0}} said J saved later (Err failure) → FailsToSave saved later failure
unsaved_alone saved later J said failure well (inl fails) = fails
unsaved_alone saved later J said failure well (inr untold) = absurd (untold.1 well)

-- it was served by, or the board was closed before
served_or_closed : {W F : Type 0} (kept : Bool) (led : DeskView) (named : Named) (old new : SinkView W)
    (saved later : Option (SinkView F)) (J : History) (said : Telling) (work : Result ℕ Failure)
    → (ServesNamed led named old new said (λ H. H ≡ J) → ServesWordsTo kept led named old new saved later work)
    → (new ≡ old → said ≡ Ok tt → J ≡ led.history → ClosesLed led old new saved later work)
    → ServesNamed led named old new said (λ H. H ≡ J)
    ⊎ ((kept ≡ true) × (named.follows ≡ true) × (new ≡ old) × (said ≡ Ok tt) × (J ≡ led.history))
    → ServesWordsTo kept led named old new saved later work
    ⊎ ((kept ≡ true) × (named.follows ≡ true) × ClosesLed led old new saved later work)
served_or_closed kept led named old new saved later J said work serving closing (inl served) = inl (serving served)
served_or_closed kept led named old new saved later J said work serving closing (inr p) =
    inr (p.0, p.1, closing p.2 p.3 p.4)

module _ {W F : Type 0} (kept : Bool) (desk : DeskView) (named : Named) (old new : SinkView W)
    (saved later : Option (SinkView F)) (J : History) (said : Telling)
    (comes : ComesLed kept desk named old new said J) where
  -- what was made was saved
  pub led_saved : SavesSo {T = Unit {0}} said J saved later (Ok tt)
      → ServesLed kept desk named old new saved later (Ok 0)
  led_saved saves = record {
    led = comes.led;
    is_led = comes.is_led;
    serves = served_or_closed kept comes.led named old new saved later J said (Ok 0)
        (λ so. comes_saved kept comes.led named old new saved later J said so saves)
        (λ same well is. (same, subst (λ K. IsSaved K saved later) is saves.1, refl)) comes.serves;
  }

  -- it was not, or it could not be told how partners ended
  pub led_unsaved : (failure : Failure) → SavesSo {T = Unit {0}} said J saved later (Err failure)
      → ServesLed kept desk named old new saved later (Err failure)
  led_unsaved failure saves = record {
    led = comes.led;
    is_led = comes.is_led;
    serves = served_or_closed kept comes.led named old new saved later J said (Err failure)
        (λ so. comes_unsaved kept comes.led named old new saved later J said so failure saves)
        (λ same well is. (same, inr (unsaved_alone saved later J said failure well saves))) comes.serves;
  }

  -- it was not kept
  pub led_unkept : (failure : Failure) → kept ≡ true → FailsToKeep failure
      → ServesLed kept desk named old new saved later (Err failure)
  led_unkept failure is_kept fails = record {
    led = comes.led;
    is_led = comes.is_led;
    serves = served_or_closed kept comes.led named old new saved later J said (Err failure)
        (λ so. inl (inr (record {
          is_kept = is_kept;
          failure_is = fails;
          told = said;
          served = kept_as comes.led named old new said J (λ H. Unit {0}) tt so;
        })))
        (λ same well is. (same, inl fails)) comes.serves;
  }

-- something failed, and no desk is asked about
pub led_stopped : {W F : Type 0} (kept : Bool) (desk : DeskView) (named : Named) (old new : SinkView W)
    (saved : Option (SinkView F)) (failure : Failure) → FailsToServe named old new failure
    → ServesLed kept desk named old new saved saved (Err failure)
led_stopped kept desk named old new saved failure fails = record {
  led = desk;
  is_led = inl refl;
  serves = inl (inl (inl fails));
}

-- partners of the words were served by a desk that was led so
pub comes_served : {W C : Type 0} (kept : Bool) (desk led : DeskView) (named : Named) (partners : Partners C)
    (old new : SinkView W) (said : Telling) (J : History) → IsLed kept named.follows desk led → IsNamedBy named partners
    → ServesPartners led (map (λ p. p.role) partners.listeners.items)
    (starts_of (λ _. is_minute) partners.listeners.items (option_map (λ t. t.clock) partners.ticks)) old new said
    (λ H. H ≡ J)
    → ComesLed kept desk named old new said J
comes_served kept desk led named partners old new said J is_led names served = record {
  led = led;
  is_led = is_led;
  serves = inl (serves_named partners.listeners.items (λ l. l.role) _ led named old new names.0
      (ticking_by (λ t. t.clock) partners.ticks named.ticks names.1) said (λ H. H ≡ J) served);
}

-- nobody was, since the board was closed before
pub comes_closed : {W : Type 0} (kept : Bool) (desk led : DeskView) (named : Named) (old : SinkView W)
    → IsLed kept named.follows desk led → (kept ≡ true) × (named.follows ≡ true)
    → ComesLed kept desk named old old (Ok tt) led.history
comes_closed kept desk led named old is_led so = record {
  led = led;
  is_led = is_led;
  serves = inr (so.0, so.1, refl, refl, refl);
}

-- why a keeper ended early, as what a command fails by
pub unkept_by : (failure : Failure) → CutsShort failure → FailsToKeep (failure_of_keeping failure)
unkept_by failures.Save cut = tt
unkept_by failures.Memory cut = tt
unkept_by failures.Read cut = absurd cut
unkept_by failures.Write cut = absurd cut
unkept_by failures.Untold cut = absurd cut
unkept_by (failures.Role n) cut = absurd cut
unkept_by (failures.Address n) cut = absurd cut
unkept_by (failures.Accept n) cut = absurd cut
unkept_by failures.Watch cut = absurd cut
unkept_by failures.Control cut = absurd cut
unkept_by failures.Follow cut = absurd cut
unkept_by failures.Log cut = absurd cut
unkept_by failures.Word cut = absurd cut
unkept_by failures.Stream cut = absurd cut
unkept_by failures.Keep cut = absurd cut
unkept_by failures.InUse cut = absurd cut
unkept_by failures.Room cut = absurd cut
unkept_by failures.Peer cut = absurd cut
unkept_by failures.Replaced cut = absurd cut

-- lines were answered, all or some
pub answers_some : {R W T : Type 0} (before after : DeskView) (read read_after : SourceView R) (old new : SinkView W)
    (served : Result T Failure) → OnOk served (ServesKept before after read read_after)
    → IfErr served (StopsAnswering before after read read_after old new) → AnswersSome before after read read_after old new
answers_some before after read read_after old new (Ok x) ok err = inl ok
answers_some before after read read_after old new (Err failure) ok err = inr (failure, err)

-- ---- a desk that is begun, or none

-- a desk that another board was followed by is begun so too
begins_led : (sigs : List (ℕ × Promise)) (capacity : ℕ) (kept follows : Bool) (desk led : DeskView)
    → BeginsWith sigs capacity kept desk → IsLed kept follows desk led → BeginsWith sigs capacity kept led
begins_led sigs capacity kept follows desk led begins (inl is) = subst (BeginsWith sigs capacity kept) (sym is) begins
begins_led sigs capacity kept follows desk led begins (inr p) = record {
  room = ap (λ d. d.capacity) p.2.1 ∙ begins.room;
  helpers = ap (λ d. d.sigs) p.2.1 ∙ begins.helpers;
  empty = λ none. let t : true ≡ false = sym p.0 ∙ none in absurd (cc);
}

module _ {W F : Type 0} (sigs : List (ℕ × Promise)) (capacity : ℕ) (kept : Bool) (named : Named)
    (old new : SinkView W) (saved later : Option (SinkView F)) where
  serves_led : (led : DeskView) (work : Result ℕ Failure) → BeginsWith sigs capacity kept led
      → ServesWordsTo kept led named old new saved later work
      ⊎ ((kept ≡ true) × (named.follows ≡ true) × ClosesLed led old new saved later work)
      → ServesTo sigs capacity kept named old new saved later work
  serves_led led (Ok status) begins (inl served) =
      inl (record { opening = led; begins = begins; serves = served.0 }, served.1)
  serves_led led (Ok status) begins (inr closed) =
      inr (inr (record {
        opening = led;
        begins = begins;
        is_kept = closed.0;
        follows = closed.1;
        closes = closed.2;
      }))
  serves_led led (Err failure) begins (inl served) =
      inr (inr (inr (record { opening = led; begins = begins; why = served })))
  serves_led led (Err failure) begins (inr closed) =
      inr (inr (inl (record {
        opening = led;
        begins = begins;
        is_kept = closed.0;
        follows = closed.1;
        closes = closed.2;
      })))

  pub serves_begun : (own : Bool) (desk : DeskView) (work : Result ℕ Failure) → own ≡ kept
      → BeginsWith sigs capacity kept desk → ServesLed own desk named old new saved later work
      → ServesTo sigs capacity kept named old new saved later work
  serves_begun own desk work same begins served =
      let l : ServesLed kept desk named old new saved later work =
      subst (λ k. ServesLed k desk named old new saved later work) same served in
      serves_led l.led work (begins_led sigs capacity kept named.follows desk l.led begins l.is_led) l.serves

  -- the kept journal is not legal, which was told, or could not be
  pub told_illegal : (finding : Finding) (work : Result ℕ Failure) → FailsToBegin kept named.peered (begin_errors.Illegal finding)
      → Tells finding old new work → ServesTo sigs capacity kept named old new saved later work
  told_illegal finding (Ok status) fails tells = inr (inl (fails.0, (finding, fails.1, tells)))
  told_illegal finding (Err failure) fails tells = inr (inl (fails.0, (finding, fails.1, tells)))

-- there was no desk, and nobody was served
pub not_begun : {W F : Type 0} (sigs : List (ℕ × Promise)) (capacity : ℕ) (kept : Bool) (named : Named)
    (old : SinkView W) (saved : Option (SinkView F)) (failure : Failure)
    → FailsToBegin kept named.peered (begin_errors.Failed failure)
    → ServesTo sigs capacity kept named old old saved saved (Err failure)
not_begun sigs capacity kept named old saved failure fails = inl (fails, refl)
