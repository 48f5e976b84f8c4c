-- Loaded programs are a map from milestone and kind.
use Rattle.std.proofs.Common.{◌≡◌, ℕ, zero, suc, ◌+◌, ◌<◌, ◌/◌, ◌%◌, List, [], ◌∷◌, length, Bool}
use Rattle.std.proofs.Common.{true, false, nat_eq, if◌then◌else◌, slice_index_or, slice_set}
use Rattle.std.proofs.Common.{unwrap_or, Option, Some, None, refl, sym, ap, ◌∙◌, arith, subst}
use Rattle.std.proofs.Common.{length-set, eqb-true}
use Rattle.std.proofs.lemmas.Bool.{eqb-false}
use Rattle.std.specs.Prelude.{◌==◌}
use Rattle.acdm_milestones.specs.declared.milestone.Milestone.{Milestone}
use Rattle.acdm_milestones.specs.declared.milestone.Milestone.TheVariants.{FlightPlanActivated}
use Rattle.acdm_milestones.specs.declared.milestone.Milestone.TheVariants.{TwoHoursBeforeEobt}
use Rattle.acdm_milestones.specs.declared.milestone.Milestone.TheVariants.{TakeOffFromOutstation}
use Rattle.acdm_milestones.specs.declared.milestone.Milestone.TheVariants.{LocalRadarUpdate}
use Rattle.acdm_milestones.specs.declared.milestone.Milestone.TheVariants.{FinalApproach, Landed}
use Rattle.acdm_milestones.specs.declared.milestone.Milestone.TheVariants.{InBlock}
use Rattle.acdm_milestones.specs.declared.milestone.Milestone.TheVariants.{GroundHandlingStarts}
use Rattle.acdm_milestones.specs.declared.milestone.Milestone.TheVariants.{TobtUpdate, TsatIssue}
use Rattle.acdm_milestones.specs.declared.milestone.Milestone.TheVariants.{BoardingStarts}
use Rattle.acdm_milestones.specs.declared.milestone.Milestone.TheVariants.{AircraftReady}
use Rattle.acdm_milestones.specs.declared.milestone.Milestone.TheVariants.{StartUpRequest}
use Rattle.acdm_milestones.specs.declared.milestone.Milestone.TheVariants.{StartUpApproved}
use Rattle.acdm_milestones.specs.declared.milestone.Milestone.TheVariants.{OffBlock, TakeOff}
use Rattle.acdm_milestones.specs.Tables.{milestone_numbered}
use Rattle.acdm_slots.specs.declared.kind.Kind.{Kind}
use Rattle.acdm_slots.specs.declared.kind.Kind.TheVariants.{Tobt, Alert}
use Rattle.acdm_slots.specs.declared.error.SlotError.TheVariants.{OtherLength, OtherSignatures}
use Rattle.acdm_slots.specs.Loaded.{AreFit, IsBoard, Loaded, load_error, loaded, place, program_in}
use Rattle.acdm_slots.specs.Loaded.{table}
use Rattle.bpf_helpers.specs.Same.{same_sigs}
use Rattle.acdm_slots.specs.Loaded.{with_program}
use Rattle.bpf_helpers.specs.Promise.{Promise}
use Rattle.bpf_regstate.specs.declared.length.Length.{Length}
use Rattle.bpf_regstate.specs.Lengths.{bytes_in, same_length}
use Rattle.bpf_regstate.specs.States.{Accepts}
use Rattle.bpf_verifier.specs.Verdict.{Verified}

-- ---- a list with something else at one place

there : (xs : List (Option Verified)) (i : ℕ) (p : Option Verified) → i < length xs
    → slice_index_or (slice_set xs i p) i None ≡ p
there [] i p within = absurd (omega (arith, within))
there (x ∷ xs) zero p within = refl
there (x ∷ xs) (suc i) p within = there xs i p (omega (arith, within))

elsewhere : (xs : List (Option Verified)) (i j : ℕ) (p : Option Verified) → (i ≡ j → ⊥)
    → slice_index_or (slice_set xs i p) j None ≡ slice_index_or xs j None
elsewhere [] i j p apart = refl
elsewhere (x ∷ xs) zero zero p apart = absurd (apart refl)
elsewhere (x ∷ xs) zero (suc j) p apart = refl
elsewhere (x ∷ xs) (suc i) zero p apart = refl
elsewhere (x ∷ xs) (suc i) (suc j) p apart =
    elsewhere xs i j p (λ e. apart (ap (λ (n : ℕ). suc n) e))

-- the elements of a list, asked for one after another
abbrev tabulate : ℕ → (ℕ → Option Verified) → List (Option Verified)
tabulate zero f = []
tabulate (suc n) f = f 0 ∷ tabulate n (λ i. f (suc i))

each_of : (n : ℕ) (xs : List (Option Verified)) → length xs ≡ n
    → xs ≡ tabulate n (λ i. slice_index_or xs i None)
each_of zero [] e = refl
each_of zero (x ∷ xs) e = absurd (omega (arith, e))
each_of (suc n) [] e = absurd (omega (arith, e))
each_of (suc n) (x ∷ xs) e = ap (λ (ys : List (Option Verified)). x ∷ ys)
    (each_of n xs (omega (arith, e)))

-- ---- places

-- the milestone and the kind of a place
abbrev placed : ℕ → Option Milestone × Kind
placed n = (milestone_numbered (n / 2 + 1), if n % 2 == 0 then Tobt else Alert)

back : (m : Milestone) (kind : Kind) → placed (place m kind) ≡ (Some m, kind)
back FlightPlanActivated Tobt = refl
back FlightPlanActivated Alert = refl
back TwoHoursBeforeEobt Tobt = refl
back TwoHoursBeforeEobt Alert = refl
back TakeOffFromOutstation Tobt = refl
back TakeOffFromOutstation Alert = refl
back LocalRadarUpdate Tobt = refl
back LocalRadarUpdate Alert = refl
back FinalApproach Tobt = refl
back FinalApproach Alert = refl
back Landed Tobt = refl
back Landed Alert = refl
back InBlock Tobt = refl
back InBlock Alert = refl
back GroundHandlingStarts Tobt = refl
back GroundHandlingStarts Alert = refl
back TobtUpdate Tobt = refl
back TobtUpdate Alert = refl
back TsatIssue Tobt = refl
back TsatIssue Alert = refl
back BoardingStarts Tobt = refl
back BoardingStarts Alert = refl
back AircraftReady Tobt = refl
back AircraftReady Alert = refl
back StartUpRequest Tobt = refl
back StartUpRequest Alert = refl
back StartUpApproved Tobt = refl
back StartUpApproved Alert = refl
back OffBlock Tobt = refl
back OffBlock Alert = refl
back TakeOff Tobt = refl
back TakeOff Alert = refl

-- no two have one place
pub same_place : (m n : Milestone) (kind other : Kind) → place m kind ≡ place n other
    → (m ≡ n) × (kind ≡ other)
same_place m n kind other e =
    let same : (Some m, kind) ≡ (Some n, other) = sym (back m kind) ∙ ap placed e ∙ back n other in (
      ap (λ (p : Option Milestone × Kind). unwrap_or p.0 m) same,
      ap (λ (p : Option Milestone × Kind). p.1) same,
    )

-- ---- the map

-- each slot has what the function gives
pub given : (sigs : List (ℕ × Promise)) (record_length : Length) (f : Milestone → Kind
    → Option Verified) (m : Milestone) (kind : Kind)
    → program_in (loaded sigs record_length f) m kind ≡ f m kind
unfolding table
given sigs record_length f FlightPlanActivated Tobt = refl
given sigs record_length f FlightPlanActivated Alert = refl
given sigs record_length f TwoHoursBeforeEobt Tobt = refl
given sigs record_length f TwoHoursBeforeEobt Alert = refl
given sigs record_length f TakeOffFromOutstation Tobt = refl
given sigs record_length f TakeOffFromOutstation Alert = refl
given sigs record_length f LocalRadarUpdate Tobt = refl
given sigs record_length f LocalRadarUpdate Alert = refl
given sigs record_length f FinalApproach Tobt = refl
given sigs record_length f FinalApproach Alert = refl
given sigs record_length f Landed Tobt = refl
given sigs record_length f Landed Alert = refl
given sigs record_length f InBlock Tobt = refl
given sigs record_length f InBlock Alert = refl
given sigs record_length f GroundHandlingStarts Tobt = refl
given sigs record_length f GroundHandlingStarts Alert = refl
given sigs record_length f TobtUpdate Tobt = refl
given sigs record_length f TobtUpdate Alert = refl
given sigs record_length f TsatIssue Tobt = refl
given sigs record_length f TsatIssue Alert = refl
given sigs record_length f BoardingStarts Tobt = refl
given sigs record_length f BoardingStarts Alert = refl
given sigs record_length f AircraftReady Tobt = refl
given sigs record_length f AircraftReady Alert = refl
given sigs record_length f StartUpRequest Tobt = refl
given sigs record_length f StartUpRequest Alert = refl
given sigs record_length f StartUpApproved Tobt = refl
given sigs record_length f StartUpApproved Alert = refl
given sigs record_length f OffBlock Tobt = refl
given sigs record_length f OffBlock Alert = refl
given sigs record_length f TakeOff Tobt = refl
given sigs record_length f TakeOff Alert = refl

pub program_after : (l : Loaded) (m n : Milestone) (kind other : Kind) (p : Option Verified)
    → program_in (with_program l m kind p) n other
    ≡ (if place m kind == place n other then p else program_in l n other)
program_after l m n kind other p =
    given l.sigs l.record_length (λ n other. if place m kind == place n other then p else program_in l n other) n
    other

-- a change is seen in its slot
pub there_after : (l : Loaded) (m : Milestone) (kind : Kind) (p : Option Verified)
    → program_in (with_program l m kind p) m kind ≡ p
there_after l m kind p = program_after l m m kind kind p
    ∙ at (nat_eq (place m kind) (place m kind)) refl
  where
    at : (t : Bool) → nat_eq (place m kind) (place m kind) ≡ t
        → (if t then p else program_in l m kind) ≡ p
    at true e = refl
    at false e = absurd (eqb-false (place m kind) (place m kind) e refl)

-- and in no other
pub elsewhere_after : (l : Loaded) (m n : Milestone) (kind other : Kind) (p : Option Verified)
    → ((m ≡ n) × (kind ≡ other) → ⊥)
    → program_in (with_program l m kind p) n other ≡ program_in l n other
elsewhere_after l m n kind other p apart = program_after l m n kind other p
    ∙ at (nat_eq (place m kind) (place n other)) refl
  where
    at : (t : Bool) → nat_eq (place m kind) (place n other) ≡ t
        → (if t then p else program_in l n other) ≡ program_in l n other
    at true e =
        absurd (apart (same_place m n kind other (eqb-true (place m kind) (place n other) e)))
    at false e = refl

-- ---- what is loaded fits

-- a program that there may be was checked under these signatures beside records of this length, and is
-- accepted so
abbrev pub Suits : List (ℕ × Promise) → Length → Verified → Type 0
Suits sigs record_length v = (v.sigs ≡ sigs) × (v.record_length ≡ record_length)
    × Accepts (bytes_in record_length) v.ops sigs

abbrev pub Fits : List (ℕ × Promise) → Length → Option Verified → Type 0
Fits sigs record_length p = (v : Verified) → p ≡ Some v → Suits sigs record_length v

pub stays_fit : (l : Loaded) (m : Milestone) (kind : Kind) (p : Option Verified)
    → Fits l.sigs l.record_length p → AreFit l → AreFit (with_program l m kind p)
stays_fit l m kind p fits fit n other v e =
    at (nat_eq (place m kind) (place n other)) (sym (program_after l m n kind other p) ∙ e)
  where
    at : (t : Bool) → (if t then p else program_in l n other) ≡ Some v
        → Suits l.sigs l.record_length v
    at true h = fits v h
    at false h = fit n other v h

-- a checked program fits, and so does none
pub some_fits : (sigs : List (ℕ × Promise)) (record_length : Length) (p : Verified) → p.sigs ≡ sigs
    → p.record_length ≡ record_length → Accepts (bytes_in p.record_length) p.ops p.sigs
    → Fits sigs record_length (Some p)
some_fits sigs record_length p same long accepted v e =
    let is : p ≡ v = ap (λ (o : Option Verified). unwrap_or o p) e in
    subst (λ (x : Verified). Suits sigs record_length x) is (
      same,
      long,
      rw (← same, ← long) accepted,
    )

pub none_fits : (sigs : List (ℕ × Promise)) (record_length : Length)
    → Fits sigs record_length None
none_fits sigs record_length v e = absurd (cc)

-- ---- what is not loaded

pub other_length : (l : Loaded) (p : Verified)
    → same_length p.record_length l.record_length ≡ false → load_error l p ≡ Some OtherLength
other_length l p e = rw e refl

pub other_sigs : (l : Loaded) (p : Verified) → same_length p.record_length l.record_length ≡ true
    → same_sigs p.sigs l.sigs ≡ false → load_error l p ≡ Some OtherSignatures
other_sigs l p e f = rw (e, f) refl

-- ---- a store in the list of all places

-- what is loaded after the store
pub stored_as : (l : Loaded) (m : Milestone) (kind : Kind) (p : Option Verified) (n : ℕ)
    → n ≡ place m kind → n < 32 → IsBoard l
    → record {
      sigs = l.sigs;
      record_length = l.record_length;
      programs = slice_set l.programs n p;
    } ≡ with_program l m kind p
unfolding table
stored_as l m kind p n is within board =
    let whole : slice_set l.programs n p
    ≡ table (λ other_m other. slice_index_or (slice_set l.programs n p) (place other_m other)
    None) =
    each_of 32 (slice_set l.programs n p) (length-set l.programs n p ∙ board.places) in
    let asked : table (λ other_m other. slice_index_or (slice_set l.programs n p)
    (place other_m other) None)
    ≡ table (λ other_m other. if place m kind == place other_m other then p else
    program_in l other_m other) =
    ap table (λ i other_m other. each other_m other i) in
    let as_loaded : List (Option Verified) → Loaded =
    λ xs. record { sigs = l.sigs; record_length = l.record_length; programs = xs } in
    ap as_loaded (whole ∙ asked)
  where
    at : (o : ℕ) (t : Bool) → nat_eq (place m kind) o ≡ t
        → slice_index_or (slice_set l.programs n p) o None
        ≡ (if t then p else slice_index_or l.programs o None)
    at o true e =
        let here : n ≡ o = is ∙ eqb-true (place m kind) o e in
        subst (λ (j : ℕ). slice_index_or (slice_set l.programs n p) j None ≡ p) here
        (there l.programs n p (omega (arith, within, board.places)))
    at o false e = elsewhere l.programs n o p (λ same. eqb-false (place m kind) o e (sym is ∙ same))

    each : (other_m : Milestone) (other : Kind)
        → slice_index_or (slice_set l.programs n p) (place other_m other) None
        ≡ (if place m kind == place other_m other then p else program_in l other_m other)
    each other_m other = at (place other_m other) (nat_eq (place m kind) (place other_m other)) refl

-- it keeps what is true of a board
pub board_after : (l : Loaded) (m : Milestone) (kind : Kind) (p : Option Verified) (n : ℕ)
    → n ≡ place m kind → n < 32 → IsBoard l
    → Fits l.sigs l.record_length p
    → IsBoard (record {
      sigs = l.sigs;
      record_length = l.record_length;
      programs = slice_set l.programs n p;
    })
board_after l m kind p n at within board fits = record {
  places = length-set l.programs n p ∙ board.places;
  fit = subst AreFit (sym (stored_as l m kind p n at within board))
      (stays_fit l m kind p fits board.fit);
}
