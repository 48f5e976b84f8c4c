-- What a plan would do to the board is what comes of its command.
use Rattle.std.proofs.Common.{◌≡◌, ℕ, List, Bool, true, false, cond, not, map, Option, Some, None}
use Rattle.std.proofs.Common.{refl, sym, ap, subst, ◌∙◌}
use Rattle.bpf_helpers.specs.Oracles.{OracleView, Unasked}
use Rattle.acdm_milestones.specs.declared.role.Role.{Role}
use Rattle.acdm_milestones.specs.declared.role.Action.TheVariants as actions
use Rattle.acdm_milestones.specs.declared.refusal.Refusal.TheVariants.{NotOwner, EmptySlot}
use Rattle.acdm_milestones.specs.declared.refusal.Refusal.TheVariants.{OtherSignatures}
use Rattle.acdm_milestones.specs.Tables.{owns}
use Rattle.bpf_helpers.specs.Promise.{Promise}
use Rattle.bpf_helpers.specs.Same.{same_sigs}
use Rattle.bpf_regstate.specs.declared.length.Length.{Length}
use Rattle.bpf_regstate.specs.Lengths.{same_length}
use Rattle.bpf_verifier.specs.Verdict.{Verified}
use Rattle.acdm_slots.specs.Loaded.{program_in}
use Rattle.acdm_step.specs.declared.command.Command.{Command}
use Rattle.acdm_step.specs.declared.command.Command.TheVariants.{Load, Unload, Tick, Migrate}
use Rattle.acdm_step.specs.declared.command.Command.TheVariants.{Schedule, Report, Deice}
use Rattle.acdm_step.specs.declared.command.Load as command_load
use Rattle.acdm_step.specs.declared.command.Unload as command_unload
use Rattle.acdm_step.specs.declared.entry.Verdict.{Verdict}
use Rattle.acdm_step.specs.declared.entry.Verdict.TheVariants.{Accepted, Refused}
use Rattle.acdm_step.specs.declared.outcome.Outcome.{Outcome}
use Rattle.acdm_step.specs.declared.outcome.Outcome.TheVariants as outcomes
use Rattle.acdm_step.specs.declared.prepare.Change.{Change}
use Rattle.acdm_step.specs.declared.prepare.Change.TheVariants as changes
use Rattle.acdm_step.specs.Commands.{is_accepted, changes_flight}
use Rattle.acdm_step.specs.InSlots.{with_slots}
use Rattle.acdm_step.specs.Verdicts.{load_verdict, unload_verdict, tick_verdict, outcome_with}
use Rattle.acdm_step.specs.Verdicts.{load_obstacle, unload_obstacle, migrate_verdict}
use Rattle.acdm_step.specs.Verdicts.{migrate_obstacle}
use Rattle.acdm_record.specs.Fields.{migrated}
use Rattle.bpf_regstate.specs.declared.length.Length.TheVariants.{L128, L160}
use Rattle.acdm_slots.specs.Migration.{migrated_slots, unloaded}
use Rattle.acdm_step.specs.History.{Board}
use Rattle.acdm_step.specs.Board.{board_of, touched, board_verdict}
use Rattle.acdm_step.specs.Running.{Comes}
use Rattle.acdm_step.specs.Prepared.{owns_change, after_change, Fits}
use Rattle.acdm_step.proofs.Steps.{comes_refused, comes_loaded, comes_unloaded, comes_tick}
use Rattle.acdm_step.proofs.Steps.{comes_migrated}

refuses : (own : Bool) (rest : Verdict) → own ≡ false
    → Refused NotOwner ≡ cond (not own) (Refused NotOwner) rest
refuses own rest h = sym (ap (λ t. cond (not t) (Refused NotOwner) rest) h)

-- whoever does not own a command is refused, whatever stands on the board
pub not_owned : (b : Board) (role : Role) (k : Command) → owns_change role k ≡ false
    → Refused NotOwner ≡ board_verdict b role k
unfolding board_verdict
not_owned b role (Schedule s) h = refuses (owns role actions.Schedule) _ h
not_owned b role (Report r) h = refuses (owns role (actions.Report r.milestone)) _ h
not_owned b role (Deice d) h = refuses (owns role actions.Deice) _ h
not_owned b role _ h = absurd (cc)

-- a plan on an equal board, for an equal command
pub planned_as : (b other : Board) (role : Role) (moment : ℕ) (c same : Command)
    (from to : OracleView) (outcome : Outcome) (change : Change) → b ≡ other → same ≡ c
    → Comes b role moment c from to outcome (after_change b change)
    → Comes other role moment same from to outcome (after_change other change)
planned_as b other role moment c same from to outcome change e f h =
    subst (λ x. Comes x role moment same from to outcome (after_change x change)) e
    (subst (λ x. Comes b role moment x from to outcome (after_change b change)) (sym f) h)

-- a plan that leaves the board as it is
pub left_so : (b : Board) (role : Role) (moment : ℕ) (c : Command) (from to : OracleView)
    (outcome : Outcome) (change : Change)
    → change ≡ changes.Nothing → Comes b role moment c from to outcome b
    → Comes b role moment c from to outcome (after_change b change)
left_so b role moment c from to outcome change e h =
    subst (λ x. Comes b role moment c from to outcome (after_change b x)) (sym e) h

module _ (b : Board) (role : Role) (moment : ℕ) (from to : OracleView) (outcome : Outcome)
    (same : Unasked from to) where
  pub plans_nothing : (k : Command) → changes_flight k ≡ true → owns_change role k ≡ false
      → outcome ≡ outcomes.Refused NotOwner
      → Comes b role moment k from to outcome b
  plans_nothing k change h out = comes_refused b role moment k from to outcome
      (Refused NotOwner) change (not_owned b role k h) refl same out

  pub plans_tick : (change : Change) → outcome ≡ outcome_with outcomes.Done (tick_verdict role)
      → change ≡ cond (is_accepted (tick_verdict role)) (changes.Touch moment) changes.Nothing
      → Comes b role moment Tick from to outcome (after_change b change)
  plans_tick change out e =
      subst (λ x. Comes b role moment Tick from to outcome x)
      (either (is_accepted (tick_verdict role)) ∙ ap (after_change b) (sym e))
      (comes_tick b role moment from to outcome same (tick_verdict role)
      (cond (is_accepted (tick_verdict role)) (map (touched moment) b.records) b.records) refl
      out refl)
    where
      either : (t : Bool) → board_of (cond t (map (touched moment) b.records) b.records) b.slots
          ≡ after_change b (cond t (changes.Touch moment) changes.Nothing)
      either true = refl
      either false = refl

  pub plans_load : (l : command_load.Load) (change : Change)
      → outcome ≡ outcome_with outcomes.Done
      (load_verdict (load_obstacle b.slots.sigs b.slots.record_length l.program) role)
      → change ≡ cond (is_accepted (load_verdict (load_obstacle b.slots.sigs b.slots.record_length l.program) role))
      (changes.Load l.milestone l.kind l.program) changes.Nothing
      → Comes b role moment (Load l) from to outcome (after_change b change)
  plans_load l change out e =
      let v : Verdict = load_verdict (load_obstacle b.slots.sigs b.slots.record_length l.program) role in
      subst (λ x. Comes b role moment (Load l) from to outcome x) (either (is_accepted v)
      ∙ ap (after_change b) (sym e))
      (comes_loaded b role moment from to outcome same l v
      (cond (is_accepted v) (with_slots (Load l) b.slots) b.slots) refl out refl)
    where
      either : (t : Bool) → board_of b.records (cond t (with_slots (Load l) b.slots) b.slots)
          ≡ after_change b (cond t (changes.Load l.milestone l.kind l.program) changes.Nothing)
      either true = refl
      either false = refl

  pub plans_unload : (u : command_unload.Unload) (change : Change)
      → outcome ≡ outcome_with outcomes.Done
      (unload_verdict (unload_obstacle (program_in b.slots u.milestone u.kind)) role)
      → change ≡ cond (is_accepted (unload_verdict (unload_obstacle (program_in b.slots u.milestone u.kind))
      role)) (changes.Unload u.milestone u.kind) changes.Nothing
      → Comes b role moment (Unload u) from to outcome (after_change b change)
  plans_unload u change out e =
      let v : Verdict = unload_verdict (unload_obstacle (program_in b.slots u.milestone u.kind)) role in
      subst (λ x. Comes b role moment (Unload u) from to outcome x) (either (is_accepted v)
      ∙ ap (after_change b) (sym e))
      (comes_unloaded b role moment from to outcome same u v
      (cond (is_accepted v) (with_slots (Unload u) b.slots) b.slots) refl out refl)
    where
      either : (t : Bool) → board_of b.records (cond t (with_slots (Unload u) b.slots) b.slots)
          ≡ after_change b (cond t (changes.Unload u.milestone u.kind) changes.Nothing)
      either true = refl
      either false = refl

  pub plans_migrate : (change : Change)
      → outcome ≡ outcome_with (outcomes.Migrated (unloaded L160 (program_in b.slots)))
      (migrate_verdict (migrate_obstacle b.slots.record_length) role)
      → change ≡ cond (is_accepted (migrate_verdict (migrate_obstacle b.slots.record_length) role))
      (changes.Migrate (migrated_slots L160 b.slots)) changes.Nothing
      → Comes b role moment Migrate from to outcome (after_change b change)
  unfolding board_verdict
  plans_migrate change out e =
      let v : Verdict = migrate_verdict (migrate_obstacle b.slots.record_length) role in
      subst (λ x. Comes b role moment Migrate from to outcome x) (either (is_accepted v)
      ∙ ap (after_change b) (sym e))
      (comes_migrated b role moment from to outcome same v
      (cond (is_accepted v) (board_of (map migrated b.records) (with_slots Migrate b.slots)) b) refl
      out refl)
    where
      either : (t : Bool)
          → cond t (board_of (map migrated b.records) (with_slots Migrate b.slots)) b
          ≡ after_change b (cond t (changes.Migrate (migrated_slots L160 b.slots)) changes.Nothing)
      either true = refl
      either false = refl

pub fits_migrate : (b : Board) (t : Bool) (change : Change)
    → change ≡ cond t (changes.Migrate (migrated_slots L160 b.slots)) changes.Nothing
    → (t ≡ true → b.slots.record_length ≡ L128) → Fits b change
fits_migrate b true change e first = subst (Fits b) (sym e) (first refl, refl)
fits_migrate b false change e first = subst (Fits b) (sym e) tt

-- ---- the verdict on a load

module _ (role : Role) (sigs : List (ℕ × Promise)) (record_length : Length) (p : Verified)
    (own : owns role actions.Load ≡ true) (long : same_length p.record_length record_length ≡ true)
  where
    pub same_is_loaded : same_sigs p.sigs sigs ≡ true
        → Accepted ≡ load_verdict (load_obstacle sigs record_length p) role
    same_is_loaded same = rw (own, long, same) refl

    pub other_is_refused : same_sigs p.sigs sigs ≡ false
        → Refused OtherSignatures ≡ load_verdict (load_obstacle sigs record_length p) role
    other_is_refused other = rw (own, long, other) refl

-- ---- what a plan asks of its board

pub fits_load : (b : Board) (l : command_load.Load) (t : Bool) (change : Change)
    → change ≡ cond t (changes.Load l.milestone l.kind l.program) changes.Nothing
    → (t ≡ true → l.program.record_length ≡ b.slots.record_length)
    → (t ≡ true → l.program.sigs ≡ b.slots.sigs) → Fits b change
fits_load b l true change e long same = subst (Fits b) (sym e) (long refl, same refl)
fits_load b l false change e long same = subst (Fits b) (sym e) tt

none_filled : (own : Bool) → is_accepted (cond (not own) (Refused NotOwner) (Refused EmptySlot))
    ≡ false
none_filled true = refl
none_filled false = refl

filled : (p : Option Verified) (role : Role)
    → is_accepted (unload_verdict (unload_obstacle p) role) ≡ true
    → p ≡ None → ⊥
filled (Some p) role h e = absurd (cc)
filled None role h e = absurd (cc (h, none_filled (owns role actions.Unload)))

pub fits_unload : (b : Board) (u : command_unload.Unload) (role : Role) (t : Bool) (change : Change)
    → t ≡ is_accepted (unload_verdict (unload_obstacle (program_in b.slots u.milestone u.kind)) role)
    → change ≡ cond t (changes.Unload u.milestone u.kind) changes.Nothing → Fits b change
fits_unload b u role true change s e =
    subst (Fits b) (sym e) (filled (program_in b.slots u.milestone u.kind) role (sym s))
fits_unload b u role false change s e = subst (Fits b) (sym e) tt
