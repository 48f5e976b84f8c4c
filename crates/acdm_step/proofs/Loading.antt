-- The programs in the slots of a history are those that its entries load.
use Rattle.std.proofs.Common.{◌≡◌, ℕ, Bool, true, false, cond, List, [], ◌∷◌, Option, Some, None}
use Rattle.std.proofs.Common.{subst, refl}
use Rattle.std.specs.Prelude.{◌==◌, ⊤}
use Rattle.std.specs.List.{AllByRecursion}
use Rattle.std.proofs.lemmas.Option.{same_Some}
use Rattle.bpf_helpers.specs.Promise.{Promise}
use Rattle.bpf_verifier.specs.Verdict.{Verified}
use Rattle.acdm_milestones.specs.declared.milestone.Milestone.{Milestone}
use Rattle.acdm_slots.specs.declared.kind.Kind as kinds
use Rattle.acdm_slots.specs.declared.kind.Kind.TheVariants.{Tobt, Alert}
use Rattle.acdm_slots.specs.Loaded.{place}
use Rattle.acdm_step.specs.declared.command.Command.{Command}
use Rattle.acdm_step.specs.declared.command.Command.TheVariants.{Load, Unload, Tick, Migrate, Show}
use Rattle.acdm_step.specs.declared.command.Command.TheVariants.{Alerts}
use Rattle.acdm_step.specs.declared.command.Command.TheVariants as commands
use Rattle.acdm_step.specs.declared.command.Command.TheVariants.{Schedule, Report, Deice}
use Rattle.acdm_step.specs.Commands.{History, is_accepted}
use Rattle.acdm_step.specs.InSlots.{slot_change, changed_or, judged_again, program_in, programs_of}
use Rattle.acdm_slots.specs.Migration.{fault_beside, kept_program, lengthened, unless_faulty}
use Rattle.bpf_regstate.specs.declared.length.Length.TheVariants.{L160}
use Rattle.acdm_step.specs.History.{IsLegal, IsChecked}

either : (b : Bool) (x y : Option Verified) (v : Verified) (P : Type 0) → (x ≡ Some v → P)
    → (y ≡ Some v → P)
    → cond b x y ≡ Some v → P
either true x y v P f g h = f h
either false x y v P f g h = g h

-- what is so of a program that is loaded
abbrev pub Loads : (Verified → Type 0) → Command → Type 0
Loads P (Load l) = P l.program
Loads P _ = ⊤

-- what is so of each program that is loaded, and stays so where it is judged again, is so of those in
-- the slots
module _ (P : Verified → Type 0) (keeps : (v : Verified) → P v → P (lengthened L160 v)) where
  put_in : (b : Bool) (put before : Option Verified) (v : Verified)
      → (put ≡ Some v → P v) → (before ≡ Some v → P v)
      → changed_or (cond b (Some put) None) before ≡ Some v → P v
  put_in true put before v now then h = now h
  put_in false put before v now then h = then h

  -- a program that was judged again
  kept_as : (w v : Verified) (f : Option (ℕ × ℕ)) → P w
      → unless_faulty f (lengthened L160 w) ≡ Some v → P v
  kept_as w v None p h = subst P (same_Some (lengthened L160 w) v h) (keeps w p)
  kept_as w v (Some f) p h = absurd (cc h)

  kept_in : (before : Option Verified) (v : Verified)
      → ((w : Verified) → before ≡ Some w → P w) → kept_program L160 before ≡ Some v → P v
  kept_in None v then h = absurd (cc h)
  kept_in (Some w) v then h = kept_as w v (fault_beside L160 w) (then w refl) h

  changed_in : (a : Milestone) (k : kinds.Kind) (v : Verified) (c : Command)
      → Loads P c → (before : Option Verified) → ((w : Verified) → before ≡ Some w → P w)
      → changed_or (slot_change a k c) (judged_again c before) ≡ Some v → P v
  changed_in a k v (Load l) loads before then h =
      put_in (place l.milestone l.kind == place a k) (Some l.program) before v
      (λ e. subst P (same_Some l.program v e) loads) (then v) h
  changed_in a k v (Unload u) loads before then h =
      put_in (place u.milestone u.kind == place a k) None before v (λ e. absurd (cc e)) (then v) h
  changed_in a k v (Schedule s) loads before then h = then v h
  changed_in a k v (Report r) loads before then h = then v h
  changed_in a k v (Deice d) loads before then h = then v h
  changed_in a k v Tick loads before then h = then v h
  changed_in a k v Migrate loads before then h = kept_in before v then h
  changed_in a k v (Show f) loads before then h = then v h
  changed_in a k v Alerts loads before then h = then v h

  loaded_in : (J : History) (a : Milestone) (k : kinds.Kind) (v : Verified)
      → AllByRecursion (λ e. Loads P e.command) J → program_in J a k ≡ Some v → P v
  loaded_in [] a k v all h = absurd (cc)
  loaded_in (e ∷ J) a k v all h =
      either (is_accepted e.verdict)
      (changed_or (slot_change a k e.command) (judged_again e.command (program_in J a k)))
      (program_in J a k) v (P v)
      (λ p. changed_in a k v e.command all.0 (program_in J a k)
      (λ w q. loaded_in J a k w all.1 q) p)
      (λ p. loaded_in J a k v all.1 p) h

  pub tobt_loaded : (J : History) (c : Command) → AllByRecursion (λ e. Loads P e.command) J
      → (v : Verified) → (programs_of J c).tobt ≡ Some v → P v
  tobt_loaded J (Report r) all v h = loaded_in J r.milestone Tobt v all h
  tobt_loaded J _ all v h = absurd (cc)

  pub alert_loaded : (J : History) (c : Command) → AllByRecursion (λ e. Loads P e.command) J
      → (v : Verified) → (programs_of J c).alert ≡ Some v → P v
  alert_loaded J (Report r) all v h = loaded_in J r.milestone Alert v all h
  alert_loaded J _ all v h = absurd (cc)

-- ---- in a legal history they were checked against the signatures of the board

module _ (sigs : List (ℕ × Promise)) where
  abbrev HasSigs : Verified → Type 0
  HasSigs v = v.sigs ≡ sigs

  checks_load : (c : Command) → IsChecked sigs c → Loads HasSigs c
  checks_load (Load l) checked = checked.0
  checks_load (Unload u) checked = tt
  checks_load (commands.Schedule k) checked = tt
  checks_load (commands.Report k) checked = tt
  checks_load (commands.Deice k) checked = tt
  checks_load Tick checked = tt
  checks_load Migrate checked = tt
  checks_load (Show f) checked = tt
  checks_load Alerts checked = tt

  all_checked : (J : History) → IsLegal sigs J → AllByRecursion (λ e. Loads HasSigs e.command) J
  all_checked [] legal = tt
  all_checked (e ∷ J) legal = (checks_load e.command legal.3, all_checked J legal.0)

  pub tobt_checked : (J : History) (c : Command) → IsLegal sigs J
      → (v : Verified) → (programs_of J c).tobt ≡ Some v → v.sigs ≡ sigs
  tobt_checked J c legal = tobt_loaded HasSigs (λ v h. h) J c (all_checked J legal)

  pub alert_checked : (J : History) (c : Command) → IsLegal sigs J
      → (v : Verified) → (programs_of J c).alert ≡ Some v → v.sigs ≡ sigs
  alert_checked J c legal = alert_loaded HasSigs (λ v h. h) J c (all_checked J legal)
