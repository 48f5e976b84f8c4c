-- What is judged again is what the definitions say: without a fault it stays, else the first fault is
-- told.
use Rattle.std.proofs.Common.{◌≡◌, ℕ, List, Option, Some, None, Result, Ok, Err, refl, ap, sym, ◌∙◌}
use Rattle.std.proofs.Common.{subst, IfOk, IfErr, [], ◌∷◌, ◌++◌, length, append-nil, arith}
use Rattle.bpf_decode.specs.declared.op.Op.{Op}
use Rattle.bpf_helpers.specs.Promise.{Promise}
use Rattle.bpf_regstate.specs.declared.length.Length.{Length}
use Rattle.bpf_regstate.specs.Lengths.{bytes_in}
use Rattle.bpf_regstate.specs.States.{Accepts, IsFirstFault, first_fault}
use Rattle.bpf_regstate.proofs.FirstFault.{accepts_from, accepts_to, first_fault_is}
use Rattle.bpf_verifier.specs.declared.fault.VerifyError.{VerifyError}
use Rattle.bpf_verifier.specs.declared.fault.VerifyError.TheVariants.{Refused, Memory}
use Rattle.bpf_verifier.specs.Verdict.{Verified, Refuses, code_of}
use Rattle.acdm_milestones.specs.declared.milestone.Milestone.{Milestone}
use Rattle.acdm_slots.specs.declared.kind.Kind.{Kind}
use Rattle.acdm_slots.specs.Loaded.{Loaded, AreFit, IsBoard, program_in, table, values, milestones}
use Rattle.bpf_verifier.proofs.OneReading.{one_fault}
use Rattle.acdm_slots.specs.Migration.{TellsFault, fault_beside, kept_program, lengthened}
use Rattle.acdm_slots.specs.Migration.{unless_faulty, migrated_slots}
use Rattle.acdm_slots.proofs.PlaceLemmas.{Suits, given, some_fits}

module _ (l : Length) (p : Verified) where
  pub accepted_stays : Accepts (bytes_in l) p.ops p.sigs
      → kept_program l (Some p) ≡ Some (lengthened l p)
  unfolding fault_beside
  accepted_stays h = ap (λ f. unless_faulty f (lengthened l p))
      (accepts_to (bytes_in l) p.ops p.sigs h)

  pub fault_told : (slot code : ℕ) → IsFirstFault (bytes_in l) p.ops p.sigs slot code
      → fault_beside l p ≡ Some (slot, code)
  unfolding fault_beside
  fault_told slot code h =
      elim (first_fault (bytes_in l) p.ops p.sigs)
      as (λ (o : Option (ℕ × ℕ)). first_fault (bytes_in l) p.ops p.sigs ≡ o → o ≡ Some (slot, code)) [
        | None ↦ λ e.
            let none = accepts_from (bytes_in l) p.ops p.sigs e slot h.inside in
            let some = h.fault in absurd (cc (none, some))
        | Some f ↦ λ e.
            let same = one_fault (bytes_in l) p.ops p.sigs f.0 slot f.1 code
            (first_fault_is (bytes_in l) p.ops p.sigs f.0 f.1 e) h in
            let with_code : ℕ → ℕ × ℕ = λ n. (f.0, n) in
            let with_slot : ℕ → ℕ × ℕ = λ n. (n, code) in
            ap Some (ap with_code same.0 ∙ ap with_slot same.1)
      ] refl

-- what is answered of a program that was judged again
module _ (l : Length) (p : Verified) (ops : List Op) (sigs : List (ℕ × Promise)) (eo : ops ≡ p.ops)
    (es : sigs ≡ p.sigs) where
  pub if_accepted : (r : Result Verified VerifyError)
      → IfOk r (λ v. Accepts (bytes_in l) ops sigs)
      → IfOk r (λ v. v ≡ record { record_length = l; ops = ops; sigs = sigs })
      → IfOk r (λ v. kept_program l (Some p) ≡ Some v)
  if_accepted (Ok v) a e =
      accepted_stays l p (subst (λ o. Accepts (bytes_in l) o p.sigs) eo
      (subst (λ s. Accepts (bytes_in l) ops s) es a))
      ∙ ap Some (sym (e ∙ (λ i. record { record_length = l; ops = eo i; sigs = es i })))
  if_accepted (Err x) a e = tt

  pub if_refused : (r : Result Verified VerifyError) → IfErr r (Refuses (bytes_in l) ops sigs)
      → IfErr r (TellsFault l p)
  if_refused (Ok v) h = tt
  if_refused (Err Memory) h = tt
  if_refused (Err (Refused fault slot)) h =
      fault_told l p slot (code_of fault)
      (subst (λ o. IsFirstFault (bytes_in l) o p.sigs slot (code_of fault)) eo
      (subst (λ s. IsFirstFault (bytes_in l) ops s slot (code_of fault)) es h))

-- the slots of the board then
module _ (l : Length) (s : Loaded) (fit : AreFit s) where
  abbrev kept : Milestone → Kind → Option Verified
  kept m kind = kept_program l (program_in s m kind)

  fits_for : (w v : Verified) (f : Option (ℕ × ℕ)) → fault_beside l w ≡ f → w.sigs ≡ s.sigs
      → unless_faulty f (lengthened l w) ≡ Some v → Suits s.sigs l v
  unfolding fault_beside
  fits_for w v None e same h =
      some_fits s.sigs l (lengthened l w) same refl
      (accepts_from (bytes_in l) w.ops w.sigs e) v h
  fits_for w v (Some f) e same h = absurd (cc)

  fits_in : (m : Milestone) (kind : Kind) (o : Option Verified) → program_in s m kind ≡ o
      → (v : Verified) → kept_program l o ≡ Some v → Suits s.sigs l v
  fits_in m kind None is v h = absurd (cc)
  fits_in m kind (Some w) is v h =
      fits_for w v (fault_beside l w) refl (fit m kind w is).0 h

  pub migrated_board : IsBoard (migrated_slots l s)
  unfolding table
  migrated_board = record {
    places = refl;
    fit = λ m kind v e. fits_in m kind (program_in s m kind) refl v
        (sym (given s.sigs l kept m kind) ∙ e);
  }

-- all slots were judged
pub migrated_is : (l : Length) (s : Loaded) (sigs : List (ℕ × Promise))
    (programs : List (Option Verified)) (rest : List Milestone) → sigs ≡ s.sigs → length rest ≡ 0
    → programs ++ values (λ m kind. kept_program l (program_in s m kind)) rest
    ≡ values (λ m kind. kept_program l (program_in s m kind)) milestones
    → record { sigs = sigs; record_length = l; programs = programs } ≡ migrated_slots l s
unfolding table
migrated_is l s sigs programs [] es none e =
    let all = sym (append-nil programs) ∙ e in
    λ i. record { sigs = es i; record_length = l; programs = all i }
migrated_is l s sigs programs (x ∷ xs) es none e = absurd (omega arith)
