-- The supply of one line, by what came of it.
use Rattle.std.proofs.Common.{◌≡◌, ◌≢◌, ℕ, true, false, cond, List, length, Result, Ok, Err}
use Rattle.std.proofs.Common.{refl, sym, ap, subst, ◌∙◌, eq-eqb}
use Rattle.std.proofs.lemmas.Bool.{false≢true, ne_eqb}
use Rattle.bpf_helpers.specs.Promise.{Promise}
use Rattle.acdm_step.specs.declared.command.Command.{Command}
use Rattle.acdm_step.specs.declared.outcome.Outcome.{Outcome}
use Rattle.acdm_step.specs.Verdicts.{outcome_of}
use Rattle.acdm_board.specs.Desk.{DeskView, entered}
use Rattle.acdm_wire.specs.declared.fault.RequestFault.{RequestFault}
use Rattle.acdm_wire.specs.declared.fault.Bad.{Bad}
use Rattle.acdm_wire.specs.declared.fault.Bad.TheVariants.{Faulty, NoMemory, FullJournal}
use Rattle.bpf_verifier.specs.declared.reading.ProgramError.{ProgramError}
use Rattle.bpf_verifier.specs.declared.reading.ProgramError.TheVariants.{Memory, Refused}
use Rattle.acdm_wire.specs.declared.request.LineError.{LineError}
use Rattle.acdm_wire.specs.declared.request.LineError.TheVariants as errors
use Rattle.acdm_wire.specs.declared.request.Request.{Request}
use Rattle.acdm_sessions.specs.declared.answer.Answer.{Answer}
use Rattle.acdm_sessions.specs.declared.answer.Answer.TheVariants.{Entered, Rejected}
use Rattle.acdm_wire.specs.Codes.{bad_of}
use Rattle.acdm_wire.specs.Meant.{Gives, meant}
use Rattle.acdm_sessions.specs.Output.{Supply, no_supply, IsReadingFor, IsReadingOf, IsRight}
use Rattle.acdm_sessions.specs.Output.{Completes, command_with, is_full, answer_command}
use Rattle.acdm_sessions.specs.Output.{desk_command}
use Rattle.acdm_sessions.specs.Output.{answer_meant, desk_meant, Answers}

-- what a reader says of a fault
pub fault_read : (line : List ℕ) (e : LineError) (f : RequestFault) → e ≡ errors.Fault f
    → Gives {X = Request} (Err e) (meant line) → meant line ≡ Err f
fault_read line e f is g = subst (λ v. Gives {X = Request} (Err v) (meant line)) is g

-- memory was refused
pub answers_short : (d after : DeskView) (line : List ℕ) → after ≡ d
    → Answers d after line (Rejected NoMemory)
answers_short d after line e = record {
  supply = record no_supply { out_of_memory = true };
  right = λ there. absurd (false≢true (sym there));
  answer_is = refl;
  desk_is = e;
}

-- the line asks for nothing
pub answers_fault : (d after : DeskView) (line : List ℕ) (f : RequestFault) → meant line ≡ Err f
    → after ≡ d → Answers d after line (Rejected (Faulty f))
answers_fault d after line f m e = record {
  supply = no_supply;
  right = λ there. subst (λ x. IsReadingOf d.sigs x no_supply.reading) (sym m) tt;
  answer_is = sym (ap (answer_meant d no_supply) m);
  desk_is = e ∙ sym (ap (desk_meant d no_supply) m);
}

module _ (d after : DeskView) (sigs : List (ℕ × Promise)) (line : List ℕ) (r : Request)
    (m : meant line ≡ Ok r) (own : sigs ≡ d.sigs) where
  right : (s : Supply) → IsReadingFor sigs r.asked s.reading → IsRight d.sigs s line
  right s read =
      λ there. subst (λ x. IsReadingOf d.sigs x s.reading) (sym m)
      (subst (λ t. IsReadingFor t r.asked s.reading) own read)

  -- the answer and the desk of the line, by its command
  answer_by : (s : Supply) (c : Result Command Bad) → command_with s.reading r.asked ≡ c
      → answer_meant d s (meant line) ≡ answer_command d s r.role c
  answer_by s c is = ap (answer_meant d s) m ∙ ap (answer_command d s r.role) is

  desk_by : (s : Supply) (c : Result Command Bad) → command_with s.reading r.asked ≡ c
      → desk_meant d s (meant line) ≡ desk_command d s r c
  desk_by s c is = ap (desk_meant d s) m ∙ ap (desk_command d s r) is

  -- memory was refused, or the bytes give no program
  pub answers_program : (e : ProgramError) → Completes sigs r.asked (Err e) → after ≡ d
      → Answers d after line (Rejected (bad_of e))
  answers_program Memory c e = answers_short d after line e
  answers_program (Refused code slot) c e =
      let s : Supply = record no_supply { reading = c.reading } in
      record {
        supply = s;
        right = right s c.right;
        answer_is = sym (answer_by s _ c.command_is);
        desk_is = e ∙ sym (desk_by s _ c.command_is);
      }

  -- the journal is full
  pub answers_full : (c : Command) → Completes sigs r.asked (Ok c)
      → length d.history ≡ d.capacity → after ≡ d
      → Answers d after line (Rejected FullJournal)
  answers_full c h full e =
      let s : Supply = record no_supply { reading = h.reading } in
      let is : is_full d ≡ true = eq-eqb (length d.history) d.capacity full in
      let outcome : Outcome = outcome_of d.sigs d.history r.role c in
      let entry : Answer = Entered record { number = length d.history; outcome = outcome } in
      let made : DeskView = entered d r.session r.role r.moment c s.answers in
      record {
        supply = s;
        right = right s h.right;
        answer_is = sym (answer_by s (Ok c) h.command_is
            ∙ ap (λ v. cond v (Rejected FullJournal) entry) is);
        desk_is = e ∙ sym (desk_by s (Ok c) h.command_is ∙ ap (λ v. cond v d made) is);
      }

  -- the line made an entry
  pub answers_entered : (c : Command) (answers : List ℕ) (number : ℕ)
      (outcome : Outcome) → Completes sigs r.asked (Ok c) → length d.history ≢ d.capacity
      → after ≡ entered d r.session r.role r.moment c answers
      → outcome ≡ outcome_of d.sigs d.history r.role c → number ≡ length d.history
      → Answers d after line (Entered record { number = number; outcome = outcome })
  answers_entered c answers number outcome h room e o n =
      let s : Supply = record {
        out_of_memory = false;
        reading = h.reading;
        answers = answers;
      } in
      let is : is_full d ≡ false = ne_eqb (length d.history) d.capacity room in
      let came : Outcome = outcome_of d.sigs d.history r.role c in
      let entry : Answer = Entered record { number = length d.history; outcome = came } in
      let made : DeskView = entered d r.session r.role r.moment c answers in
      let numbered : ℕ → Answer = λ k. Entered record { number = k; outcome = outcome } in
      let with_outcome : Outcome → Answer =
      λ x. Entered record { number = length d.history; outcome = x } in
      record {
        supply = s;
        right = right s h.right;
        answer_is = ap numbered n ∙ ap with_outcome o
            ∙ sym (answer_by s (Ok c) h.command_is
            ∙ ap (λ v. cond v (Rejected FullJournal) entry) is);
        desk_is = e ∙ sym (desk_by s (Ok c) h.command_is ∙ ap (λ v. cond v d made) is);
      }
