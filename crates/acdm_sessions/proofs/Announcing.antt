-- Of which entries a writer was told, line by line.
use Rattle.std.proofs.Common.{ℕ, suc, ◌≡◌, List, [], ◌∷◌, ◌++◌, length, Bool, true, false, if◌then◌else◌, Result, Ok, Err}
use Rattle.std.proofs.Common.{refl, sym, ap, ◌∙◌, append_assoc, append-nil}
use Rattle.acdm_board.specs.Desk.{DeskView, entered}
use Rattle.acdm_board.specs.declared.desk.Reply.{Reply}
use Rattle.acdm_step.specs.declared.command.Command.{Command}
use Rattle.acdm_wire.specs.declared.fault.Bad.{Bad}
use Rattle.acdm_wire.specs.declared.fault.Bad.TheVariants.{FullJournal, NoMemory}
use Rattle.acdm_wire.specs.declared.fault.RequestFault.{RequestFault}
use Rattle.acdm_wire.specs.declared.request.Request.{Request}
use Rattle.acdm_wire.specs.Meant.{meant}
use Rattle.acdm_sessions.specs.declared.answer.Answer.{Answer}
use Rattle.acdm_sessions.specs.declared.answer.Answer.TheVariants.{Entered, Rejected}
use Rattle.acdm_sessions.specs.Announced.{TellsMade, numbers_of, numbers_to, told_after}
use Rattle.acdm_sessions.specs.Output.{Answers, Supply, answer_command, answer_meant, command_with}
use Rattle.acdm_sessions.specs.Output.{desk_command, desk_meant, is_full}

-- ---- what was told

pub tells_none : {made told : List ℕ} → TellsMade made made told told
tells_none = record {
  numbers = [];
  made_since = sym (append-nil _);
  told_since = sym (append-nil _);
}

pub tells_on : {made later last told told_later told_last : List ℕ} → TellsMade made later told told_later
    → TellsMade later last told_later told_last → TellsMade made last told told_last
tells_on p q = record {
  numbers = p.numbers ++ q.numbers;
  made_since = q.made_since ∙ ap (λ l. l ++ q.numbers) p.made_since ∙ append_assoc _ p.numbers q.numbers;
  told_since = q.told_since ∙ ap (λ l. l ++ q.numbers) p.told_since ∙ append_assoc _ p.numbers q.numbers;
}

pub tells_same : {made later told told_later told_last : List ℕ} → TellsMade made later told told_later
    → told_last ≡ told_later → TellsMade made later told told_last
tells_same p same = record {
  numbers = p.numbers;
  made_since = p.made_since;
  told_since = same ∙ p.told_since;
}

-- of the entry of one reply, if it tells of any
pub tells_reply : {made later told told_later : List ℕ} (is_told : Bool) (answer : Answer) → is_told ≡ true
    → later ≡ made ++ numbers_of answer → told_later ≡ told_after is_told told answer
    → TellsMade made later told told_later
tells_reply true (Entered reply) is grown told = record {
  numbers = reply.number ∷ [];
  made_since = grown;
  told_since = told;
}
tells_reply true (Rejected bad) is grown told = record {
  numbers = [];
  made_since = grown;
  told_since = told ∙ sym (append-nil _);
}
tells_reply false answer is grown told = cc

-- of all that was made, where none was made before
pub tells_all : {made later told told_later : List ℕ} → made ≡ [] → TellsMade made later told told_later
    → told_later ≡ told ++ later
tells_all {told = told} none p =
    p.told_since ∙ ap (λ l. told ++ l) (sym (p.made_since ∙ ap (λ l. l ++ p.numbers) none))

-- ---- what a desk made

made_if : (is_full : Bool) (before after : DeskView) (reply : Reply)
    → length after.history ≡ suc (length before.history) → reply.number ≡ length before.history
    → numbers_to (length (if is_full then before else after).history)
    ≡ numbers_to (length before.history) ++ numbers_of (if is_full then Rejected FullJournal else Entered reply)
made_if true before after reply longer number = sym (append-nil _)
made_if false before after reply longer number =
    ap numbers_to longer ∙ ap (λ n. numbers_to (length before.history) ++ n ∷ []) (sym number)

made_command : (d : DeskView) (supply : Supply) (r : Request) (c : Result Command Bad)
    → numbers_to (length (desk_command d supply r c).history)
    ≡ numbers_to (length d.history) ++ numbers_of (answer_command d supply r.role c)
made_command d supply r (Err b) = sym (append-nil _)
made_command d supply r (Ok c) =
    made_if (is_full d) d (entered d r.session r.role r.moment c supply.answers) _ refl refl

made_meant : (d : DeskView) (supply : Supply) (m : Result Request RequestFault)
    → numbers_to (length (desk_meant d supply m).history)
    ≡ numbers_to (length d.history) ++ numbers_of (answer_meant d supply m)
made_meant d supply (Err f) = sym (append-nil _)
made_meant d supply (Ok r) = made_command d supply r (command_with supply.reading r.asked)

made_short : (is_short : Bool) (d : DeskView) (supply : Supply) (m : Result Request RequestFault)
    → numbers_to (length (if is_short then d else desk_meant d supply m).history)
    ≡ numbers_to (length d.history)
    ++ numbers_of (if is_short then Rejected NoMemory else answer_meant d supply m)
made_short true d supply m = sym (append-nil _)
made_short false d supply m = made_meant d supply m

pub made_by : (before after : DeskView) (line : List ℕ) (answer : Answer) → Answers before after line answer
    → numbers_to (length after.history) ≡ numbers_to (length before.history) ++ numbers_of answer
made_by before after line answer p =
    rw (p.desk_is, p.answer_is) (made_short p.supply.out_of_memory before p.supply (meant line))
