-- What a desk that answers lines has served.
use Rattle.std.proofs.Common.{◌≡◌, ℕ, ◌<◌, Bool, true, false, cond, nat_le, List, [], ◌∷◌, ◌++◌}
use Rattle.std.proofs.Common.{length, Result, Ok, Err, refl, sym, ap, subst, ◌∙◌, arith}
use Rattle.std.proofs.Common.{leb-true, leb-false}
use Rattle.std.proofs.lemmas.Bool.{lt-leb}
use Rattle.std.proofs.lemmas.List.{take_all, length-take-le}
use Rattle.bpf_helpers.specs.Promise.{Promise}
use Rattle.acdm_step.specs.declared.command.Command.{Command}
use Rattle.acdm_board.specs.Desk.{DeskView, entered}
use Rattle.acdm_wire.specs.declared.fault.RequestFault.{RequestFault}
use Rattle.acdm_wire.specs.declared.fault.RequestFault.TheVariants.{TooLong}
use Rattle.acdm_wire.specs.declared.fault.Bad.{Bad}
use Rattle.acdm_wire.specs.declared.fault.Bad.TheVariants.{NoMemory}
use Rattle.acdm_sessions.specs.declared.answer.Answer.{Answer}
use Rattle.acdm_sessions.specs.declared.answer.Answer.TheVariants.{Rejected}
use Rattle.acdm_wire.specs.declared.request.Request.{Request}
use Rattle.acdm_lines.specs.Counted.{SinkView, SourceView}
use Rattle.acdm_lines.specs.Lines.{lines_of}
use Rattle.acdm_lines.specs.declared.run_error.RunError.{RunError}
use Rattle.acdm_wire.specs.Meant.{meant}
use Rattle.acdm_sessions.specs.Output.{Supply, IsReadingOf, IsRight, AreRight, command_with}
use Rattle.acdm_sessions.specs.Output.{is_full}
use Rattle.acdm_sessions.specs.Output.{answer_meant, desk_command, desk_meant, answer_to}
use Rattle.acdm_sessions.specs.Output.{desk_after}
use Rattle.acdm_sessions.specs.Output.{reply_text, replies, desk_after_all, Answers}
use Rattle.acdm_wire.specs.Writes.{AppendsPart}
use Rattle.acdm_sessions.specs.Run.{Serves, ServesLinePart, serving_desk}
use Rattle.acdm_sessions.specs.Stream.{AnswersEach, AnswersLinePart, AnswersLines, AnswersText}
use Rattle.acdm_sessions.specs.Stream.{kept, replies_text, serving_by}
use Rattle.acdm_sessions.proofs.Kept.{lines_seen}
use Rattle.acdm_wire.specs.declared.request.TheConstants.{LONGEST_REQUEST}
use Rattle.acdm_sessions.specs.declared.stream.TheConstants.{MOST_KEPT}

-- ---- the signatures stay as they are

command_keeps : (d : DeskView) (s : Supply) (r : Request) (c : Result Command Bad)
    → (desk_command d s r c).sigs ≡ d.sigs
command_keeps d s r (Err b) = refl
command_keeps d s r (Ok c) =
    let after : DeskView = entered d r.session r.role r.moment c s.answers in
    elim (is_full d) as (λ v. (cond v d after).sigs ≡ d.sigs) [ true ↦ refl | false ↦ refl ]

meant_keeps : (d : DeskView) (s : Supply) (m : Result Request RequestFault)
    → (desk_meant d s m).sigs ≡ d.sigs
meant_keeps d s (Err f) = refl
meant_keeps d s (Ok r) = command_keeps d s r (command_with s.reading r.asked)

desk_keeps : (d : DeskView) (s : Supply) (l : List ℕ) → (desk_after d s l).sigs ≡ d.sigs
desk_keeps d s l =
    elim s.out_of_memory as (λ v. (cond v d (desk_meant d s (meant l))).sigs ≡ d.sigs) [
      | true ↦ refl
      | false ↦ meant_keeps d s (meant l)
    ]

-- ---- what is kept of a line means what the line means

too_long : (line : List ℕ) → nat_le (length line) LONGEST_REQUEST ≡ false → meant line ≡ Err TooLong
unfolding meant
too_long line h = rw h refl

pub meant-kept : (line : List ℕ) → meant (kept line) ≡ meant line
meant-kept line =
    let fits_as : Bool → Type 0 =
    λ v. nat_le (length line) MOST_KEPT ≡ v → meant (kept line) ≡ meant line in
    elim (nat_le (length line) MOST_KEPT) as fits_as [
      | true ↦ λ fits. ap meant (take_all MOST_KEPT line (leb-true (length line) MOST_KEPT fits))
      | false ↦ λ over.
          let long : MOST_KEPT < length line = leb-false (length line) MOST_KEPT over in
          let cut : length (kept line) ≡ MOST_KEPT = length-take-le MOST_KEPT line (omega arith) in
          too_long (kept line) (lt-leb (length (kept line)) LONGEST_REQUEST (omega arith))
          ∙ sym (too_long line (lt-leb (length line) LONGEST_REQUEST (omega arith)))
    ] refl

pub desk-kept : (d : DeskView) (s : Supply) (line : List ℕ)
    → desk_after d s (kept line) ≡ desk_after d s line
desk-kept d s line = ap (λ m. cond s.out_of_memory d (desk_meant d s m)) (meant-kept line)

pub answer-kept : (d : DeskView) (s : Supply) (line : List ℕ)
    → answer_to d s (kept line) ≡ answer_to d s line
answer-kept d s line =
    ap (λ m. cond s.out_of_memory (Rejected NoMemory) (answer_meant d s m)) (meant-kept line)

pub right-kept : (sigs : List (ℕ × Promise)) (s : Supply) (line : List ℕ)
    → IsRight sigs s (kept line) → IsRight sigs s line
right-kept sigs s line r =
    λ there. subst (λ m. IsReadingOf sigs m s.reading) (meant-kept line) (r there)

-- ---- a desk that answers

-- what a desk answered to what was kept of a line, it answers to the line
pub to_line : (before after : DeskView) (line : List ℕ) (answer : Answer)
    → Answers before after (kept line) answer → Answers before after line answer
to_line before after line answer a = record {
  supply = a.supply;
  right = right-kept before.sigs a.supply line a.right;
  answer_is = a.answer_is ∙ answer-kept before a.supply line;
  desk_is = a.desk_is ∙ desk-kept before a.supply line;
}

-- lines that a desk answered, by their supplies
pub record Supplied (ls : List (List ℕ)) (answers : List Answer) (before after : DeskView) : Type 0
  where
    pub supplies : List Supply
    pub right : AreRight before.sigs supplies ls
    pub desk_is : after ≡ desk_after_all before supplies ls
    pub text_is : replies_text answers ≡ replies before supplies ls

pub supplied : (ls : List (List ℕ)) (xs : List Answer) (before after : DeskView)
    → AnswersEach Answers before after ls xs → Supplied ls xs before after
supplied [] [] before after e = record {
  supplies = [];
  right = tt;
  desk_is = sym e;
  text_is = refl;
}
supplied [] (x ∷ xs) before after e = absurd e
supplied (l ∷ ls) [] before after e = absurd e
supplied (l ∷ ls) (x ∷ xs) before after e =
    let middle : DeskView = e.0 in
    let here : Answers before middle l x = to_line before middle l x e.1 in
    let more : Supplied ls xs middle after = supplied ls xs middle after e.2 in
    let s : Supply = here.supply in
    let ss : List Supply = more.supplies in
    let first : List ℕ = reply_text (answer_to before s l) in
    let same : middle.sigs ≡ before.sigs =
    ap (λ d. d.sigs) here.desk_is ∙ desk_keeps before s l in
    record {
      supplies = s ∷ ss;
      right = (here.right, subst (λ sigs. AreRight sigs ss ls) same more.right);
      desk_is = more.desk_is ∙ ap (λ d. desk_after_all d ss ls) here.desk_is;
      text_is = ap (λ a. reply_text a ++ replies_text xs) here.answer_is
          ∙ ap (λ t. first ++ t) (more.text_is ∙ ap (λ d. replies d ss ls) here.desk_is);
    }

-- the lines of a text that a desk answered were served
serves : (text : List ℕ) (before after : DeskView) (old new : List ℕ)
    → AnswersText Answers text before after old new → Serves text before after old new
serves text before after old new t =
    let all : Supplied (lines_of text) t.answers before after =
    supplied (lines_of text) t.answers before after t.are_right in
    record {
      supplies = all.supplies;
      right = all.right;
      desk_is = all.desk_is;
      wrote = subst (λ t. new ≡ old ++ t) all.text_is t.wrote;
    }

-- a line that a desk answered was served in part
serves_part : (line : List ℕ) (before after : DeskView) (old new : List ℕ)
    → AnswersLinePart Answers line before after old new
    → ServesLinePart line before after old new
serves_part line before after old new a =
    let here : Answers before after line a.answer =
    to_line before after line a.answer a.is_right in
    record {
      supply = here.supply;
      right = here.right;
      desk_is = here.desk_is;
      wrote = subst (λ x. AppendsPart old new (reply_text x)) here.answer_is a.wrote;
    }

-- lines that a desk answered were served
pub serves_lines : {R W T : Type 0} (r r' : SourceView R) (w w' : SinkView W)
    (before after : DeskView) (result : Result T RunError)
    → AnswersLines (serving_by Answers) r r' w w' before after result
    → AnswersLines serving_desk r r' w w' before after result
serves_lines r r' w w' before after result h =
    lines_seen (λ d. d) (serving_by Answers) serving_desk (λ d. Unit {0})
    (λ text a b old new s t. (serves text a b old new t, tt))
    (λ line a b old new s t. serves_part line a b old new t) r r' w w' before after result tt h
