-- The line of each entry of a legal history that was written may be read.
use Rattle.std.proofs.Common.{◌≡◌, ℕ, ◌+◌, ◌*◌, ◌≤◌, true, List, [], ◌∷◌, length}
use Rattle.std.proofs.Common.{nat_lt, refl, ap, arith}
use borrow.Author.Tests.{ltb-true}
use Rattle.std.specs.List.{AllByRecursion}
use Rattle.bpf_decode.specs.Encoding.{encoding}
use Rattle.bpf_decode.proofs.WholeLemmas.{encoding_length}
use Rattle.bpf_helpers.specs.Promise.{Promise}
use Rattle.acdm_milestones.specs.declared.role.Role.{Role}
use Rattle.acdm_milestones.specs.declared.refusal.Refusal.{Refusal}
use Rattle.acdm_milestones.specs.declared.refusal.Refusal.TheVariants as refusals
use Rattle.acdm_milestones.specs.Codes.{refusal_code}
use Rattle.acdm_step.specs.declared.command.Command.{Command}
use Rattle.acdm_step.specs.declared.command.Command.TheVariants as commands
use Rattle.acdm_step.specs.declared.entry.Entry.{Entry}
use Rattle.acdm_step.specs.declared.entry.Verdict.{Verdict}
use Rattle.acdm_step.specs.declared.entry.Verdict.TheVariants.{Accepted, Refused}
use Rattle.acdm_step.specs.Commands.{History}
use Rattle.acdm_step.specs.History.{IsLegal, IsChecked, IsAnswered}
use Rattle.acdm_journal.specs.Text.{asked_in, asked_words, outcome_code, stated_in}
use Rattle.acdm_journal.specs.Ranges.{IsAsked, IsStated, IsWord, LoadsProgram, FitsTypes}
use Rattle.acdm_journal.specs.Spaced.{spaced}
use Rattle.acdm_journal.specs.Audit.{IsCommandOf}
use Rattle.acdm_journal.specs.Whole.{IsReadable, AreReadable}
use Rattle.acdm_journal.proofs.FewAnswers.{few_answered, load_unanswered}
use Rattle.acdm_journal.proofs.PlainWords.{plain_within, load_within, line_within}

-- ---- the outcome

refusal_small : (r : Refusal) → nat_lt (refusal_code r) 1000 ≡ true
refusal_small refusals.NotOwner = refl
refusal_small _ = refl

outcome_small : (v : Verdict) → IsWord (outcome_code v)
outcome_small Accepted = omega arith
outcome_small (Refused r) = omega (arith, ltb-true (refusal_code r) 1000 (refusal_small r))

-- ---- the command

command_is : (sigs : List (ℕ × Promise)) (c : Command) → IsChecked sigs c → LoadsProgram c
    → IsCommandOf sigs (asked_in c) c
command_is sigs (commands.Load l) checked program = (
  l.program.ops,
  record { program = program; bytes_are = refl },
  checked.1,
  λ i. commands.Load record {
    milestone = l.milestone;
    kind = l.kind;
    program = record {
      record_length = l.program.record_length;
      ops = l.program.ops;
      sigs = checked.0 i;
    };
  },
)
command_is sigs _ checked program = refl

-- ---- its length

-- how many bytes what is asked for has, beside so many answers
record Within (c : Command) (count : ℕ) : Type 0 where
  most : ℕ
  asked : length (spaced (asked_words (asked_in c))) ≤ most
  few : 21 * count + most ≤ 199000

module _ (sigs : List (ℕ × Promise)) (J : History) (role : Role) (moment : ℕ) (verdict : Verdict)
    (answers : List ℕ) (fit : AllByRecursion FitsTypes J) where
  few_so : (c : Command) → IsAnswered sigs J role moment c verdict answers
      → length answers ≤ 8190
  few_so c is = few_answered sigs J role moment verdict answers c fit is

  plain : (c : Command) → IsAnswered sigs J role moment c verdict answers
      → length (spaced (asked_words (asked_in c))) ≤ 231 → Within c (length answers)
  plain c is asked = record {
    most = 231;
    asked = asked;
    few = omega (arith, few_so c is);
  }

  within : (c : Command) → IsAnswered sigs J role moment c verdict answers → LoadsProgram c
      → IsAsked (asked_in c) → Within c (length answers)
  within (commands.Load l) is program asked =
      let bytes : length (encoding l.program.ops) ≤ 32768 =
      omega (arith, encoding_length l.program.ops program.whole, program.few) in
      let none : length answers ≡ 0 =
      ap length (load_unanswered sigs J role moment verdict answers l is) in
      record {
        most = 65621;
        asked = load_within l.milestone l.kind (encoding l.program.ops) l.program.record_length
            bytes;
        few = omega (arith, none);
      }
  within c is program asked = plain c is (plain_within c asked.0 asked.1)

-- ---- an entry

readable_entry : (sigs : List (ℕ × Promise)) (J : History) (e : Entry) → IsLegal sigs (e ∷ J)
    → AllByRecursion FitsTypes (e ∷ J) → IsReadable sigs e
readable_entry sigs J e legal fit =
    let few : length e.answers ≤ 8190 =
    few_answered sigs J e.role e.moment e.verdict e.answers e.command fit.1 legal.4 in
    let stated : IsStated (stated_in e) = record {
      number = fit.0.number;
      where_and_when = legal.2;
      outcome = outcome_small e.verdict;
      few_answers = omega (arith, few);
      answers = fit.0.answers;
      asked = fit.0.asked;
    } in
    let w = within sigs J e.role e.moment e.verdict e.answers fit.1 e.command legal.4 fit.0.program
    fit.0.asked in
    record {
      stated = stated;
      command = command_is sigs e.command legal.3 fit.0.program;
      short = line_within (stated_in e) stated w.most w.asked w.few;
    }

pub readable : (sigs : List (ℕ × Promise)) (J : History) → IsLegal sigs J
    → AllByRecursion FitsTypes J → AreReadable sigs J
readable sigs [] legal fit = tt
readable sigs (e ∷ J) legal fit =
    (readable sigs J legal.0 fit.1, readable_entry sigs J e legal fit)
