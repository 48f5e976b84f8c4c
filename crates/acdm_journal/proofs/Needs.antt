-- Whatever loads a program needs memory to be read, and else a list of alerts alone needs some.
use Rattle.std.proofs.Common.{◌≡◌, ℕ, ◌%◌, ◌≤◌, arith, Bool, true, false, List, length}
use Rattle.std.proofs.Common.{Option, Some, refl, ap, subst, ◌∙◌, inl, inr}
use Rattle.std.specs.Prelude.{◌&&◌, ◌||◌, ◌==◌, ◌<◌, nat_le, nat_lt, IsTrue}
use Rattle.std.proofs.lemmas.Bool.Decides.{nat_tests}
use Rattle.hex.specs.Hex.{encode_lower, lower_digits}
use Rattle.hex.proofs.HexLemmas.{length-encode_with}
use Rattle.bpf_helpers.specs.Promise.{Promise}
use Rattle.acdm_step.specs.declared.command.Command.{Command}
use Rattle.acdm_step.specs.declared.command.Command.TheVariants as commands
use Rattle.acdm_step.specs.Commands.{History, is_load}
use Rattle.acdm_step.specs.History.{needs_memory}
use Rattle.acdm_journal.specs.declared.stated.Stated.{Stated}
use Rattle.acdm_step.specs.declared.stated.LoadRequest.{LoadRequest}
use Rattle.acdm_step.specs.declared.stated.StatedCommand.{StatedCommand}
use Rattle.acdm_step.specs.declared.stated.StatedCommand.TheVariants.{Plain, Load}
use Rattle.acdm_journal.specs.declared.reading.TheConstants.{LONGEST_ENTRY}
use Rattle.acdm_journal.specs.Text.{line_words, line_of, asked_words}
use Rattle.acdm_journal.specs.Ranges.{IsStated, IsAsked}
use Rattle.acdm_journal.specs.Audit.{IsCommandOf, StatesNext}
use Rattle.acdm_journal.specs.Reading.{Words, number_at, most_word, most_minute}
use Rattle.acdm_journal.specs.Memory.{◌>>=◌, bytes_need_memory, load_needs_memory}
use Rattle.acdm_journal.specs.Memory.{command_needs_memory, asked_needs_memory}
use Rattle.acdm_journal.specs.Memory.{some_need_memory, stated_needs_memory}
use Rattle.acdm_journal.specs.Memory.{line_needs_memory, is_load_line, JudgingNeedsMemory}
use Rattle.acdm_journal.proofs.Parts.{number_at-is, role_at-is, kind_at-is, milestone_at-is}
use Rattle.acdm_journal.proofs.ReadBack.{answers_at-is}
use Rattle.acdm_journal.proofs.PlainWords.{line_lacks}
use Rattle.acdm_journal.proofs.Splitting.{words_of-joined}

-- the test of what is read
test_is : {A : Type 0} (o : Option A) (test : A → Bool) (x : A) → o ≡ Some x
    → (o >>= test) ≡ test x
test_is o test x h = ap (λ p. p >>= test) h

or_true : (a b : Bool) → b ≡ true → (a || b) ≡ true
or_true true b h = refl
or_true false b h = h

some_need_if : (k : ℕ) → 0 < k → nat_lt 0 k ≡ true
some_need_if k h = grind (arith, nat_tests)

-- some answers, of which the first is read
pub some_need : (k : ℕ) (ws : Words) (a : ℕ) (left : Words) → 0 < k
    → number_at 0 most_word ws ≡ Some (a, left) → some_need_memory k ws ≡ true
some_need k ws a left h e = test_is _ _ _ e ∙ some_need_if k h

even : (bytes : List ℕ) → (length (encode_lower bytes) % 2 == 0) ≡ true
even bytes = grind (arith, nat_tests, length-encode_with lower_digits bytes)

asked_load : (l : LoadRequest) → asked_needs_memory (asked_words (Load l)) ≡ true
unfolding asked_needs_memory command_needs_memory load_needs_memory bytes_need_memory
asked_load l =
    test_is _ _ _ (milestone_at-is l.milestone _) ∙ test_is _ _ _ (kind_at-is l.kind _)
    ∙ even l.program

asked_load_line : (a : StatedCommand) → is_load_line a ≡ true → asked_needs_memory (asked_words a) ≡ true
asked_load_line (Plain c) h = absurd (cc)
asked_load_line (Load l) h = asked_load l

stated_load : (s : Stated) → IsStated s → is_load_line s.asked ≡ true
    → stated_needs_memory (line_words s) ≡ true
unfolding stated_needs_memory
stated_load s is h =
    let w = is.where_and_when in
    test_is _ _ _ (number_at-is 0 most_word s.number _ (omega arith) (omega (arith, is.number))
    is.number)
    ∙ test_is _ _ _ (number_at-is 1 64 s.session _ w.session_given w.few_sessions
    (omega (arith, w.few_sessions)))
    ∙ test_is _ _ _ (number_at-is 1 most_minute s.moment _ w.minute_given
    (omega (arith, w.few_minutes)) (omega (arith, w.few_minutes)))
    ∙ test_is _ _ _ (role_at-is s.role _)
    ∙ test_is _ _ _ (number_at-is 0 most_word s.outcome _ (omega arith) (omega (arith, is.outcome))
    is.outcome)
    ∙ or_true _ _
    (test_is _ _ _ (answers_at-is s.answers (asked_words s.asked) is.few_answers is.answers)
    ∙ asked_load_line s.asked h)

is_short : (n : ℕ) → n ≤ LONGEST_ENTRY → nat_le n LONGEST_ENTRY ≡ true
is_short n h = grind (arith, nat_tests)

both : (a b : Bool) → a ≡ true → b ≡ true → (a && b) ≡ true
both a b p q = cc

line_load : (s : Stated) → IsStated s → length (line_of s) ≤ LONGEST_ENTRY
    → is_load_line s.asked ≡ true → line_needs_memory (line_of s) ≡ true
unfolding line_needs_memory
line_load s is short h =
    both _ _ (is_short (length (line_of s)) short)
    (ap stated_needs_memory (words_of-joined _ _ (line_lacks s is)) ∙ stated_load s is h)

module _ (sigs : List (ℕ × Promise)) (J : History) (line : List ℕ) (s : Stated)
    (next : StatesNext J line s) where
  pub load_needs : is_load_line s.asked ≡ true → JudgingNeedsMemory J line
  load_needs h =
      let states = next.states in
      inl (ap line_needs_memory states.line_is
      ∙ line_load s states.is (subst (λ l. length l ≤ LONGEST_ENTRY) states.line_is states.short) h)

  plain_needs : (p : Command) → s.asked ≡ Plain p → is_load p ≡ false
      → IsTrue (needs_memory sigs J s.role p) → JudgingNeedsMemory J line
  plain_needs commands.Alerts e plain needs = inr (s, next, inl e)
  plain_needs commands.Migrate e plain needs = inr (s, next, inr e)
  plain_needs (commands.Load l) e plain needs = absurd (cc)
  plain_needs (commands.Schedule f) e plain needs = absurd (cc)
  plain_needs (commands.Report f) e plain needs = absurd (cc)
  plain_needs (commands.Deice f) e plain needs = absurd (cc)
  plain_needs (commands.Unload u) e plain needs = absurd (cc)
  plain_needs commands.Tick e plain needs = absurd (cc)
  plain_needs (commands.Show f) e plain needs = absurd (cc)

  asked_needs : (a : StatedCommand) (c : Command) → s.asked ≡ a → IsAsked a → IsCommandOf sigs a c
      → IsTrue (needs_memory sigs J s.role c) → JudgingNeedsMemory J line
  asked_needs (Plain p) c e is of needs =
      plain_needs p e is.0 (subst (λ x. IsTrue (needs_memory sigs J s.role x)) of needs)
  asked_needs (Load l) c e is of needs = load_needs (ap is_load_line e)

  pub command_needs : (c : Command) → IsCommandOf sigs s.asked c
      → IsTrue (needs_memory sigs J s.role c) → JudgingNeedsMemory J line
  command_needs c of needs =
      let states = next.states in
      let is = states.is in
      asked_needs s.asked c refl is.asked of needs
