-- The words of a line: none has a space or a line feed, and none but a program has more than 20 bytes. So
-- a line is cut into its words at its spaces, and has no more bytes than are read.
use Rattle.std.proofs.Common.{◌≡◌, ℕ, ◌+◌, ◌*◌, ◌/◌, ◌%◌, ◌<◌, ◌≤◌, ◌^◌, true, false}
use Rattle.std.proofs.Common.{List, [], ◌∷◌, ◌++◌}
use Rattle.std.proofs.Common.{length, map, codes, Option, Some, None, refl, ap, ◌∙◌, length-append}
use Rattle.std.proofs.Common.{arith, leb-true}
use Rattle.std.specs.Prelude.{◌&&◌, slice_index, nat_le}
use Rattle.std.specs.Cmp.{first_so, second_so}
use Rattle.std.specs.Fmt.{decimal}
use Rattle.std.specs.List.{AllByRecursion, list_all, join_with_byte}
use Rattle.std.proofs.lemmas.Bool.{ne_eqb}
use Rattle.std.proofs.lemmas.Fmt.{length-decimal-le}
use Rattle.std.proofs.lemmas.List.{length-map}
use Rattle.std.proofs.lemmas.Option.{cond_some}
use Rattle.hex.specs.Hex.{encode_lower, encode_with, lower_digits}
use Rattle.bpf_regstate.specs.declared.length.Length.{Length}
use Rattle.bpf_regstate.specs.declared.length.Length.TheVariants.{L128, L160}
use Rattle.acdm_lines.specs.Lines.{IsLine}
use Rattle.acdm_lines.proofs.Feeds.{IsLine-append}
use Rattle.acdm_record.proofs.Table.{all_at}
use Rattle.acdm_record.specs.Fields.{is_text, is_text_byte}
use Rattle.acdm_milestones.specs.declared.role.Role.{Role}
use Rattle.acdm_milestones.specs.declared.role.Role.TheVariants.{NetworkManager}
use Rattle.acdm_milestones.specs.declared.milestone.Milestone.{Milestone}
use Rattle.acdm_milestones.specs.declared.deicing.DeicingTime.{DeicingTime}
use Rattle.acdm_milestones.specs.declared.deicing.DeicingTime.TheVariants.{EstimatedCommencement}
use Rattle.acdm_milestones.specs.Tables.{number}
use Rattle.acdm_milestones.specs.Names.{role_name}
use Rattle.acdm_milestones.specs.Deicing.{deicing_name}
use Rattle.acdm_slots.specs.declared.kind.Kind as kinds
use Rattle.acdm_slots.specs.declared.kind.Kind.TheVariants.{Tobt, Alert}
use Rattle.acdm_slots.specs.Names.{kind_name}
use Rattle.acdm_step.specs.declared.command.FlightPlan.{FlightPlan}
use Rattle.acdm_step.specs.declared.command.Command.{Command}
use Rattle.acdm_step.specs.declared.command.Command.TheVariants as commands
use Rattle.acdm_step.specs.declared.command.Command.TheVariants.{Schedule, Report, Deice}
use Rattle.acdm_step.specs.Commands.{is_load}
use Rattle.acdm_journal.specs.declared.reading.TheConstants.{LONGEST_ENTRY}
use Rattle.acdm_journal.specs.declared.stated.Stated.{Stated}
use Rattle.acdm_step.specs.declared.stated.StatedCommand.{StatedCommand}
use Rattle.acdm_step.specs.declared.stated.StatedCommand.TheVariants.{Plain, Load}
use Rattle.acdm_journal.specs.Text.{plan_words, plan_words_of, time_words, length_words, load_words}
use Rattle.acdm_journal.specs.Text.{command_words, asked_words, answer_words, head_words, line_words}
use Rattle.acdm_journal.specs.Text.{line_of}
use Rattle.acdm_journal.specs.Ranges.{IsText, IsPlan, IsPlanOf, IsWord, IsByte, IsCommandLine, IsAsked}
use Rattle.acdm_journal.specs.Ranges.{IsStated}
use Rattle.acdm_journal.specs.Spaced.{spaced}
use Rattle.acdm_journal.proofs.Numbers.{decimal-lacks}
use Rattle.acdm_journal.proofs.Parts.{is_numbered}
use Rattle.acdm_journal.proofs.Pieces.{joined-spaced, spaced-append}
use Rattle.acdm_journal.proofs.Splitting.{Lacks, AllLack}

-- ---- a word

-- no byte is a space or a line feed, and there are few
record IsPlain (word : List ℕ) : Type 0 where
  lacks : Lacks word
  short : length word ≤ 20

by_test : (w : List ℕ) → list_all (λ b. nat_le 33 b) w ≡ true → Lacks w
by_test [] h = tt
by_test (b ∷ bs) h = (first_so _ _ h, by_test bs (second_so _ _ h))

-- a word that computes
fixed : (w : List ℕ) → (list_all (λ b. nat_le 33 b) w && nat_le (length w) 20) ≡ true → IsPlain w
fixed w h = record { lacks = by_test w (first_so _ _ h); short = leb-true _ 20 (second_so _ _ h) }

digits : (n : ℕ) → n < 2 ^ 64 → IsPlain (decimal n)
digits n small = record {
  lacks = decimal-lacks n small;
  short = length-decimal-le 20 n (omega arith) (omega arith) small;
}

milestone : (a : Milestone) → IsPlain (decimal (number a))
milestone a =
    let n = is_numbered a in
    digits (number a) (omega (arith, n.most))

printable_lacks : (t : List ℕ) → is_text t ≡ true → Lacks t
printable_lacks [] h = tt
printable_lacks (b ∷ bs) h =
    let here : is_text_byte b ≡ true = first_so _ _ h in
    (first_so _ _ here, printable_lacks bs (second_so _ _ h))

text_tests : (most : ℕ) (t : List ℕ) → IsText most t → (nat_le (length t) most && is_text t) ≡ true
text_tests most t is = second_so _ _ (cond_some _ t t is).0

text : (most : ℕ) (t : List ℕ) → most ≤ 20 → IsText most t → IsPlain t
text most t few is =
    let tests = text_tests most t is in
    record {
      lacks = printable_lacks t (second_so _ _ tests);
      short = omega (arith, leb-true (length t) most (first_so _ _ tests), few);
    }

role : (r : Role) → IsPlain (role_name r)
role NetworkManager = fixed _ refl
role _ = fixed _ refl

deicing : (d : DeicingTime) → IsPlain (deicing_name d)
deicing EstimatedCommencement = fixed _ refl
deicing _ = fixed _ refl

kind : (k : kinds.Kind) → IsPlain (kind_name k)
kind Tobt = fixed _ refl
kind Alert = fixed _ refl

-- ---- words

pub each-append : {X : Type 0} (P : X → Type 0) (us vs : List X) → AllByRecursion P us
    → AllByRecursion P vs → AllByRecursion P (us ++ vs)
each-append P [] vs a b = b
each-append P (u ∷ us) vs a b = (a.0, each-append P us vs a.1 b)

record ArePlain (words : List (List ℕ)) : Type 0 where
  each : AllByRecursion IsPlain words

none : ArePlain []
none = record { each = tt }

-- a word before others
infixr 5 ◌&◌
◌&◌ : {w : List ℕ} {ws : List (List ℕ)} → IsPlain w → ArePlain ws → ArePlain (w ∷ ws)
p & ps = record { each = (p, ps.each) }

both : {us vs : List (List ℕ)} → ArePlain us → ArePlain vs → ArePlain (us ++ vs)
both {us} {vs} ps qs = record { each = each-append IsPlain us vs ps.each qs.each }

lacking : (ws : List (List ℕ)) → ArePlain ws → AllLack ws
lacking [] ps = tt
lacking (w ∷ ws) ps = (ps.each.0.lacks, lacking ws (record { each = ps.each.1 }))

spaced_within : (ws : List (List ℕ)) → ArePlain ws → length (spaced ws) ≤ 21 * length ws
spaced_within [] ps = omega arith
spaced_within (w ∷ ws) ps =
    omega (
      arith,
      length-append (32 ∷ w) (spaced ws),
      ps.each.0.short,
      spaced_within ws (record { each = ps.each.1 }),
    )

numbers : (ns : List ℕ) → AllByRecursion IsWord ns → ArePlain (map decimal ns)
numbers [] are = none
numbers (n ∷ ns) are = digits n are.0 & numbers ns are.1

plan : (p : FlightPlan) → IsPlan p → ArePlain (plan_words p)
plan p is =
    text 8 p.callsign (omega arith) is.callsign & text 4 p.aircraft (omega arith) is.aircraft
    & text 8 p.registration (omega arith) is.registration
    & text 4 p.destination (omega arith) is.destination & none

plan_of : (p : Option FlightPlan) → IsPlanOf p → ArePlain (plan_words_of p)
plan_of None is = none
plan_of (Some p) is = plan p is

few_of_plan : (p : Option FlightPlan) → length (plan_words_of p) ≤ 4
few_of_plan None = omega arith
few_of_plan (Some p) = leb-true _ 4 refl

record_length : (l : Length) → ArePlain (length_words l)
record_length L128 = none
record_length L160 = fixed (codes "160") refl & none

few_of_length : (l : Length) → length (length_words l) ≤ 1
few_of_length L128 = omega arith
few_of_length L160 = leb-true _ 1 refl

-- ---- a command

-- what is asked for but a load
command : (c : Command) → is_load c ≡ false → IsCommandLine c → ArePlain (command_words c)
command (Schedule s) plain l =
    fixed (codes "schedule") refl & digits s.flight l.flight
    & both {us = plan_words s.plan} {vs = time_words s} (plan s.plan l.plan) (
    digits s.sobt (omega (arith, l.sobt)) & digits s.mttt (omega (arith, l.kept.mttt_in_range))
    & digits s.exit (omega (arith, l.exit)) & digits s.exot (omega (arith, l.kept.exot_in_range))
    & digits s.stand (omega (arith, l.stand)) & none
    )
command (Report r) plain l =
    fixed (codes "report") refl & digits r.flight l.flight & milestone r.milestone
    & digits r.time (omega (arith, l.time)) & plan_of r.plan l.plan
command (Deice d) plain l =
    fixed (codes "deice") refl & digits d.flight l.1 & deicing d.which
    & digits d.time (omega (arith, l.2)) & none
command (commands.Load l) plain is = absurd (cc)
command (commands.Unload u) plain is =
    fixed (codes "unload") refl & milestone u.milestone & kind u.kind & none
command commands.Tick plain is = fixed (codes "tick") refl & none
command commands.Migrate plain is = fixed (codes "migrate") refl & none
command (commands.Show f) plain is = fixed (codes "show") refl & digits f is.1 & none
command commands.Alerts plain is = fixed (codes "alerts") refl & none

few_words : (c : Command) → is_load c ≡ false → length (command_words c) ≤ 11
few_words (commands.Load l) plain = absurd (cc)
few_words (Report r) plain = omega (arith, few_of_plan r.plan)
few_words _ plain = leb-true _ 11 refl

pub plain_within : (c : Command) → is_load c ≡ false → IsCommandLine c
    → length (spaced (command_words c)) ≤ 231
plain_within c plain is =
    omega (arith, spaced_within (command_words c) (command c plain is), few_words c plain)

-- ---- a load

abbrev load_front : Milestone → kinds.Kind → List (List ℕ)
load_front m k = codes "load" ∷ decimal (number m) ∷ kind_name k ∷ []

front_of_load : (m : Milestone) (k : kinds.Kind) → ArePlain (load_front m k)
front_of_load m k = fixed (codes "load") refl & milestone m & kind k & none

digit_lacks : (d : ℕ) → d < 16 → nat_le 33 (slice_index lower_digits d) ≡ true
digit_lacks d small = all_at (λ b. nat_le 33 b) lower_digits d 0 small refl

bytes_lack : (bytes : List ℕ) → AllByRecursion IsByte bytes → Lacks (encode_lower bytes)
unfolding encode_with
bytes_lack [] all = tt
bytes_lack (b ∷ bs) all =
    let small : b < 256 = all.0 in
    let high : b / 16 < 16 = omega arith in
    let low : b % 16 < 16 = omega arith in
    (digit_lacks (b / 16) high, (digit_lacks (b % 16) low, bytes_lack bs all.1))

two_digits : (bytes : List ℕ) → length (encode_lower bytes) ≡ 2 * length bytes
unfolding encode_with
two_digits [] = refl
two_digits (b ∷ bs) = omega (arith, two_digits bs)

load_lacks : (m : Milestone) (k : kinds.Kind) (bytes : List ℕ) (l : Length) → AllByRecursion IsByte bytes
    → AllLack (load_words m k bytes l)
load_lacks m k bytes l all =
    each-append Lacks (load_front m k) (encode_lower bytes ∷ length_words l)
    (lacking (load_front m k) (front_of_load m k))
    (bytes_lack bytes all, lacking (length_words l) (record_length l))

pub load_within : (m : Milestone) (k : kinds.Kind) (bytes : List ℕ) (l : Length)
    → length bytes ≤ 32768 → length (spaced (load_words m k bytes l)) ≤ 65621
load_within m k bytes l most =
    let rest : List (List ℕ) = encode_lower bytes ∷ length_words l in
    omega (
      arith,
      ap length (spaced-append (load_front m k) rest)
          ∙ length-append (spaced (load_front m k)) (spaced rest),
      spaced_within (load_front m k) (front_of_load m k),
      length-append (32 ∷ encode_lower bytes) (spaced (length_words l)),
      spaced_within (length_words l) (record_length l),
      few_of_length l,
      two_digits bytes,
    )

-- ---- a line

asked_lacks : (a : StatedCommand) → IsAsked a → AllLack (asked_words a)
asked_lacks (Plain c) is = lacking (command_words c) (command c is.0 is.1)
asked_lacks (Load l) is = load_lacks l.milestone l.kind l.program l.record_length is

-- what stands before the command
abbrev front_words : Stated → List (List ℕ)
front_words s = decimal s.number ∷ (head_words s ++ answer_words s.answers)

module _ (s : Stated) (is : IsStated s) where
  front : ArePlain (front_words s)
  front =
      let w = is.where_and_when in
      digits s.number is.number & digits s.session (omega (arith, w.few_sessions))
      & digits s.moment (omega (arith, w.few_minutes)) & role s.role & digits s.outcome is.outcome
      & digits (length s.answers) is.few_answers & numbers s.answers is.answers

  pub line_lacks : AllLack (line_words s)
  line_lacks =
      each-append Lacks (front_words s) (asked_words s.asked) (lacking (front_words s) front)
      (asked_lacks s.asked is.asked)

  -- a line whose command has so many bytes
  pub line_within : (n : ℕ) → length (spaced (asked_words s.asked)) ≤ n
      → 21 * length s.answers + n ≤ 199000 → length (line_of s) ≤ LONGEST_ENTRY
  line_within n asked few =
      let rest = head_words s ++ (answer_words s.answers ++ asked_words s.asked) in
      omega (
        arith,
        ap length (joined-spaced (decimal s.number) rest),
        ap length (spaced-append (front_words s) (asked_words s.asked))
            ∙ length-append (spaced (front_words s)) (spaced (asked_words s.asked)),
        spaced_within (front_words s) front,
        length-map s.answers decimal,
        asked,
        few,
      )

word_is_line : (w : List ℕ) → Lacks w → IsLine w
word_is_line [] l = tt
word_is_line (b ∷ bs) l = (
  (let high : 33 ≤ b = leb-true 33 b l.0 in ne_eqb b 10 (λ e. absurd (omega arith))),
  word_is_line bs l.1,
)

joined_is_line : (w : List ℕ) (ws : List (List ℕ)) → AllLack (w ∷ ws)
    → IsLine (join_with_byte 32 (w ∷ ws))
joined_is_line w [] l = word_is_line w l.0
joined_is_line w (v ∷ vs) l =
    IsLine-append w (32 ∷ join_with_byte 32 (v ∷ vs)) (word_is_line w l.0)
    (refl, joined_is_line v vs l.1)

-- a line has no line feed in it
pub line_is_line : (s : Stated) → IsStated s → IsLine (line_of s)
line_is_line s is =
    joined_is_line (decimal s.number)
    (head_words s ++ (answer_words s.answers ++ asked_words s.asked)) (line_lacks s is)
