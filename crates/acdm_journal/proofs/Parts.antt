-- The parts of a line: each is read as what it is written for, and only that is read so.
use Rattle.std.proofs.Common.{◌≡◌, ℕ, zero, suc, ◌^◌, ◌<◌, ◌≤◌, Bool, true, false, cond, List, []}
use Rattle.std.proofs.Common.{◌∷◌, codes, Option, Some, None, Result, Ok, Err, refl, sym, ap, subst}
use Rattle.std.proofs.Common.{◌∙◌, ◌++◌, append-nil, arith, inl, inr, ◌⊎◌}
use Rattle.std.specs.Prelude.{find, ◌==◌}
use Rattle.std.specs.Fmt.{decimal}
use Rattle.std.specs.Str.{bytes_eq}
use Rattle.std.specs.List.{AllByRecursion}
use Rattle.std.proofs.lemmas.Bool.Decides.{nat_tests}
use Rattle.std.proofs.lemmas.Bool.{eqb-true}
use Rattle.std.proofs.lemmas.Option.{same_Some, some_pair_parts, cond_some}
use Rattle.std.proofs.lemmas.Slice.Eq.{bytes_eq-Decides}
use Rattle.hex.specs.Hex.{encode_lower, decode_of, IsBytes}
use Rattle.hex.specs.declared.error.FromHexError.{FromHexError}
use Rattle.hex.proofs.HexLemmas.{decode_of-encode_lower, decode_of-ok}
use Rattle.acdm_record.specs.Texts.{text_from}
use Rattle.acdm_milestones.specs.declared.role.Role.{Role}
use Rattle.acdm_milestones.specs.declared.role.Role.TheVariants.{NetworkManager, AirTrafficControl}
use Rattle.acdm_milestones.specs.declared.role.Role.TheVariants.{AirportOperator, AircraftOperator}
use Rattle.acdm_milestones.specs.declared.role.Role.TheVariants.{GroundHandler, DeicingCompany}
use Rattle.acdm_milestones.specs.declared.milestone.Milestone.{Milestone}
use Rattle.acdm_milestones.specs.declared.milestone.Milestone.TheVariants as m
use Rattle.acdm_milestones.specs.Tables.{number, milestone_numbered, milestones}
use Rattle.acdm_slots.specs.declared.kind.Kind as kinds
use Rattle.acdm_slots.specs.declared.kind.Kind.TheVariants.{Tobt, Alert}
use Rattle.acdm_journal.specs.Ranges.{IsText, IsByte}
use Rattle.acdm_journal.specs.Reading.{Words, ◌>>=◌, word_at, within, natural_of, number_at}
use Rattle.acdm_journal.specs.Reading.{text_at, role_at, kind_at, deicing_at, length_at}
use Rattle.acdm_journal.specs.Reading.{milestone_at, bytes_read, bytes_of, bytes_at}
use Rattle.acdm_journal.proofs.Numbers.{natural_of-decimal, decimal-natural_of}
use Rattle.acdm_milestones.specs.Names.{role_name, role_named}
use Rattle.acdm_milestones.specs.declared.deicing.DeicingTime.{DeicingTime}
use Rattle.acdm_milestones.specs.declared.deicing.DeicingTime.TheVariants.{EstimatedCommencement}
use Rattle.acdm_milestones.specs.declared.deicing.DeicingTime.TheVariants.{EstimatedEnd}
use Rattle.acdm_milestones.specs.declared.deicing.DeicingTime.TheVariants.{ActualCommencement}
use Rattle.acdm_milestones.specs.declared.deicing.DeicingTime.TheVariants.{ActualEnd}
use Rattle.acdm_milestones.specs.Deicing.{deicing_name, deicing_named}
use Rattle.bpf_regstate.specs.declared.length.Length.{Length}
use Rattle.bpf_regstate.specs.declared.length.Length.TheVariants.{L128, L160}
use Rattle.acdm_journal.specs.Text.{length_words}
use Rattle.acdm_slots.specs.Names.{kind_name, kind_named}

-- ---- steps that may fail

pub bind_some : {A B : Type 0} (o : Option A) (f : A → Option B) (y : B) → (o >>= f) ≡ Some y
    → (x : A) × (o ≡ Some x) × (f x ≡ Some y)
bind_some None f y h = absurd (cc)
bind_some (Some x) f y h = (x, refl, h)

-- the first step gives this value
pub bind_is : {A B : Type 0} (o : Option A) (f : A → Option B) (x : A) → o ≡ Some x
    → (o >>= f) ≡ f x
bind_is o f x h = ap (λ p. p >>= f) h

-- what is so of what is given is so of what is read
pub given : {A : Type 0} (P : A → Words → Type 0) (a c : A) (b d : Words)
    → ◌≡◌ {A = Option (A × Words)} (Some (a, b)) (Some (c, d)) → P a b → P c d
given P a c b d h p =
    let same = some_pair_parts a c b d h in
    subst (λ w. P c w) same.1 (subst (λ v. P v b) same.0 p)

pub if_some : {A : Type 0} (b : Bool) (x y : Option A) (r : A) → cond b x y ≡ Some r
    → ((b ≡ true) × (x ≡ Some r)) ⊎ ((b ≡ false) × (y ≡ Some r))
if_some true x y r h = inl (refl, h)
if_some false x y r h = inr (refl, h)

-- ---- the next word

pub word_at-back : (ws : Words) (w : List ℕ) (left : Words)
    → ◌≡◌ {A = Option (List ℕ × Words)} (word_at ws) (Some (w, left)) → ws ≡ w ∷ left
word_at-back [] w left h = absurd (cc)
word_at-back (v ∷ vs) w left h =
    let same = some_pair_parts v w vs left h in
    ap (λ x. x ∷ vs) same.0 ∙ ap (λ (l : Words). w ∷ l) same.1

-- ---- numbers

within-is : (low high n : ℕ) → low ≤ n → n ≤ high → within low high n ≡ Some n
within-is low high n a b = grind (arith, nat_tests)

within-back : (low high n m : ℕ) → within low high n ≡ Some m → (n ≡ m) × (low ≤ m) × (m ≤ high)
within-back low high n m h = grind (arith, nat_tests)

pub number_at-is : (low high n : ℕ) (ws : Words) → low ≤ n → n ≤ high → n < 2 ^ 64
    → number_at low high (decimal n ∷ ws) ≡ Some (n, ws)
unfolding number_at
number_at-is low high n ws a b small =
    bind_is (natural_of (decimal n)) _ n (natural_of-decimal n small)
    ∙ bind_is (within low high n) _ n (within-is low high n a b)

pub record IsNumber (low high n : ℕ) (ws left : Words) : Type 0 where
  pub word : ws ≡ decimal n ∷ left
  pub least : low ≤ n
  pub most : n ≤ high

pub number_at-back : (low high : ℕ) (ws : Words) (n : ℕ) (left : Words) → high < 2 ^ 64
    → number_at low high ws ≡ Some (n, left) → IsNumber low high n ws left
unfolding number_at
number_at-back low high ws n left small h =
    let w = bind_some (word_at ws) _ (n, left) h in
    let k = bind_some (natural_of w.0.0) _ (n, left) w.2 in
    let m = bind_some (within low high k.0) _ (n, left) k.2 in
    let same = some_pair_parts m.0 n w.0.1 left m.2 in
    let in_range = within-back low high k.0 m.0 m.1 in
    let is : k.0 ≡ n = in_range.0 ∙ same.0 in
    let fits : k.0 < 2 ^ 64 = omega (arith, in_range) in
    record {
      word = word_at-back ws w.0.0 w.0.1 w.1
          ∙ ap (λ x. x ∷ w.0.1) (decimal-natural_of w.0.0 k.0 k.1 fits ∙ ap decimal is)
          ∙ ap (λ (l : Words). decimal n ∷ l) same.1;
      least = omega (arith, in_range, same.0);
      most = omega (arith, in_range, same.0);
    }

-- ---- texts

pub text_at-is : (most : ℕ) (t : List ℕ) (ws : Words) → IsText most t
    → text_at most (t ∷ ws) ≡ Some (t, ws)
unfolding text_at
text_at-is most t ws is = bind_is (text_from most t) _ t is

pub text_at-back : (most : ℕ) (ws : Words) (t : List ℕ) (left : Words)
    → text_at most ws ≡ Some (t, left) → (ws ≡ t ∷ left) × IsText most t
unfolding text_at
text_at-back most ws t left h =
    let w = bind_some (word_at ws) _ (t, left) h in
    let u = bind_some (text_from most w.0.0) _ (t, left) w.2 in
    let same = some_pair_parts u.0 t w.0.1 left u.2 in
    let kept = cond_some _ w.0.0 u.0 u.1 in
    let is : w.0.0 ≡ t = kept.1 ∙ same.0 in (
      word_at-back ws w.0.0 w.0.1 w.1 ∙ ap (λ x. x ∷ w.0.1) is ∙ ap (λ (l : Words). t ∷ l) same.1,
      subst (λ x. text_from most x ≡ Some t) is (u.1 ∙ ap Some same.0),
    )

-- ---- names

named : (w name : List ℕ) → bytes_eq w name ≡ true → w ≡ name
named w name h = (bytes_eq-Decides w name).0 h

pub role_named-is : (r : Role) → role_named (role_name r) ≡ Some r
role_named-is NetworkManager = refl
role_named-is _ = refl

is_role : (w : List ℕ) (a r : Role) → bytes_eq w (role_name a) ≡ true → Some a ≡ Some r
    → w ≡ role_name r
is_role w a r e s = named w (role_name a) e ∙ ap role_name (same_Some a r s)

pub role_named-back : (w : List ℕ) (r : Role) → role_named w ≡ Some r → w ≡ role_name r
role_named-back w r h =
    elim (if_some (bytes_eq w (codes "NM")) _ _ r h) [
      | inl p ↦ is_role w NetworkManager r p.0 p.1
      | inr p ↦ elim (if_some (bytes_eq w (codes "ATC")) _ _ r p.1) [
        | inl p ↦ is_role w AirTrafficControl r p.0 p.1
        | inr p ↦ elim (if_some (bytes_eq w (codes "APT")) _ _ r p.1) [
          | inl p ↦ is_role w AirportOperator r p.0 p.1
          | inr p ↦ elim (if_some (bytes_eq w (codes "AO")) _ _ r p.1) [
            | inl p ↦ is_role w AircraftOperator r p.0 p.1
            | inr p ↦ elim (if_some (bytes_eq w (codes "GH")) _ _ r p.1) [
              | inl p ↦ is_role w GroundHandler r p.0 p.1
              | inr p ↦ elim (if_some (bytes_eq w (codes "DIC")) _ _ r p.1) [
                | inl p ↦ is_role w DeicingCompany r p.0 p.1
                | inr p ↦ absurd (cc p.1)
              ]
            ]
          ]
        ]
      ]
    ]

pub role_at-is : (r : Role) (ws : Words) → role_at (role_name r ∷ ws) ≡ Some (r, ws)
unfolding role_at
role_at-is r ws = bind_is (role_named (role_name r)) _ r (role_named-is r)

pub role_at-back : (ws : Words) (r : Role) (left : Words) → role_at ws ≡ Some (r, left)
    → ws ≡ role_name r ∷ left
unfolding role_at
role_at-back ws r left h =
    let w = bind_some (word_at ws) _ (r, left) h in
    let u = bind_some (role_named w.0.0) _ (r, left) w.2 in
    let same = some_pair_parts u.0 r w.0.1 left u.2 in
    word_at-back ws w.0.0 w.0.1 w.1
    ∙ ap (λ x. x ∷ w.0.1) (role_named-back w.0.0 u.0 u.1 ∙ ap role_name same.0)
    ∙ ap (λ (l : Words). role_name r ∷ l) same.1

pub kind_named-is : (k : kinds.Kind) → kind_named (kind_name k) ≡ Some k
kind_named-is Tobt = refl
kind_named-is Alert = refl

is_kind : (w : List ℕ) (a k : kinds.Kind) → bytes_eq w (kind_name a) ≡ true → Some a ≡ Some k
    → w ≡ kind_name k
is_kind w a k e s = named w (kind_name a) e ∙ ap kind_name (same_Some a k s)

pub kind_named-back : (w : List ℕ) (k : kinds.Kind) → kind_named w ≡ Some k → w ≡ kind_name k
kind_named-back w k h =
    elim (if_some (bytes_eq w (codes "tobt")) _ _ k h) [
      | inl p ↦ is_kind w Tobt k p.0 p.1
      | inr p ↦ elim (if_some (bytes_eq w (codes "alert")) _ _ k p.1) [
        | inl p ↦ is_kind w Alert k p.0 p.1
        | inr p ↦ absurd (cc p.1)
      ]
    ]

pub kind_at-is : (k : kinds.Kind) (ws : Words) → kind_at (kind_name k ∷ ws) ≡ Some (k, ws)
unfolding kind_at
kind_at-is k ws = bind_is (kind_named (kind_name k)) _ k (kind_named-is k)

pub kind_at-back : (ws : Words) (k : kinds.Kind) (left : Words) → kind_at ws ≡ Some (k, left)
    → ws ≡ kind_name k ∷ left
unfolding kind_at
kind_at-back ws k left h =
    let w = bind_some (word_at ws) _ (k, left) h in
    let u = bind_some (kind_named w.0.0) _ (k, left) w.2 in
    let same = some_pair_parts u.0 k w.0.1 left u.2 in
    word_at-back ws w.0.0 w.0.1 w.1
    ∙ ap (λ x. x ∷ w.0.1) (kind_named-back w.0.0 u.0 u.1 ∙ ap kind_name same.0)
    ∙ ap (λ (l : Words). kind_name k ∷ l) same.1

-- ---- times of de-icing

deicing_named-is : (d : DeicingTime) → deicing_named (deicing_name d) ≡ Some d
deicing_named-is EstimatedCommencement = refl
deicing_named-is _ = refl

is_deicing : (w : List ℕ) (a d : DeicingTime) → bytes_eq w (deicing_name a) ≡ true
    → Some a ≡ Some d → w ≡ deicing_name d
is_deicing w a d e s = named w (deicing_name a) e ∙ ap deicing_name (same_Some a d s)

deicing_named-back : (w : List ℕ) (d : DeicingTime) → deicing_named w ≡ Some d
    → w ≡ deicing_name d
deicing_named-back w d h =
    elim (if_some (bytes_eq w (codes "eczt")) _ _ d h) [
      | inl p ↦ is_deicing w EstimatedCommencement d p.0 p.1
      | inr p ↦ elim (if_some (bytes_eq w (codes "eezt")) _ _ d p.1) [
        | inl p ↦ is_deicing w EstimatedEnd d p.0 p.1
        | inr p ↦ elim (if_some (bytes_eq w (codes "aczt")) _ _ d p.1) [
          | inl p ↦ is_deicing w ActualCommencement d p.0 p.1
          | inr p ↦ elim (if_some (bytes_eq w (codes "aezt")) _ _ d p.1) [
            | inl p ↦ is_deicing w ActualEnd d p.0 p.1
            | inr p ↦ absurd (cc p.1)
          ]
        ]
      ]
    ]

pub deicing_at-is : (d : DeicingTime) (ws : Words) → deicing_at (deicing_name d ∷ ws) ≡ Some (d, ws)
unfolding deicing_at
deicing_at-is d ws = bind_is (deicing_named (deicing_name d)) _ d (deicing_named-is d)

pub deicing_at-back : (ws : Words) (d : DeicingTime) (left : Words) → deicing_at ws ≡ Some (d, left)
    → ws ≡ deicing_name d ∷ left
unfolding deicing_at
deicing_at-back ws d left h =
    let w = bind_some (word_at ws) _ (d, left) h in
    let u = bind_some (deicing_named w.0.0) _ (d, left) w.2 in
    let same = some_pair_parts u.0 d w.0.1 left u.2 in
    word_at-back ws w.0.0 w.0.1 w.1
    ∙ ap (λ x. x ∷ w.0.1) (deicing_named-back w.0.0 u.0 u.1 ∙ ap deicing_name same.0)
    ∙ ap (λ (l : Words). deicing_name d ∷ l) same.1

-- ---- lengths

pub length_at-is : (l : Length) → length_at (length_words l) ≡ Some (l, [])
unfolding length_at
length_at-is L128 = refl
length_at-is L160 = refl

pub length_at-back : (ws : Words) (l : Length) (left : Words) → length_at ws ≡ Some (l, left)
    → ws ≡ length_words l ++ left
unfolding length_at
length_at-back [] l left h =
    let same = some_pair_parts L128 l [] left h in
    ap (λ (n : Length). length_words n) same.0 ∙ sym (append-nil (length_words l))
    ∙ ap (λ (r : Words). length_words l ++ r) same.1
length_at-back (w ∷ ws) l left h =
    elim (if_some (bytes_eq w (codes "160")) _ _ (l, left) h) [
      | inl p ↦
          let same = some_pair_parts L160 l ws left p.1 in
          ap (λ x. x ∷ ws) (named w (codes "160") p.0)
          ∙ ap (λ (n : Length). length_words n ++ ws) same.0
          ∙ ap (λ (r : Words). length_words l ++ r) same.1
      | inr p ↦ absurd (cc p.1)
    ]

-- ---- milestones

milestone_numbered-is : (a : Milestone) → milestone_numbered (number a) ≡ Some a
milestone_numbered-is m.FlightPlanActivated = refl
milestone_numbered-is _ = refl

find-passes : {A : Type 0} (p : A → Bool) (xs : List A) (x : A) → find p xs ≡ Some x → p x ≡ true
find-passes p [] x h = absurd (cc)
find-passes p (y ∷ ys) x h =
    elim (if_some (p y) (Some y) (find p ys) x h) [
      | inl q ↦ subst (λ z. p z ≡ true) (same_Some y x q.1) q.0
      | inr q ↦ find-passes p ys x q.1
    ]

milestone_numbered-back : (n : ℕ) (a : Milestone) → milestone_numbered n ≡ Some a → n ≡ number a
milestone_numbered-back n a h =
    eqb-true n (number a) (find-passes (λ b. n == number b) milestones a h)

pub record IsNumbered (a : Milestone) : Type 0 where
  pub some : 1 ≤ number a
  pub most : number a ≤ 16

pub is_numbered : (a : Milestone) → IsNumbered a
is_numbered m.FlightPlanActivated = record { some = omega arith; most = omega arith }
is_numbered _ = record { some = omega arith; most = omega arith }

pub milestone_at-is : (a : Milestone) (ws : Words)
    → milestone_at (decimal (number a) ∷ ws) ≡ Some (a, ws)
unfolding milestone_at
milestone_at-is a ws =
    let n = is_numbered a in
    let small : number a < 2 ^ 64 = omega (arith, n.most) in
    bind_is (number_at 1 16 (decimal (number a) ∷ ws)) _ (number a, ws)
    (number_at-is 1 16 (number a) ws n.some n.most small)
    ∙ bind_is (milestone_numbered (number a)) _ a (milestone_numbered-is a)

pub milestone_at-back : (ws : Words) (a : Milestone) (left : Words)
    → milestone_at ws ≡ Some (a, left) → ws ≡ decimal (number a) ∷ left
unfolding milestone_at
milestone_at-back ws a left h =
    let n = bind_some (number_at 1 16 ws) _ (a, left) h in
    let u = bind_some (milestone_numbered n.0.0) _ (a, left) n.2 in
    let same = some_pair_parts u.0 a n.0.1 left u.2 in
    (number_at-back 1 16 ws n.0.0 n.0.1 (omega arith) n.1).word
    ∙ ap (λ x. decimal x ∷ n.0.1) (milestone_numbered-back n.0.0 u.0 u.1 ∙ ap number same.0)
    ∙ ap (λ (l : Words). decimal (number a) ∷ l) same.1

-- ---- bytes

bytes_at_each : (bytes : List ℕ) → AllByRecursion IsByte bytes → IsBytes bytes
bytes_at_each [] all i = omega arith
bytes_at_each (b ∷ bs) all zero = all.0
bytes_at_each (b ∷ bs) all (suc i) = bytes_at_each bs all.1 i

each_is_byte : (bytes : List ℕ) → IsBytes bytes → AllByRecursion IsByte bytes
each_is_byte [] all = tt
each_is_byte (b ∷ bs) all = (all 0, each_is_byte bs (λ i. all (suc i)))

if_true : {A : Type 0} (b : Bool) (x y : A) → b ≡ true → cond b x y ≡ x
if_true b x y h = ap (λ c. cond c x y) h

bytes_of-is : (bytes : List ℕ) → AllByRecursion IsByte bytes
    → bytes_of (encode_lower bytes) ≡ Some bytes
bytes_of-is bytes all =
    ap (bytes_read (encode_lower bytes)) (decode_of-encode_lower bytes (bytes_at_each bytes all))
    ∙ if_true _ (Some bytes) None ((bytes_eq-Decides (encode_lower bytes) (encode_lower bytes)).1
    refl)

read_back : (w bytes : List ℕ) (r : Result (List ℕ) FromHexError) → decode_of w ≡ r
    → bytes_read w r ≡ Some bytes → (w ≡ encode_lower bytes) × AllByRecursion IsByte bytes
read_back w bytes (Ok read) d h =
    let kept = cond_some _ read bytes h in (
      sym (named (encode_lower read) w kept.0) ∙ ap encode_lower kept.1,
      subst (λ bs. AllByRecursion IsByte bs) kept.1 (each_is_byte read (decode_of-ok w read d).3),
    )
read_back w bytes (Err e) d h = absurd (cc)

pub bytes_at-is : (bytes : List ℕ) (ws : Words) → AllByRecursion IsByte bytes
    → bytes_at (encode_lower bytes ∷ ws) ≡ Some (bytes, ws)
unfolding bytes_at
bytes_at-is bytes ws all =
    bind_is (bytes_of (encode_lower bytes)) _ bytes (bytes_of-is bytes all)

pub bytes_at-back : (ws : Words) (bytes : List ℕ) (left : Words)
    → bytes_at ws ≡ Some (bytes, left)
    → (ws ≡ encode_lower bytes ∷ left) × AllByRecursion IsByte bytes
unfolding bytes_at
bytes_at-back ws bytes left h =
    let w = bind_some (word_at ws) _ (bytes, left) h in
    let u = bind_some (bytes_of w.0.0) _ (bytes, left) w.2 in
    let same = some_pair_parts u.0 bytes w.0.1 left u.2 in
    let back = read_back w.0.0 u.0 (decode_of w.0.0) refl u.1 in (
      word_at-back ws w.0.0 w.0.1 w.1
          ∙ ap (λ x. x ∷ w.0.1) (back.0 ∙ ap encode_lower same.0)
          ∙ ap (λ (l : Words). encode_lower bytes ∷ l) same.1,
      subst (λ bs. AllByRecursion IsByte bs) same.0 back.1,
    )
