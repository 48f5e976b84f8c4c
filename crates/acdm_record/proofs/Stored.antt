-- A record of layout 1 is stored with zeros behind its bytes.
use Rattle.std.proofs.Common.{◌≡◌, ℕ, ◌+◌, ◌-◌, ◌<◌, ◌≤◌, Bool, true, false, ◌&&◌, ◌||◌, ◌==◌, cond, List, []}
use Rattle.std.proofs.Common.{◌∷◌, ◌++◌, length, take, drop, slice_index, replicate, Option, refl, sym}
use Rattle.std.proofs.Common.{ap, ◌∙◌, subst, arith, eqb-true}
use Rattle.std.proofs.lemmas.List.{take-append-drop, drop-drop, take_at, take_all, length-take-le}
use Rattle.std.proofs.lemmas.List.{length-drop, length-append, length-replicate}
use Rattle.std.specs.List.{list_all}
use Rattle.acdm_record.specs.declared.field.Field.TheVariants.{Reached, Alerts, Layout}
use Rattle.acdm_record.specs.declared.fault.RecordError.{RecordError}
use Rattle.acdm_record.specs.Place.{text_offset_of, text_width_of, text_fields}
use Rattle.acdm_record.specs.Fields.{bytes_of, part, number_at, fields_at, padded}
use Rattle.acdm_record.specs.Fields.{is_layout, bytes_in_layout, are_zeros, AreTexts, AreAllowed}
use Rattle.acdm_record.specs.Fields.{ArePadded, IsRecord}
use Rattle.acdm_record.specs.Faults.{AreOfRecord, is_filled, first_fault, first_fault_in}
use Rattle.std.specs.Cmp.{second_so}
use Rattle.acdm_record.proofs.Zeros.{zeros_after, number-zeros, text-zeros, fields-zeros, padded-zeros}
use Rattle.acdm_record.proofs.Zeros.{unpadded, byte-zeros}
use Rattle.acdm_record.proofs.Whole.{bytes_of-fields_at, nothing_added}
use Rattle.acdm_record.proofs.Judged.{all_zero, layout_short}

left_of : (v : Bool) → (v || false) ≡ true → v ≡ true
left_of true h = refl
left_of false h = h

all_same : {K : Type 0} (p q : K → Bool) → ((k : K) → p k ≡ q k) → (ks : List K)
    → list_all p ks ≡ list_all q ks
all_same p q h [] = refl
all_same p q h (k ∷ ks) = let rest = all_same p q h ks in λ i. h k i && rest i

enough_of : (n : ℕ) → (n == 128 || n == 160) ≡ true → 128 ≤ n
enough_of n = elim (n == 128) as (λ v. (n == 128) ≡ v → (v || n == 160) ≡ true → 128 ≤ n) [
  | true ↦ λ e h. let is : n ≡ 128 = eqb-true n 128 e in omega arith
  | false ↦ λ e h. let is : n ≡ 160 = eqb-true n 160 h in omega arith
] refl

-- the tests say the same of bytes with zeros behind them
pub fault-zeros : (b : List ℕ) → 128 ≤ length b
    → first_fault_in (length b) (padded 160 b) ≡ first_fault b
unfolding first_fault_in
fault-zeros b long =
    let n = 160 - length b in
    let texts = all_same (λ t. is_filled (part (text_offset_of t) (text_width_of t) (padded 160 b)))
    (λ t. is_filled (part (text_offset_of t) (text_width_of t) b))
    (λ t. ap is_filled (text-zeros n b long t)) text_fields in
    rw (
      number-zeros n b Layout,
      texts,
      number-zeros n b Reached,
      number-zeros n b Alerts,
      zeros_after n 144 b,
    ) refl

-- what a test of stored bytes says of those that were given
pub judged-zeros : (b kept : List ℕ) (e : Option RecordError) → (length b == 128 || length b == 160) ≡ true
    → kept ≡ padded 160 b → e ≡ first_fault_in (length b) kept → first_fault b ≡ e
judged-zeros b kept e long same is =
    sym (fault-zeros b (enough_of (length b) long)) ∙ ap (first_fault_in (length b)) (sym same) ∙ sym is

-- they say the same fields
pub fields-kept : (b kept : List ℕ) → (length b == 128 || length b == 160) ≡ true
    → kept ≡ padded 160 b → fields_at kept ≡ fields_at b
fields-kept b kept long same = ap fields_at same
    ∙ fields-zeros (160 - length b) b (enough_of (length b) long)

-- what is stored of the bytes of a record
pub kept-zeros : (b : List ℕ) → AreOfRecord b → IsRecord (padded 160 b)
kept-zeros b r =
    let n = 160 - length b in
    let long : 128 ≤ length b = omega (arith, r.whole, layout_short (number_at b Layout)) in
    let same : fields_at (padded 160 b) ≡ fields_at b = fields-zeros n b long in
    record {
      filled = padded-zeros n b long r.kept.filled;
      texts = subst AreTexts (sym same) r.kept.texts;
      numbers = subst AreAllowed (sym same) r.kept.numbers;
      spare = zeros_after n 144 b ∙ r.kept.spare;
    }

not_as_short : ◌≡◌ {A = ℕ} 160 128 → ⊥
not_as_short h = omega (arith, h)

-- the layout of a record, by its length
pub is_first : (b : List ℕ) → IsRecord b → bytes_in_layout (number_at b Layout) ≡ 128
    → number_at b Layout ≡ 1
is_first b kept short =
    elim (number_at b Layout == 2) as (λ v. (number_at b Layout == 2) ≡ v
    → ◌≡◌ {A = ℕ} (cond v 160 128) 128 → number_at b Layout ≡ 1) [
      | true ↦ λ e n. absurd (not_as_short n)
      | false ↦ λ e n. eqb-true (number_at b Layout) 1 (left_of (number_at b Layout == 1)
          (subst (λ v. (number_at b Layout == 1 || v) ≡ true) e
          (second_so (number_at b Layout == number_at b Layout) _ (kept.numbers Layout))))
    ] refl short

module _ (b : List ℕ) (long : length b ≡ 160) (bytes : (i : ℕ) → slice_index b i < 256)
    (kept : IsRecord b) where
  -- the last 16 bytes
  last : drop 144 b ≡ replicate 16 0
  last = all_zero (drop 144 b) kept.spare ∙ ap (λ n. replicate n 0) (length-drop 144 b
      ∙ ap (λ n. n - 144) long)

  last_part : part 144 16 b ≡ replicate 16 0
  last_part = ap (take 16) last

  known : is_layout (number_at b Layout) ≡ true
  known = second_so (number_at b Layout == number_at b Layout) _ (kept.numbers Layout)

  first : (number_at b Layout == 2) ≡ false → number_at b Layout ≡ 1
  first e = eqb-true (number_at b Layout) 1
      (left_of (number_at b Layout == 1) (subst (λ v. (number_at b Layout == 1 || v) ≡ true) e known))

  -- in layout 1 all is zero behind its bytes
  stored-first : number_at b Layout ≡ 1 → b ≡ padded 160 (take 128 b)
  stored-first e =
      let short : length (take 128 b) ≡ 128 = length-take-le 128 b (omega arith) in
      let sixteen : take 16 (drop 128 b) ≡ replicate 16 0 =
      nothing_added b bytes kept.filled kept.numbers e (omega arith) in
      let behind : drop 16 (drop 128 b) ≡ replicate 16 0 = drop-drop 16 128 b ∙ last in
      let all : drop 128 b ≡ replicate 32 0 =
      sym (take-append-drop 16 (drop 128 b)) ∙ (λ t. sixteen t ++ behind t) in
      sym (take-append-drop 128 b) ∙ ap (λ r. take 128 b ++ r) all
      ∙ ap (λ n. take 128 b ++ replicate (160 - n) 0) (sym short)

  of_first : number_at b Layout ≡ 1 → AreOfRecord (take 128 b)
  of_first e =
      let short : length (take 128 b) ≡ 128 = length-take-le 128 b (omega arith) in
      let n = 160 - length (take 128 b) in
      let enough : 128 ≤ length (take 128 b) = omega arith in
      let stored = stored-first e in
      let same : fields_at b ≡ fields_at (take 128 b) = ap fields_at stored
      ∙ fields-zeros n (take 128 b) enough in
      let layout : number_at (take 128 b) Layout ≡ 1 =
      sym (number-zeros n (take 128 b) Layout) ∙ ap (λ xs. number_at xs Layout) (sym stored) ∙ e in
      record {
        whole = short ∙ ap bytes_in_layout (sym layout);
        kept = record {
          filled = unpadded n (take 128 b) enough (subst ArePadded stored kept.filled);
          texts = subst AreTexts same kept.texts;
          numbers = subst AreAllowed same kept.numbers;
          spare = sym (zeros_after n 144 (take 128 b)) ∙ ap (λ xs. are_zeros (drop 144 xs)) (sym stored)
              ∙ kept.spare;
        };
      }

  enough : bytes_in_layout (number_at b Layout) ≤ length b
  enough = elim (number_at b Layout == 2) as (λ v. cond v 160 128 ≤ length b) [
    | true ↦ omega arith
    | false ↦ omega arith
  ]

  pub bytes-stored : bytes_of (fields_at b) ≡ take (bytes_in_layout (number_at b Layout)) b
  bytes-stored = bytes_of-fields_at b bytes kept.filled enough (λ e. last_part)

  pub of-stored : AreOfRecord (take (bytes_in_layout (number_at b Layout)) b)
  of-stored =
      elim (number_at b Layout == 2) as (λ v. (number_at b Layout == 2) ≡ v
      → AreOfRecord (take (cond v 160 128) b)) [
        | true ↦ λ e.
            let all : take 160 b ≡ b = take_all 160 b (omega arith) in
            subst AreOfRecord (sym all) record {
              whole = long ∙ ap (λ v. cond v 160 128) (sym e);
              kept = kept;
            }
        | false ↦ λ e. of_first (first e)
      ] refl

  -- the same, where the layout is known
  pub bytes-known : (l : ℕ) → number_at b Layout ≡ l → take (bytes_in_layout l) b ≡ bytes_of (fields_at b)
  bytes-known l e = ap (λ l. take (bytes_in_layout l) b) (sym e) ∙ sym bytes-stored

  pub of-known : (l : ℕ) → number_at b Layout ≡ l → AreOfRecord (take (bytes_in_layout l) b)
  of-known l e = subst (λ l. AreOfRecord (take (bytes_in_layout l) b)) e of-stored

-- the bytes that a record was made of
pub given_back : (b : List ℕ) → AreOfRecord b → ((i : ℕ) → slice_index b i < 256)
    → bytes_of (fields_at (padded 160 b)) ≡ b
given_back b r bytes =
    let layout : number_at (padded 160 b) Layout ≡ number_at b Layout =
    number-zeros (160 - length b) b Layout in
    let short : length b ≤ 160 = most in
    let long : length (padded 160 b) ≡ 160 = length-append b (replicate (160 - length b) 0)
    ∙ ap (λ n. length b + n) (length-replicate (160 - length b) 0) ∙ omega arith in
    bytes-stored (padded 160 b) long (λ i. subst (λ x. x < 256)
    (sym (byte-zeros (160 - length b) b i)) (bytes i)) (kept-zeros b r)
    ∙ ap (λ l. take (bytes_in_layout l) (padded 160 b)) layout
    ∙ take_at b (replicate (160 - length b) 0) (bytes_in_layout (number_at b Layout)) r.whole
  where
    most : length b ≤ 160
    most = elim (number_at b Layout == 2) as (λ v. length b ≡ cond v 160 128 → length b ≤ 160) [
      | true ↦ λ e. omega arith
      | false ↦ λ e. omega arith
    ] r.whole
