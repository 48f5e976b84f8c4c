-- Whole instructions, one after the other.
use Rattle.std.proofs.Common.{◌≡◌, ℕ, ◌+◌, ◌*◌, ◌<◌, ◌≤◌, Bool, true, false, List, [], ◌∷◌, ◌++◌}
use Rattle.std.proofs.Common.{length, drop, refl, sym, ap, subst, ◌∙◌, append_assoc, arith}
use Rattle.std.proofs.Common.{length-append}
use Rattle.std.specs.Prelude.{◌&&◌}
use Rattle.std.specs.List.{AllByRecursion}
use Rattle.std.proofs.lemmas.List.{append-nil, drop_at}
use Rattle.std.proofs.lemmas.Grind.{flat_map-append}
use Rattle.bpf_decode.specs.declared.op.Op.{Op}
use Rattle.bpf_decode.specs.declared.op.Op.TheVariants.{Wide, Tail}
use Rattle.bpf_decode.specs.Encoding.{is_tail, is_wide, same, tails_fit, IsInstruction, FitsSlot}
use Rattle.bpf_decode.specs.Encoding.{AreWhole, AreSlots, FirstFault, StartFault, behind}
use Rattle.bpf_decode.specs.Encoding.{encoding, encoding_of}
use Rattle.bpf_decode.specs.declared.fault.DecodeError.{DecodeError}
use Rattle.bpf_decode.specs.declared.fault.DecodeError.TheVariants.{Refused, Memory}
use Rattle.bpf_decode.specs.Faults.{code_of}
use Rattle.bpf_decode.specs.Decoding.{parts_of, Grows, IsStop, Refuses}

-- ---- the parts of one instruction

pub parts_whole : (op : Op) → IsInstruction op → AreWhole (parts_of op)
parts_whole (Wide dst value) is = (refl, (is, (tt, tt)))
parts_whole Tail is = elim is.0 [ ]
parts_whole op is = (refl, (is, tt))

pub encoding-parts_of : (op : Op) → IsInstruction op → encoding (parts_of op) ≡ encoding_of op
encoding-parts_of (Wide dst value) is = refl
encoding-parts_of Tail is = elim is.0 [ ]
encoding-parts_of op is = append-nil (encoding_of op)

pub length-encoding_of : (op : Op) → IsInstruction op
    → length (encoding_of op) ≡ 8 * length (parts_of op)
length-encoding_of (Wide dst value) is = refl
length-encoding_of Tail is = elim is.0 [ ]
length-encoding_of op is = refl

-- ---- one after the other

pub and_both : (a b : Bool) → (a && b) ≡ true → (a ≡ true) × (b ≡ true)
and_both true b e = (refl, e)
and_both false b e = absurd cc

and_true : (a b : Bool) → a ≡ true → b ≡ true → (a && b) ≡ true
and_true true b e f = f
and_true false b e f = absurd cc

tails_fit-append : (due : Bool) (xs ys : List Op) → tails_fit due xs ≡ true
    → tails_fit false ys ≡ true → tails_fit due (xs ++ ys) ≡ true
tails_fit-append true [] ys p q = absurd cc
tails_fit-append false [] ys p q = q
tails_fit-append due (op ∷ ops) ys p q =
    let both = and_both (same due (is_tail op)) (tails_fit (is_wide op) ops) p in
    and_true (same due (is_tail op)) (tails_fit (is_wide op) (ops ++ ys)) both.0
    (tails_fit-append (is_wide op) ops ys both.1 q)

fit-append : (xs ys : List Op) → AllByRecursion FitsSlot xs → AllByRecursion FitsSlot ys
    → AllByRecursion FitsSlot (xs ++ ys)
fit-append [] ys p q = q
fit-append (op ∷ ops) ys p q = (p.0, fit-append ops ys p.1 q)

pub AreWhole-append : (xs ys : List Op) → AreWhole xs → AreWhole ys → AreWhole (xs ++ ys)
AreWhole-append xs ys p q = (tails_fit-append false xs ys p.0 q.0, fit-append xs ys p.1 q.1)

-- ---- the loop of the decoder

-- the front that was read, and what is left
pub record IsRead (bytes : List ℕ) (front : List Op) (rest : List ℕ) : Type 0 where
  pub bytes_are : bytes ≡ encoding front ++ rest
  pub whole : AreWhole front
  pub count : 8 * length front + length rest ≡ length bytes

pub goes_on : (bytes rest : List ℕ) (old new : List Op) (len : ℕ) → IsRead bytes old rest
    → Grows old new rest len → IsRead bytes new (drop len rest) × (len ≤ length rest) × (0 < len)
goes_on bytes rest old new len read (op, (is, (after, rest-is)), new-is, len-is) =
    let long : length (encoding_of op) ≡ len = length-encoding_of op is ∙ sym len-is in
    let after-is : drop len rest ≡ after = ap (drop len) rest-is
    ∙ drop_at (encoding_of op) after len long in
    let total : length rest ≡ len + length after = ap length rest-is
    ∙ length-append (encoding_of op) after ∙ ap (λ (n : ℕ). n + length after) long in
    let front : encoding new ≡ encoding old ++ encoding_of op = ap encoding new-is
    ∙ flat_map-append encoding_of old (parts_of op)
    ∙ ap (λ (x : List ℕ). encoding old ++ x) (encoding-parts_of op is) in
    let grown : length new ≡ length old + length (parts_of op) = ap length new-is
    ∙ length-append old (parts_of op) in
    let some : 0 < length (parts_of op) = parts_some op in (
      record {
        bytes_are = read.bytes_are ∙ ap (λ (x : List ℕ). encoding old ++ x) rest-is
            ∙ sym (append_assoc (encoding old) (encoding_of op) after)
            ∙ ap (λ (x : List ℕ). x ++ after) (sym front)
            ∙ ap (λ (x : List ℕ). encoding new ++ x) (sym after-is);
        whole = subst AreWhole (sym new-is)
            (AreWhole-append old (parts_of op) read.whole (parts_whole op is));
        count = rw after-is (omega (arith, read.count));
      },
      omega arith,
      omega arith,
    )
  where
    parts_some : (op : Op) → 0 < length (parts_of op)
    parts_some (Wide dst value) = omega arith
    parts_some op = omega arith

pub stops_behind : (bytes rest : List ℕ) (front : List Op) (code more slot : ℕ)
    → length bytes ≤ 32768 → AreSlots bytes → IsRead bytes front rest
    → slot ≡ length front + more → StartFault rest code more → FirstFault bytes code slot
stops_behind bytes rest front code more slot few slots read at fault =
    subst (λ (s : ℕ). FirstFault bytes code s) (sym at)
    (behind front rest few slots read.whole read.bytes_are fault)

pub refuses_behind : (bytes rest : List ℕ) (front : List Op) (e : DecodeError)
    → length bytes ≤ 32768 → AreSlots bytes → IsRead bytes front rest
    → IsStop rest (length front) e → Refuses bytes e
refuses_behind bytes rest front (Refused fault at) few slots read stop =
    stops_behind bytes rest front (code_of fault) stop.0 at few slots read stop.1 stop.2
refuses_behind bytes rest front Memory few slots read stop = tt

-- ---- lengths

pub encoding_length : (ops : List Op) → AreWhole ops → length (encoding ops) ≡ 8 * length ops
encoding_length [] w = refl
encoding_length (Wide dst value ∷ []) w = absurd cc
encoding_length (Wide dst value ∷ Tail ∷ ops) w = omega (arith, encoding_length ops (w.0, w.1.1.1))
encoding_length (Wide dst value ∷ op ∷ ops) w = absurd cc
encoding_length (Tail ∷ ops) w = absurd cc
encoding_length (op ∷ ops) w = omega (arith, encoding_length ops (w.0, w.1.1))
