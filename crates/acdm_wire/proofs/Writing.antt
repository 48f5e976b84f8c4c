-- What a writer took in one write and another.
use Rattle.std.proofs.Common.{◌≡◌, ℕ, zero, suc, ◌+◌, true, List, [], ◌∷◌, ◌++◌, length, take, drop}
use Rattle.std.proofs.Common.{Result, Ok, Err, refl, sym, ap, subst, ◌∙◌}
use Rattle.std.proofs.Common.{append_assoc}
use Rattle.std.proofs.Math.Seq.{take-add, take-length, take-append-add}
use Rattle.acdm_lines.specs.declared.run_error.RunError.{RunError}
use Rattle.acdm_lines.specs.Counted.{SinkView, faults_after}
use Rattle.acdm_wire.specs.Writes.{AppendsPart, Wrote, WroteInPart, Writes}

-- how many of n bytes there are
there_of : ℕ → List ℕ → ℕ
there_of zero bs = zero
there_of (suc n) [] = zero
there_of (suc n) (b ∷ bs) = suc (there_of n bs)

take-front : (n : ℕ) (bs cs : List ℕ) → take n bs ≡ take (there_of n bs) (bs ++ cs)
unfolding there_of
take-front zero bs cs = refl
take-front (suc n) [] cs = refl
take-front (suc n) (b ∷ bs) cs = ap (λ l. b ∷ l) (take-front n bs cs)

pub log-both : (old mid new bs cs : List ℕ) → mid ≡ old ++ bs → new ≡ mid ++ cs
    → new ≡ old ++ (bs ++ cs)
log-both old mid new bs cs p q = q ∙ ap (λ l. l ++ cs) p ∙ append_assoc old bs cs

-- the first bytes, and then more of them
pub log-further : (old mid new bs : List ℕ) (at n : ℕ) → mid ≡ old ++ take at bs
    → new ≡ mid ++ take n (drop at bs) → new ≡ old ++ take (at + n) bs
log-further old mid new bs at n p q =
    rw (take-add at n bs) (log-both old mid new (take at bs) (take n (drop at bs)) p q)

-- all the bytes
pub log-whole : (old mid new bs : List ℕ) → mid ≡ old ++ bs → new ≡ mid
    → new ≡ old ++ take (length bs) bs
log-whole old mid new bs p q = rw (take-length bs) (q ∙ p)

-- the first part of some bytes is a first part of more
part-front : (old new bs cs : List ℕ) → AppendsPart old new bs → AppendsPart old new (bs ++ cs)
part-front old new bs cs p =
    (there_of p.0 bs, subst (λ t. new ≡ old ++ t) (take-front p.0 bs cs) p.1)

-- some bytes, and the first part of more
part-back : (old mid new bs cs : List ℕ) → mid ≡ old ++ bs → AppendsPart mid new cs
    → AppendsPart old new (bs ++ cs)
part-back old mid new bs cs p q = (
  length bs + q.0,
  rw (take-append-add bs cs q.0) (log-both old mid new bs (take q.0 cs) p q.1),
)

-- ---- what comes of writing one text and another

module _ {W : Type 0} (old mid new : SinkView W) where
  -- the first text is written
  pub wrote-both : (bs cs : List ℕ) → Wrote old mid bs → Wrote mid new cs
      → Wrote old new (bs ++ cs)
  wrote-both bs cs p q = record {
    wrote = log-both old.log mid.log new.log bs cs
        p.wrote q.wrote;
    same = q.same ∙ p.same;
    told = q.told ∙ p.told;
    well = q.well ∙ p.well;
  }

  -- and of the second only a part
  pub wrote-back : (bs cs : List ℕ) (e : RunError) → Wrote old mid bs
      → WroteInPart mid new cs e → WroteInPart old new (bs ++ cs) e
  wrote-back bs cs e p q = record {
    wrote = part-back old.log mid.log new.log bs cs
        p.wrote q.wrote;
    same = q.same ∙ p.same;
    told = q.told ∙ p.told;
    fault = q.fault ∙ ap (faults_after true) p.well;
    kind = q.kind;
  }

  pub writes-both : {T : Type 0} (bs cs : List ℕ) (r : Result T RunError)
      → Wrote old mid bs → Writes mid new cs r
      → Writes old new (bs ++ cs) r
  writes-both bs cs (Ok x) p q = wrote-both bs cs p q
  writes-both bs cs (Err e) p q = wrote-back bs cs e p q

-- a first part of some bytes is a first part of more
pub wrote-front : {W : Type 0} (old new : SinkView W)
    (bs cs : List ℕ) (e : RunError) → WroteInPart old new bs e
    → WroteInPart old new (bs ++ cs) e
wrote-front old new bs cs e p = record {
  wrote = part-front old.log new.log bs cs p.wrote;
  same = p.same;
  told = p.told;
  fault = p.fault;
  kind = p.kind;
}

-- some bytes of a text were written, and then a first part of the piece that comes next
pub piece-part : {W : Type 0} (old mid new : SinkView W)
    (done left piece more text : List ℕ) (e : RunError) → Wrote old mid done
    → done ++ left ≡ text → left ≡ piece ++ more → WroteInPart mid new piece e
    → WroteInPart old new text e
piece-part old mid new done left piece more text e w whole next p =
    subst (λ t. WroteInPart old new t e) (ap (λ l. done ++ l) (sym next) ∙ whole)
    (wrote-back old mid new done (piece ++ more) e w
    (wrote-front mid new piece more e p))

-- with the piece that comes next, what was written and what is left are still the text
pub piece-whole : (done left piece more text : List ℕ)
    → done ++ left ≡ text → left ≡ piece ++ more → (done ++ piece) ++ more ≡ text
piece-whole done left piece more text whole next =
    append_assoc done piece more ∙ ap (λ l. done ++ l) (sym next) ∙ whole

-- the same of a text that is told by an equation
pub wrote-as : {W : Type 0} (old new : SinkView W)
    (bs cs : List ℕ) (e : RunError) → bs ≡ cs → WroteInPart old new bs e
    → WroteInPart old new cs e
wrote-as old new bs cs e same = subst (λ t. WroteInPart old new t e) same
