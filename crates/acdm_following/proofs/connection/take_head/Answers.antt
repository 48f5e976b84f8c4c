use Rattle.std.proofs.Common.{◌≡◌, ◌<◌, ◌≤◌, ◌+◌, ℕ, List, [], ◌∷◌, ◌++◌, length, take, drop, subst, sym, ap, ◌∙◌}
use Rattle.std.proofs.Common.{arith, append-nil}
use Rattle.std.specs.Prelude.{option_map}
use Rattle.std.proofs.lemmas.List.{length-take-le}
use Rattle.acdm_lines.specs.Lines.{IsLine}
use Rattle.acdm_following.specs.Heads.{head_of, head_view, says_none, too_long}
use Rattle.acdm_following.proofs.connection.take_head.Goals as goal

pub returns-then-text-gt-MOST_HEAD : goal.returns-then-text-gt-MOST_HEAD
returns-then-text-gt-MOST_HEAD c =
    let P = c.args.pending.now in
    let same : length c.as_slice-text.result.now ≡ length P = ap length c.as_slice-text.ensures in
    let long : 256 < length P = omega (arith, c.if-text-gt-MOST_HEAD.true, same) in
    too_long P [] (subst IsLine c.as_slice-text.ensures c.in_default.ensures) long (sym (append-nil P))

pub returns-then-end-gt-MOST_HEAD : goal.returns-then-end-gt-MOST_HEAD
returns-then-end-gt-MOST_HEAD c =
    let P = c.args.pending.now in
    let end = c.in-Some.end in
    let f =
    subst (λ (l : List ℕ). (end < length l) × IsLine (take end l) × (l ≡ take end l ++ 10 ∷ drop (end + 1) l))
    c.as_slice-text.ensures c.in-Some.ensures in
    let inside : end ≤ length P = omega (arith, f.0) in
    let all : length (take end P) ≡ end = length-take-le end P inside in
    let long : 256 < length (take end P) = omega (arith, c.if-end-gt-MOST_HEAD.true, all) in
    too_long (take end P) (10 ∷ drop (end + 1) P) f.1 long f.2

pub returns-in-Ok-None : goal.returns-in-Ok-None
returns-in-Ok-None c =
    let P = c.args.pending.now in
    let end = c.in-Some.end in
    let f =
    subst (λ (l : List ℕ). (end < length l) × IsLine (take end l) × (l ≡ take end l ++ 10 ∷ drop (end + 1) l))
    c.as_slice-text.ensures c.in-Some.ensures in
    let says =
    subst (λ (l : List ℕ). option_map head_view c.in-Ok-None.field-0 ≡ head_of (take end l)) c.as_slice-text.ensures
    c.in-Ok-None.ensures in
    says_none (take end P) (drop (end + 1) P) (record { is_line = f.1; split = f.2 })
    (sym says ∙ ap (option_map head_view) c.in-Ok-None.field-0-is)
