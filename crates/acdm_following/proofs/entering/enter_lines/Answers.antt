use Rattle.std.proofs.Common.{◌≡◌, ◌<◌, ◌+◌, ℕ, List, [], ◌∷◌, ◌++◌, length, take, drop, Ok, Err, subst}
use Rattle.acdm_lines.specs.Lines.{IsLine}
use Rattle.acdm_following.specs.Entering.{EntersText, MayBegin, name_by}
use Rattle.acdm_following.proofs.Entered.{lines_stopped, lines_taken}
use Rattle.acdm_following.proofs.entering.enter_lines.Goals as goal

pub returns-in-Ok : goal.returns-in-Ok
returns-in-Ok g c =
    let P = c.args.pending.now in
    let end = c.in-Some.end in
    let f =
    subst (λ (l : List ℕ). (end < length l) × IsLine (take end l) × (l ≡ take end l ++ 10 ∷ drop (end + 1) l))
    c.as_slice.ensures c.in-Some.ensures in
    let J = c.args.desk.now.history in
    let may =
    subst (λ (l : List ℕ). J ≡ [] → name_by (take end l) ≡ c.args.name.now) c.as_slice-2.ensures
    (subst (λ b. MayBegin c.args.name.now (take end c.as_slice-2.result.now) J b) c.in-Ok-true.field-0-test
    c.in-Ok-true.ensures) in
    lines_taken (tt {0}) c.args.name.now c.args.desk.now c.restore_lines.new.desk P (take end P) (drop (end + 1) P)
    c.take.new.self c.in-Ok.bytes f.1 f.2 may
    (subst (λ (l : List ℕ). EntersText c.args.desk.now c.restore_lines.new.desk l (Ok c.in-Ok.bytes))
    c.as_slice-3.ensures c.in-Ok.ensures) c.take.ensures

pub returns-in-Err-restore_lines : goal.returns-in-Err-restore_lines
returns-in-Err-restore_lines g c =
    let P = c.args.pending.now in
    let end = c.in-Some.end in
    let f =
    subst (λ (l : List ℕ). (end < length l) × IsLine (take end l) × (l ≡ take end l ++ 10 ∷ drop (end + 1) l))
    c.as_slice.ensures c.in-Some.ensures in
    let J = c.args.desk.now.history in
    let may =
    subst (λ (l : List ℕ). J ≡ [] → name_by (take end l) ≡ c.args.name.now) c.as_slice-2.ensures
    (subst (λ b. MayBegin c.args.name.now (take end c.as_slice-2.result.now) J b) c.in-Ok-true.field-0-test
    c.in-Ok-true.ensures) in
    lines_stopped c.args.name.now c.args.desk.now c.restore_lines.new.desk P (take end P) (drop (end + 1) P)
    P c.in-Err-restore_lines.why f.1 f.2 may
    (subst (λ (l : List ℕ). EntersText c.args.desk.now c.restore_lines.new.desk l (Err c.in-Err-restore_lines.why))
    c.as_slice-3.ensures c.in-Err-restore_lines.ensures)
