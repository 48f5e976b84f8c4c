use Rattle.std.proofs.Common.{◌≡◌, ◌≤◌, ◌+◌, ◌-◌, ◌++◌, ℕ, [], ◌∷◌, List, ap, sym, ◌∙◌, length, take, drop, true, subst}
use Rattle.std.proofs.Math.Seq.{take-length}
use Rattle.std.proofs.lemmas.List.{take_rest, length-take-le}
use Rattle.acdm_partners.specs.Heard.{HeardView, rest_of, told, told_by}
use Rattle.acdm_partners.proofs.Telling.{gives-end, gives-part}
use Rattle.acdm_partners.proofs.reader.WholeLines.give.Goals as goal

pub returns-then-count-buf-clause-gives : goal.returns-then-count-buf-clause-gives
returns-then-count-buf-clause-gives g c = λ given h.
    let at = c.self.inside.at in
    let line = c.self.inside.hearing.line in
    let all = told_by g.row.MOST c.self.inside.hearing.texts in
    let in_hand : c.self.inside.in_hand ≡ true =
    ap (λ (v : HeardView). v.in_line) c.self.view_is ∙ c.requires in
    let left : c.args.self.now.left
    ≡ drop at (line ++ 10 ∷ []) ++ told g.row.MOST c.self.inside.hearing.held =
    sym (ap (λ (v : HeardView). v.left) c.self.view_is)
    ∙ ap (λ b. rest_of b at line ++ told g.row.MOST c.self.inside.hearing.held) in_hand in
    let rest : take (length c.line.result.now - at) (drop at c.line.result.now) ≡ drop at line =
    take_rest c.line.result.now at ∙ ap (drop at) c.line.ensures in
    gives-end at line (told g.row.MOST c.self.inside.hearing.held) _ _ given c.args.self.now.left all
    (c.self.inside.inside in_hand) left rest c.put_end.ensures
    (h ∙ sym (ap (λ (v : HeardView). told_by g.row.MOST v.texts) c.self.view_is))

pub returns-else-count-buf-clause-gives : goal.returns-else-count-buf-clause-gives
returns-else-count-buf-clause-gives g c = λ given h.
    let at = c.self.inside.at in
    let line = c.self.inside.hearing.line in
    let held = told g.row.MOST c.self.inside.hearing.held in
    let all = told_by g.row.MOST c.self.inside.hearing.texts in
    let in_hand : c.self.inside.in_hand ≡ true =
    ap (λ (v : HeardView). v.in_line) c.self.view_is ∙ c.requires in
    let left : c.args.self.now.left ≡ drop at (line ++ 10 ∷ []) ++ held =
    sym (ap (λ (v : HeardView). v.left) c.self.view_is)
    ∙ ap (λ b. rest_of b at line ++ held) in_hand in
    let part : List ℕ = take (length c.line.result.now - at) (drop at c.line.result.now) in
    let rest : part ≡ drop at line = take_rest c.line.result.now at ∙ ap (drop at) c.line.ensures in
    let count : length c.put_part.new.buf ≡ length c.args.buf.now =
    ap length c.put_part.ensures ∙ length-take-le (length c.args.buf.now) part c.if-count-buf.false in
    let bytes : take (length c.put_part.new.buf) c.put_part.new.buf
    ≡ take (length c.put_part.new.buf) part =
    take-length c.put_part.new.buf ∙ c.put_part.ensures ∙ ap (λ n. take n part) (sym count) in
    ap (λ b. (given ++ take (length c.put_part.new.buf) c.put_part.new.buf)
    ++ (rest_of b (at + length c.put_part.new.buf) line ++ held)) in_hand
    ∙ gives-part at (length c.put_part.new.buf) line held part _ given c.args.self.now.left all
    (c.self.inside.inside in_hand) left rest bytes
    (subst (λ n. n ≤ length part) (sym count) c.if-count-buf.false)
    (h ∙ sym (ap (λ (v : HeardView). told_by g.row.MOST v.texts) c.self.view_is))
