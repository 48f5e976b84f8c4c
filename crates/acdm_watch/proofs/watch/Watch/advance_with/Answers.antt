use Rattle.std.proofs.Common.{◌≡◌, ◌∷◌, List, length, reverse, sym, ap, ◌∙◌, subst, rules}
use Rattle.std.specs.Prelude.{Ok, None}
use Rattle.std.proofs.lemmas.List.{length-reverse}
use Rattle.acdm_step.specs.declared.entry.Entry.{Entry}
use Rattle.acdm_step.specs.History.{IsLegal, replay}
use Rattle.acdm_watch.proofs.Next.{legal_with}
use Rattle.acdm_watch.proofs.watch.Watch.advance_with.Goals as goal

pub unreachable-requires : goal.unreachable-requires
unreachable-requires c =
    let e = c.look_with-note.result.0.now.entry in
    let xs = c.reserve.new.self.entries in
    let row = c.self.inside.sight.row in
    let same : xs ≡ c.self.inside.sight.entries = c.reserve.ensures.entries in
    let pass : IsLegal row.sigs (reverse c.args.pass.now.seen) =
    subst (λ r. IsLegal r.sigs (reverse c.args.pass.now.seen)) c.reserve.ensures.row
    c.look_with-note.ensures.legal in
    let legal : IsLegal row.sigs (e ∷ reverse xs) =
    legal_with row.sigs xs c.args.pass.now.seen e pass c.look_with-note.ensures.seen in
    let board = c.self.invariant.replays
    ∙ ap (λ (es : List Entry). replay row.sigs (reverse es)) (sym same) in
    let number : c.len-number.result ≡ length (reverse xs) = search (rules, length-reverse) in
    let none : c.plan_of.result ≡ Ok None = search rules in
    c.plan_of.ensures.must row.sigs (reverse xs) legal board number none
