use Rattle.std.proofs.Common.{Some, ap, subst, sym, ◌∙◌}
use Rattle.std.specs.Io.KnownBytes.{Consumes}
use Rattle.acdm_following.specs.Entering.{EntersText}
use Rattle.acdm_following.proofs.Entered.{left_of, text_restored}
use Rattle.acdm_following.proofs.entering.restore_lines.Goals as goal

pub returns : goal.returns
returns g c =
    let before = c.args.desk.now in
    let after = c.restore_behind-restored.new.desk in
    let text = c.args.text.now in
    let left = c.into_inner-left.result.now in
    let reader = c.restore_behind-restored.new.reader in
    let first = c.restore_behind-restored.ensures.first ∙ ap (λ s. s.first) c.new-source.ensures in
    let known = subst (λ f. Consumes f (Some left) reader.log) first c.into_inner-left.ensures.known in
    subst (λ r. EntersText before after text r) (sym c.answer_of.ensures)
    (text_restored before after c.new-source.result reader text left c.restore_behind-restored.result
    (ap (λ s. s.log) c.new-source.ensures) (left_of text left reader.log known) c.into_inner-left.ensures.end
    c.restore_behind-restored.ensures.restores)
