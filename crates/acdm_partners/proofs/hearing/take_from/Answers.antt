use Rattle.std.proofs.Common.{◌≡◌, ℕ, Ok, subst}
use Rattle.acdm_lines.specs.Counted.{SourceView}
use Rattle.acdm_lines.specs.NextLine.{Takes, TakesLine, TakesRest}
use Rattle.acdm_lines.specs.declared.lines.Ending.{Ending}
use Rattle.acdm_lines.specs.declared.lines.Ending.TheVariants.{LineFeed, Input}
use Rattle.acdm_lines.specs.declared.lines.Lines.{Lines}
use Rattle.acdm_partners.proofs.Telling.{leaves-line, tells-line, tells-rest}
use Rattle.acdm_partners.proofs.hearing.take_from.Goals as goal

module _ {R : Type 0} (most : ℕ) (old new : SourceView R) (before after : Lines most) (ending : Ending) where
  line_taken : ending ≡ LineFeed → Takes most old new before after (Ok ending)
      → TakesLine most old new before after
  line_taken e t = subst (λ x. Takes most old new before after (Ok x)) e t

  rest_taken : ending ≡ Input → Takes most old new before after (Ok ending)
      → TakesRest most old new before after
  rest_taken e t = subst (λ x. Takes most old new before after (Ok x)) e t

pub returns-in-Ok-LineFeed-clause-leaves : goal.returns-in-Ok-LineFeed-clause-leaves
returns-in-Ok-LineFeed-clause-leaves g c = λ e.
    let t = line_taken g.row.MOST c.args.source.now c.next.new.reader c.args.lines.now c.next.new.self
    c.in-Ok-LineFeed.field-0 c.in-Ok-LineFeed.field-0-is c.in-Ok-LineFeed.ensures.takes in
    leaves-line _ _ t.text t.line _ _ t.gave c.requires t.is_line t.split

pub returns-in-Ok-LineFeed-clause-taken : goal.returns-in-Ok-LineFeed-clause-taken
returns-in-Ok-LineFeed-clause-taken g c = λ e.
    let t = line_taken g.row.MOST c.args.source.now c.next.new.reader c.args.lines.now c.next.new.self
    c.in-Ok-LineFeed.field-0 c.in-Ok-LineFeed.field-0-is c.in-Ok-LineFeed.ensures.takes in
    tells-line g.row.MOST _ _ t.text t.line _ _ _ t.gave c.requires t.is_line t.split t.bytes_are

pub returns-in-Ok-Input-clause-over : goal.returns-in-Ok-Input-clause-over
returns-in-Ok-Input-clause-over g c = λ e.
    let t = rest_taken g.row.MOST c.args.source.now c.next.new.reader c.args.lines.now c.next.new.self
    c.in-Ok-Input.field-0 c.in-Ok-Input.field-0-is c.in-Ok-Input.ensures.takes in
    tells-rest g.row.MOST _ _ t.text _ t.gave c.requires t.is_line

pub returns-in-Err-clause-over : goal.returns-in-Err-clause-over
returns-in-Err-clause-over g c = λ e.
    let t = c.in-Err.ensures.takes in
    tells-rest g.row.MOST _ _ t.text _ t.gave c.requires t.is_line
