use Rattle.std.proofs.Common.{cond, take, ap, sym, subst, ◌∙◌, ne_eqb, arith}
use Rattle.std.proofs.lemmas.List.{take_all}
use Rattle.acdm_record.specs.declared.field.Field.TheVariants.{Layout}
use Rattle.acdm_record.specs.Fields.{bytes_of, number_of}
use Rattle.acdm_record.specs.Faults.{AreOfRecord}
use Rattle.acdm_record.proofs.Stored.{bytes-known, of-known}
use Rattle.acdm_record.proofs.record.Record.bytes.Goals as goal

pub returns-then-get-eq2-clause-layout : goal.returns-then-get-eq2-clause-layout
returns-then-get-eq2-clause-layout c =
    let b = c.self.inside.bytes in
    sym (take_all 160 b (omega (arith, c.self.told)))
    ∙ bytes-known b c.self.told c.in_range.ensures c.self.invariant 2
    (ap (λ r. number_of r Layout) c.self.view_is ∙ sym c.get.ensures.value ∙ c.if-get-eq2.true)
    ∙ ap bytes_of c.self.view_is

pub returns-else-get-eq2-clause-layout : goal.returns-else-get-eq2-clause-layout
returns-else-get-eq2-clause-layout c =
    let b = c.self.inside.bytes in
    ap (λ v. take (cond v 160 128) b) (sym (ne_eqb c.get.result 2 c.if-get-eq2.false))
    ∙ bytes-known b c.self.told c.in_range.ensures c.self.invariant c.get.result
    (ap (λ r. number_of r Layout) c.self.view_is ∙ sym c.get.ensures.value)
    ∙ ap bytes_of c.self.view_is

pub returns-else-get-eq2-clause-of_record : goal.returns-else-get-eq2-clause-of_record
returns-else-get-eq2-clause-of_record c =
    let b = c.self.inside.bytes in
    subst (λ v. AreOfRecord (take (cond v 160 128) b)) (ne_eqb c.get.result 2 c.if-get-eq2.false)
    (of-known b c.self.told c.in_range.ensures c.self.invariant c.get.result
    (ap (λ r. number_of r Layout) c.self.view_is ∙ sym c.get.ensures.value))
