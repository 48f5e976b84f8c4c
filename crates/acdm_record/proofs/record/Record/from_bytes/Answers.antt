use Rattle.std.proofs.Common.{ap, sym, subst, ◌∙◌, refl, arith}
use Rattle.acdm_record.specs.Fields.{IsRecord, bytes_of, fields_at}
use Rattle.acdm_record.proofs.Judged.{fault-length, AreOfRecord-none, no_record}
use Rattle.acdm_record.proofs.Stored.{judged-zeros, kept-zeros, fields-kept, given_back}
use Rattle.acdm_record.proofs.record.Record.from_bytes.Goals as goal

pub returns-then-not-has_length-clause-refused : goal.returns-then-not-has_length-clause-refused
returns-then-not-has_length-clause-refused c =
    fault-length c.args.bytes.now (sym c.has_length.ensures ∙ c.if-not-has_length.true)

pub invariant_of-result : goal.invariant_of-result
invariant_of-result c =
    let fault = judged-zeros c.args.bytes.now _ c.fault_of.result
    (sym c.has_length.ensures ∙ c.if-not-has_length.false) c.write_padded.ensures
    c.fault_of.ensures in
    subst IsRecord (sym c.write_padded.ensures)
    (kept-zeros c.args.bytes.now (AreOfRecord-none c.args.bytes.now (fault ∙ c.in-None.is)))

pub returns-in-Some-clause-exactly : goal.returns-in-Some-clause-exactly
returns-in-Some-clause-exactly c =
    let fault = judged-zeros c.args.bytes.now _ c.fault_of.result
    (sym c.has_length.ensures ∙ c.if-not-has_length.false) c.write_padded.ensures
    c.fault_of.ensures in (
      λ t. absurd (cc),
      λ r. absurd (no_record c.args.bytes.now c.in-Some.fault (fault ∙ c.in-Some.is) r),
    )

pub returns-in-Some-clause-refused : goal.returns-in-Some-clause-refused
returns-in-Some-clause-refused c =
    judged-zeros c.args.bytes.now _ c.fault_of.result
    (sym c.has_length.ensures ∙ c.if-not-has_length.false) c.write_padded.ensures
    c.fault_of.ensures ∙ c.in-Some.is

pub returns-in-None-clause-fields : goal.returns-in-None-clause-fields
returns-in-None-clause-fields c =
    fields-kept c.args.bytes.now _ (sym c.has_length.ensures ∙ c.if-not-has_length.false)
    c.write_padded.ensures

pub returns-in-None-clause-same : goal.returns-in-None-clause-same
returns-in-None-clause-same c =
    let fault = judged-zeros c.args.bytes.now _ c.fault_of.result
    (sym c.has_length.ensures ∙ c.if-not-has_length.false) c.write_padded.ensures
    c.fault_of.ensures in
    ap (λ xs. bytes_of (fields_at xs)) c.write_padded.ensures
    ∙ given_back c.args.bytes.now
    (AreOfRecord-none c.args.bytes.now (fault ∙ c.in-None.is))
    (λ i. omega (arith, c.type_inv.bytes i))

pub returns-in-None-clause-exactly : goal.returns-in-None-clause-exactly
returns-in-None-clause-exactly c =
    let fault = judged-zeros c.args.bytes.now _ c.fault_of.result
    (sym c.has_length.ensures ∙ c.if-not-has_length.false) c.write_padded.ensures
    c.fault_of.ensures in
    (λ t. AreOfRecord-none c.args.bytes.now (fault ∙ c.in-None.is), λ r. refl)
