use Rattle.std.proofs.Common.{sym, ap, subst, ◌∙◌, ◌<◌, length, Some}
use Rattle.serde_json.specs.Data.{object, no_members}
use Rattle.serde_json.specs.Read.{read}
use Rattle.acdm_wire.specs.Plain.{with_members}
use Rattle.acdm_wire.proofs.Json.{json_ok, json_bad, read_needs, text_needs, not_both}
use Rattle.acdm_wire.proofs.line_json.json_in.Goals as goal

pub returns-in_default-clause-reads : goal.returns-in_default-clause-reads
returns-in_default-clause-reads c =
    json_bad c.args.bytes.now (λ utf8. absurd (c.in_default.ensures.cases.0 utf8))

pub returns-in-Ok-from_str-clause-reads : goal.returns-in-Ok-from_str-clause-reads
returns-in-Ok-from_str-clause-reads c =
    let text = c.in-Ok.ensures.cases in
    json_ok c.args.bytes.now _ text.1 (ap read (sym text.0) ∙ c.in-Ok-from_str.ensures.ok)

pub returns-in-Ok-from_str-clause-needs : goal.returns-in-Ok-from_str-clause-needs
returns-in-Ok-from_str-clause-needs c =
    let text = c.in-Ok.ensures.cases in
    read_needs c.args.bytes.now _ text.1 (ap read (sym text.0) ∙ c.in-Ok-from_str.ensures.ok)

pub returns-then-is_memory-clause-memory : goal.returns-then-is_memory-clause-memory
returns-then-is_memory-clause-memory c =
    let text = c.in-Ok.ensures.cases in
    λ e. text_needs c.args.bytes.now text.1
    (subst (λ t. 0 < length t) text.0 (c.in-Err.ensures.memory (c.is_memory.ensures.0
    c.if-is_memory.true)))

pub returns-else-is_memory-clause-reads : goal.returns-else-is_memory-clause-reads
returns-else-is_memory-clause-reads c =
    let text = c.in-Ok.ensures.cases in
    json_bad c.args.bytes.now (λ utf8. ap read (sym text.0) ∙ c.in-Err.ensures.err
    (λ m. not_both c.is_memory.result (c.is_memory.ensures.1 m) c.if-is_memory.false))

pub returns-then-plain_in-clause-reads : goal.returns-then-plain_in-clause-reads
returns-then-plain_in-clause-reads c =
    json_ok c.args.bytes.now _ c.in-Ok.ensures.cases.1 (c.plain_in.ensures c.if-plain_in.true
    ∙ ap (λ ms. Some (object (with_members ms no_members))) (sym c.as_slice.ensures.value))

pub returns-then-plain_in-clause-needs : goal.returns-then-plain_in-clause-needs
returns-then-plain_in-clause-needs c =
    read_needs c.args.bytes.now _ c.in-Ok.ensures.cases.1 (c.plain_in.ensures c.if-plain_in.true)
