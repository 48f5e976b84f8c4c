use Rattle.std.proofs.Common.{sym, ap, ◌∙◌}
use Rattle.serde_json.specs.Read.{read}
use Rattle.acdm_following.proofs.Heads.{json_none, json_ok, not_both}
use Rattle.acdm_following.proofs.head.json_in.Goals as goal

pub returns-in_default : goal.returns-in_default
returns-in_default c = sym (json_none c.args.line.now (λ utf8. absurd (c.in_default.ensures.cases.0 utf8)))

pub returns-in-Ok-from_str : goal.returns-in-Ok-from_str
returns-in-Ok-from_str c =
    let text = c.in-Ok.ensures.cases in
    sym (json_ok c.args.line.now _ text.1 (ap read (sym text.0) ∙ c.in-Ok-from_str.ensures.ok))

pub returns-else-is_memory : goal.returns-else-is_memory
returns-else-is_memory c =
    let text = c.in-Ok.ensures.cases in
    sym (json_none c.args.line.now (λ utf8. ap read (sym text.0) ∙ c.in-Err.ensures.err
    (λ m. not_both c.is_memory.result (c.is_memory.ensures.1 m) c.if-is_memory.false)))
