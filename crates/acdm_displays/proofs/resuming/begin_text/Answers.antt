use Rattle.std.proofs.Common.{◌≡◌, ◌++◌, ap, subst, sym, true, ◌∙◌}
use Rattle.std.specs.Prelude.{None, Some}
use Rattle.acdm_feed.specs.Resumed.{named_line}
use Rattle.acdm_displays.specs.Displayed.{IsNameOf}
use Rattle.acdm_displays.proofs.Texts.{begun_named, begun_unnamed}
use Rattle.acdm_displays.proofs.resuming.begin_text.Goals as goal

pub returns-in_default-clause-begins : goal.returns-in_default-clause-begins
returns-in_default-clause-begins g c =
    let seen = c.pass_before.new.watch.seen in
    let same : c.in_ok-name.field-0.name ≡ None = cc in
    begun_unnamed c.args.room c.args.number c.in_ok-name.field-0.is_all seen c.args.writer.now.log
    c.in_ok-name.ensures.reaches c.in_ok-name.ensures.past
    (subst (λ o. IsNameOf seen o) same c.in_ok-name.ensures.named)

pub returns-then-is_all-clause-begins : goal.returns-then-is_all-clause-begins
returns-then-is_all-clause-begins g c =
    let seen = c.pass_before.new.watch.seen in
    let log = c.args.writer.now.log in
    let same : c.in_ok-name.field-0.name ≡ Some c.in-Some.name = cc in
    let all : c.in_ok-name.field-0.is_all ≡ true = cc in
    begun_named c.args.room c.args.number c.args.number c.in_ok-name.field-0.is_all seen c.in-Some.name log
    c.write_name.new.writer.log c.in_ok-name.ensures.reaches c.in_ok-name.ensures.past
    (subst (λ o. IsNameOf seen o) same c.in_ok-name.ensures.named) (sym (c.in_ok-name.ensures.reaches all))
    (c.in_ok-write_name.ensures.written
    ∙ ap (λ s. log ++ named_line s c.args.number c.args.room) c.as_str.ensures.value)

pub returns-clause-begins : goal.returns-clause-begins
returns-clause-begins g c =
    let seen = c.pass_before.new.watch.seen in
    let log = c.args.writer.now.log in
    let same : c.in_ok-name.field-0.name ≡ Some c.in-Some.name = cc in
    begun_named c.args.room c.args.number c.len-next.result c.in_ok-name.field-0.is_all seen c.in-Some.name log
    c.write_name-2.new.writer.log c.in_ok-name.ensures.reaches c.in_ok-name.ensures.past
    (subst (λ o. IsNameOf seen o) same c.in_ok-name.ensures.named) c.len-next.ensures
    (c.in_ok-write_name-2.ensures.written
    ∙ ap (λ s. log ++ named_line s c.len-next.result c.args.room) c.as_str-2.ensures.value)
