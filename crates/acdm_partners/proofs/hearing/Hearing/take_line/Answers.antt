use Rattle.std.proofs.Common.{[], ◌++◌, map, ap, sym, ◌∙◌}
use Rattle.acdm_lines.specs.Counted.{SourceView}
use Rattle.acdm_partners.specs.Heard.{HearingView, text_of, told, told_by}
use Rattle.acdm_partners.proofs.Telling.{tells-behind, texts-ended}
use Rattle.acdm_partners.proofs.hearing.Hearing.take_line.Goals as goal

pub returns-then-take_from-clause-taken : goal.returns-then-take_from-clause-taken
returns-then-take_from-clause-taken g c = λ e given h.
    let past = map (λ s. s.value.log) c.self.inside.past.items in
    tells-behind g.row.MOST c.args.self.now past _ _ _ _ _
    (sym (ap (λ (v : HearingView). v.texts) c.self.view_is)
    ∙ ap (λ o. past ++ text_of o) (sym c.take.ensures.value ∙ c.in-Some.is))
    (sym (ap (λ (v : HearingView). v.held) c.self.view_is))
    (c.take_from.ensures.taken c.if-take_from.true) given h

pub returns-clause-over : goal.returns-clause-over
returns-clause-over g c = λ e given h.
    let past = map (λ s. s.value.log) c.self.inside.past.items in
    let texts = texts-ended (λ s. s.value.log) c.self.inside.past.items
    c.push_reserved.new.self.items c.of.result c.take.new.self c.take_from.new.source.log
    c.push_reserved.ensures.items c.take.ensures.after
    (ap (λ (v : SourceView g.row.R.Denot). v.log) c.of.ensures) in
    ap (λ w. (given ++ []) ++ told g.row.MOST w) (c.take_from.ensures.none c.if-take_from.false)
    ∙ tells-behind g.row.MOST c.args.self.now past _ _ _ _ _
    (sym (ap (λ (v : HearingView). v.texts) c.self.view_is)
    ∙ ap (λ o. past ++ text_of o) (sym c.take.ensures.value ∙ c.in-Some.is))
    (sym (ap (λ (v : HearingView). v.held) c.self.view_is))
    (c.take_from.ensures.over c.if-take_from.false) given h
    ∙ ap (told_by g.row.MOST) (sym texts)
