use Rattle.std.proofs.Common.{◌≡◌, [], ◌∷◌, ◌++◌, map, sym, ap, subst, ◌∙◌, arith, rules}
use Rattle.std.specs.List.{All}
use Rattle.std.specs.Prelude.{sum_by}
use Rattle.std.proofs.lemmas.List.Elements.{All-push}
use Rattle.std.proofs.lemmas.List.Sums.{sum_by-append}
use Rattle.std.specs.Vec.Iter.{into_iter_items}
use Rattle.acdm_board.specs.Desk.{DeskView}
use Rattle.acdm_sessions.specs.Passes.{IsShown}
use Rattle.acdm_sessions.specs.Sessions.{session_end, session_left}
use Rattle.acdm_sessions.proofs.Seats.{all_taken, empty_of, none_taken, taken_both}
use Rattle.acdm_sessions.proofs.sessions.gathered.Goals as goal

pub returns-clause-session_end : goal.returns-clause-session_end
returns-clause-session_end g c =
    let it = c.loop-one.one-iterator in
    all_taken (λ e. session_end e.number e.role e.calls e.end)
    (λ s. session_end s.number s.role s.caller.calls s.end) c.loop-one.ended.items it.rest.items
    (map (λ s. session_end s.number s.role s.caller.calls s.end) c.args.served.items)
    (sym it.rest.ok.0 ∙ c.in-None.ensures.steps.0) c.loop-one.invariant.session_end

pub returns-clause-left : goal.returns-clause-left
returns-clause-left g c =
    let it = c.loop-one.one-iterator in
    all_taken (λ e. session_left e.end e.reader e.writer e.pass)
    (λ s. session_left s.end s.reader s.writer s.caller.pass) c.loop-one.ended.items it.rest.items
    (map (λ s. session_left s.end s.reader s.writer s.caller.pass) c.args.served.items)
    (sym it.rest.ok.0 ∙ c.in-None.ensures.steps.0) c.loop-one.invariant.left

pub loop-one-init : goal.loop-one-init
loop-one-init g c =
    let none : c.args.ended.items ≡ [] =
    empty_of c.args.ended.items (sym c.args.ended.ok.0 ∙ c.requires.room.0) in
    let all : into_iter_items c.into_iter-one-iterator.result ≡ c.args.served.items = search rules in
    record {
      count = search rules;
      room = search rules;
      parts = search rules;
      same = search rules;
      shown = search rules;
      amount = omega (arith, ap (λ es. sum_by (λ e. e.calls) es) none);
      session_end = none_taken (λ e. session_end e.number e.role e.calls e.end)
          (λ s. session_end s.number s.role s.caller.calls s.end) c.args.ended.items
          (into_iter_items c.into_iter-one-iterator.result) c.args.served.items none all;
      left = none_taken (λ e. session_left e.end e.reader e.writer e.pass)
          (λ s. session_left s.end s.reader s.writer s.caller.pass) c.args.ended.items
          (into_iter_items c.into_iter-one-iterator.result) c.args.served.items none all;
    }

pub loop-one-preserved : goal.loop-one-preserved
loop-one-preserved g c =
    let e = c.left_by.result in
    let items : c.push_reserved.new.self.items ≡ c.loop-one.ended.items ++ e ∷ [] = search rules in
    let here : IsShown g.J.Naming.start c.args.desk.now e.number e.role e.calls e.torn e.pass =
    subst (λ (d : DeskView). IsShown g.J.Naming.start d e.number e.role e.calls e.torn e.pass)
    c.loop-one.invariant.same c.left_by.ensures.shown in
    record {
      count = search rules;
      room = search rules;
      parts = search rules;
      same = rw c.left_by.ensures.desk c.loop-one.invariant.same;
      shown = subst (λ es. All (λ e. IsShown g.J.Naming.start c.args.desk.now e.number e.role
          e.calls e.torn e.pass) es) (sym items)
          (All-push (λ e. IsShown g.J.Naming.start c.args.desk.now e.number e.role e.calls e.torn
          e.pass) c.loop-one.ended.items e c.loop-one.invariant.shown here);
      amount = omega (
        arith,
        c.left_by.ensures.amount,
        c.loop-one.invariant.amount,
        ap (λ es. sum_by (λ e. e.calls) es) items,
        sum_by-append (λ e. e.calls) c.loop-one.ended.items (e ∷ []),
      );
      session_end = taken_both (λ e. session_end e.number e.role e.calls e.end)
          (λ s. session_end s.number s.role s.caller.calls s.end) c.loop-one.ended.items
          c.push_reserved.new.self.items c.left_by.result c.in-Some.one
          (into_iter_items c.loop-one.one-iterator) (into_iter_items c.next.new.self)
          (map (λ s. session_end s.number s.role s.caller.calls s.end) c.args.served.items) items
          c.in-Some.ensures.steps.0 c.left_by.ensures.session_end
          c.loop-one.invariant.session_end;
      left = taken_both (λ e. session_left e.end e.reader e.writer e.pass)
          (λ s. session_left s.end s.reader s.writer s.caller.pass) c.loop-one.ended.items
          c.push_reserved.new.self.items c.left_by.result c.in-Some.one
          (into_iter_items c.loop-one.one-iterator) (into_iter_items c.next.new.self)
          (map (λ s. session_left s.end s.reader s.writer s.caller.pass) c.args.served.items) items
          c.in-Some.ensures.steps.0 c.left_by.ensures.left c.loop-one.invariant.left;
    }
