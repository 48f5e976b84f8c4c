use Rattle.std.specs.Prelude.{◌≡◌, ◌+◌, ◌≤◌, ◌++◌, map, vec_len, vec_capacity, sum_by}
use Rattle.std.specs.Vec.Iter.{into_iter_len, into_iter_items}
use Rattle.std.specs.List.{All}
use Rattle.acdm_sessions.specs.Passes.{IsShown}
use Rattle.acdm_sessions.specs.Sessions.{session_end, session_left}
use Rattle.acdm_sessions.proofs.sessions.gathered.Given as goal

abbrev pub invariant-loop-one : goal.invariant-loop-one
invariant-loop-one g l = record {
  count : vec_len l.ended + into_iter_len l.one-iterator ≡ vec_len l.fn.served;
  room : vec_len l.fn.served ≤ vec_capacity l.ended;
  parts : l.all.parts ≡ l.fn.all.parts + vec_len l.ended;
  same : l.desk ≡ l.fn.desk;
  shown : All (λ e. IsShown g.J.Naming.start l.fn.desk e.number e.role e.calls e.torn e.pass)
      l.ended.items;
  amount : l.all.amount ≡ l.fn.all.amount + sum_by (λ e. e.calls) l.ended.items;
  session_end : map (λ e. session_end e.number e.role e.calls e.end)
      l.ended.items
      ++ map (λ s. session_end s.number s.role s.caller.calls s.end)
      (into_iter_items l.one-iterator)
      ≡ map (λ s. session_end s.number s.role s.caller.calls s.end) l.fn.served.items;
  left : map (λ e. session_left e.end e.reader e.writer e.pass) l.ended.items
      ++ map (λ s. session_left s.end s.reader s.writer s.caller.pass) (into_iter_items l.one-iterator)
      ≡ map (λ s. session_left s.end s.reader s.writer s.caller.pass) l.fn.served.items;
}
