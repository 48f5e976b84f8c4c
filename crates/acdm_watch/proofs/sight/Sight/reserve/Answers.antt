use Rattle.std.proofs.Common.{◌≡◌, ◌-◌, ◌+◌, rules, length, ap, arith}
use Rattle.acdm_watch.proofs.Places.{are_length, keeps}
use Rattle.acdm_watch.proofs.sight.Sight.reserve.Goals as goal

pub invariant_of-self-in_err-reserve-2 : goal.invariant_of-self-in_err-reserve-2
invariant_of-self-in_err-reserve-2 c =
    keeps c.self.inside.front c.reserve-2.new.self c.self.inside.notes.items
    c.reserve.new.self.items c.reserve-2.ensures.row c.reserve-2.ensures.entries
    c.reserve.ensures.items
    (omega (arith, c.self.invariant.room, c.reserve-2.ensures.kept)) c.self.invariant

pub returns-clause-room : goal.returns-clause-room
returns-clause-room c =
    let a = are_length c.self.inside.front.row.cells c.self.inside.notes.items c.self.invariant.are
    in
    let p = ap (λ s. length s.entries) c.self.view_is in
    let more : c.in_ok-more.more ≡ c.len.result - c.len-2.result + 1 = search rules in
    omega (
      arith,
      a,
      p,
      c.in_ok-reserve.ensures.ok,
      c.in_ok-reserve-2.ensures.room,
      more,
      c.len.ensures,
      c.len-2.ensures,
      c.self.invariant.shorter,
      ap (λ xs. length xs)
          c.reserve.ensures.items,
      c.reserve.ensures.len,
    )
