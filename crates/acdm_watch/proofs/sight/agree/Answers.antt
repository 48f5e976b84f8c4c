use Rattle.std.proofs.Common.{◌≡◌, ◌≤◌, length, take, sym, ◌∙◌, ap, arith}
use Rattle.std.proofs.lemmas.List.{take-take}
use Rattle.acdm_row.specs.Notes.{entries_of}
use Rattle.acdm_watch.proofs.sight.agree.Goals as goal

pub returns-else-len-to-clause-same : goal.returns-else-len-to-clause-same
returns-else-len-to-clause-same c =
    let es = entries_of c.args.notes.now.items in
    let fs = c.args.front.now.entries in
    let seen = c.args.pass.now.seen in
    let to = c.args.to in
    let theirs : c.meet_front.new.other ≡ c.args.front.now = c.meet_front.ensures.theirs in
    let long : to ≤ length fs = omega (
      arith,
      c.len.ensures,
      c.if-len-to.false,
      ap (λ s. length
          s.entries) theirs,
    ) in
    let within : to ≤ c.meet_front.result = omega (
      arith,
      long,
      c.requires.pass,
      c.meet_front.ensures.length,
    ) in
    sym (take-take to (length fs) es long) ∙ ap (take to) (sym c.requires.begins)
    ∙ sym (take-take to c.meet_front.result fs within)
    ∙ ap (take to) (sym c.meet_front.ensures.same) ∙ take-take to c.meet_front.result seen within
