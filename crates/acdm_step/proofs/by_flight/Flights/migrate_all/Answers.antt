use Rattle.std.proofs.Common.{◌<◌, ◌≤◌, length, get_or, map, take, drop, sym, ap, ◌∙◌, arith}
use Rattle.std.proofs.Common.{length-append, length-drop, length-take-le}
use Rattle.std.proofs.lemmas.List.{length-map}
use Rattle.std.proofs.lemmas.List.Edits.{map_over_more}
use Rattle.std.proofs.lemmas.Option.{slice_get-get_or, get_or_from_slice_get}
use Rattle.acdm_record.specs.Fields.{new_record, migrated}
use Rattle.acdm_step.proofs.Long.{at_rest}
use Rattle.acdm_step.proofs.by_flight.Flights.migrate_all.Goals as goal

pub loop-place-preserved : goal.loop-place-preserved
loop-place-preserved c =
    let all = c.args.self.now in
    let records = c.loop-place.self in
    let place = c.loop-place.place in
    let f = migrated in
    let r = get_or records place (new_record 0) in
    let before : place < length all =
    omega (arith, c.loop-place-test.true, c.len-place-end.ensures) in
    let most : place ≤ length all = omega (arith, before) in
    let inside : place < length records =
    omega (
      arith,
      before,
      ap length c.loop-place.invariant,
      length-append (map f (take place all)) (drop place all),
      length-map (take place all) f,
      length-take-le place all most,
      length-drop place all,
    ) in
    let there = slice_get-get_or records place (new_record 0) inside in
    c.migrate_at.ensures r there
    ∙ map_over_more f all records place r before c.loop-place.invariant
    (sym (get_or_from_slice_get records place r r there))

pub migrate_at-requires-clause-first : goal.migrate_at-requires-clause-first
migrate_at-requires-clause-first c = λ r there.
    let all = c.args.self.now in
    let before : c.loop-place.place < length all =
    omega (arith, c.loop-place-test.true, c.len-place-end.ensures) in
    at_rest migrated all c.loop-place.self c.loop-place.place r before c.loop-place.invariant there
    c.requires
