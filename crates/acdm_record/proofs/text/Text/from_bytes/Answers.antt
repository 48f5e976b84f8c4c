use Rattle.std.proofs.Common.{◌≡◌, ◌≤◌, true, length, rules}
use Rattle.acdm_record.specs.Fields.{is_text}
use Rattle.acdm_record.proofs.KeptTexts.{kept-padded, text_from-padded}
use Rattle.acdm_record.proofs.text.Text.from_bytes.Goals as goal

pub invariant_of-result : goal.invariant_of-result
invariant_of-result g c =
    let some : 1 ≤ length c.args.bytes.now = search rules in
    let short : length c.args.bytes.now ≤ g.row.N = search rules in
    let printable : is_text c.args.bytes.now ≡ true = search rules in
    kept-padded g.row.N _ c.args.bytes.now c.write_padded.new.part some short printable
    c.write_padded.ensures

pub returns : goal.returns
returns g c =
    let some : 1 ≤ length c.args.bytes.now = search rules in
    let short : length c.args.bytes.now ≤ g.row.N = search rules in
    let printable : is_text c.args.bytes.now ≡ true = search rules in
    text_from-padded g.row.N _ c.args.bytes.now c.write_padded.new.part some short printable
    c.write_padded.ensures
