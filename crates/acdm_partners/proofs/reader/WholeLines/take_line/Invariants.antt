use Rattle.std.proofs.Common.{◌≡◌, false, List, ℕ, ◌++◌}
use Rattle.acdm_partners.specs.Heard.{told, told_by}
use Rattle.acdm_partners.proofs.reader.WholeLines.take_line.Given as goal

abbrev pub invariant-loop : goal.invariant-loop
invariant-loop g l = record {
  none : l.self-inside.in_hand ≡ false;
  goes : (given : List ℕ) → given ++ l.fn.self.left ≡ told_by g.row.MOST l.fn.self.texts
      → given ++ told g.row.MOST l.self-inside.hearing.held
      ≡ told_by g.row.MOST l.self-inside.hearing.texts;
}
