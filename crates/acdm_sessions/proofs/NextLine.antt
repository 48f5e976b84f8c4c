-- A line that is taken whole from what is held.
use Rattle.std.proofs.Common.{◌≡◌, ℕ, List, [], ◌∷◌, ◌++◌, refl, sym, ◌∙◌, append-nil, arith}
use Rattle.acdm_lines.specs.Counted.{SourceView}
use Rattle.acdm_lines.specs.Lines.{IsLine}
use Rattle.acdm_lines.specs.NextLine.{TakesLine}
use Rattle.acdm_lines.specs.declared.lines.Lines.{Lines}
use Rattle.acdm_sessions.specs.Stream.{kept}
use Rattle.acdm_sessions.specs.declared.stream.TheConstants.{MOST_KEPT}

-- the reader is not asked
pub takes_whole : {R : Type 0} (reader : SourceView R) (before after : Lines MOST_KEPT)
    (line : List ℕ) → IsLine line → before.window ≡ line ++ 10 ∷ after.window
    → after.line ≡ kept line → after.reads_left ≡ before.reads_left
    → TakesLine MOST_KEPT reader reader before after
takes_whole reader before after line is_line split same reads = record {
  text = [];
  line = line;
  gave = sym (append-nil reader.log);
  same = refl;
  each_gave = omega (arith, reads);
  is_line = is_line;
  split = append-nil before.window ∙ split;
  bytes_are = same;
  well = refl;
}
