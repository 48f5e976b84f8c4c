use Rattle.acdm_lines.proofs.source.Source.new.Given as goal

abbrev pub ghost-of : goal.ghost-of
ghost-of g a = g.R.Read.remaining a._value.now
