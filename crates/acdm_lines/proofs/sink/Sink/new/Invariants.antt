use Rattle.acdm_lines.proofs.sink.Sink.new.Given as goal

abbrev pub ghost-of : goal.ghost-of
ghost-of g a = g.W.Write.contents a._value.now
