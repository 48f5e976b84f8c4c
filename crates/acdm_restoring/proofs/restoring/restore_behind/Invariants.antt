use Rattle.acdm_restoring.proofs.restoring.restore_behind.Given as goal

abbrev pub ghost-read_behind : goal.ghost-read_behind
ghost-read_behind g a = a.place.now.history
