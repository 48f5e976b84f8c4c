use Rattle.std.proofs.Common.{true}
use Rattle.acdm_following.specs.Courses.{asked}
use Rattle.acdm_following.proofs.course.Course.ask.Given as goal

abbrev pub ghost-of : goal.ghost-of
ghost-of g = asked g._value.now.0.now.course g._value.now.1 true
