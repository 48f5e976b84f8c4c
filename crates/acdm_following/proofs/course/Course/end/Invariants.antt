use Rattle.std.proofs.Common.{false}
use Rattle.acdm_following.specs.Courses.{asked}
use Rattle.acdm_following.proofs.course.Course.end.Given as goal

abbrev pub ghost-of : goal.ghost-of
ghost-of g = asked g._value.now.0.now.course g._value.now.1 false
