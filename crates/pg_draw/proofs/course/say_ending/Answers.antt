use Rattle.std.proofs.Common.{rules}
use Rattle.pg_draw.proofs.Sayings.{no_memory_said}
use Rattle.pg_draw.proofs.course.say_ending.Goals as goal

pub returns-in-Err : goal.returns-in-Err
returns-in-Err g c =
    no_memory_said c.write-in-Err.result c.args.ending.now _ _ _ _ c.as_bytes.result.now (search rules)
    c.write-in-Err.ensures.all c.write-in-Err.ensures.front c.write-in-Err.ensures.cause
