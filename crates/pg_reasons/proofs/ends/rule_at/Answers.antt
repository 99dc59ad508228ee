use Rattle.pg_reasons.proofs.ends.rule_at.Goals as goal

pub returns-in-Ok : goal.returns-in-Ok
returns-in-Ok c = λ it document from picks to room fits text. (c.in-Ok.ensures.column it document from to picks room).0

pub returns-in-Err : goal.returns-in-Err
returns-in-Err c = λ it document from picks to room fits text.
    c.in-Err.ensures.column it document from to picks room
