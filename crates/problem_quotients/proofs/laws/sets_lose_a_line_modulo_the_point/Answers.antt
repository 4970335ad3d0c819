use Rattle.problem_quotients.proofs.PointComponents.{set_without_component, some_component}
use Rattle.problem_quotients.proofs.laws.sets_lose_a_line_modulo_the_point.Goals as goal

pub returns-clause-some : goal.returns-clause-some
returns-clause-some c = λ S point i p q M cs F P g a k. some_component S F point i p q P g M cs a k

pub returns-clause-each : goal.returns-clause-each
returns-clause-each c = λ S point i p q M cs N m F P g a k h increasing lines.
    set_without_component S F point i p q P g M cs a k N m h (record { increasing = increasing; lines = lines })
