use Rattle.std.proofs.Common.{length, refl}
use Rattle.std.proofs.lemmas.Result.{IfOk-weaker}
use Rattle.small_fields.specs.Laws.ModularField.{modular_field}
use Rattle.small_fields.specs.Laws.Primes.{prime_2}
use Rattle.small_fields.specs.ScalarsOf.{scalars_of}
use Rattle.cographic.proofs.CographicLaw.{cographic_law}
use Rattle.cographic.proofs.vectors.represent.Goals as goal

pub returns-clause-independent : goal.returns-clause-independent
returns-clause-independent c = IfOk-weaker c.rows_over.result _ _ (λ m G L h. cographic_law (scalars_of 2) (modular_field 2 prime_2) refl
    c.args.graph.now.ends (length c.args.graph.now.names) m G c.edges-edges.ensures.graph.within c.requires L h) c.rows_over.ensures
