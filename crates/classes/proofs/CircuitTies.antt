-- Circuits of a problem, in the space of tuples: how they start and go on, and that they never settle.
use Rattle.std.proofs.Common.{◌≡◌, ℕ, ◌<◌, List, [], ◌∷◌, length, refl, sym, subst}
use Rattle.vector_spaces.proofs.Space.{Space}
use Rattle.vector_spaces.proofs.Tuples.{Tuple}
use Rattle.linear_algebra.specs.Scalars.{Scalars, IsField}
use Rattle.linear_algebra.specs.Vectors.{AreVectors}
use Rattle.linear_algebra.proofs.Coordinates.{tuple, space}
use Rattle.linear_algebra.proofs.Elements.{Element, scalar_field}
use Rattle.exchanges.proofs.ReachedSets.{kept_by_exchange, nearer_by_exchange}
use Rattle.exchanges.proofs.SettledSets.{settled_at_set}
use Rattle.exchanges.specs.Exchanges.{IsExchangeToward, IsSettled}
use Rattle.classes.specs.Circuits.{GoesOnInCircuit, IsInCircuit, IsPulledApart}
use Rattle.classes.specs.Supports.{HaveCommonSupport}
use Rattle.classes.proofs.StepTies.{into_within, overlap_of_tuples, step_of_exchange}
use Rattle.matching_state.specs.Missing.{Misses}
use Rattle.matching_state.specs.Overlaps.{InSupport, IsOverlap}
use Rattle.matching_state.specs.LinePlaces.{IsExposed, IsOuter}
use Rattle.matching_state.proofs.Ties.{pairs, exposed_of, coordinates_vector, component_in_support, misses_from}
use Rattle.matching_state.proofs.Tips.{outer_of}
use Rattle.matching_state.proofs.TipsOfTuples.{exposed_of_tuples, support_of_tuples}
use Rattle.parity_lines.proofs.Border.{tuples_at}
use Rattle.parity_lines.specs.LineSets.{IsLineSet, IsIndependentSet}
use Rattle.parity_lines.specs.Problems.{ParityProblem, IsProblem}
use Rattle.parity_theory.proofs.Circuits.{circuit_stays, circuits_never_settle, overlap_before_step}
use Rattle.parity_theory.proofs.Exposure.{Exposed, same_support}
use Rattle.parity_theory.proofs.StepsToward.{StepToward}
use Rattle.parity_theory.proofs.Supports.{HaveCommonLine, InSupport as InSupport_of}

module _ (S : Scalars) (F : IsField S) (p : ParityProblem) (P : IsProblem S p) (M : List ℕ) (i : IsIndependentSet S p M) (e : ℕ)
    (h : e < length p.lines) where
  abbrev sp : Space (scalar_field S F) (Tuple (Element S) p.dimension)
  sp = space S F p.dimension

  abbrev line : ℕ → Tuple (Element S) p.dimension × Tuple (Element S) p.dimension
  line = tuples_at S F p

  -- the support of an exposed line over tuples
  pub support_to_tuples : (tip outer : Tuple (Element S) p.dimension) (cs : List (Element S × Element S)) →
      Exposed sp line M e tip outer cs → (m : ℕ) → InSupport S p M e m → InSupport_of (scalar_field S F) m cs M
  support_to_tuples tip outer cs x m (t, ds, k, c) =
      let o = outer_of S F p P M i e h (exposed_of_tuples S F p P M i e h tip outer cs x) in
      same_support sp line M e _ _ _ (exposed_of S F p P M e t ds o.0 i h k o.1) tip outer cs x m
      (component_in_support S F p P M ds m (coordinates_vector S F p P M ds t k.combines) c)

  -- where N pulls e and a line of its support apart, there is a circuit with each outer
  pub circuit_starts : (N outer : List ℕ) → IsPulledApart S F p N M e → IsOuter S p M e outer → IsInCircuit S F p N (outer ∷ []) e M
  circuit_starts N outer a o = let k = a.in_support in record {
    outer = outer;
    keeps = refl;
    tip = tuple S F p.dimension k.0;
    other = a.other;
    circuit = record {
      cs = pairs S F k.1;
      exposed = exposed_of S F p P M e k.0 k.1 outer i h k.2 o;
      in_support = component_in_support S F p P M k.1 a.other (coordinates_vector S F p P M k.1 k.0 k.2.combines) k.3;
    };
    wide = a.wide;
  }

  module _ (N : List ℕ) (j : IsIndependentSet S p N) (len : length N ≡ length M) (keep : List (List ℕ)) (v : AreVectors S p.dimension keep)
      (c : IsInCircuit S F p N keep e M) where
    -- the outer that is kept is missed
    pub circuit_misses : Misses S p M keep
    circuit_misses = subst (Misses S p M) (sym c.keeps)
        (misses_from S F p P M (c.outer ∷ []) i.line_set.within (subst (AreVectors S p.dimension) c.keeps v) c.circuit.exposed.apart)

    pub circuit_exposed : IsExposed S p M e
    circuit_exposed = exposed_of_tuples S F p P M i e h c.tip (tuple S F p.dimension c.outer) c.circuit.cs c.circuit.exposed

    pub never_settles : ¬ (IsSettled S p keep N M)
    never_settles s = circuits_never_settle sp line N e c.other c.tip (tuple S F p.dimension c.outer) c.wide M (sym len) c.circuit
        (settled_at_set S F p P M i (c.outer ∷ []) (subst (AreVectors S p.dimension) c.keeps v) (subst (Misses S p M) c.keeps circuit_misses) N
        j.line_set.within (subst (λ vs. IsSettled S p vs N M) c.keeps s) j)

    module _ (L : List ℕ) (out into : ℕ) (w : IsExchangeToward S p keep N M out into L) (l : IsLineSet p L) where
      pub comes_in : into < length p.lines
      comes_in = into_within S F p P M i keep v circuit_misses N j.line_set.within out into L w l

      abbrev made : StepToward sp line M (tuple S F p.dimension c.outer ∷ []) N
      made = step_of_exchange S F p P M i (c.outer ∷ []) (subst (AreVectors S p.dimension) c.keeps v)
          (subst (Misses S p M) c.keeps circuit_misses) N j.line_set.within out into L
          (subst (λ vs. IsExchangeToward S p vs N M out into L) c.keeps w) l

      -- where the supports meet, the lines overlap before the step
      pub overlap_before : HaveCommonSupport S p M e into → IsOverlap S p M e into
      overlap_before (m, a, b) = overlap_of_tuples S F p P M i e into h comes_in
          (overlap_before_step sp line N e c.other c.tip (tuple S F p.dimension c.outer) c.wide M (sym len) c.circuit made
          (m, support_to_tuples c.tip (tuple S F p.dimension c.outer) c.circuit.cs c.circuit.exposed m a, at_into m b))
        where
          at_into : (m : ℕ) → InSupport S p M into m → InSupport_of (scalar_field S F) m made.cs M
          at_into m (t, ds, k, d) =
              let o = outer_of S F p P M i into comes_in w.can.exposed in
              same_support sp line M into _ _ _ (exposed_of S F p P M into t ds o.0 i comes_in k o.1) made.tip made.outer made.cs made.exposed m
              (component_in_support S F p P M ds m (coordinates_vector S F p P M ds t k.combines) d)

      -- where they don't, the circuit goes on
      pub circuit_goes_on : ¬ (HaveCommonSupport S p M e into) → GoesOnInCircuit S F p N keep e M L
      circuit_goes_on n = record {
        circuit = record {
          outer = c.outer;
          keeps = c.keeps;
          tip = c.tip;
          other = c.other;
          circuit = circuit_stays sp line N e c.other c.tip (tuple S F p.dimension c.outer) c.wide M (sym len) c.circuit made apart;
          wide = c.wide;
        };
        as_long = (kept_by_exchange S F p P keep N j.line_set.within M L out into i w.can w.swap v circuit_misses l).as_long;
        nearer = nearer_by_exchange S F p P keep N j.line_set.within M L out into i w.can w.swap j.line_set.increasing l.increasing;
      }
        where
          apart : ¬ (HaveCommonLine (scalar_field S F) c.circuit.cs made.cs M)
          apart (m, a, b) = n (
            m,
            support_of_tuples S F p P M i e h c.tip (tuple S F p.dimension c.outer) c.circuit.cs c.circuit.exposed m a,
            support_of_tuples S F p P M i into comes_in made.tip made.outer made.cs made.exposed m b,
          )
