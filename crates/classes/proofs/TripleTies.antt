-- The turn of a violated triple: the set that a walk reaches separates the middle line and one of the others.
use Rattle.std.proofs.Common.{◌≡◌, ℕ, inl, inr, List, [], ◌∷◌, length, get_or, true}
use Rattle.vector_spaces.proofs.Members.{In-get_or}
use Rattle.vector_spaces.proofs.Space.{Space}
use Rattle.vector_spaces.proofs.Tuples.{Tuple}
use Rattle.class_theory.proofs.Labels.{Triple}
use Rattle.class_theory.proofs.TripleTurns.{TripleStart, triple_step}
use Rattle.families.specs.Families.{SetFamily}
use Rattle.linear_algebra.specs.Scalars.{Scalars, IsField}
use Rattle.linear_algebra.specs.Vectors.{IsVector}
use Rattle.linear_algebra.proofs.Coordinates.{space, tuple}
use Rattle.linear_algebra.proofs.Elements.{Element, scalar_field}
use Rattle.matching_state.specs.Missing.{Misses}
use Rattle.matching_state.proofs.Ties.{misses_to}
use Rattle.parity_lines.proofs.Border.{tuples_at}
use Rattle.classes.proofs.TurnTies.{both, just, member_set, of_line_in, of_line_vector, separator_both, separator_second, turn_family}
use Rattle.classes.proofs.TurnFacts.{TurnFacts}
use Rattle.classes.specs.ClassLabels.{IsTriple}
use Rattle.classes.specs.Ends.{IsSetOf}
use Rattle.classes.specs.Missed.{AreSeparated, IsMissedOf, IsMissing, IsNonzeroOf, IsSeparator}
use Rattle.classes.specs.Tables.{Separators, akin_at, live_at}
use Rattle.classes.specs.Turns.{IsGrowth, size_of}
use Rattle.classes.specs.declared.labels.Triple.{Triple as Lines}

module _ (S : Scalars) (F : IsField S) (f : SetFamily) (t : Separators) (T : TurnFacts S F f t)
    (l : Lines) (v : IsTriple (length f.problem.lines) (akin_at t) l) where
  abbrev sp : Space (scalar_field S F) (Tuple (Element S) f.problem.dimension)
  sp = space S F f.problem.dimension

  abbrev line : ℕ → Tuple (Element S) f.problem.dimension × Tuple (Element S) f.problem.dimension
  line = tuples_at S F f.problem

  abbrev triple : Triple (length f.problem.lines) (akin_at t)
  triple = record {
    i = l.first;
    j = l.middle;
    l = l.last;
    i_in = v.first_in;
    j_in = v.middle_in;
    l_in = v.last_in;
    i_j = v.first_middle;
    j_l = v.middle_last;
    i_l = v.first_last;
  }

  pub triple_separated : AreSeparated t l.first l.last
  triple_separated = record {
    first_live = (turn_family S F f t T).table.first_live l.first l.middle v.first_in v.middle_in v.first_middle;
    second_live = (turn_family S F f t T).table.second_live l.middle l.last v.middle_in v.last_in v.middle_last;
    not_akin = v.first_last;
  }

  pub middle_live : live_at t l.middle ≡ true
  middle_live = (turn_family S F f t T).table.second_live l.first l.middle v.first_in v.middle_in v.first_middle

  -- a of the first line, which the member m misses with some vectors of the last; q of the middle line, which the member o misses
  module _ (m o : ℕ) (a q : List ℕ) (s : IsSeparator S F f l.first l.last m) (w : IsMissedOf S f.problem (get_or f.sets m []) l.first a)
      (z : IsNonzeroOf S f.problem l.middle q) (r : IsMissing S f q o) where
    va : IsVector S f.problem.dimension a
    va = of_line_vector S F f.problem T.problem l.first v.first_in a w.of_line

    vq : IsVector S f.problem.dimension q
    vq = of_line_vector S F f.problem T.problem l.middle v.middle_in q z.of_line

    abbrev last : (b : List ℕ) × IsMissedOf S f.problem (get_or f.sets m []) l.last b
    last = separator_second S F f t T l.first l.last m v.first_in v.last_in s

    vb : IsVector S f.problem.dimension last.0
    vb = of_line_vector S F f.problem T.problem l.last v.last_in last.0 last.1.of_line

    apart_misses : Misses S f.problem (get_or f.sets m []) (a ∷ last.0 ∷ [])
    apart_misses = separator_both S F f t T l.first l.last m v.first_in v.last_in s a last.0 w last.1

    abbrev start : TripleStart sp line f.sets l.first l.middle l.last
    start = record {
      apart = get_or f.sets m [];
      apart_in = In-get_or f.sets m [] s.within;
      a = tuple S F f.problem.dimension a;
      a_in = of_line_in S F f.problem T.problem l.first v.first_in a w.of_line;
      b = tuple S F f.problem.dimension last.0;
      b_in = of_line_in S F f.problem T.problem l.last v.last_in last.0 last.1.of_line;
      both_missed = misses_to S F f.problem T.problem (get_or f.sets m []) (a ∷ last.0 ∷ []) (member_set S f T.family m s.within).independent.line_set.within
          (both S f.problem.dimension a last.0 va vb) apart_misses;
      other = get_or f.sets o [];
      other_in = In-get_or f.sets o [] r.within;
      q = tuple S F f.problem.dimension q;
      q_in = of_line_in S F f.problem T.problem l.middle v.middle_in q z.of_line;
      q_missed = misses_to S F f.problem T.problem (get_or f.sets o []) (q ∷ []) (member_set S f T.family o r.within).independent.line_set.within
          (just S f.problem.dimension q vq) r.missed;
    }

    pub triple_first : (L : List ℕ) → IsSetOf S f.problem (size_of f) L × Misses S f.problem L (q ∷ a ∷ []) → IsGrowth S F f.problem (size_of f) t L
    triple_first L (i, n) = record {
      set = i;
      separates = triple_step (turn_family S F f t T) triple start L
          (inl (misses_to S F f.problem T.problem L (q ∷ a ∷ []) i.independent.line_set.within (both S f.problem.dimension q a vq va) n));
    }

    pub triple_second : (L : List ℕ) → IsSetOf S f.problem (size_of f) L × Misses S f.problem L (q ∷ []) ×
        ((b : List ℕ) → IsVector S f.problem.dimension b → Misses S f.problem (get_or f.sets m []) (a ∷ b ∷ []) → Misses S f.problem L (q ∷ b ∷ [])) →
        IsGrowth S F f.problem (size_of f) t L
    triple_second L (i, n, e) = record {
      set = i;
      separates = triple_step (turn_family S F f t T) triple start L
          (inr (misses_to S F f.problem T.problem L (q ∷ last.0 ∷ []) i.independent.line_set.within (both S f.problem.dimension q last.0 vq vb)
          (e last.0 vb apart_misses)));
    }
