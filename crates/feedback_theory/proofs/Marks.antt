-- Marks: vertices, each with two of its edges that lead into one component of the rest.
use Rattle.std.proofs.Common.{◌≡◌, ◌≢◌, ℕ, ◌+◌, ◌≤◌, inl, inr, List, [], ◌∷◌, map, refl, sym, ap, ◌∙◌, subst, arith}
use Rattle.std.proofs.Math.Decide.{ℕ_discrete}
use Rattle.vector_spaces.proofs.Members.{In}
use Rattle.std.proofs.Common.{◌≡◌, ◌≢◌, ℕ, ◌+◌, ◌≤◌, inl, inr, List, [], ◌∷◌, map, refl, sym, ap, ◌∙◌, subst, arith}
use Rattle.vector_spaces.proofs.Members.{In, In-map, In_map-from}
use Rattle.edge_lists.specs.Connections.{Joined}
use Rattle.edge_lists.specs.Occurrences.{count}
use Rattle.edge_lists.proofs.Occurrences.{count-append, count-nil, count-one, count-other, count_of_in, in_of_count}
use Rattle.feedback_theory.specs.FeedbackSets.{LeadsTo, LeavesForest, outside}
use Rattle.feedback_theory.proofs.LeadingEdges.{end_total, touches}
use Rattle.feedback_theory.proofs.Outside.{count-not_outside, count-outside, outside_from}

-- a vertex x with two of its edges, p to w and q to y
pub record Mark : Type 0 where
  pub x : ℕ
  pub p : ℕ
  pub q : ℕ
  pub w : ℕ
  pub y : ℕ

-- both edges of the mark lead out of X, into one component of the rest
pub record TwoInto (ends : ℕ → ℕ × ℕ) (H X : List ℕ) (m : Mark) : Type 0 where
  pub p_in : 1 ≤ count m.p H
  pub q_in : 1 ≤ count m.q H
  pub ne : m.p ≢ m.q
  pub p_to : LeadsTo ends m.p m.x m.w
  pub q_to : LeadsTo ends m.q m.x m.y
  pub w_out : count m.w X ≡ 0
  pub y_out : count m.y X ≡ 0
  pub joined : Joined ends (outside ends H X) m.w m.y

abbrev pub mark_vertices : List Mark → List ℕ
mark_vertices D = map (λ (m : Mark). m.x) D

abbrev pub firsts : List Mark → List ℕ
firsts D = map (λ (m : Mark). m.p) D

abbrev pub seconds : List Mark → List ℕ
seconds D = map (λ (m : Mark). m.q) D

-- the vertices of the marks are different and a feedback vertex set
pub record AreMarks (ends : ℕ → ℕ × ℕ) (H : List ℕ) (D : List Mark) : Type 0 where
  pub once : (c : ℕ) → count c (mark_vertices D) ≤ 1
  pub feedback : LeavesForest ends H (mark_vertices D)
  pub two : (m : Mark) → In m D → TwoInto ends H (mark_vertices D) m

module _ (ends : ℕ → ℕ × ℕ) (H : List ℕ) (single : (e : ℕ) → count e H ≤ 1) (D : List Mark) (M : AreMarks ends H D) where
  abbrev X : List ℕ
  X = mark_vertices D

  abbrev rest_out : List ℕ
  rest_out = outside ends H X

  -- an edge of the marks stands with its end
  bound : (D' : List Mark) → ((m : Mark) → In m D' → TwoInto ends H X m) → (c : ℕ)
      → count c (firsts D') + count c (seconds D') ≤ count (ends c).0 (mark_vertices D') + count (ends c).1 (mark_vertices D')
  bound [] t c = omega (arith, count-nil c)
  bound (m ∷ D') t c = omega (
    arith,
    bound D' (λ k i. t k (inr i)) c,
    count-append c (m.p ∷ []) (firsts D'),
    count-append c (m.q ∷ []) (seconds D'),
    count-append (ends c).0 (m.x ∷ []) (mark_vertices D'),
    count-append (ends c).1 (m.x ∷ []) (mark_vertices D'),
    step (ℕ_discrete m.p c) (ℕ_discrete m.q c),
  )
    where
      T : TwoInto ends H X m
      T = t m (inl refl)

      step : Dec (m.p ≡ c) → Dec (m.q ≡ c) → count c (m.p ∷ []) + count c (m.q ∷ []) ≤ count (ends c).0 (m.x ∷ []) + count (ends c).1
          (m.x ∷ [])
      step (yes p) (yes q) = absurd (T.ne (p ∙ sym q))
      step (yes p) (no n) = omega (
        arith,
        count-other c m.q [] n,
        count-nil c,
        ap (λ t. count c (t ∷ [])) p,
        count-one c,
        subst (λ t. 1 ≤ count (ends t).0 (m.x ∷ []) + count (ends t).1 (m.x ∷ [])) p (touches ends m.p m.x m.w T.p_to),
      )
      step (no n) (yes q) = omega (
        arith,
        count-other c m.p [] n,
        count-nil c,
        ap (λ t. count c (t ∷ [])) q,
        count-one c,
        subst (λ t. 1 ≤ count (ends t).0 (m.x ∷ []) + count (ends t).1 (m.x ∷ [])) q (touches ends m.q m.x m.y T.q_to),
      )
      step (no n) (no k) = omega (arith, count-other c m.p [] n, count-other c m.q [] k, count-nil c)

  -- an edge that leads from X out of it
  pub record LeadsOut (c : ℕ) : Type 0 where
    pub x : ℕ
    pub w : ℕ
    pub to : LeadsTo ends c x w
    pub x_in : 1 ≤ count x X
    pub w_out : count w X ≡ 0
    pub inside : 1 ≤ count c H

  pub vertex_in : (m : Mark) → In m D → 1 ≤ count m.x X
  vertex_in m i = count_of_in m.x X (In-map (λ (k : Mark). k.x) m D i)

  -- the edges f m that lead from the vertices of the marks to the vertices g m
  leads_out : (f g : Mark → ℕ) → ((m : Mark) → In m D → LeadsTo ends (f m) m.x (g m)) → ((m : Mark) → In m D → count (g m) X ≡ 0)
      → ((m : Mark) → In m D → 1 ≤ count (f m) H) → (c : ℕ) → 1 ≤ count c (map f D) → LeadsOut c
  leads_out f g to out inside c i = go (In_map-from f c D (in_of_count c (map f D) i))
    where
      go : (m : Mark) × In m D × (c ≡ f m) → LeadsOut c
      go (m, j, e) = record {
        x = m.x;
        w = g m;
        to = subst (λ v. LeadsTo ends v m.x (g m)) (sym e) (to m j);
        x_in = vertex_in m j;
        w_out = out m j;
        inside = subst (λ v. 1 ≤ count v H) (sym e) (inside m j);
      }

  pub first_out : (c : ℕ) → 1 ≤ count c (firsts D) → LeadsOut c
  first_out = leads_out (λ m. m.p) (λ m. m.w) (λ m i. let t = M.two m i in t.p_to) (λ m i. let t = M.two m i in t.w_out)
      (λ m i. let t = M.two m i in t.p_in)

  pub second_out : (c : ℕ) → 1 ≤ count c (seconds D) → LeadsOut c
  second_out = leads_out (λ m. m.q) (λ m. m.y) (λ m i. let t = M.two m i in t.q_to) (λ m i. let t = M.two m i in t.y_out)
      (λ m i. let t = M.two m i in t.q_in)

  -- the edges outside X, the first and the second edges of the marks are different
  pub apart : (c : ℕ) → count c rest_out + (count c (firsts D) + count c (seconds D)) ≤ 1
  apart c = go (ℕ_discrete (count c (firsts D)) 0) (ℕ_discrete (count c (seconds D)) 0)
    where
      by : LeadsOut c → count c rest_out + (count c (firsts D) + count c (seconds D)) ≤ 1
      by l = omega (
        arith,
        bound D M.two c,
        end_total ends c l.x l.w l.to X,
        l.w_out,
        M.once l.x,
        l.x_in,
        count-not_outside ends H X c (λ z. omega (arith, z, end_total ends c l.x l.w l.to X, l.x_in)),
      )

      plain : Dec (count c rest_out ≡ 0) → count c rest_out ≤ 1
      plain (yes z) = omega (arith, z)
      plain (no n) = let r = outside_from ends H X c (omega (arith, n)) in omega (arith, single c, count-outside ends H X c r.0)

      go : Dec (count c (firsts D) ≡ 0) → Dec (count c (seconds D) ≡ 0) → count c rest_out + (count c (firsts D) + count c (seconds D)) ≤ 1
      go (yes p) (yes q) = omega (arith, p, q, plain (ℕ_discrete (count c rest_out) 0))
      go (no n) d = by (first_out c (omega (arith, n)))
      go (yes p) (no n) = by (second_out c (omega (arith, n)))
