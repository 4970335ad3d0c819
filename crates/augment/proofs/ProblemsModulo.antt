-- The problem modulo a point, line by line.
use Rattle.std.proofs.Common.{◌≡◌, ◌≢◌, ℕ, suc, ◌+◌, ◌<◌, List, [], ◌∷◌, ◌++◌, length, get_or, sym, ap, ap₂, ◌∙◌, subst, arith}
use Rattle.std.proofs.Math.Decide.{dec_lt}
use Rattle.std.proofs.lemmas.List.{get_or_append_left, get_or_push, length_push}
use Rattle.linear_algebra.specs.Scalars.{IsField, Scalars}
use Rattle.linear_algebra.specs.Vectors.{IsVector, zero_vector}
use Rattle.parity_lines.specs.Problems.{ParityProblem, line_at}
use Rattle.quotient_spaces.proofs.Projections.{projection-vector}
use Rattle.quotient_spaces.proofs.Pivots.{first_pivot_exists, first_pivot_unique}
use Rattle.quotient_spaces.specs.Projections.{IsFirstPivot, IsProjection}
use Rattle.quotients.specs.Quotients.{ProjectsBy}
use Rattle.augment.specs.Divided.{IsModulo}

-- the first n lines of p are projected to those of q
pub record IsModuloUpTo (S : Scalars) (point : List ℕ) (p : ParityProblem) (n : ℕ) (q : ParityProblem) : Type 0 where
  pub one_less : p.dimension ≡ suc q.dimension
  pub long : length q.lines ≡ n
  pub first : (m : ℕ) → m < n → ProjectsBy S point (line_at p m).0 (line_at q m).0
  pub second : (m : ℕ) → m < n → ProjectsBy S point (line_at p m).1 (line_at q m).1

module _ (S : Scalars) (point : List ℕ) (p : ParityProblem) where
  line_more : (n : ℕ) (q r : ParityProblem) (v w : List ℕ) → IsModuloUpTo S point p n q → r ≡ record q { lines = q.lines ++ (v, w) ∷ [] } →
      ProjectsBy S point (line_at p n).0 v → ProjectsBy S point (line_at p n).1 w → IsModuloUpTo S point p (n + 1) r
  line_more n q r v w h e a b = record {
    one_less = h.one_less ∙ ap suc (sym (ap (λ (x : ParityProblem). x.dimension) e));
    long = ap (λ (x : ParityProblem). length x.lines) e ∙ length_push q.lines (v, w) ∙ ap (λ k. k + 1) h.long;
    first = λ m l. elim (dec_lt m n) [
      | yes y ↦ subst (λ t. ProjectsBy S point (line_at p m).0 t) (ap (λ (t : List ℕ × List ℕ). t.0) (sym (before m y))) (h.first m y)
      | no z ↦ (let s : m ≡ n = omega (arith, z) in subst (λ k. ProjectsBy S point (line_at p k).0 (line_at r k).0) (sym s)
          (subst (λ t. ProjectsBy S point (line_at p n).0 t) (ap (λ (t : List ℕ × List ℕ). t.0) (sym last)) a))
    ];
    second = λ m l. elim (dec_lt m n) [
      | yes y ↦ subst (λ t. ProjectsBy S point (line_at p m).1 t) (ap (λ (t : List ℕ × List ℕ). t.1) (sym (before m y))) (h.second m y)
      | no z ↦ (let s : m ≡ n = omega (arith, z) in subst (λ k. ProjectsBy S point (line_at p k).1 (line_at r k).1) (sym s)
          (subst (λ t. ProjectsBy S point (line_at p n).1 t) (ap (λ (t : List ℕ × List ℕ). t.1) (sym last)) b))
    ];
  }
    where
      lines : r.lines ≡ q.lines ++ (v, w) ∷ []
      lines = ap (λ (x : ParityProblem). x.lines) e

      before : (m : ℕ) → m < n → line_at r m ≡ line_at q m
      before m y = ap (λ xs. get_or xs m ([], [])) lines ∙ get_or_append_left q.lines ((v, w) ∷ []) ([], []) m
          (let l = h.long in omega arith)

      last : line_at r n ≡ (v, w)
      last = ap (λ xs. get_or xs n ([], [])) lines ∙ get_or_push q.lines (v, w) ([], []) n h.long

  -- a line more, whose vectors x and y give, and s and t are their projections
  pub modulo_more : (n : ℕ) (q r : ParityProblem) (v w x y s t : List ℕ) → IsModuloUpTo S point p n q →
      r ≡ record q { lines = q.lines ++ (s, t) ∷ [] } →
      s ≡ v → t ≡ w → x ≡ (line_at p n).0 → y ≡ (line_at p n).1 → ProjectsBy S point x v → ProjectsBy S point y w →
      IsModuloUpTo S point p (n + 1) r
  modulo_more n q r v w x y s t h m i j k l a b = line_more n q r v w h
      (m ∙ ap₂ (λ (f g : List ℕ). record q { lines = q.lines ++ (f, g) ∷ [] }) i j)
      (subst (λ u. ProjectsBy S point u v) k a) (subst (λ u. ProjectsBy S point u w) l b)

  -- all of them
  pub modulo_all : IsVector S p.dimension point → point ≢ zero_vector S p.dimension → (q : ParityProblem) (n : ℕ) → n ≡ length p.lines →
      IsModuloUpTo S point p n q → IsModulo S point p q
  modulo_all v z q n c up =
      let h : IsModuloUpTo S point p (length p.lines) q = subst (λ k. IsModuloUpTo S point p k q) c up in
      let i = first_pivot_exists S p.dimension point v z in
      record {
        pivot = i.0;
        first = i.1;
        modulo = record {
          is_vector = v;
          pivot = i.1.pivot;
          one_less = h.one_less;
          one_each = h.long;
          first = λ m b. at_pivot i.0 i.1 (line_at p m).0 (line_at q m).0 (h.first m b);
          second = λ m b. at_pivot i.0 i.1 (line_at p m).1 (line_at q m).1 (h.second m b);
        };
      }
    where
      at_pivot : (i : ℕ) → IsFirstPivot S point i → (v w : List ℕ) → ProjectsBy S point v w → IsProjection S point i v w
      at_pivot i f v w g = subst (λ k. IsProjection S point k v w) (first_pivot_unique S point g.pivot i g.first f) g.projection

-- a projection is one coordinate shorter: v of a line, as x gives it, and n counts the entries of w
pub projected_long : (S : Scalars) (F : IsField S) (d e : ℕ) (point v x w : List ℕ) (n : ℕ) → IsVector S d point → d ≡ suc e →
    IsVector S d v → x ≡ v →
    ProjectsBy S point x w → n ≡ length w → n ≡ e
projected_long S F d e point v x w n p l h s g c =
    c ∙ (projection-vector S F e point g.pivot (subst (λ k. IsVector S k point) l p) g.first.pivot x w
    (subst (λ k. IsVector S k x) l (subst (IsVector S d) (sym s) h)) g.projection).length_is
