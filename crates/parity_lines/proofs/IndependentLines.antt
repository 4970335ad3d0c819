-- What the vectors of lines, inserted one after the other, tell of the lines.
use Rattle.std.proofs.Common.{◌≡◌, ℕ, zero, suc, ◌+◌, ◌*◌, ◌-◌, ◌<◌, ◌≤◌, List, [], ◌∷◌, ◌++◌, length, take, drop, get_or, refl, sym, ap, ap₂, ◌∙◌, subst, arith, append_assoc, length-append, length-drop, take_all, drop-cons, add-one, All}
use Rattle.std.proofs.lemmas.List.{length-replicate, take_more, take-append-drop}
use Rattle.std.proofs.lemmas.List.Elements.{All-get_or, All-head, All-tail, All-append, All-cons, All-nil, All-push, All-take, All-drop, All-replicate}
use Rattle.field_core.specs.Matrix.{Matrix}
use Rattle.linear_algebra.specs.Scalars.{Scalars, IsScalar, IsField}
use Rattle.linear_algebra.specs.Vectors.{IsVector, AreVectors, zero_vector, vector_sum, multiple}
use Rattle.linear_algebra.specs.Spans.{combination, Combines, IsIndependent}
use Rattle.linear_algebra.proofs.Elements.{product-zero}
use Rattle.linear_algebra.proofs.VectorLaws.{multiple-vector, vector_sum-zero}
use Rattle.linear_algebra.proofs.Combinations.{combination-append, combination-multiple, combination-push_zeros}
use Rattle.echelon.specs.Inserted.{Inserts}
use Rattle.echelon.specs.declared.basis.Inserted.TheVariants.{New}
use Rattle.parity_lines.proofs.Border.{vectors_at-vectors}
use Rattle.parity_lines.proofs.LinePairs.{line_at_vectors}
use Rattle.echelon.proofs.Growing.{independent_more}
use Rattle.parity_lines.proofs.Growth.{vectors_at-push}
use Rattle.parity_lines.specs.Problems.{ParityProblem, IsProblem, line_at, vectors_at}
use Rattle.parity_lines.specs.Relations.{IsDifference, IsMonicRelation}
use Rattle.parity_lines.specs.FirstLines.{HasFirstLines}
use Rattle.parity_lines.specs.Independence.{IsRelation}

module _ (S : Scalars) (F : IsField S) where
  minus_times : (a m : ℕ) → IsScalar S a → IsScalar S m → S.sum S.one m ≡ S.zero → S.sum a (S.product m a) ≡ S.zero
  minus_times a m h k e =
      ap₂ S.sum (sym (F.product-one a h)) (F.product_comm m a k h) ∙ sym (F.product-sum a S.one m h F.one_in k) ∙ ap (S.product a) e ∙ product-zero S F a h

  -- entries with their negatives
  entries_with_minus : (v : List ℕ) (m : ℕ) → All (IsScalar S) v → IsScalar S m → S.sum S.one m ≡ S.zero → vector_sum S v (multiple S m v) ≡ zero_vector S (length v)
  unfolding vector_sum
  entries_with_minus [] m h k e = refl
  entries_with_minus (a ∷ v) m h k e = ap₂ (λ x xs. x ∷ xs) (minus_times a m (All-head (IsScalar S) a v h) k e) (entries_with_minus v m (All-tail (IsScalar S) a v h) k e)

  multiple-zero : (c n : ℕ) → IsScalar S c → multiple S c (zero_vector S n) ≡ zero_vector S n
  multiple-zero c zero h = refl
  multiple-zero c (suc n) h = ap₂ (λ x xs. x ∷ xs) (product-zero S F c h) (multiple-zero c n h)

module _ (S : Scalars) (F : IsField S) (d : ℕ) where
  module _ (vs : List (List ℕ)) (v : List ℕ) (rest : List (List ℕ)) (cs : List ℕ) (vs_in : AreVectors S d vs) (v_in : IsVector S d v) (rest_in : AreVectors S d rest) (c : Combines S d vs cs v) where
    all_in : AreVectors S d (vs ++ v ∷ rest)
    all_in = All-append (IsVector S d) vs (v ∷ rest) vs_in (All-cons (IsVector S d) v rest v_in rest_in)

    -- the difference of v and its combination
    difference_combines : (row : List ℕ) → IsDifference S cs (length rest) row → Combines S d (vs ++ v ∷ rest) row (zero_vector S d)
    unfolding combination
    difference_combines row r =
        let front_in : All (IsScalar S) (cs ++ r.minus ∷ []) = All-push (IsScalar S) cs r.minus c.one_each.entries r.minus_in in
        let n = length rest in
        record {
          one_each = record {
            length_is = ap length r.is ∙ length-append cs (r.minus ∷ zero_vector S n) ∙ (let a = c.one_each.length_is in let b = length-replicate n S.zero in let e = length-append vs (v ∷ rest) in omega arith);
            entries = subst (All (IsScalar S)) (sym r.is) (All-append (IsScalar S) cs (r.minus ∷ zero_vector S n) c.one_each.entries (All-cons (IsScalar S) r.minus (zero_vector S n) r.minus_in (All-replicate (IsScalar S) n S.zero F.zero_in)));
          };
          gives =
              ap (λ es. combination S d es (vs ++ v ∷ rest)) (r.is ∙ sym (append_assoc cs (r.minus ∷ []) (zero_vector S n)))
              ∙ combination-push_zeros S F d n (cs ++ r.minus ∷ []) (vs ++ v ∷ rest) front_in all_in
              ∙ combination-append S F d cs (r.minus ∷ []) vs (v ∷ rest) c.one_each (All-cons (IsScalar S) r.minus [] r.minus_in (All-nil (IsScalar S))) vs_in (All-cons (IsVector S d) v rest v_in rest_in)
              ∙ ap₂ (vector_sum S) c.gives (vector_sum-zero S F d (multiple S r.minus v) (multiple-vector S F d r.minus v r.minus_in v_in))
              ∙ entries_with_minus S F v r.minus v_in.entries r.minus_in r.minus_one ∙ ap (zero_vector S) v_in.length_is;
        }

    pub relation_found : (r : List ℕ) → IsMonicRelation S cs (length rest) r → IsRelation S d (vs ++ v ∷ rest) r
    relation_found r m =
        let b = difference_combines m.row m.difference in
        let k = m.monic in
        let n = length (vs ++ v ∷ rest) in
        record {
          combines = record {
            one_each = subst (IsVector S n) (sym k.is_multiple) (multiple-vector S F n k.factor m.row k.factor_in b.one_each);
            gives = ap (λ es. combination S d es (vs ++ v ∷ rest)) k.is_multiple ∙ combination-multiple S F d n k.factor m.row (vs ++ v ∷ rest) k.factor_in b.one_each all_in
                ∙ ap (multiple S k.factor) b.gives ∙ multiple-zero S F k.factor d k.factor_in;
          };
          lead = k.lead;
          within = k.within;
          one = k.one;
          zero_before = k.zero_before;
        }

module _ (p : ParityProblem) where
  pub vectors_at-append : (M N : List ℕ) → vectors_at p (M ++ N) ≡ vectors_at p M ++ vectors_at p N
  unfolding vectors_at
  vectors_at-append [] N = refl
  vectors_at-append (m ∷ M) N = ap (λ vs. (line_at p m).0 ∷ (line_at p m).1 ∷ vs) (vectors_at-append M N)

  pub length-vectors_at : (M : List ℕ) → length (vectors_at p M) ≡ 2 * length M
  unfolding vectors_at
  length-vectors_at [] = refl
  length-vectors_at (m ∷ M) = let e = length-vectors_at M in omega arith

  -- the vectors before the line at an index, its own, and those of the lines behind
  pub around_line : (M : List ℕ) (i m : ℕ) (u v : List ℕ) → i < length M → m ≡ get_or M i 0 → u ≡ (line_at p m).0 → v ≡ (line_at p m).1 → vectors_at p M ≡ vectors_at p (take i M) ++ u ∷ v ∷ vectors_at p (drop (i + 1) M)
  unfolding vectors_at
  around_line M i m u v h e is_u is_v =
      ap (vectors_at p) (sym (take-append-drop i M) ∙ ap (λ xs. take i M ++ xs) (drop-cons M i 0 h ∙ ap₂ (λ x n. x ∷ drop n M) (sym e) (sym (add-one i))))
      ∙ vectors_at-append (take i M) (m ∷ drop (i + 1) M) ∙ ap₂ (λ x y. vectors_at p (take i M) ++ x ∷ y ∷ vectors_at p (drop (i + 1) M)) (sym is_u) (sym is_v)

module _ (S : Scalars) (p : ParityProblem) (M : List ℕ) where
  pub no_lines : (basis : Matrix) → basis ≡ record { width = p.dimension; rows = [] } → HasFirstLines S p M 0 basis
  unfolding vectors_at combination
  no_lines basis e = subst (HasFirstLines S p M 0) (sym e) (record { width = refl; rows = refl; independent = λ cs c. none cs c.one_each.length_is })
    where
      none : (cs : List ℕ) → length cs ≡ 0 → cs ≡ []
      none [] l = refl
      none (c ∷ cs) l = absurd (omega arith)

  -- all lines were inserted
  pub all_lines : (i : ℕ) (basis : Matrix) → length M ≤ i → HasFirstLines S p M i basis → IsIndependent S p.dimension (vectors_at p M)
  all_lines i basis l h = subst (λ (vs : List (List ℕ)). IsIndependent S p.dimension vs) (h.rows ∙ ap (vectors_at p) (take_all i M l)) (subst (λ d. IsIndependent S d basis.rows) h.width h.independent)

  pub whole_basis : (i : ℕ) (basis : Matrix) → length M ≤ i → HasFirstLines S p M i basis → basis ≡ record { width = p.dimension; rows = vectors_at p M }
  whole_basis i basis l h = ap₂ (λ (n : ℕ) (rows : List (List ℕ)). let m : Matrix = record { width = n; rows = rows } in m) h.width (h.rows ∙ ap (vectors_at p) (take_all i M l))

module _ (S : Scalars) (F : IsField S) (p : ParityProblem) (P : IsProblem S p) (M : List ℕ) (within : All (λ m. m < length p.lines) M) where
  front_vectors : (i : ℕ) → AreVectors S p.dimension (vectors_at p (take i M))
  front_vectors i = vectors_at-vectors S p P (take i M) (All-take (λ m. m < length p.lines) i M within)

  back_vectors : (i : ℕ) → AreVectors S p.dimension (vectors_at p (drop i M))
  back_vectors i = vectors_at-vectors S p P (drop i M) (All-drop (λ m. m < length p.lines) i M within)

  rows_vectors : (i : ℕ) (basis : Matrix) → HasFirstLines S p M i basis → AreVectors S basis.width basis.rows
  rows_vectors i basis h = subst (λ d. AreVectors S d basis.rows) (sym h.width) (subst (AreVectors S p.dimension) (sym h.rows) (front_vectors i))

  -- the second vector of the line at an index
  pub second_in : (i m : ℕ) → i < length M → m ≡ get_or M i 0 → IsVector S p.dimension (line_at p m).1
  second_in i m h is = (line_at_vectors S p m P (subst (λ k. k < length p.lines) (sym is) (All-get_or (λ k. k < length p.lines) M i 0 h within))).1

  -- the vectors of the lines behind the one at an index
  abbrev behind : ℕ → List (List ℕ)
  behind i = vectors_at p (drop (i + 1) M)

  behind_long : (i : ℕ) → length (behind i) ≡ 2 * (length M - i - 1)
  behind_long i = length-vectors_at p (drop (i + 1) M) ∙ ap (λ n. 2 * n) (length-drop (i + 1) M ∙ omega arith)

  module _ (X : Type 0) (i m : ℕ) (u v : List ℕ) (now mid : Matrix) (h : i < length M) (is : m ≡ get_or M i 0) (is_u : u ≡ (line_at p m).0) (is_v : v ≡ (line_at p m).1)
      (u_in : IsVector S p.dimension u) (v_in : IsVector S p.dimension v) (before : HasFirstLines S p M i now) where
    -- the first vector is in the span of those before
    pub first_is_old : (cs shown r : List ℕ) (long : ℕ) → long ≡ length M → shown ≡ cs → Combines S now.width now.rows cs u → IsMonicRelation S shown (1 + 2 * (long - i - 1)) r → IsRelation S p.dimension (vectors_at p M) r
    first_is_old cs shown r long e is_cs c k =
        let combine = subst (λ (vs : List (List ℕ)). Combines S p.dimension vs cs u) before.rows (subst (λ d. Combines S d now.rows cs u) before.width c) in
        subst (λ (vs : List (List ℕ)). IsRelation S p.dimension vs r) (sym (around_line p M i m u v h is is_u is_v))
        (relation_found S F p.dimension (vectors_at p (take i M)) u (v ∷ behind i) cs (front_vectors i) u_in (All-cons (IsVector S p.dimension) v (behind i) v_in (back_vectors (i + 1))) combine r
        (subst (λ xs. IsMonicRelation S xs (length (v ∷ behind i)) r) is_cs (subst (λ l. IsMonicRelation S shown l r) (let l = behind_long i in omega arith) k)))

    mid_rows : Inserts {X = X} S now u mid New → mid.rows ≡ vectors_at p (take i M) ++ u ∷ []
    mid_rows b = ap (λ (m : Matrix). m.rows) b.1 ∙ ap (λ (vs : List (List ℕ)). vs ++ u ∷ []) before.rows

    mid_width : Inserts {X = X} S now u mid New → mid.width ≡ p.dimension
    mid_width b = ap (λ (m : Matrix). m.width) b.1 ∙ before.width

    -- the second is, with the first
    pub second_is_old : (cs shown r : List ℕ) (long : ℕ) → long ≡ length M → shown ≡ cs → Inserts {X = X} S now u mid New → Combines S mid.width mid.rows cs v → IsMonicRelation S shown (0 + 2 * (long - i - 1)) r → IsRelation S p.dimension (vectors_at p M) r
    second_is_old cs shown r long e is_cs b c k =
        let vs = vectors_at p (take i M) in
        let combine = subst (λ (ws : List (List ℕ)). Combines S p.dimension ws cs v) (mid_rows b) (subst (λ d. Combines S d mid.rows cs v) (mid_width b) c) in
        subst (λ (ws : List (List ℕ)). IsRelation S p.dimension ws r) (append_assoc vs (u ∷ []) (v ∷ behind i) ∙ sym (around_line p M i m u v h is is_u is_v))
        (relation_found S F p.dimension (vs ++ u ∷ []) v (behind i) cs (All-push (IsVector S p.dimension) vs u (front_vectors i) u_in) v_in (back_vectors (i + 1)) combine r
        (subst (λ xs. IsMonicRelation S xs (length (behind i)) r) is_cs (subst (λ l. IsMonicRelation S shown l r) (let l = behind_long i in omega arith) k)))

    -- both are new
    pub line_is_new : (after : Matrix) → Inserts {X = X} S now u mid New → Inserts {X = X} S mid v after New → HasFirstLines S p M (i + 1) after
    line_is_new after b a =
        let now_in = rows_vectors i now before in
        let u_now = subst (λ d. IsVector S d u) (sym before.width) u_in in
        let u_mid : IsVector S mid.width u = subst (λ d. IsVector S d u) (sym (mid_width b)) u_in in
        let v_mid : IsVector S mid.width v = subst (λ d. IsVector S d v) (sym (mid_width b)) v_in in
        let mid_in : AreVectors S mid.width mid.rows = subst (λ d. AreVectors S d mid.rows) (sym (mid_width b)) (subst (AreVectors S p.dimension) (sym (mid_rows b)) (All-push (IsVector S p.dimension) (vectors_at p (take i M)) u (front_vectors i) u_in)) in
        let mid_independent = independent_more S F {X = X} now now mid u New now_in u_now before.independent b in
        record {
          width = ap (λ (m : Matrix). m.width) a.1 ∙ mid_width b;
          rows = ap (λ (m : Matrix). m.rows) a.1 ∙ ap (λ (vs : List (List ℕ)). vs ++ v ∷ []) (mid_rows b)
              ∙ sym (ap (vectors_at p) (take_more M i 0 h ∙ ap (λ k. take i M ++ k ∷ []) (sym is)) ∙ vectors_at-push p (take i M) m ∙ ap₂ (λ x y. (vectors_at p (take i M) ++ x ∷ []) ++ y ∷ []) (sym is_u) (sym is_v));
          independent = independent_more S F {X = X} mid mid after v New mid_in v_mid mid_independent a;
        }
