-- Of which exposed lines the pairs of the tips at an index of M aren't multiples of each other.
use Rattle.std.proofs.Common.{◌≡◌, ◌≢◌, ℕ, ◌+◌, ◌*◌, ◌<◌, ◌≤◌, List, length, sym, ap, ap₂, ◌∙◌, subst, arith, All, Bool, IsTrue}
use Rattle.std.specs.Prelude.{slice_index, ◌↔◌}
use Rattle.std.specs.List.{Contains}
use Rattle.std.proofs.Math.Decide.{ℕ_discrete}
use Rattle.vector_spaces.proofs.Members.{In-all, In-contains}
use Rattle.linear_algebra.specs.Scalars.{Scalars, IsScalar, IsField}
use Rattle.linear_algebra.proofs.Elements.{product-zero}
use Rattle.matching_state.specs.DirectSteps.{HasDeterminantAt}
use Rattle.matching_state.specs.Overlaps.{InSupport}
use Rattle.matching_state.specs.Pairs.{HasNoPair}
use Rattle.matching_state.specs.Sights.{Cross, HasPairAt, IsSeen}
use Rattle.matching_state.specs.declared.sights.Exposed.{Exposed}
use Rattle.matching_state.specs.declared.step.Entry.{Entry}
use Rattle.matching_state.proofs.DeterminantTies.{entry}
use Rattle.matching_state.proofs.SightLaws.{component_at, same_rest}
use Rattle.matching_state.proofs.Ties.{coordinates_vector}
use Rattle.parity_lines.specs.LineSets.{IsIndependentSet}
use Rattle.parity_lines.specs.Problems.{ParityProblem, IsProblem}

-- one of those that are seen
pub seen_in : {X : Type 0} (S : Scalars) (number : X → ℕ) (p : ParityProblem) (M : List ℕ) (xs : List (Entry X)) → All (λ x. IsSeen S number p M x.exposed) xs → (x : Entry X) → Contains xs x → IsSeen S number p M x.exposed
seen_in S number p M xs seen x c = In-all (λ x. IsSeen S number p M x.exposed) xs seen x (In-contains xs x c)

module _ (S : Scalars) (F : IsField S) where
  -- a factor that isn't zero
  cancel : (k x y : ℕ) → IsScalar S k → IsScalar S x → IsScalar S y → k ≢ S.zero → S.product k x ≡ S.product k y → x ≡ y
  cancel k x y hk hx hy n e =
      let b = F.inverse k hk n in
      let out : (z : ℕ) → IsScalar S z → z ≡ S.product (S.product k z) b.0 =
      λ z hz. sym (F.product-one z hz) ∙ ap (S.product z) (sym b.2) ∙ sym (F.product_assoc z k b.0 hz hk b.1) ∙ ap (λ t. S.product t b.0) (F.product_comm z k hz hk) in
      out x hx ∙ ap (λ t. S.product t b.0) e ∙ sym (out y hy)

  -- multiples of a pair that isn't zero are multiples of each other
  parallel : (a b c d e f : ℕ) → IsScalar S a → IsScalar S b → IsScalar S c → IsScalar S d → IsScalar S e → IsScalar S f → ¬ ((a ≡ S.zero) × (b ≡ S.zero)) →
      S.product a d ≡ S.product b c → S.product a f ≡ S.product b e → S.product c f ≡ S.product d e
  parallel a b c d e f ha hb hc hd he hf n q r = go (ℕ_discrete a S.zero) (ℕ_discrete b S.zero)
    where
      cf : IsScalar S (S.product c f)
      cf = F.product_in c f hc hf

      de : IsScalar S (S.product d e)
      de = F.product_in d e hd he

      go : Dec (a ≡ S.zero) → Dec (b ≡ S.zero) → S.product c f ≡ S.product d e
      go (no m) k = cancel a (S.product c f) (S.product d e) ha cf de m
          (sym (F.product_assoc a c f ha hc hf) ∙ ap (λ t. S.product t f) (F.product_comm a c ha hc) ∙ F.product_assoc c a f hc ha hf ∙ ap (S.product c) r
          ∙ sym (F.product_assoc c b e hc hb he) ∙ ap (λ t. S.product t e) (F.product_comm c b hc hb ∙ sym q) ∙ F.product_assoc a d e ha hd he)
      go (yes z) (no m) = cancel b (S.product c f) (S.product d e) hb cf de m
          (sym (F.product_assoc b c f hb hc hf) ∙ ap (λ t. S.product t f) (sym q ∙ F.product_comm a d ha hd) ∙ F.product_assoc d a f hd ha hf ∙ ap (S.product d) r
          ∙ sym (F.product_assoc d b e hd hb he) ∙ ap (λ t. S.product t e) (F.product_comm d b hd hb) ∙ F.product_assoc b d e hb hd he)
      go (yes z) (yes w) = absurd (n (z, w))

module _ (S : Scalars) (F : IsField S) (p : ParityProblem) (P : IsProblem S p) (M : List ℕ) (i : IsIndependentSet S p M) {X : Type 0} (number : X → ℕ) (hn : (t : X) → IsScalar S (number t)) (k : ℕ) (h : k < length M) where
  module _ (x : Exposed X) (s : IsSeen S number p M x) where
    seen_entry : (j : ℕ) → j ≤ 2 * k + 1 → IsScalar S (slice_index s.coordinates j)
    seen_entry j l = let v = coordinates_vector S F p P M s.coordinates s.tip s.tip_is.combines in entry S F (2 * length M) k s.coordinates s.coordinates v v (omega arith) s.coordinates j v l

    module _ (y : Exposed X) (t : IsSeen S number p M y) where
      pub cross_of : HasDeterminantAt S s.coordinates t.coordinates k → Cross S number p M x y k
      cross_of n = record { tip = s.tip; coordinates = s.coordinates; rest = s.rest; other_tip = t.tip; other_coordinates = t.coordinates; other_rest = t.rest; determinant = n }

      pub of_cross : Cross S number p M x y k → HasDeterminantAt S s.coordinates t.coordinates k
      of_cross c =
          let a = (same_rest S F p P M i x.line x.second (number x.factor) c.tip c.coordinates s.tip s.coordinates s.within (hn x.factor) c.rest s.rest).1 in
          let b = (same_rest S F p P M i y.line y.second (number y.factor) c.other_tip c.other_coordinates t.tip t.coordinates t.within (hn y.factor) c.other_rest t.rest).1 in
          subst (λ ds. HasDeterminantAt S s.coordinates ds k) b (subst (λ cs. HasDeterminantAt S cs c.other_coordinates k) a c.determinant)

      -- as it is read of the pairs
      pub cross_read : (a b c d : ℕ) → HasPairAt s.coordinates k a b → HasPairAt t.coordinates k c d → (S.product a d ≢ S.product b c) ↔ Cross S number p M x y k
      cross_read a b c d q r = (
        λ n. cross_of (λ e. n (ap₂ S.product (sym q.0) (sym r.1) ∙ e ∙ ap₂ S.product q.1 r.0)),
        λ w e. of_cross w (ap₂ S.product q.0 r.1 ∙ e ∙ sym (ap₂ S.product q.1 r.0)),
      )

      -- as a test tells it
      pub cross_told : (a b c d ad bc : ℕ) (told : Bool) → HasPairAt s.coordinates k a b → HasPairAt t.coordinates k c d → ad ≡ S.product a d → bc ≡ S.product b c → IsTrue told ↔ (ad ≢ bc) → IsTrue told ↔ Cross S number p M x y k
      cross_told a b c d ad bc told q r u v w =
          let z = cross_read a b c d q r in
          (λ h. z.0 (λ e. w.0 h (u ∙ e ∙ sym v)), λ n. w.1 (λ e. z.1 n (sym u ∙ e ∙ v)))

      second_entry : (j : ℕ) → j ≤ 2 * k + 1 → IsScalar S (slice_index t.coordinates j)
      second_entry j l = let v = coordinates_vector S F p P M t.coordinates t.tip t.tip_is.combines in entry S F (2 * length M) k t.coordinates t.coordinates v v (omega arith) t.coordinates j v l

      -- none where the first pair is zero
      pub no_cross : ¬ (InSupport S p M x.line (slice_index M k)) → ¬ (Cross S number p M x y k)
      no_cross n c = n ((component_at S F p P M i number x (hn x.factor) s k h).1
          (λ z. of_cross c (zero_times (slice_index s.coordinates (2 * k)) (slice_index t.coordinates (2 * k + 1)) z.0 (second_entry (2 * k + 1) (omega arith))
          ∙ sym (zero_times (slice_index s.coordinates (2 * k + 1)) (slice_index t.coordinates (2 * k)) z.1 (second_entry (2 * k) (omega arith))))))
        where
          zero_times : (a b : ℕ) → a ≡ S.zero → IsScalar S b → S.product a b ≡ S.zero
          zero_times a b z hb = ap (λ q. S.product q b) z ∙ F.product_comm S.zero b F.zero_in hb ∙ product-zero S F b hb

      -- a determinant that is zero is the other way round zero
      turned_determinant : HasDeterminantAt S s.coordinates t.coordinates k → HasDeterminantAt S t.coordinates s.coordinates k
      turned_determinant n e = n (F.product_comm _ _ (seen_entry (2 * k) (omega arith)) (second_entry (2 * k + 1) (omega arith)) ∙ sym e ∙ F.product_comm _ _ (second_entry (2 * k) (omega arith)) (seen_entry (2 * k + 1) (omega arith)))

  module _ (x y : Exposed X) (s : IsSeen S number p M x) (t : IsSeen S number p M y) where
    pub cross_back : Cross S number p M x y k → Cross S number p M y x k
    cross_back c = cross_of y t x s (turned_determinant x s y t (of_cross x s y t c))

    -- lines that don't cross one with a component don't cross each other
    pub parallel_cross : (f : Exposed X) → IsSeen S number p M f → InSupport S p M f.line (slice_index M k) → ¬ (Cross S number p M f x k) → ¬ (Cross S number p M f y k) → ¬ (Cross S number p M x y k)
    parallel_cross f r m a b c = of_cross x s y t c (parallel S F _ _ _ _ _ _
        (seen_entry f r (2 * k) (omega arith)) (seen_entry f r (2 * k + 1) (omega arith)) (seen_entry x s (2 * k) (omega arith)) (seen_entry x s (2 * k + 1) (omega arith)) (seen_entry y t (2 * k) (omega arith)) (seen_entry y t (2 * k + 1) (omega arith))
        ((component_at S F p P M i number f (hn f.factor) r k h).0 m)
        (same (ℕ_discrete _ _) (λ n. a (cross_of f r x s n))) (same (ℕ_discrete _ _) (λ n. b (cross_of f r y t n))))
      where
        same : {u w : ℕ} → Dec (u ≡ w) → ¬ (u ≢ w) → u ≡ w
        same (yes e) n = e
        same (no d) n = absurd (n d)

  module _ (xs : List (Entry X)) (seen : All (λ x. IsSeen S number p M x.exposed) xs) where
    -- none has a component
    pub none_first : All (λ x. ¬ (InSupport S p M x.exposed.line (slice_index M k))) xs → HasNoPair S number p M xs k
    none_first n x y a b d = no_cross x.exposed (seen_in S number p M xs seen x a) y.exposed (seen_in S number p M xs seen y b) (In-all (λ x. ¬ (InSupport S p M x.exposed.line (slice_index M k))) xs n x (In-contains xs x a))

    module _ (f : Entry X) (f_in : Contains xs f) (m : InSupport S p M f.exposed.line (slice_index M k)) where
      -- none crosses one with a component
      pub none_across : All (λ x. ¬ (Cross S number p M f.exposed x.exposed k)) xs → HasNoPair S number p M xs k
      none_across n x y a b d = parallel_cross x.exposed y.exposed (seen_in S number p M xs seen x a) (seen_in S number p M xs seen y b) f.exposed (seen_in S number p M xs seen f f_in) m (apart x a) (apart y b)
        where
          apart : (x : Entry X) → Contains xs x → ¬ (Cross S number p M f.exposed x.exposed k)
          apart x c = In-all (λ x. ¬ (Cross S number p M f.exposed x.exposed k)) xs n x (In-contains xs x c)

    -- none of another class has a component
    pub none_apart : (class : ℕ) → All (λ x. x.class ≢ class → ¬ (InSupport S p M x.exposed.line (slice_index M k))) xs → HasNoPair S number p M xs k
    none_apart class n x y a b d c = go (ℕ_discrete x.class class)
      where
        no_component : (x : Entry X) → Contains xs x → x.class ≢ class → ¬ (InSupport S p M x.exposed.line (slice_index M k))
        no_component x c = In-all (λ x. x.class ≢ class → ¬ (InSupport S p M x.exposed.line (slice_index M k))) xs n x (In-contains xs x c)

        go : Dec (x.class ≡ class) → ⊥
        go (no q) = no_cross x.exposed (seen_in S number p M xs seen x a) y.exposed (seen_in S number p M xs seen y b) (no_component x a q) c
        go (yes q) = no_cross y.exposed (seen_in S number p M xs seen y b) x.exposed (seen_in S number p M xs seen x a) (no_component y b (λ r. d (q ∙ sym r))) (cross_back x.exposed y.exposed (seen_in S number p M xs seen x a) (seen_in S number p M xs seen y b) c)

    -- of one that crosses the first and is of its class, and one of another class that doesn't cross the first
    pub third_pair : (f a b : Entry X) → Contains xs f → Contains xs a → Contains xs b → InSupport S p M b.exposed.line (slice_index M k) → Cross S number p M f.exposed a.exposed k → ¬ (Cross S number p M f.exposed b.exposed k) →
        Cross S number p M a.exposed b.exposed k
    third_pair f a b f_in a_in b_in m c n =
        cross_of a.exposed (seen_in S number p M xs seen a a_in) b.exposed (seen_in S number p M xs seen b b_in) (λ e.
        parallel_cross a.exposed f.exposed (seen_in S number p M xs seen a a_in) (seen_in S number p M xs seen f f_in) b.exposed (seen_in S number p M xs seen b b_in) m
        (λ w. of_cross a.exposed (seen_in S number p M xs seen a a_in) b.exposed (seen_in S number p M xs seen b b_in) (cross_back b.exposed a.exposed (seen_in S number p M xs seen b b_in) (seen_in S number p M xs seen a a_in) w) e)
        (λ w. n (cross_back b.exposed f.exposed (seen_in S number p M xs seen b b_in) (seen_in S number p M xs seen f f_in) w))
        (cross_back f.exposed a.exposed (seen_in S number p M xs seen f f_in) (seen_in S number p M xs seen a a_in) c))
