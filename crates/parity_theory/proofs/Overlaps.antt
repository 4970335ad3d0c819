-- Overlaps: two exposed lines whose outers are independent over M, and whose supports have a common line; the lines of an overlap.
use Rattle.std.proofs.Common.{◌≢◌, ℕ, inl, inr, List, [], ◌∷◌, ◌++◌, append_assoc, refl, subst, arith, sym}
use Rattle.std.proofs.lemmas.List.{length-append}
use Rattle.parity_theory.proofs.Exposure.{Exposed, same_support, same_outers, exposed_base, exposed_line_independent, exposed_not_in, exposed_within}
use Rattle.parity_theory.proofs.LineSets.{independent_distinct, line_independent}
use Rattle.parity_theory.proofs.Lines.{vectors, Misses}
use Rattle.parity_theory.proofs.Places.{Place, inside, single, exposed, free, HasPlace, place_of_a_line, place_is_unique, tip_of_exposed, exposed_of_tip}
use Rattle.parity_theory.proofs.Supports.{HaveCommonLine, decide_common_line}
use Rattle.parity_theory.proofs.Widths.{two_missed}
use Rattle.vector_spaces.proofs.Distinct.{IsDistinct}
use Rattle.vector_spaces.proofs.Independence.{IsIndependent, appended_is_outside, same_length_independent}
use Rattle.vector_spaces.proofs.Members.{In}
use Rattle.vector_spaces.proofs.Space.{Field, Space}
use Rattle.vector_spaces.proofs.Span.{InSpan, decide_span}
use Rattle.vector_spaces.proofs.Within.{Within, placing, through}

-- with some tips and outers
pub record Overlap {K V : Type 0} {f : Field K} (s : Space f V) (line : ℕ → V × V) (M : List ℕ) (e h : ℕ) : Type 0 where
  pub tip : V
  pub outer : V
  pub cs : List (K × K)
  pub tip' : V
  pub outer' : V
  pub cs' : List (K × K)
  pub first : Exposed s line M e tip outer cs
  pub second : Exposed s line M h tip' outer' cs'
  pub outers : Misses s line M (outer ∷ outer' ∷ [])
  pub common : HaveCommonLine f cs cs' M

module _ {K V : Type 0} {f : Field K} (s : Space f V) (line : ℕ → V × V) (M : List ℕ) where
  -- whether M misses both outers, where it misses one
  decide_outers : (u w : V) → Misses s line M (u ∷ []) → Dec (Misses s line M (u ∷ w ∷ []))
  decide_outers u w i = go (decide_span f s (vectors line M ++ u ∷ []) w)
    where
      go : Dec (InSpan s (vectors line M ++ u ∷ []) w) → Dec (Misses s line M (u ∷ w ∷ []))
      go (yes c) = no (λ j. appended_is_outside s (vectors line M ++ u ∷ []) w
          (subst (λ vs. IsIndependent s vs) (sym (append_assoc (vectors line M) (u ∷ []) (w ∷ []))) j) c)
      go (no n) = yes (two_missed s line M u w i n)

  -- whichever tips and outers there are, they tell whether e and h overlap
  module _ (e : ℕ) (tip outer : V) (cs : List (K × K)) (x : Exposed s line M e tip outer cs) (h : ℕ) (tip' outer' : V) (cs' : List (K × K))
      (y : Exposed s line M h tip' outer' cs') where
    pub overlap_of : Misses s line M (outer ∷ outer' ∷ []) → HaveCommonLine f cs cs' M → Overlap s line M e h
    overlap_of i k = record {
      tip = tip;
      outer = outer;
      cs = cs;
      tip' = tip';
      outer' = outer';
      cs' = cs';
      first = x;
      second = y;
      outers = i;
      common = k;
    }

    pub overlap_only : Overlap s line M e h → Misses s line M (outer ∷ outer' ∷ []) × HaveCommonLine f cs cs' M
    overlap_only r = (
      same_outers s line M e r.tip r.outer r.cs r.first tip outer cs x h r.tip' r.outer' r.cs' r.second tip' outer' cs' y r.outers,
      (
        r.common.0,
        same_support s line M e r.tip r.outer r.cs r.first tip outer cs x r.common.0 r.common.1,
        same_support s line M h r.tip' r.outer' r.cs' r.second tip' outer' cs' y r.common.0 r.common.2,
      ),
    )

    pub decide_overlap_of : Dec (Overlap s line M e h)
    decide_overlap_of = go (decide_outers outer outer' x.apart) (decide_common_line f cs cs' M)
      where
        go : Dec (Misses s line M (outer ∷ outer' ∷ [])) → Dec (HaveCommonLine f cs cs' M) → Dec (Overlap s line M e h)
        go (yes i) (yes k) = yes (overlap_of i k)
        go (no n) k = no (λ r. n (overlap_only r).0)
        go (yes i) (no n) = no (λ r. n (overlap_only r).1)

  -- whether two lines overlap
  pub decide_overlap : (e h : ℕ) → IsIndependent s (vectors line M) → Dec (Overlap s line M e h)
  decide_overlap e h i = go (decide_exposed e) (decide_exposed h)
    where
      decide_exposed : (l : ℕ) → Dec (HasPlace s line M l exposed)
      decide_exposed l = let r = place_of_a_line s line M l i in pick r.0 r.1
        where
          other : (p : Place) → HasPlace s line M l p → p ≢ exposed → Dec (HasPlace s line M l exposed)
          other p k n = no (λ q. n (place_is_unique s line M l p exposed k q))

          pick : (p : Place) → HasPlace s line M l p → Dec (HasPlace s line M l exposed)
          pick exposed k = yes k
          pick inside k = other inside k (λ z. cc)
          pick single k = other single k (λ z. cc)
          pick free k = other free k (λ z. cc)

      go : Dec (HasPlace s line M e exposed) → Dec (HasPlace s line M h exposed) → Dec (Overlap s line M e h)
      go (no n) d = no (λ r. n (exposed_of_tip s line M e r.tip r.outer r.cs r.first))
      go (yes k) (no n) = no (λ r. n (exposed_of_tip s line M h r.tip' r.outer' r.cs' r.second))
      go (yes k) (yes l) =
          let x = tip_of_exposed s line M e k in
          let y = tip_of_exposed s line M h l in
          decide_overlap_of e x.0 x.1 x.2 x.3 h y.0 y.1 y.2 y.3

  -- an overlap is one of two lines in either order
  pub overlap_swapped : (e h : ℕ) → Overlap s line M e h → Overlap s line M h e
  overlap_swapped e h r = record {
    tip = r.tip';
    outer = r.outer';
    cs = r.cs';
    tip' = r.tip;
    outer' = r.outer;
    cs' = r.cs;
    first = r.second;
    second = r.first;
    outers = same_length_independent s (vectors line M ++ r.outer ∷ r.outer' ∷ []) (vectors line M ++ r.outer' ∷ r.outer ∷ []) r.outers
        (search placing depth 8) (omega (arith, length-append {A = V}));
    common = (r.common.0, r.common.2, r.common.1);
  }

-- e and h and the lines of M: distinct, and each of two independent vectors
module _ {K V : Type 0} {f : Field K} (s : Space f V) (line : ℕ → V × V) (M : List ℕ) (e h : ℕ) (ov : Overlap s line M e h) where
  pub overlap_base : IsIndependent s (vectors line M)
  overlap_base = exposed_base s line M e ov.tip ov.outer ov.cs ov.first

  -- two different lines, since their outers are independent over M
  pub overlapping_differ : e ≢ h
  overlapping_differ z = appended_is_outside s (vectors line M ++ ov.outer ∷ []) ov.outer'
      (subst (λ vs. IsIndependent s vs) (sym (append_assoc (vectors line M) (ov.outer ∷ []) (ov.outer' ∷ []))) ov.outers)
      (through s (vectors line (h ∷ [])) (vectors line M ++ ov.outer ∷ []) ov.outer'
      (subst (λ t. Within s (vectors line (t ∷ [])) (vectors line M ++ ov.outer ∷ [])) z
      (exposed_within s line M e ov.tip ov.outer ov.cs ov.first))
      (ov.second.tip_outer_in.each ov.outer' (inr (inl refl))))

  pub overlap_distinct : IsDistinct (e ∷ h ∷ M)
  overlap_distinct = (
    λ i. elim i [ inl z ↦ overlapping_differ z | inr j ↦ exposed_not_in s line M e ov.tip ov.outer ov.cs ov.first j ],
    (exposed_not_in s line M h ov.tip' ov.outer' ov.cs' ov.second, independent_distinct s line M overlap_base),
  )

  pub overlap_line_independent : (l : ℕ) → In l (e ∷ h ∷ M) → IsIndependent s (vectors line (l ∷ []))
  overlap_line_independent l (inl z) = subst (λ t. IsIndependent s (vectors line (t ∷ []))) (sym z)
      (exposed_line_independent s line M e ov.tip ov.outer ov.cs ov.first)
  overlap_line_independent l (inr (inl z)) = subst (λ t. IsIndependent s (vectors line (t ∷ []))) (sym z)
      (exposed_line_independent s line M h ov.tip' ov.outer' ov.cs' ov.second)
  overlap_line_independent l (inr (inr i)) = line_independent s line M l overlap_base i
