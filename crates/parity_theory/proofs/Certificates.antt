-- Certificates, and how they are lifted from the space modulo a point.
use Rattle.std.proofs.Common.{◌≡◌, ℕ, suc, ◌+◌, List, [], ◌∷◌, map, length, sym, subst, arith}
use Rattle.std.proofs.lemmas.List.{length-map}
use Rattle.parity_theory.proofs.Contraction.{mapped, vectors-mapped}
use Rattle.parity_theory.proofs.Lines.{vectors}
use Rattle.parity_theory.proofs.Parts.{PartsOver, halves}
use Rattle.vector_spaces.proofs.Bases.{HasRankOver}
use Rattle.vector_spaces.proofs.Independence.{IsIndependent}
use Rattle.vector_spaces.proofs.Members.{In, In-map}
use Rattle.vector_spaces.proofs.Quotients.{Quotient, projects-lifts, span_from_quotient, independent_from_quotient, rank_from_quotient}
use Rattle.vector_spaces.proofs.Space.{Field, Space}
use Rattle.vector_spaces.proofs.Span.{InSpan}
use Rattle.vector_spaces.proofs.Within.{Within}

-- an independent kernel that spans the required lines, and parts of the positions with their ranks over it
pub record Certificate {K V : Type 0} {f : Field K} (s : Space f V) (line : ℕ → V × V) (required : List ℕ) (kernel : List V) (parts : List (List ℕ × ℕ)) : Type 0 where
  pub independent : IsIndependent s kernel
  pub required_in : Within s (vectors line required) kernel
  pub ranks : PartsOver s line kernel parts

-- the bound that a certificate gives: the length of the kernel, and half of each rank, rounded down
abbrev pub bound : {V : Type 0} → List V → List (List ℕ × ℕ) → ℕ
bound kernel parts = length kernel + halves parts

module _ {K V W : Type 0} {f : Field K} (s : Space f V) (t : Space f W) (p : V) (q : Quotient s t p) (line : ℕ → V × V) where
  -- the kernel lifted, with the point in front
  abbrev pub lifted : List W → List V
  lifted kernel = p ∷ map q.lift kernel

  kernel_lift : (kernel : List W) → IsIndependent t kernel → IsIndependent s (lifted kernel)
  kernel_lift kernel i = independent_from_quotient s t p q (map q.lift kernel) (subst (λ ws. IsIndependent t ws) (sym (projects-lifts s t p q kernel)) i)

  within_lift : (L : List ℕ) (kernel : List W) → Within t (vectors (mapped q.project line) L) kernel → Within s (vectors line L) (lifted kernel)
  within_lift L kernel h = record {
    each = λ v i. span_from_quotient s t p q (map q.lift kernel) v (subst (λ ws. InSpan t ws (q.project v)) (sym (projects-lifts s t p q kernel))
        (h.each (q.project v) (subst (λ ws. In (q.project v) ws) (sym (vectors-mapped q.project line L)) (In-map q.project v (vectors line L) i))));
  }

  rank_lift : (kernel : List W) (L : List ℕ) (n : ℕ) → HasRankOver t kernel (vectors (mapped q.project line) L) n → HasRankOver s (lifted kernel) (vectors line L) n
  rank_lift kernel L n r = rank_from_quotient s t p q (map q.lift kernel) (vectors line L) n
      (subst (λ ws. HasRankOver t ws (map q.project (vectors line L)) n) (sym (projects-lifts s t p q kernel)) (subst (λ A. HasRankOver t kernel A n) (vectors-mapped q.project line L) r))

  parts_lift : (kernel : List W) (parts : List (List ℕ × ℕ)) → PartsOver t (mapped q.project line) kernel parts → PartsOver s line (lifted kernel) parts
  parts_lift kernel [] h = tt
  parts_lift kernel (x ∷ parts) h = (rank_lift kernel x.0 x.1 h.0, parts_lift kernel parts h.1)

  -- a certificate of the lines modulo the point is one of the lines, and its bound is greater by one
  pub lift_certificate : (required : List ℕ) (kernel : List W) (parts : List (List ℕ × ℕ)) → Certificate t (mapped q.project line) required kernel parts → Certificate s line required (lifted kernel) parts
  lift_certificate required kernel parts c = record {
    independent = kernel_lift kernel c.independent;
    required_in = within_lift required kernel c.required_in;
    ranks = parts_lift kernel parts c.ranks;
  }

  pub bound-lift : (kernel : List W) (parts : List (List ℕ × ℕ)) → bound (lifted kernel) parts ≡ suc (bound kernel parts)
  bound-lift kernel parts = let l = length-map kernel q.lift in omega arith
