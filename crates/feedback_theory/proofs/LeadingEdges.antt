-- Edges by the ends that they lead from and to.
use Rattle.std.proofs.Common.{◌≡◌, ℕ, ◌+◌, ◌≤◌, inl, inr, List, [], ◌∷◌, sym, ap, ◌∙◌, subst, arith}
use Rattle.std.proofs.Common.{◌≡◌, ℕ, ◌+◌, ◌≤◌, inl, inr, List, [], ◌∷◌, sym, ap, ◌∙◌, subst, arith}
use Rattle.edge_lists.specs.Connections.{Joined}
use Rattle.edge_lists.specs.EdgePairs.{HaveCommonEnd}
use Rattle.edge_lists.specs.Occurrences.{count}
use Rattle.edge_lists.proofs.Occurrences.{count-here}
use Rattle.feedback_theory.specs.FeedbackSets.{HasEnd, LeadsTo}

module _ (ends : ℕ → ℕ × ℕ) where
  pub leads_joined : (K : List ℕ) (e x w : ℕ) → LeadsTo ends e x w → Joined ends K (ends e).0 (ends e).1 → Joined ends K x w
  leads_joined K e x w (inl (p, q)) j = subst (λ t. Joined ends K t w) p (subst (λ t. Joined ends K (ends e).0 t) q j)
  leads_joined K e x w (inr (p, q)) j = sym (subst (λ t. Joined ends K t x) q (subst (λ t. Joined ends K (ends e).0 t) p j))

  pub leads_ends : (K : List ℕ) (e x w : ℕ) → LeadsTo ends e x w → Joined ends K x w → Joined ends K (ends e).0 (ends e).1
  leads_ends K e x w (inl (p, q)) j = subst (λ t. Joined ends K t (ends e).1) (sym p) (subst (λ t. Joined ends K x t) (sym q) j)
  leads_ends K e x w (inr (p, q)) j = sym (subst (λ t. Joined ends K t (ends e).0) (sym p) (subst (λ t. Joined ends K x t) (sym q) j))

  pub touches : (e x w : ℕ) → LeadsTo ends e x w → 1 ≤ count (ends e).0 (x ∷ []) + count (ends e).1 (x ∷ [])
  touches e x w (inl (p, q)) = omega (arith, subst (λ t. 1 ≤ count (ends e).0 (t ∷ [])) p (count-here (ends e).0 []))
  touches e x w (inr (p, q)) = omega (arith, subst (λ t. 1 ≤ count (ends e).1 (t ∷ [])) p (count-here (ends e).1 []))

  pub end_total : (e x w : ℕ) → LeadsTo ends e x w → (X : List ℕ) → count (ends e).0 X + count (ends e).1 X ≡ count x X + count w X
  end_total e x w (inl (p, q)) X = omega (arith, ap (λ t. count t X) p, ap (λ t. count t X) q)
  end_total e x w (inr (p, q)) X = omega (arith, ap (λ t. count t X) p, ap (λ t. count t X) q)

  pub has_end : (e x w : ℕ) → LeadsTo ends e x w → HasEnd ends e x
  has_end e x w (inl h) = inl h.0
  has_end e x w (inr h) = inr h.0

  pub share_at : (e f v : ℕ) → HasEnd ends e v → HasEnd ends f v → HaveCommonEnd ends e f
  share_at e f v (inl p) (inl q) = inl (inl (p ∙ sym q))
  share_at e f v (inl p) (inr q) = inl (inr (p ∙ sym q))
  share_at e f v (inr p) (inl q) = inr (inl (p ∙ sym q))
  share_at e f v (inr p) (inr q) = inr (inr (p ∙ sym q))
