-- Classes of lines, by the first lines with their spans.
use Rattle.std.proofs.Common.{◌≡◌, ℕ, ◌+◌, ◌<◌, List, [], ◌∷◌, ◌++◌, length, All, sym, ap, ◌∙◌, subst}
use Rattle.std.proofs.lemmas.List.{length_push}
use Rattle.std.proofs.lemmas.List.Elements.{All-push}
use Rattle.search.specs.Below.{ArePartsBelow}
use Rattle.search.specs.Notes.{AreOf}
use Rattle.search.specs.Repeats.{AreFirsts}
use Rattle.search.specs.declared.labels.Labels.{Labels}

-- one more line below n
pub one_more_below : (n i m : ℕ) (xs ys : List ℕ) → ys ≡ xs ++ m ∷ [] → m < n → length xs ≡ i → All (λ k. k < n) xs → (length ys ≡ i + 1) × All (λ k. k < n) ys
one_more_below n i m xs ys e h l a = (
  ap length e ∙ length_push xs m ∙ ap (λ k. k + 1) l,
  subst (All (λ k. k < n)) (sym e) (All-push (λ k. k < n) xs m a h),
)

module _ (n : ℕ) (firsts fs : List ℕ) (is : fs ≡ firsts) (h : AreFirsts n firsts) where
  pub one_each : length fs ≡ n
  one_each = ap length is ∙ h.one_each

  pub firsts_within : All (λ m. m < length fs) fs
  firsts_within = subst (λ k. All (λ m. m < k) fs) (sym one_each) (subst (All (λ m. m < n)) (sym is) h.within)

  pub labels_by_firsts : (l : Labels) → AreOf n l → AreOf (length fs) l
  labels_by_firsts l o = subst (λ k. AreOf k l) (sym one_each) o

  pub parts_by_firsts : (l : Labels) (parts : List (List ℕ)) → AreOf (length fs) l → ArePartsBelow (length l.labels.items) parts → ArePartsBelow n parts
  parts_by_firsts l parts o b = subst (λ k. ArePartsBelow k parts) (o.labels ∙ one_each) b
