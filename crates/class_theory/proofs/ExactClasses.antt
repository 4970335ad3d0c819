-- Families whose labels are exact: lines of a class are akin in pairs, and those of different classes are separated by a set.
use Rattle.std.proofs.Common.{◌≡◌, ◌≢◌, ℕ, ◌<◌, ◌⊎◌, inl, inr, List, [], ◌∷◌, refl, sym, ◌∙◌, Bool, true, false}
use Rattle.std.specs.List.{filter}
use Rattle.std.proofs.lemmas.Bool.{cases_Bool, true≢false}
use Rattle.class_theory.proofs.Classes.{class_lines, of_label_in, of_label_only, of_label}
use Rattle.class_theory.proofs.Components.{passes_or_stray}
use Rattle.class_theory.proofs.Families.{IsFamily, progress_grows, separating}
use Rattle.class_theory.proofs.Labels.{AreExact, label}
use Rattle.class_theory.proofs.LinesBelow.{IsListing, IsLineSet}
use Rattle.class_theory.proofs.Separations.{Progress, Separates, wide_of_separates, spread}
use Rattle.class_theory.proofs.TurnEnds.{ends_of, TurnEnd}
use Rattle.parity_theory.proofs.Entries.{at_in}
use Rattle.parity_theory.proofs.Exposure.{Exposed, exposed_line_independent}
use Rattle.parity_theory.proofs.LineSets.{line_independent}
use Rattle.parity_theory.proofs.Lines.{vectors}
use Rattle.parity_theory.proofs.Positions.{filter_only, sub_filter}
use Rattle.parity_theory.proofs.Supports.{support_in_each, InSupport}
use Rattle.parity_theory.proofs.Widths.{IsWide}
use Rattle.vector_spaces.proofs.Independence.{IsIndependent}
use Rattle.vector_spaces.proofs.Members.{In}
use Rattle.vector_spaces.proofs.Space.{Field, Space}
use Rattle.vector_spaces.proofs.Sublists.{sub_in}

-- a family with its table, whose labels are exact, and a list of the lines below n
pub record ExactFamily {K V : Type 0} {f : Field K} (s : Space f V) (line : ℕ → V × V) (n k : ℕ) : Type 0 where
  pub live : ℕ → Bool
  pub akin : ℕ → ℕ → Bool
  pub family : List (List ℕ)
  pub is_family : IsFamily s line n k live akin family
  pub exact : AreExact n akin
  pub all : List ℕ
  pub listing : IsListing n all

module _ {K V : Type 0} {f : Field K} {s : Space f V} {line : ℕ → V × V} {n k : ℕ} (F : ExactFamily s line n k) where
  -- the class of a line, by its label, and the lines of a class
  abbrev pub class : ℕ → ℕ
  class = label F.akin

  abbrev pub lines_of : ℕ → List ℕ
  lines_of c = class_lines class F.all c

  -- the lines of a class are akin in pairs
  pub class_akin : (c i j : ℕ) → In i (lines_of c) → In j (lines_of c) → i ≢ j → F.akin i j ≡ true
  class_akin c i j a b m =
      let J = of_label class c in
      let e = of_label_only class c i (filter_only J F.all i a) in
      let d = of_label_only class c j (filter_only J F.all j b) in
      elim ((F.exact i (F.listing.below i (sub_in (filter J F.all) F.all (sub_filter J F.all) i a)) j
      (F.listing.below j (sub_in (filter J F.all) F.all (sub_filter J F.all) j b))).related (e ∙ sym d))
      [ inl x ↦ absurd (m x) | inr x ↦ x ]

  pub class_below : (c i : ℕ) → In i (lines_of c) → i < n
  class_below c i a = let J = of_label class c in F.listing.below i (sub_in (filter J F.all) F.all (sub_filter J F.all) i a)

  -- progress on a class ends the turn, and so does a set that is wide on one
  pub progress_class : (c : ℕ) (M : List ℕ) → IsLineSet n k M → IsIndependent s (vectors line M) → Progress s line M (lines_of c) →
      TurnEnd s line n k F.akin
  progress_class c M a i p = ends_of s line n k F.akin M a i (progress_grows F.is_family M (lines_of c) (class_below c) (class_akin c) p)

  pub wide_class : (c : ℕ) (M : List ℕ) → IsLineSet n k M → IsIndependent s (vectors line M) → IsWide s line M (vectors line (lines_of c)) →
      TurnEnd s line n k F.akin
  wide_class c M a i w = progress_class c M a i (spread s line M (lines_of c) w)

  -- a line with a vector that is not null is live
  pub live_of : (i : ℕ) (v : V) → i < n → In v (vectors line (i ∷ [])) → v ≢ s.null → F.live i ≡ true
  live_of i v a j m = go (cases_Bool (F.live i))
    where
      go : (F.live i ≡ true) ⊎ (F.live i ≡ false) → F.live i ≡ true
      go (inl e) = e
      go (inr e) = absurd (m (F.is_family.dead i a e v j))

  pub live_of_independent : (i : ℕ) → i < n → IsIndependent s (vectors line (i ∷ [])) → F.live i ≡ true
  live_of_independent i a e = live_of i (line i).0 a (inl refl) e.0

  -- two live lines with other labels: a set of the family separates them
  pub labels_separated : (e g : ℕ) → e < n → g < n → F.live e ≡ true → F.live g ≡ true → class e ≢ class g → (N : List ℕ) × In N F.family ×
      Separates s line N e g
  labels_separated e g a b u v m = go (cases_Bool (F.akin e g))
    where
      go : (F.akin e g ≡ true) ⊎ (F.akin e g ≡ false) → (N : List ℕ) × In N F.family × Separates s line N e g
      go (inl y) = absurd (m ((F.exact e a g b).labelled y))
      go (inr y) = separating F.is_family e g a b u v y

  -- a support that leaves its class: a set of the family separates the two lines, as circuits wants it
  pub stray_support : (M : List ℕ) (e g : ℕ) (t o : V) (cs : List (K × K)) → IsIndependent s (vectors line M) → ((i : ℕ) → In i M → i < n) →
      e < n → Exposed s line M e t o cs → InSupport f g cs M → class e ≢ class g →
      (N : List ℕ) × In N F.family × IsWide s line N (vectors line (e ∷ g ∷ []))
  stray_support M e g t o cs i b l x (p, a, z) m =
      let j = at_in g p M cs a in
      let r = labels_separated e g l (b g j)
      (live_of_independent e l (exposed_line_independent s line M e t o cs x))
      (live_of_independent g (b g j) (line_independent s line M g i j)) m in
      (r.0, r.1, wide_of_separates s line r.0 e g r.2)

module _ {K : Type 0} (f : Field K) where
  -- the support of a line leaves its class, or lies in it
  pub leaves_or_closed : (lab : ℕ → ℕ) (e : ℕ) (M : List ℕ) (cs : List (K × K)) → ((g : ℕ) × InSupport f g cs M × (lab e ≢ lab g)) ⊎
      ((g : ℕ) → InSupport f g cs M → lab g ≡ lab e)
  leaves_or_closed lab e M cs = elim (passes_or_stray f (of_label lab (lab e)) cs M) [
    | inl h ↦ inr (λ g i. of_label_only lab (lab e) g (support_in_each f (λ l. of_label lab (lab e) l ≡ true) cs M h g i))
    | inr r ↦ inl (r.0, r.1, λ q. true≢false (sym (of_label_in lab (lab e) r.0 (sym q)) ∙ r.2))
  ]
