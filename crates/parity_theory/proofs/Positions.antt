-- Lists of positions: their vectors, and parts of them.
use Rattle.std.proofs.Common.{◌≡◌, ℕ, ◌+◌, ◌⊎◌, inl, inr, List, [], ◌∷◌, ◌++◌, length, refl, sym, ap, ◌∙◌, subst, arith, Bool, true, false, cond, true≢false}
use Rattle.std.specs.List.{filter}
use Rattle.std.proofs.lemmas.Bool.{cases_Bool}
use Rattle.std.proofs.lemmas.List.{length-append}
use Rattle.parity_theory.proofs.Lines.{vectors}
use Rattle.vector_spaces.proofs.Members.{In}
use Rattle.vector_spaces.proofs.Middles.{in_middle}
use Rattle.vector_spaces.proofs.Space.{Field, Space}
use Rattle.vector_spaces.proofs.Sublists.{IsSublist}
use Rattle.vector_spaces.proofs.Within.{Within, within_members}

module _ {V : Type 0} (line : ℕ → V × V) where
  pub vectors-append : (L M : List ℕ) → vectors line (L ++ M) ≡ vectors line L ++ vectors line M
  vectors-append [] M = refl
  vectors-append (l ∷ L) M = ap (λ t. (line l).0 ∷ (line l).1 ∷ t) (vectors-append L M)

  pub length-vectors : (L : List ℕ) → length (vectors line L) ≡ length L + length L
  length-vectors [] = omega arith
  length-vectors (l ∷ L) = let e = length-vectors L in omega arith

  pub length-missing : (L : List ℕ) (X : List V) → length (vectors line L ++ X) ≡ length L + length L + length X
  length-missing L X = let e = length-vectors L in let h = length-append (vectors line L) X in omega arith

  pub vectors_first : (L : List ℕ) (l : ℕ) → In l L → In (line l).0 (vectors line L)
  vectors_first [] l i = absurd i
  vectors_first (m ∷ L) l (inl e) = inl (ap (λ x. (line x).0) e)
  vectors_first (m ∷ L) l (inr i) = inr (inr (vectors_first L l i))

  pub vectors_second : (L : List ℕ) (l : ℕ) → In l L → In (line l).1 (vectors line L)
  vectors_second [] l i = absurd i
  vectors_second (m ∷ L) l (inl e) = inr (inl (ap (λ x. (line x).1) e))
  vectors_second (m ∷ L) l (inr i) = inr (inr (vectors_second L l i))

  -- each of them is a vector of a line
  pub members_of_vectors : (L : List ℕ) (v : V) → In v (vectors line L) → (l : ℕ) × In l L × In v (vectors line (l ∷ []))
  members_of_vectors [] v i = absurd i
  members_of_vectors (m ∷ L) v (inl e) = (m, inl refl, inl e)
  members_of_vectors (m ∷ L) v (inr (inl e)) = (m, inl refl, inr (inl e))
  members_of_vectors (m ∷ L) v (inr (inr i)) = let r = members_of_vectors L v i in (r.0, inr r.1, r.2)

  pub vector_of_line : (L : List ℕ) (l : ℕ) (v : V) → In l L → In v (vectors line (l ∷ [])) → In v (vectors line L)
  vector_of_line L l v i (inl e) = subst (λ x. In x (vectors line L)) (sym e) (vectors_first L l i)
  vector_of_line L l v i (inr (inl e)) = subst (λ x. In x (vectors line L)) (sym e) (vectors_second L l i)
  vector_of_line L l v i (inr (inr e)) = absurd e

  pub vectors_more : (L M : List ℕ) → ((l : ℕ) → In l L → In l M) → (v : V) → In v (vectors line L) → In v (vectors line M)
  vectors_more L M h v i = let r = members_of_vectors L v i in vector_of_line M r.0 v (h r.0 r.1) r.2

  pub sub_vectors : (L M : List ℕ) → IsSublist L M → IsSublist (vectors line L) (vectors line M)
  sub_vectors L [] h = ap (vectors line) h
  sub_vectors L (m ∷ M) (inl h) = inl (inl (sub_vectors L M h))
  sub_vectors L (m ∷ M) (inr h) = inr ((line m).1 ∷ vectors line h.0, ap (vectors line) h.1, inr (vectors line h.0, refl, sub_vectors h.0 M h.2))

pub filter-yes : {X : Type 0} (t : X → Bool) (x : X) (xs : List X) → t x ≡ true → filter t (x ∷ xs) ≡ x ∷ filter t xs
filter-yes t x xs e = ap (λ b. cond b (x ∷ filter t xs) (filter t xs)) e

pub filter-no : {X : Type 0} (t : X → Bool) (x : X) (xs : List X) → t x ≡ false → filter t (x ∷ xs) ≡ filter t xs
filter-no t x xs e = ap (λ b. cond b (x ∷ filter t xs) (filter t xs)) e

pub sub_filter : {X : Type 0} (t : X → Bool) (xs : List X) → IsSublist (filter t xs) xs
sub_filter t [] = refl
sub_filter t (x ∷ xs) = elim (t x) as (λ b. IsSublist (cond b (x ∷ filter t xs) (filter t xs)) (x ∷ xs)) [ true ↦ inr (filter t xs, refl, sub_filter t xs) | false ↦ inl (sub_filter t xs) ]

pub filter_in : {X : Type 0} (t : X → Bool) (xs : List X) (x : X) → In x xs → t x ≡ true → In x (filter t xs)
filter_in t [] x i e = i
filter_in t (y ∷ xs) x i e = go (cases_Bool (t y)) i (λ j. filter_in t xs x j e)
  where
    go : (t y ≡ true) ⊎ (t y ≡ false) → In x (y ∷ xs) → (In x xs → In x (filter t xs)) → In x (filter t (y ∷ xs))
    go (inl p) (inl q) ih = subst (λ l. In x l) (sym (filter-yes t y xs p)) (inl q)
    go (inl p) (inr j) ih = subst (λ l. In x l) (sym (filter-yes t y xs p)) (inr (ih j))
    go (inr p) (inl q) ih = absurd (let a : t y ≡ true = ap t (sym q) ∙ e in true≢false (sym a ∙ p))
    go (inr p) (inr j) ih = subst (λ l. In x l) (sym (filter-no t y xs p)) (ih j)

pub filter_only : {X : Type 0} (t : X → Bool) (xs : List X) (x : X) → In x (filter t xs) → t x ≡ true
filter_only t [] x i = absurd i
filter_only t (y ∷ xs) x i = go (cases_Bool (t y)) (filter_only t xs x)
  where
    go : (t y ≡ true) ⊎ (t y ≡ false) → (In x (filter t xs) → t x ≡ true) → t x ≡ true
    go (inl p) ih = elim (subst (λ l. In x l) (filter-yes t y xs p) i) [ inl q ↦ ap t q ∙ p | inr j ↦ ih j ]
    go (inr p) ih = ih (subst (λ l. In x l) (filter-no t y xs p) i)

module _ {K V : Type 0} {f : Field K} (s : Space f V) (line : ℕ → V × V) where
  infixl 65 ◌⊞◌
  infixl 70 ◌⊠◌
  infixl 65 ◌⊕◌
  infixl 70 ◌·◌
  open f use {zero as o, one, minus, ◌⊞◌, ◌⊠◌, inv}
  open s use {null, ◌⊕◌, ◌·◌}

  pub within_lines : (L M : List ℕ) → ((l : ℕ) → In l L → In l M) → Within s (vectors line L) (vectors line M)
  within_lines L M h = within_members s (vectors line L) (vectors line M) (vectors_more line L M h)

  -- one of the lines
  pub within_line : (l : ℕ) (L : List ℕ) → In l L → Within s (vectors line (l ∷ [])) (vectors line L)
  within_line l L i = within_members s (vectors line (l ∷ [])) (vectors line L) (λ v j. vector_of_line line L l v i j)

  -- what holds of each line
  pub within_each_line : (L : List ℕ) (vs : List V) → ((l : ℕ) → In l L → Within s (vectors line (l ∷ [])) vs) → Within s (vectors line L) vs
  within_each_line L vs h = record { each = λ v i. let r = members_of_vectors line L v i in (h r.0 r.1).each v r.2 }

  pub within_middle : (P : List ℕ) (m : ℕ) (Q : List ℕ) → Within s (vectors line (P ++ m ∷ Q)) (vectors line (m ∷ P ++ Q))
  within_middle P m Q = within_lines (P ++ m ∷ Q) (m ∷ P ++ Q) (in_middle P m Q)
