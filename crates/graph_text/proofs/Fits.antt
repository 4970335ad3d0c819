-- What may be read of names, edges and members of classes.
use Rattle.std.proofs.Common.{◌≡◌, ℕ, ◌↔◌, ◌≤◌, List, [], ◌∷◌, ◌++◌, length, ap, ◌∙◌, subst, arith}
use Rattle.std.specs.List.{AllByRecursion}
use Rattle.std.proofs.lemmas.List.{length-append}
use Rattle.vector_spaces.proofs.Distinct.{IsDistinct, distinct_at_most, distinct_left}
use Rattle.vector_spaces.proofs.Members.{In-append_left}
use Rattle.graph_text.specs.Statements.{first_appearances}
use Rattle.graph_text.proofs.Appearances.{appearing-In, In-appearing, distinct-appearing}
use Rattle.graph_text.proofs.KnownNames.{Names, EdgeNames}

pub record Fits (most : ℕ) (names : Names) (edges : EdgeNames) (members : Names) : Type 0 where
  pub short : AllByRecursion (λ name. length name ≤ 32) names
  pub few_vertices : length (first_appearances names) ≤ most
  pub few_edges : length edges ≤ 512
  pub apart : IsDistinct members

pub all-append : {X : Type 0} (P : X → Type 0) (xs ys : List X) → AllByRecursion P (xs ++ ys) ↔ (AllByRecursion P xs × AllByRecursion P ys)
all-append P [] ys = (λ h. (tt, h), λ h. h.1)
all-append P (x ∷ xs) ys = (λ h. let r = (all-append P xs ys).0 h.1 in ((h.0, r.0), r.1), λ h. (h.0.0, (all-append P xs ys).1 (h.0.1, h.1)))

pub more_appear : (names more : Names) → length (first_appearances names) ≤ length (first_appearances (names ++ more))
more_appear names more =
    distinct_at_most (first_appearances names) (first_appearances (names ++ more)) (distinct-appearing names)
    (λ name i. In-appearing name (names ++ more) (In-append_left name names more (appearing-In name names i)))

-- so may each front of it
pub fits-front : (most : ℕ) (names more all_names : Names) (edges edges' all_edges : EdgeNames) (members members' all_members : Names)
    → all_names ≡ names ++ more → all_edges ≡ edges ++ edges' → all_members ≡ members ++ members'
    → Fits most all_names all_edges all_members → Fits most names edges members
fits-front most names more all_names edges edges' all_edges members members' all_members ns es ms h = record {
  short = ((all-append (λ name. length name ≤ 32) names more).0 (subst (AllByRecursion (λ name. length name ≤ 32)) ns h.short)).0;
  few_vertices = let l = h.few_vertices in let m = more_appear names more in let e = ap (λ names. length (first_appearances names)) ns in omega (arith, l, m, e);
  few_edges = let l = h.few_edges in let s = ap length es ∙ length-append edges edges' in omega (arith, l, s);
  apart = distinct_left members members' (subst IsDistinct ms h.apart);
}

pub fits-name : (most : ℕ) (names : Names) (edges : EdgeNames) (members members' : Names) (name : List ℕ) → Fits most names edges members
    → length name ≤ 32 → length (first_appearances (names ++ name ∷ [])) ≤ most → IsDistinct members'
    → Fits most (names ++ name ∷ []) edges members'
fits-name most names edges members members' name h short few apart =
    record { short = (all-append (λ name. length name ≤ 32) names (name ∷ [])).1 (h.short, (short, tt)); few_vertices = few; few_edges = h.few_edges; apart = apart }

pub fits-short : (most : ℕ) (names : Names) (edges : EdgeNames) (members : Names) (name : List ℕ)
    → Fits most (names ++ name ∷ []) edges members → length name ≤ 32
fits-short most names edges members name h = ((all-append (λ name. length name ≤ 32) names (name ∷ [])).0 h.short).1.0
