-- Families that begin with a set and grow by sets, and what is kept of their members.
use Rattle.std.proofs.Common.{◌≡◌, ℕ, ◌<◌, List, [], ◌∷◌, ◌++◌, length, refl, sym, ap, ◌∙◌, subst, arith, All, get_or, take, Option, None, Some}
use Rattle.std.proofs.lemmas.List.{map-append, get_or-map, get_or_default, length-append, length-map, take-map}
use Rattle.std.proofs.lemmas.List.Elements.{All-nil, All-cons, All-head, All-tail, All-push, All-get_or, All-map, All-take}
use Rattle.std.specs.Prelude.{MatchOption}
use Rattle.field_core.specs.Matrix.{Matrix}
use Rattle.linear_algebra.specs.Scalars.{Scalars}
use Rattle.linear_algebra.specs.Spans.{InSpan}
use Rattle.parity_lines.specs.LineSets.{IsIndependentSet}
use Rattle.parity_lines.specs.Problems.{ParityProblem}
use Rattle.quotients.specs.Subspaces.{HasElements}
use Rattle.families.specs.Families.{SetFamily, IsCommon, IsFamily, IsFirstMissing, Spans}
use Rattle.families.specs.Members.{HasItsSpan, IsFirstOutside, IsKept, IsSubspaceOf, SpansOf, sets_of}
use Rattle.families.specs.declared.member.Member.{Member}

-- each of a list and one more has P: those of the list have it, and that one
all_but_last : {X : Type 0} (P : X → Type 0) (xs : List X) (x : X) → All P (xs ++ x ∷ []) → All P xs × P x
all_but_last P [] x h = (All-nil P, All-head P x [] h)
all_but_last P (y ∷ xs) x h =
    let r = all_but_last P xs x (All-tail P y (xs ++ x ∷ []) h) in
    (All-cons P y xs (All-head P y (xs ++ x ∷ []) h) r.0, r.1)

abbrev family_of : ParityProblem → List (List ℕ) → SetFamily
family_of p sets = record { problem = p; sets = sets }

module _ (S : Scalars) (f : SetFamily) (k : IsFamily S f) (i : ℕ) (set : List ℕ) (h : i < length f.sets) (e : set ≡ get_or f.sets i []) where
  -- a set of a family is independent, and all are as long
  set_is_independent : IsIndependentSet S f.problem set
  set_is_independent = subst (IsIndependentSet S f.problem) (sym e) (All-get_or (IsIndependentSet S f.problem) f.sets i [] h k.independent)

  sets_as_long : All (λ s. length s ≡ length set) f.sets
  sets_as_long =
      let l : length set ≡ k.size = ap length e ∙ All-get_or (λ s. length s ≡ k.size) f.sets i [] h k.sizes in
      λ j d b. k.sizes j d b ∙ sym l

module _ (S : Scalars) (p : ParityProblem) where
  -- the span of a set is what the family of this set has in common
  common_of_one : (set : List ℕ) (space : Matrix) → IsSubspaceOf S p space (λ v. Spans S p v set) →
      IsSubspaceOf S p space (IsCommon S (family_of p (set ∷ [])))
  common_of_one set space h = record {
    width = h.width;
    elements = λ x. (
      λ i. All-cons (Spans S p x) set [] ((h.elements x).0 i) (All-nil (Spans S p x)),
      λ k. (h.elements x).1 (All-head (Spans S p x) set [] k),
    );
  }

  family_of_one : (set : List ℕ) → IsIndependentSet S p set → IsFamily S (family_of p (set ∷ []))
  family_of_one set i = record {
    nonempty = λ e. let k = ap length e in omega arith;
    independent = All-cons (IsIndependentSet S p) set [] i (All-nil (IsIndependentSet S p));
    size = length set;
    sizes = All-cons (λ s. length s ≡ length set) set [] refl (All-nil (λ s. length s ≡ length set));
  }

  -- with one set more, it has in common what it had and this set spans
  common_with : (sets : List (List ℕ)) (set : List ℕ) (old span new : Matrix) → IsSubspaceOf S p old (IsCommon S (family_of p sets)) →
      IsSubspaceOf S p span (λ v. Spans S p v set) → new.width ≡ old.width →
      HasElements S new (λ x. InSpan S old.width old.rows x × InSpan S old.width span.rows x) →
      IsSubspaceOf S p new (IsCommon S (family_of p (sets ++ set ∷ [])))
  common_with sets set old span new h s w e =
      let same : span.width ≡ old.width = s.width ∙ sym h.width in
      record {
        width = w ∙ h.width;
        elements = λ x. (
          λ i.
              let r = (e x).0 i in
              All-push (Spans S p x) sets set ((h.elements x).0 r.0) ((s.elements x).0 (subst (λ d. InSpan S d span.rows x) (sym same) r.1)),
          λ k.
              let r = all_but_last (Spans S p x) sets set k in
              (e x).1 ((h.elements x).1 r.0, subst (λ d. InSpan S d span.rows x) same ((s.elements x).1 r.1)),
        );
      }

  family_with : (sets : List (List ℕ)) (set : List ℕ) → IsFamily S (family_of p sets) → IsIndependentSet S p set →
      All (λ s. length s ≡ length set) sets → IsFamily S (family_of p (sets ++ set ∷ []))
  family_with sets set f i l = record {
    nonempty = λ e. let k = ap length e in omega (arith, length-append {A = List ℕ});
    independent = All-push (IsIndependentSet S p) sets set f.independent i;
    size = length set;
    sizes = All-push (λ s. length s ≡ length set) sets set l refl;
  }

-- so for what is kept of the members, of which m is the new one, with this set
module _ {X : Type 0} (S : Scalars) (p : ParityProblem) (m : Member X) (set : List ℕ) (is_set : m.set ≡ set) (span : HasItsSpan S p m) where
  pub kept_of_one : (none members : List (Member X)) (common : Matrix) → none ≡ [] → members ≡ none ++ m ∷ [] → IsIndependentSet S p set →
      IsSubspaceOf S p common (λ v. Spans S p v set) → IsKept S p members common
  kept_of_one none members common n e i h = subst (λ ms. IsKept S p ms common) (sym (e ∙ ap (λ ms. ms ++ m ∷ []) n)) (record {
    family = family_of_one S p m.set (subst (IsIndependentSet S p) (sym is_set) i);
    spans = All-cons (HasItsSpan S p) m [] span (All-nil (HasItsSpan S p));
    common_is = common_of_one S p m.set common (subst (λ s. IsSubspaceOf S p common (λ v. Spans S p v s)) (sym is_set) h);
  })

  pub kept_with : (members after : List (Member X)) (old new : Matrix) (f : SetFamily) → IsKept S p members old → family_of p (sets_of members) ≡ f →
      after ≡ members ++ m ∷ [] → IsIndependentSet S f.problem set → All (λ s. length s ≡ length set) f.sets → new.width ≡ old.width →
      HasElements S new (λ x. InSpan S old.width old.rows x × InSpan S old.width m.span.rows x) → IsKept S p after new
  kept_with members after old new f k is_f is_after i l w e =
      let longer : sets_of members ++ set ∷ [] ≡ sets_of after =
      ap (λ s. sets_of members ++ s ∷ []) (sym is_set) ∙ sym (ap sets_of is_after ∙ map-append (λ (m : Member X). m.set) members (m ∷ [])) in
      let own = subst (λ s. IsSubspaceOf S p m.span (λ v. Spans S p v s)) is_set span in
      record {
        family = subst (λ sets. IsFamily S (family_of p sets)) longer (family_with S p (sets_of members) set k.family
            (subst (λ (f : SetFamily). IsIndependentSet S f.problem set) (sym is_f) i)
            (subst (λ (f : SetFamily). All (λ s. length s ≡ length set) f.sets) (sym is_f) l));
        spans = subst (All (HasItsSpan S p)) (sym is_after) (All-push (HasItsSpan S p) members m k.spans span);
        common_is = subst (λ sets. IsSubspaceOf S p new (IsCommon S (family_of p sets))) longer
            (common_with S p (sets_of members) set old m.span new k.common_is own w e);
      }

-- the set of the member at an index
set_at : {X : Type 0} (members : List (Member X)) (i : ℕ) (m : Member X) → i < length members → m ≡ get_or members i m →
    m.set ≡ get_or (sets_of members) i []
set_at {X} members i m h e = ap (λ (m : Member X). m.set) e ∙ sym (get_or-map (λ (m : Member X). m.set) members i m [] h)

-- it stands there in the family, is independent, and all sets are as long
pub set_of_family : {X : Type 0} (S : Scalars) (p : ParityProblem) (members : List (Member X)) (f : SetFamily) (i : ℕ) (m : Member X) →
    IsFamily S (family_of p (sets_of members)) → family_of p (sets_of members) ≡ f → i < length f.sets → m ≡ get_or members i m →
    (m.set ≡ get_or f.sets i []) × IsIndependentSet S f.problem m.set × All (λ s. length s ≡ length m.set) f.sets
set_of_family {X} S p members f i m k e h is_m =
    let P : SetFamily → Type 0 = λ f. (m.set ≡ get_or f.sets i []) × IsIndependentSet S f.problem m.set × All (λ s. length s ≡ length m.set) f.sets in
    let b : i < length (sets_of members) = subst (λ (f : SetFamily). i < length f.sets) (sym e) h in
    let c : i < length members = subst (λ n. i < n) (length-map members (λ (m : Member X). m.set)) b in
    let at = set_at members i m c is_m in
    let g = family_of p (sets_of members) in
    subst P e (at, set_is_independent S g k i m.set b at, sets_as_long S g k i m.set b at)

module _ {X : Type 0} (S : Scalars) (p : ParityProblem) (members : List (Member X)) (common : Matrix) (k : IsKept S p members common) (v : List ℕ) where
  -- what the kept spans tell of a vector, the sets tell
  spans_by_sets : (members : List (Member X)) → All (HasItsSpan S p) members → All (SpansOf S v) members → All (Spans S p v) (sets_of members)
  spans_by_sets members s a = All-map (Spans S p v) (λ (m : Member X). m.set) members (λ j d h. ((s j d h).elements v).0 (a j d h))

  first_missing : (i : ℕ) → IsFirstOutside S members v i → IsFirstMissing S (family_of p (sets_of members)) v i
  first_missing i o = record {
    within = let e = length-map members (λ (m : Member X). m.set) in let h = o.within in omega arith;
    outside = go members o.within k.spans o.outside;
    before = subst (All (Spans S p v)) (sym (take-map (λ (m : Member X). m.set) i members))
        (spans_by_sets (take i members) (All-take (HasItsSpan S p) i members k.spans) o.before);
  }
    where
      go : (members : List (Member X)) → i < length members → All (HasItsSpan S p) members →
          ((m : Member X) → m ≡ get_or members i m → ¬ (SpansOf S v m)) → ¬ (Spans S p v (get_or (sets_of members) i []))
      go [] h s o = absurd (omega arith)
      go (m ∷ ms) h s o = λ j.
          let n : Member X = get_or (m ∷ ms) i m in
          let e : n ≡ get_or (m ∷ ms) i n = get_or_default (m ∷ ms) i m n h in
          o n e (((s i m h).elements v).1 (subst (Spans S p v) (sym (set_at (m ∷ ms) i n h e)) j))

  pub tells_missing : (f : SetFamily) → family_of p (sets_of members) ≡ f → (found : Option ℕ) →
      MatchOption found (All (SpansOf S v) members) (IsFirstOutside S members v) → MatchOption found (IsCommon S f v) (IsFirstMissing S f v)
  tells_missing f e None a = subst (λ (f : SetFamily). IsCommon S f v) e (spans_by_sets members k.spans a)
  tells_missing f e (Some i) o = subst (λ (f : SetFamily). IsFirstMissing S f v i) e (first_missing i o)
