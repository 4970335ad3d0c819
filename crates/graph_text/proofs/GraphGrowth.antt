-- What one more name, one more edge and one more name of a class change in the graph of a text.
use Rattle.std.proofs.Common.{◌≡◌, ℕ, suc, ◌+◌, ◌≤◌, List, [], ◌∷◌, ◌++◌, length, map, not, Bool, true, false, cond, None, Some, Option, refl, sym, ap, ap₂, subst, ◌∙◌, inl, inr, arith, eqb, ltb}
use Rattle.std.specs.Prelude.{◌≢◌, ◌||◌, slice_set}
use Rattle.std.specs.List.{position, position_or_len, flat_map}
use Rattle.std.specs.Str.{bytes_eq}
use Rattle.std.proofs.lemmas.Bool.{true≢false, lt-ltb, le-ltb, ltb-true, ltb-false, eq-eqb, ne_eqb}
use Rattle.std.proofs.lemmas.List.Folds.{position_or_len_push, list_any-append}
use Rattle.std.proofs.lemmas.List.Sums.{prefix_len-le-length}
use Rattle.std.proofs.lemmas.Grind.{flat_map-append}
use Rattle.std.proofs.lemmas.List.{map-append, length_push, append-nil}
use Rattle.graph_core.specs.NamedGraphs.{NamedGraph, with_vertex}
use Rattle.vector_spaces.proofs.Distinct.{IsDistinct}
use Rattle.vector_spaces.proofs.Members.{In, In-append, In-append_left, In-append_right}
use Rattle.graph_text.specs.Statements.{first_appearances, is_among, number_in, named_graph}
use Rattle.graph_text.specs.Texts.{with_name}
use Rattle.graph_text.proofs.Appearances.{appearing-In, In-appearing, distinct-appearing, appears_first, appears_again, number_stays}
use Rattle.graph_text.proofs.KnownNames.{Names, EdgeNames, ClassNames, eq-same, same-eq, other-false, among-In, In-among, among-not, not-among}

-- the names on the lines of classes, where the class of a name stands, and the class
abbrev pub members_of : ClassNames → Names
members_of classes = flat_map (λ members. members) classes

abbrev pub place : ClassNames → List ℕ → ℕ
place classes name = position_or_len (λ members. is_among members name) classes

abbrev pub class_of : ClassNames → List ℕ → Option ℕ
class_of classes name = position (λ members. is_among members name) classes

ltb_suc : (a b : ℕ) → ltb (suc a) (suc b) ≡ ltb a b
ltb_suc a b = go (ltb a b) refl
  where
    go : (v : Bool) → ltb a b ≡ v → ltb (suc a) (suc b) ≡ v
    go true e = let l = ltb-true a b e in lt-ltb (suc a) (suc b) (omega arith)
    go false e = let l = ltb-false a b e in le-ltb (suc a) (suc b) (omega arith)

-- a name is in a class where it stands on the line of one
in_some_class : (classes : ClassNames) (name : List ℕ) → ltb (place classes name) (length classes) ≡ is_among (members_of classes) name
in_some_class [] name = refl
in_some_class (c ∷ classes) name = go (is_among c name) (in_some_class classes name) ∙ sym (list_any-append (bytes_eq name) c (members_of classes))
  where
    go : (b : Bool) → ltb (place classes name) (length classes) ≡ is_among (members_of classes) name
        → ltb (cond (not b) (1 + place classes name) 0) (length (c ∷ classes)) ≡ (b || is_among (members_of classes) name)
    go true h = lt-ltb 0 (length (c ∷ classes)) (omega arith)
    go false h = let next : 1 + place classes name ≡ suc (place classes name) = omega arith in rw next (ltb_suc (place classes name) (length classes) ∙ h)

pub class-is : (classes : ClassNames) (name : List ℕ)
    → class_of classes name ≡ cond (is_among (members_of classes) name) (Some (place classes name)) None
class-is classes name = ap (λ b. cond b (Some (place classes name)) None) (in_some_class classes name)

pub in_no_class : (classes : ClassNames) (name : List ℕ) → ¬ (In name (members_of classes)) → class_of classes name ≡ None
in_no_class classes name absent = class-is classes name ∙ ap (λ b. cond b (Some (place classes name)) None) (not-among (members_of classes) name absent)

pub in_a_class : (classes : ClassNames) (name : List ℕ) → In name (members_of classes) → class_of classes name ≡ Some (place classes name)
in_a_class classes name there = class-is classes name ∙ ap (λ b. cond b (Some (place classes name)) None) (In-among (members_of classes) name there)

-- the first of two, if there is one
abbrev first_or : Option ℕ → Option ℕ → Option ℕ
first_or (Some k) other = Some k
first_or None other = other

pushed : (n l : ℕ) (b : Bool) → n ≤ l
    → cond (ltb (cond (eqb n l) (l + cond b 0 1) n) (l + 1)) (Some (cond (eqb n l) (l + cond b 0 1) n)) None ≡ first_or (cond (ltb n l) (Some n) None) (cond b (Some l) None)
pushed n l b within = go (ltb n l) refl b
  where
    go : (v : Bool) → ltb n l ≡ v → (b : Bool)
        → cond (ltb (cond (eqb n l) (l + cond b 0 1) n) (l + 1)) (Some (cond (eqb n l) (l + cond b 0 1) n)) None ≡ first_or (cond v (Some n) None) (cond b (Some l) None)
    go true e b = let less = ltb-true n l e in rw (ne_eqb n l (λ same. omega (arith, less, same)), lt-ltb n (l + 1) (omega arith)) refl
    go false e true = let more = ltb-false n l e in
        rw (eq-eqb n l (omega arith), lt-ltb (l + 0) (l + 1) (omega arith)) (ap Some (omega arith))
    go false e false = let more = ltb-false n l e in rw (eq-eqb n l (omega arith), le-ltb (l + 1) (l + 1) (omega arith)) refl

-- the class of a name, with one more class
pub one_more_class : (classes : ClassNames) (last : Names) (name : List ℕ)
    → class_of (classes ++ last ∷ []) name ≡ first_or (class_of classes name) (cond (is_among last name) (Some (length classes)) None)
one_more_class classes last name =
    let at = position_or_len_push (λ members. is_among members name) classes last in
    ap₂ (λ (k l : ℕ). cond (ltb k l) (Some k) None) at (length_push classes last)
    ∙ pushed (place classes name) (length classes) (is_among last name) (prefix_len-le-length (λ members. not (is_among members name)) classes)

-- the names of edges and of classes are among those of vertices
pub record AreKnown (names : Names) (edges : EdgeNames) (classes : ClassNames) : Type 0 where
  pub ends : (e : List ℕ × List ℕ) → In e edges → In e.0 names × In e.1 names
  pub members : (name : List ℕ) → In name (members_of classes) → In name names

pub known-more : (names more : Names) (edges : EdgeNames) (classes : ClassNames) → AreKnown names edges classes
    → AreKnown (names ++ more) edges classes
known-more names more edges classes h = record {
  ends = λ e i. (In-append_left e.0 names more (h.ends e i).0, In-append_left e.1 names more (h.ends e i).1);
  members = λ name i. In-append_left name names more (h.members name i);
}

pub known-class : (names more : Names) (edges : EdgeNames) (classes : ClassNames) → AreKnown names edges classes
    → AreKnown (names ++ more) edges (classes ++ more ∷ [])
known-class names more edges classes h = record {
  ends = (known-more names more edges classes h).ends;
  members = λ name i. elim (In-append name (members_of classes) (members_of (more ∷ [])) (subst (In name) (flat_map-append (λ members. members) classes (more ∷ [])) i)) [
    | inl j ↦ In-append_left name names more (h.members name j)
    | inr j ↦ In-append_right name names more (subst (In name) (append-nil more) j)
  ];
}

abbrev numbers : Names → EdgeNames → List (ℕ × ℕ)
numbers names edges = map (λ e. (number_in names e.0, number_in names e.1)) edges

numbers_stay : (names more : Names) (edges : EdgeNames) → ((e : List ℕ × List ℕ) → In e edges → In e.0 names × In e.1 names)
    → numbers (names ++ more) edges ≡ numbers names edges
numbers_stay names more [] h = refl
numbers_stay names more (e ∷ edges) h =
    let here = h e (inl refl) in
    ap₂ (λ (p : ℕ × ℕ) (ps : List (ℕ × ℕ)). p ∷ ps)
    (ap₂ (λ a b. (a, b)) (number_stays e.0 names more here.0) (number_stays e.1 names more here.1))
    (numbers_stay names more edges (λ f i. h f (inr i)))

-- the graph of names that are different
abbrev of_different : EdgeNames → ClassNames → Names → NamedGraph
of_different edges classes names = record { names = names; ends = numbers names edges; classes = map (class_of classes) names }

-- one more name
pub one_more_name : (names : Names) (edges : EdgeNames) (classes : ClassNames) (name : List ℕ) → AreKnown names edges classes
    → with_name (named_graph names edges classes) name ≡ named_graph (names ++ name ∷ []) edges classes
one_more_name names edges classes name known = go (is_among (first_appearances names) name) refl
  where
    go : (b : Bool) → is_among (first_appearances names) name ≡ b
        → cond b (of_different edges classes (first_appearances names)) (with_vertex (of_different edges classes (first_appearances names)) name)
        ≡ of_different edges classes (first_appearances (names ++ name ∷ []))
    go true e = sym (ap (of_different edges classes) (appears_again name names (appearing-In name names (among-In (first_appearances names) name e))))
    go false e =
        let new : ¬ (In name names) = λ i. among-not (first_appearances names) name e (In-appearing name names i) in
        let seen = first_appearances names in
        let ends = numbers_stay seen (name ∷ []) edges (λ f i. (In-appearing f.0 names (known.ends f i).0, In-appearing f.1 names (known.ends f i).1)) in
        let none = in_no_class classes name (λ i. new (known.members name i)) in
        sym (
        ap (of_different edges classes) (appears_first name names new)
        ∙ ap₂ (λ es ks. record { names = seen ++ name ∷ []; ends = es; classes = ks }) ends
        (map-append (class_of classes) seen (name ∷ []) ∙ ap (λ k. map (class_of classes) seen ++ k ∷ []) none)
        )

-- one more edge
pub one_more_edge : (names : Names) (edges : EdgeNames) (classes : ClassNames) (first second : List ℕ)
    → record (named_graph names edges classes) {
      ends = (named_graph names edges classes).ends
          ++ (number_in (first_appearances names) first, number_in (first_appearances names) second) ∷ [];
    }
    ≡ named_graph names (edges ++ (first, second) ∷ []) classes
one_more_edge names edges classes first second =
    ap (λ es. record { names = first_appearances names; ends = es; classes = map (class_of classes) (first_appearances names) })
    (sym (map-append (λ (e : List ℕ × List ℕ). (number_in (first_appearances names) e.0, number_in (first_appearances names) e.1)) edges ((first, second) ∷ [])))

-- ---- one more name in the last class

map_alike : {Y : Type 0} (f f' : List ℕ → Y) (names : Names) → ((x : List ℕ) → In x names → f x ≡ f' x) → map f names ≡ map f' names
map_alike f f' [] same = refl
map_alike {Y} f f' (n ∷ names) same = ap₂ (λ (y : Y) (ys : List Y). y ∷ ys) (same n (inl refl)) (map_alike f f' names (λ x i. same x (inr i)))

-- what is put at the number of a name, where the names are different
put_at_number : {Y : Type 0} (f f' : List ℕ → Y) (name : List ℕ) (names : Names) → IsDistinct names → In name names
    → ((x : List ℕ) → x ≢ name → f x ≡ f' x)
    → slice_set (map f names) (number_in names name) (f' name) ≡ map f' names
put_at_number f f' name [] apart there same = absurd there
put_at_number {Y} f f' name (n ∷ names) apart there same = go (bytes_eq name n) refl there (put_at_number f f' name names apart.1)
  where
    go : (b : Bool) → bytes_eq name n ≡ b → In name (n ∷ names)
        → (In name names → ((x : List ℕ) → x ≢ name → f x ≡ f' x) → slice_set (map f names) (number_in names name) (f' name) ≡ map f' names)
        → slice_set (map f (n ∷ names)) (cond (not b) (1 + number_in names name) 0) (f' name) ≡ map f' (n ∷ names)
    go true e i below =
        let here = same-eq name n e in
        ap₂ (λ (y : Y) (ys : List Y). y ∷ ys) (ap f' here) (map_alike f f' names (λ x j. same x (λ eq. apart.0 (subst (λ z. In z names) (eq ∙ here) j))))
    go false e i below =
        let far : n ≢ name = λ eq. true≢false (sym (eq-same name n (sym eq)) ∙ e) in
        let behind : In name names = elim i [ inl eq ↦ absurd (far (sym eq)) | inr j ↦ j ] in
        let next : 1 + number_in names name ≡ suc (number_in names name) = omega arith in
        rw next (ap₂ (λ (y : Y) (ys : List Y). y ∷ ys) (same n far) (below behind same))

-- the last class has the name, and every other name has the class that it had
pub one_more_member : (names : Names) (edges : EdgeNames) (classes : ClassNames) (last : Names) (name : List ℕ)
    → In name names → ¬ (In name (members_of classes))
    → record (named_graph names edges (classes ++ last ∷ [])) {
      classes = slice_set (named_graph names edges (classes ++ last ∷ [])).classes (number_in (first_appearances names) name) (Some (length classes));
    }
    ≡ named_graph names edges (classes ++ (last ++ name ∷ []) ∷ [])
one_more_member names edges classes last name there new =
    let seen = first_appearances names in
    let f = class_of (classes ++ last ∷ []) in
    let f' = class_of (classes ++ (last ++ name ∷ []) ∷ []) in
    let there' : is_among (last ++ name ∷ []) name ≡ true = In-among (last ++ name ∷ []) name (In-append_right name last (name ∷ []) (inl refl)) in
    let now : f' name ≡ Some (length classes) =
    one_more_class classes (last ++ name ∷ []) name
    ∙ ap (λ k. first_or k (cond (is_among (last ++ name ∷ []) name) (Some (length classes)) None)) (in_no_class classes name new)
    ∙ ap (λ b. cond b (Some (length classes)) None) there' in
    let same : (x : List ℕ) → x ≢ name → f x ≡ f' x = λ x other.
    one_more_class classes last x
    ∙ ap (λ b. first_or (class_of classes x) (cond b (Some (length classes)) None)) (sym (also last x other))
    ∙ sym (one_more_class classes (last ++ name ∷ []) x) in
    ap (λ ks. record { names = seen; ends = numbers seen edges; classes = ks })
    (ap (slice_set (map f seen) (number_in seen name)) (sym now) ∙ put_at_number f f' name seen (distinct-appearing names) (In-appearing name names there) same)
  where
    also : (last : Names) (x : List ℕ) → x ≢ name → is_among (last ++ name ∷ []) x ≡ is_among last x
    also last x other = list_any-append (bytes_eq x) last (name ∷ []) ∙ rw (other-false x name other) (or_false (is_among last x))
      where
        or_false : (b : Bool) → (b || (false || false)) ≡ b
        or_false true = refl
        or_false false = refl

-- a class without names changes nothing
pub class_begins : (names : Names) (edges : EdgeNames) (classes : ClassNames)
    → named_graph names edges (classes ++ [] ∷ []) ≡ named_graph names edges classes
class_begins names edges classes =
    let seen = first_appearances names in
    ap (λ ks. record { names = seen; ends = numbers seen edges; classes = ks })
    (map_alike (class_of (classes ++ [] ∷ [])) (class_of classes) seen (λ x i. one_more_class classes [] x ∙ or_none (class_of classes x)))
  where
    or_none : (k : Option ℕ) → first_or k None ≡ k
    or_none (Some k) = refl
    or_none None = refl
