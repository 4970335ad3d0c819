-- Classes as the parts of a certificate: each line is in one, and their bound is the size of a set for which none is too large.
use Rattle.std.proofs.Common.{◌≡◌, ◌≢◌, ℕ, zero, suc, ◌+◌, ◌/◌, ◌≤◌, ◌<◌, ◌⊎◌, inl, inr, List, [], ◌∷◌, ◌++◌, length, map, take, get_or, refl, sym, ap, ap₂, ◌∙◌, subst, arith, All, Bool, true, false, cond, eqb, append-nil}
use Rattle.std.specs.List.{Contains, filter, list_any}
use Rattle.std.specs.Prelude.{◌↔◌, sum_by, OnOk, Result, Ok, Err}
use Rattle.std.specs.Result.{is_err}
use Rattle.std.proofs.Math.Decide.{dec_le, ℕ_discrete}
use Rattle.std.proofs.lemmas.Bool.{cases_Bool, eq-eqb, true≢false}
use Rattle.std.proofs.lemmas.Bool.Decides.{eqb_tells}
use Rattle.std.proofs.lemmas.List.{length_push, map-append, take_more}
use Rattle.std.proofs.lemmas.List.Elements.{All-nil, filter-append}
use Rattle.std.proofs.lemmas.List.Sums.{sum_by-cons}
use Rattle.vector_spaces.proofs.Distinct.{IsDistinct, distinct_append, sub_distinct}
use Rattle.vector_spaces.proofs.Members.{In, In-all, In-append, In-append_left, In-append_right, In-contains, In_map-from, all-In, contains-In}
use Rattle.vector_spaces.proofs.Sublists.{sub_in}
use Rattle.class_theory.proofs.ClassParts.{class_of_part, class_parts, hits-one, parts_or_large, TooLarge}
use Rattle.class_theory.proofs.Classes.{count_in, of_label, of_label_in}
use Rattle.class_theory.proofs.LinesBelow.{IsListing}
use Rattle.linear_algebra.specs.Ranks.{rank_over}
use Rattle.linear_algebra.specs.Scalars.{Scalars, IsField}
use Rattle.linear_algebra.specs.Spans.{IsIndependent}
use Rattle.linear_algebra.specs.Vectors.{IsVector}
use Rattle.linear_algebra.proofs.Coordinates.{space}
use Rattle.linear_algebra.proofs.Transfer.{independent_from_tuples}
use Rattle.parity_lines.specs.Certificates.{parts_with}
use Rattle.parity_lines.specs.LineSets.{IsIndependentSet, IsLineSet}
use Rattle.parity_lines.specs.PartLists.{ArePartLists, IsPartList}
use Rattle.parity_lines.specs.Problems.{ParityProblem, IsProblem, vectors_at}
use Rattle.parity_lines.proofs.Border.{independent_lines, lines_over, tuples_at}
use Rattle.parity_lines.proofs.EasyHalf.{any-has}
use Rattle.parity_theory.proofs.Parts.{PartsOver, halves, has, has_in, hits, in_has}
use Rattle.parity_theory.proofs.Positions.{filter-no, filter-yes, filter_in, sub_filter}
use Rattle.classes.specs.Divisions.{AreLeast, ArePartsOfBound, class_list, listing}

pub listing_more : (n : ℕ) → listing (n + 1) ≡ listing n ++ n ∷ []
unfolding listing
listing_more n = let e : n + 1 ≡ suc n = omega arith in ap listing e

listing_below : (n i : ℕ) → In i (listing n) → i < n
unfolding listing
listing_below zero i j = absurd j
listing_below (suc n) i j = elim (In-append i (listing n) (n ∷ []) j) [
  | inl k ↦ (let h = listing_below n i k in omega arith)
  | inr k ↦ elim k [ inl e ↦ omega arith | inr o ↦ absurd o ]
]

listing_in : (n i : ℕ) → i < n → In i (listing n)
unfolding listing
listing_in zero i h = absurd (omega arith)
listing_in (suc n) i h = elim (ℕ_discrete i n) [
  | yes e ↦ In-append_right i (listing n) (n ∷ []) (inl e)
  | no m ↦ In-append_left i (listing n) (n ∷ []) (listing_in n i (let z : ¬ (i ≡ n) = m in omega (arith, z)))
]

listing_distinct : (n : ℕ) → IsDistinct (listing n)
unfolding listing
listing_distinct zero = tt
listing_distinct (suc n) = distinct_append (listing n) (n ∷ []) (listing_distinct n) ((λ o. o), tt) (λ x j k. elim k [
  | inl e ↦ (let h = listing_below n x j in absurd (omega arith))
  | inr o ↦ absurd o
])

pub listing_listing : (n : ℕ) → IsListing n (listing n)
listing_listing n = record { below = listing_below n; above = listing_in n; once = listing_distinct n }

pub listing_none_kept : (J : ℕ → Bool) (kept : List ℕ) → kept ≡ [] → kept ≡ filter J (listing 0)
unfolding listing
listing_none_kept J kept e = e

-- what a test leaves of the first lines, with one line more
module _ (J : ℕ → Bool) (i : ℕ) where
  filter_listing : filter J (listing (i + 1)) ≡ filter J (listing i) ++ filter J (i ∷ [])
  filter_listing = ap (filter J) (listing_more i) ∙ filter-append J (listing i) (i ∷ [])

  pub listing_taken : (kept after : List ℕ) → kept ≡ filter J (listing i) → J i ≡ true → after ≡ kept ++ i ∷ [] → after ≡ filter J (listing (i + 1))
  listing_taken kept after e j a = a ∙ ap₂ (λ s t. s ++ t) e (sym (filter-yes J i [] j)) ∙ sym filter_listing

  pub listing_left : (kept : List ℕ) → kept ≡ filter J (listing i) → J i ≡ false → kept ≡ filter J (listing (i + 1))
  listing_left kept e j = e ∙ sym (append-nil (filter J (listing i))) ∙ ap (λ t. filter J (listing i) ++ t) (sym (filter-no J i [] j)) ∙ sym filter_listing

  pub listing_all_below : (kept : List ℕ) → kept ≡ filter J (listing i) → All (λ m. m < i) kept
  listing_all_below kept e = all-In (λ m. m < i) kept (λ m j.
      listing_below i m (sub_in (filter J (listing i)) (listing i) (sub_filter J (listing i)) m (subst (In m) e j)))

pub of_label_not : (lab : ℕ → ℕ) (c i : ℕ) → lab i ≢ c → of_label lab c i ≡ false
of_label_not lab c i n = elim (eqb_tells (lab i) c) [ inl h ↦ absurd (n h.1) | inr h ↦ h.0 ]

-- whether a line is in a list, by what a test of it tells
pub held : (L : List ℕ) (l m : ℕ) (b : Bool) → (b ≡ true) ↔ Contains L l → l ≡ m → b ≡ true → has L m ≡ true
held L l m b t e h = in_has L m (subst (λ k. In k L) e (In-contains L l (t.0 h)))

pub not_held : (L : List ℕ) (l m : ℕ) (b : Bool) → (b ≡ true) ↔ Contains L l → l ≡ m → b ≡ false → has L m ≡ false
not_held L l m b t e h = elim (cases_Bool (has L m)) [
  | inl y ↦ absurd (true≢false (sym (t.1 (contains-In L l (subst (λ k. In k L) (sym e) (has_in L m y)))) ∙ h))
  | inr y ↦ y
]

-- how many of the first lines of a set pass
module _ (J : ℕ → Bool) (M : List ℕ) (i : ℕ) (h : i < length M) where
  taken_more : filter J (take (i + 1) M) ≡ filter J (take i M) ++ filter J (get_or M i 0 ∷ [])
  taken_more = ap (filter J) (take_more M i 0 h) ∙ filter-append J (take i M) (get_or M i 0 ∷ [])

  pub counted : J (get_or M i 0) ≡ true → count_in J (take (i + 1) M) ≡ count_in J (take i M) + 1
  counted j =
      let e : count_in J (take (i + 1) M) ≡ length (filter J (take i M) ++ get_or M i 0 ∷ []) =
      ap length (taken_more ∙ ap (λ t. filter J (take i M) ++ t) (filter-yes J (get_or M i 0) [] j)) in
      let k = length_push (filter J (take i M)) (get_or M i 0) in
      omega arith

  pub not_counted : J (get_or M i 0) ≡ false → count_in J (take (i + 1) M) ≡ count_in J (take i M)
  not_counted j = ap length (taken_more ∙ ap (λ t. filter J (take i M) ++ t) (filter-no J (get_or M i 0) [] j) ∙ append-nil (filter J (take i M)))

-- the lines of a class are below the number of labels, and a line that is its own label is one of them
pub class_within : (n : ℕ) (labels : List ℕ) → length labels ≡ n → (c : ℕ) → All (λ m. m < n) (class_list labels c)
class_within n labels l c = all-In (λ m. m < n) (class_list labels c) (λ m j.
    let J = of_label (λ i. get_or labels i 0) c in
    let all = listing (length labels) in
    let h = listing_below (length labels) m (sub_in (filter J all) all (sub_filter J all) m j) in
    omega arith)

pub class_not_empty : (labels class : List ℕ) (c : ℕ) → c < length labels → get_or labels c 0 ≡ c → class ≡ class_list labels c → class ≢ []
class_not_empty labels class c h e is n = subst (In c) (sym is ∙ n)
    (filter_in (of_label (λ i. get_or labels i 0) c) (listing (length labels)) c (listing_in (length labels) c h)
    (of_label_in (λ i. get_or labels i 0) c c e))

-- what was pushed, where that is no error
pub after_push : {T E : Type 0} (r : Result T E) (P : Type 0) → OnOk r P → is_err r ≡ false → P
after_push (Ok x) P h e = h
after_push (Err x) P h e = absurd (true≢false e)

-- a class for which the test is false
pub small_class : (b : Bool) (x r : ℕ) → (b ≡ true) ↔ (x + x + 2 ≤ r) → b ≡ false → r ≤ x + x + 1
small_class b x r t e = elim (dec_le r (x + x + 1)) [
  | yes h ↦ h
  | no n ↦ absurd (true≢false (sym (t.1 (omega (arith, n))) ∙ e))
]

-- the label of a line
abbrev pub label_of : List ℕ → ℕ → ℕ
label_of labels c = get_or labels c 0

-- the labels of classes
abbrev pub is_label : List ℕ → ℕ → Bool
is_label labels c = eqb (get_or labels c 0) c

pub not_label : (labels : List ℕ) (c : ℕ) → get_or labels c 0 ≢ c → is_label labels c ≡ false
not_label labels c n = of_label_not (λ i. get_or labels i 0) c c n

abbrev pub class_rank : Scalars → ParityProblem → List ℕ → ℕ → ℕ
class_rank S p labels c = rank_over S p.dimension [] (vectors_at p (class_list labels c))

abbrev pub class_count : List ℕ → List ℕ → ℕ → ℕ
class_count labels M c = count_in (has (class_list labels c)) M

-- the parts are the classes with labels below i, and none of these is too large for M
pub record IsDividedBelow (S : Scalars) (p : ParityProblem) (labels M : List ℕ) (i : ℕ) (parts : List (List ℕ)) : Type 0 where
  pub is : parts ≡ map (class_list labels) (filter (is_label labels) (listing i))
  pub small : (c : ℕ) → In c (filter (is_label labels) (listing i)) → class_rank S p labels c ≤ class_count labels M c + class_count labels M c + 1

module _ (S : Scalars) (p : ParityProblem) (labels M : List ℕ) where
  pub divided_none : (parts : List (List ℕ)) → parts ≡ [] → IsDividedBelow S p labels M 0 parts
  unfolding listing
  divided_none parts e = record { is = e; small = λ c j. absurd j }

  module _ (i : ℕ) (parts : List (List ℕ)) (d : IsDividedBelow S p labels M i parts) where
    pub divided_more : (after : List (List ℕ)) → get_or labels i 0 ≡ i → after ≡ parts ++ class_list labels i ∷ [] →
        class_rank S p labels i ≤ class_count labels M i + class_count labels M i + 1 → IsDividedBelow S p labels M (i + 1) after
    divided_more after own e l =
        let J = is_label labels in
        let more : filter J (listing i) ++ i ∷ [] ≡ filter J (listing (i + 1)) =
        listing_taken J i (filter J (listing i)) (filter J (listing i) ++ i ∷ []) refl (eq-eqb (get_or labels i 0) i own) refl in
        record {
          is = e ∙ ap (λ t. t ++ class_list labels i ∷ []) d.is ∙ sym (map-append (class_list labels) (filter J (listing i)) (i ∷ []))
              ∙ ap (map (class_list labels)) more;
          small = λ c j. elim (In-append c (filter J (listing i)) (i ∷ []) (subst (In c) (sym more) j)) [
            | inl k ↦ d.small c k
            | inr k ↦ elim k [
              | inl q ↦ subst (λ t. class_rank S p labels t ≤ class_count labels M t + class_count labels M t + 1) (sym q) l
              | inr o ↦ absurd o
            ]
          ];
        }

    pub divided_left : is_label labels i ≡ false → IsDividedBelow S p labels M (i + 1) parts
    divided_left j =
        let J = is_label labels in
        let same : filter J (listing i) ≡ filter J (listing (i + 1)) = listing_left J i (filter J (listing i)) refl j in
        record { is = d.is ∙ ap (map (class_list labels)) same; small = λ c k. d.small c (subst (In c) (sym same) k) }

module _ (S : Scalars) (F : IsField S) (p : ParityProblem) (P : IsProblem S p) (labels M : List ℕ) (least : AreLeast (length p.lines) labels)
    (i : IsIndependentSet S p M) (parts : List (List ℕ)) (lists : ArePartLists parts) (d : IsDividedBelow S p labels M (length labels) parts) where
  abbrev all : List ℕ
  all = listing (length labels)

  abbrev roots : List ℕ
  roots = filter (is_label labels) all

  abbrev classes : List ℕ → List (List ℕ × ℕ)
  classes cs = class_parts (label_of labels) all (class_rank S p labels) cs

  none : All (IsVector S p.dimension) []
  none = All-nil (IsVector S p.dimension)

  no_relation : IsIndependent S p.dimension []
  no_relation = independent_from_tuples S F p.dimension [] none tt

  class_ranks : (cs : List ℕ) → PartsOver (space S F p.dimension) (tuples_at S F p) [] (classes cs)
  class_ranks [] = tt
  class_ranks (c ∷ cs) = (lines_over S F p P [] (class_list labels c) none no_relation (class_within (length p.lines) labels least.long c), class_ranks cs)

  halves-map : (cs : List ℕ) → halves (classes cs) ≡ sum_by (λ part. rank_over S p.dimension [] (vectors_at p part) / 2) (map (class_list labels) cs)
  halves-map [] = refl
  halves-map (c ∷ cs) = ap (λ n. class_rank S p labels c / 2 + n) (halves-map cs)
      ∙ sym (sum_by-cons (λ part. rank_over S p.dimension [] (vectors_at p part) / 2) (class_list labels c) (map (class_list labels) cs))

  hits-map : (l : ℕ) (cs : List ℕ) → parts_with (map (class_list labels) cs) l ≡ hits l (classes cs)
  hits-map l [] = refl
  hits-map l (c ∷ cs) = sum_by-cons (λ q. cond (list_any (λ m. eqb m l) q) 1 0) (class_list labels c) (map (class_list labels) cs)
      ∙ ap₂ (λ b n. cond {A = ℕ} b 1 0 + n) (any-has (class_list labels c) l) (hits-map l cs)

  once : (l : ℕ) → l < length labels → hits l (classes roots) ≡ 1
  once l h =
      let n = least.long in
      let low = least.at_most l (omega arith) in
      hits-one (label_of labels) all (class_rank S p labels) roots l (listing_in (length labels) l h)
      (sub_distinct roots all (sub_filter (is_label labels) all) (listing_distinct (length labels)))
      (filter_in (is_label labels) all (get_or labels l 0) (listing_in (length labels) (get_or labels l 0) (omega arith))
      (eq-eqb (get_or labels (get_or labels l 0) 0) (get_or labels l 0) (least.own l (omega arith))))

  set_below : (l : ℕ) → In l M → l < length labels
  set_below l j = let h = In-all (λ m. m < length p.lines) M i.line_set.within l j in let n = least.long in omega arith

  halves_are : halves (classes roots) ≡ length M
  halves_are = go (parts_or_large (space S F p.dimension) (tuples_at S F p) M (classes roots)
      (independent_lines S F p P M i.line_set.within i.independent) (class_ranks roots) (λ l j. once l (set_below l j)))
    where
      go : (halves (classes roots) ≡ length M) ⊎ TooLarge (space S F p.dimension) (tuples_at S F p) M (classes roots) →
          halves (classes roots) ≡ length M
      go (inl e) = e
      go (inr t) =
          let r = class_of_part (label_of labels) all (class_rank S p labels) roots t.part t.part_in in
          let large : class_count labels M r.0 + class_count labels M r.0 + 2 ≤ class_rank S p labels r.0 =
          subst (λ (q : List ℕ × ℕ). count_in (has q.0) M + count_in (has q.0) M + 2 ≤ q.1) r.2 t.large in
          let small = d.small r.0 r.1 in
          absurd (omega arith)

  pub division_parts : ArePartsOfBound S p (length M) parts
  division_parts = (
    record {
      width = refl;
      vectors = none;
      independent = no_relation;
      line_sets = all-In (IsLineSet p) parts (λ part j.
          let r = In_map-from (class_list labels) part roots (subst (In part) d.is j) in
          record {
            increasing = (In-all IsPartList parts lists part j).increasing;
            within = subst (All (λ m. m < length p.lines)) (sym r.2) (class_within (length p.lines) labels least.long r.0);
          });
      nonempty = all-In (λ part. part ≢ []) parts (λ part j. (In-all IsPartList parts lists part j).nonempty);
      once = λ m h.
          let n = least.long in
          ap (λ ps. parts_with ps m) d.is ∙ hits-map m roots ∙ once m (omega arith);
    },
    (let z : 0 + sum_by (λ part. rank_over S p.dimension [] (vectors_at p part) / 2) parts
        ≡ sum_by (λ part. rank_over S p.dimension [] (vectors_at p part) / 2) parts = omega arith in z)
        ∙ ap (sum_by (λ part. rank_over S p.dimension [] (vectors_at p part) / 2)) d.is ∙ sym (halves-map roots) ∙ halves_are,
  )
