-- The names of a graph text in order of their first appearance, and what one more name changes.
use Rattle.std.proofs.Common.{◌≡◌, ℕ, suc, ◌+◌, ◌<◌, List, [], ◌∷◌, ◌++◌, length, filter, not, Bool, true, false, cond, refl, sym, ap, ◌∙◌, inl, inr, get_or, arith}
use Rattle.std.specs.Str.{bytes_eq}
use Rattle.std.proofs.lemmas.Bool.{true≢false}
use Rattle.std.proofs.lemmas.List.{append-nil}
use Rattle.std.proofs.lemmas.List.Elements.{filter-append}
use Rattle.vector_spaces.proofs.Distinct.{IsDistinct}
use Rattle.vector_spaces.proofs.Members.{In}
use Rattle.graph_text.specs.Statements.{first_appearances, is_among, number_in}
use Rattle.graph_text.proofs.KnownNames.{Names, eq-same, same-eq, other-false, among-In, among-not}

abbrev other_than : List ℕ → Names → Names
other_than name names = filter (λ other. not (bytes_eq other name)) names

kept-In : (p : List ℕ → Bool) (x : List ℕ) (xs : Names) → In x (filter p xs) → In x xs × (p x ≡ true)
kept-In p x [] h = absurd h
kept-In p x (y ∷ ys) h = go (p y) refl h (kept-In p x ys)
  where
    go : (b : Bool) → p y ≡ b → In x (cond b (y ∷ filter p ys) (filter p ys)) → (In x (filter p ys) → In x ys × (p x ≡ true))
        → In x (y ∷ ys) × (p x ≡ true)
    go true e (inl same) more = (inl same, ap p same ∙ e)
    go true e (inr i) more = let r = more i in (inr r.0, r.1)
    go false e i more = let r = more i in (inr r.0, r.1)

In-kept : (p : List ℕ → Bool) (x : List ℕ) (xs : Names) → In x xs → p x ≡ true → In x (filter p xs)
In-kept p x [] h t = absurd h
In-kept p x (y ∷ ys) (inl e) t = let passes : p y ≡ true = ap p (sym e) ∙ t in rw passes (inl e)
In-kept p x (y ∷ ys) (inr i) t = go (p y) (In-kept p x ys i t)
  where
    go : (b : Bool) → In x (filter p ys) → In x (cond b (y ∷ filter p ys) (filter p ys))
    go true j = inr j
    go false j = j

kept-distinct : (p : List ℕ → Bool) (xs : Names) → IsDistinct xs → IsDistinct (filter p xs)
kept-distinct p [] h = tt
kept-distinct p (y ∷ ys) h = go (p y) (kept-distinct p ys h.1)
  where
    go : (b : Bool) → IsDistinct (filter p ys) → IsDistinct (cond b (y ∷ filter p ys) (filter p ys))
    go true more = ((λ i. h.0 (kept-In p y ys i).0), more)
    go false more = more

-- the names are those that appear, each once
pub appearing-In : (name : List ℕ) (names : Names) → In name (first_appearances names) → In name names
appearing-In name [] h = absurd h
appearing-In name (n ∷ names) (inl e) = inl e
appearing-In name (n ∷ names) (inr i) = inr (appearing-In name names (kept-In (λ other. not (bytes_eq other n)) name (first_appearances names) i).0)

pub In-appearing : (name : List ℕ) (names : Names) → In name names → In name (first_appearances names)
In-appearing name [] h = absurd h
In-appearing name (n ∷ names) (inl e) = inl e
In-appearing name (n ∷ names) (inr i) = go (bytes_eq name n) refl (In-appearing name names i)
  where
    go : (b : Bool) → bytes_eq name n ≡ b → In name (first_appearances names) → In name (n ∷ other_than n (first_appearances names))
    go true e j = inl (same-eq name n e)
    go false e j = inr (In-kept (λ other. not (bytes_eq other n)) name (first_appearances names) j (ap not e))

pub distinct-appearing : (names : Names) → IsDistinct (first_appearances names)
distinct-appearing [] = tt
distinct-appearing (n ∷ names) = (
  λ i. let k = kept-In (λ other. not (bytes_eq other n)) n (first_appearances names) i in true≢false (sym k.1 ∙ ap not (eq-same n n refl)),
  kept-distinct (λ other. not (bytes_eq other n)) (first_appearances names) (distinct-appearing names),
)

-- a new name is put last, and one that appeared changes nothing
pub appears_first : (name : List ℕ) (names : Names) → ¬ (In name names)
    → first_appearances (names ++ name ∷ []) ≡ first_appearances names ++ name ∷ []
appears_first name [] h = refl
appears_first name (n ∷ names) h =
    let stays : other_than n (name ∷ []) ≡ name ∷ [] = rw (other-false name n (λ e. h (inl e))) refl in
    ap (λ ns. n ∷ other_than n ns) (appears_first name names (λ i. h (inr i)))
    ∙ ap (λ ns. n ∷ ns) (filter-append (λ other. not (bytes_eq other n)) (first_appearances names) (name ∷ []) ∙ ap (λ ns. other_than n (first_appearances names) ++ ns) stays)

pub appears_again : (name : List ℕ) (names : Names) → In name names → first_appearances (names ++ name ∷ []) ≡ first_appearances names
appears_again name [] h = absurd h
appears_again name (n ∷ names) (inl e) = go (is_among names name) refl (appears_again name names)
  where
    go : (b : Bool) → is_among names name ≡ b → (In name names → first_appearances (names ++ name ∷ []) ≡ first_appearances names)
        → n ∷ other_than n (first_appearances (names ++ name ∷ [])) ≡ n ∷ other_than n (first_appearances names)
    go true there again = ap (λ ns. n ∷ other_than n ns) (again (among-In names name there))
    go false absent again =
        let gone : other_than n (name ∷ []) ≡ [] = rw (eq-same name n e) refl in
        ap (λ ns. n ∷ other_than n ns) (appears_first name names (among-not names name absent))
        ∙ ap (λ ns. n ∷ ns) (filter-append (λ other. not (bytes_eq other n)) (first_appearances names) (name ∷ []) ∙ ap (λ ns. other_than n (first_appearances names) ++ ns) gone ∙ append-nil _)
appears_again name (n ∷ names) (inr i) = ap (λ ns. n ∷ other_than n ns) (appears_again name names i)

-- a name's number stays, and is where it stands
pub number_stays : (name : List ℕ) (names more : Names) → In name names → number_in (names ++ more) name ≡ number_in names name
number_stays name [] more h = absurd h
number_stays name (n ∷ names) more h = go (bytes_eq name n) refl h (number_stays name names more)
  where
    go : (b : Bool) → bytes_eq name n ≡ b → In name (n ∷ names) → (In name names → number_in (names ++ more) name ≡ number_in names name)
        → cond (not b) (1 + number_in (names ++ more) name) 0 ≡ cond (not b) (1 + number_in names name) 0
    go true e i below = refl
    go false e (inl same) below = absurd (true≢false (sym (eq-same name n same) ∙ e))
    go false e (inr i) below = ap (λ k. 1 + k) (below i)

pub number_stands : (name : List ℕ) (names : Names) → In name names
    → (number_in names name < length names) × (get_or names (number_in names name) [] ≡ name)
number_stands name [] h = absurd h
number_stands name (n ∷ names) h = go (bytes_eq name n) refl h (number_stands name names)
  where
    go : (b : Bool) → bytes_eq name n ≡ b → In name (n ∷ names)
        → (In name names → (number_in names name < length names) × (get_or names (number_in names name) [] ≡ name))
        → (cond (not b) (1 + number_in names name) 0 < length (n ∷ names)) × (get_or (n ∷ names) (cond (not b) (1 + number_in names name) 0) [] ≡ name)
    go true e i below = (omega arith, sym (same-eq name n e))
    go false e (inl same) below = absurd (true≢false (sym (eq-same name n same) ∙ e))
    go false e (inr i) below =
        let r = below i in
        let next : 1 + number_in names name ≡ suc (number_in names name) = omega arith in
        ((let l = r.0 in omega arith), rw next r.1)

-- one more name leaves the numbers of the others
pub number_after : (name other : List ℕ) (names : Names) → In name names
    → number_in (first_appearances (names ++ other ∷ [])) name ≡ number_in (first_appearances names) name
number_after name other names there = go (is_among names other) refl
  where
    go : (b : Bool) → is_among names other ≡ b
        → number_in (first_appearances (names ++ other ∷ [])) name ≡ number_in (first_appearances names) name
    go true e = ap (λ seen. number_in seen name) (appears_again other names (among-In names other e))
    go false e = ap (λ seen. number_in seen name) (appears_first other names (among-not names other e)) ∙ number_stays name (first_appearances names) (other ∷ []) (In-appearing name names there)
