-- A name among names, and its number.
use Rattle.std.proofs.Common.{◌≡◌, ℕ, zero, suc, ◌+◌, ◌<◌, ◌≤◌, List, [], ◌∷◌, length, Bool, true, false, cond, Some, Ok, Err, refl, sym, ap, ◌∙◌, inl, inr, slice_get, get_or, arith, ltb, ap₂}
use Rattle.std.specs.Prelude.{◌≢◌, ◌||◌}
use Rattle.std.specs.List.{AllPairs, Contains}
use Rattle.std.specs.Str.{bytes_eq}
use Rattle.std.proofs.lemmas.Bool.{true≢false, lt-ltb, le-ltb, le-leb, lt-leb}
use Rattle.std.proofs.lemmas.List.{length_push}
use Rattle.std.proofs.lemmas.Option.{none-some}
use Rattle.std.proofs.lemmas.Slice.Eq.{bytes_eq-Decides}
use Rattle.vector_spaces.proofs.Members.{In, In-contains, contains-In}
use Rattle.graph_core.specs.NamedGraphs.{NamedGraph, with_vertex}
use Rattle.graph_text.specs.Statements.{is_among, number_in}
use Rattle.graph_text.specs.Texts.{with_name, named, spelled_vertex}
use Rattle.text_forms.specs.Reading.{give}
use Rattle.line_lexer.specs.declared.refusal.Counted.TheVariants.{Vertices, NameBytes}
use Rattle.line_lexer.specs.declared.refusal.TextRefusal.TheVariants.{Limit}

-- names, edges by the names of their ends, and classes by the names of their members
abbrev pub Names : Type 0
Names = List (List ℕ)

abbrev pub EdgeNames : Type 0
EdgeNames = List (List ℕ × List ℕ)

abbrev pub ClassNames : Type 0
ClassNames = List (List (List ℕ))

pub eq-same : (x y : List ℕ) → x ≡ y → bytes_eq x y ≡ true
eq-same x y e = (bytes_eq-Decides x y).1 e

pub same-eq : (x y : List ℕ) → bytes_eq x y ≡ true → x ≡ y
same-eq x y e = (bytes_eq-Decides x y).0 e

pub other-false : (x y : List ℕ) → x ≢ y → bytes_eq x y ≡ false
other-false x y n = go (bytes_eq x y) refl
  where
    go : (b : Bool) → bytes_eq x y ≡ b → b ≡ false
    go true e = absurd (n (same-eq x y e))
    go false e = refl

pub among-In : (names : Names) (name : List ℕ) → is_among names name ≡ true → In name names
among-In [] name h = absurd (true≢false (sym h))
among-In (n ∷ names) name h = go (bytes_eq name n) refl h (among-In names name)
  where
    go : (b : Bool) → bytes_eq name n ≡ b → (b || is_among names name) ≡ true → (is_among names name ≡ true → In name names)
        → In name (n ∷ names)
    go true e h more = inl (same-eq name n e)
    go false e h more = inr (more h)

pub In-among : (names : Names) (name : List ℕ) → In name names → is_among names name ≡ true
In-among [] name h = absurd h
In-among (n ∷ names) name (inl e) = rw (eq-same name n e) refl
In-among (n ∷ names) name (inr h) = go (bytes_eq name n) (In-among names name h)
  where
    go : (b : Bool) → is_among names name ≡ true → (b || is_among names name) ≡ true
    go true e = refl
    go false e = e

pub among-not : (names : Names) (name : List ℕ) → is_among names name ≡ false → ¬ (In name names)
among-not names name e i = true≢false (sym (In-among names name i) ∙ e)

pub not-among : (names : Names) (name : List ℕ) → ¬ (In name names) → is_among names name ≡ false
not-among names name absent = go (is_among names name) refl
  where
    go : (b : Bool) → is_among names name ≡ b → b ≡ false
    go true e = absurd (absent (among-In names name e))
    go false e = refl

stands : (xs : Names) (i : ℕ) (x : List ℕ) → slice_get xs i ≡ Some x → (i < length xs) × (get_or xs i [] ≡ x)
stands [] i x e = absurd (none-some x e)
stands (y ∷ xs) zero x e = (omega arith, cc (e))
stands (y ∷ xs) (suc i) x e = let r = stands xs i x e in ((let l = r.0 in omega arith), r.1)

-- in names that are different, a name's number is where it stands
pub number-is : (names : Names) (v : ℕ) (name : List ℕ) → AllPairs (λ x y. x ≢ y) names → slice_get names v ≡ Some name
    → number_in names name ≡ v
number-is [] v name apart h = absurd (none-some name h)
number-is (n ∷ names) zero name apart h = let same : n ≡ name = cc (h) in rw (eq-same name n (sym same)) refl
number-is (n ∷ names) (suc v) name apart h =
    let at = stands names v name h in
    let far : name ≢ n = λ e. apart 0 (suc v) [] (omega arith) (let l = at.0 in omega arith) (sym e ∙ sym at.1) in
    let below : number_in names name ≡ v = number-is names v name (λ i j d l k. apart (suc i) (suc j) d (omega arith) (omega arith)) h in
    let next : 1 + v ≡ suc v = omega arith in
    rw (other-false name n far) (ap (λ k. 1 + k) below ∙ next)

-- the graph behind a name
pub with_name-is : (g g' : NamedGraph) (name : List ℕ) → (Contains g.names name → g' ≡ g)
    → (¬ (Contains g.names name) → g' ≡ with_vertex g name) → with_name g name ≡ g'
with_name-is g g' name known added = go (is_among g.names name) refl
  where
    go : (b : Bool) → is_among g.names name ≡ b → cond b g (with_vertex g name) ≡ g'
    go true e = sym (known (contains-In g.names name (among-In g.names name e)))
    go false e = sym (added (λ there. true≢false (sym (In-among g.names name (In-contains g.names name there)) ∙ e)))

unchanged : (g : NamedGraph) (name : List ℕ) → is_among g.names name ≡ true → with_name g name ≡ g
unchanged g name e = rw e refl

changed : (g : NamedGraph) (name : List ℕ) → is_among g.names name ≡ false → with_name g name ≡ with_vertex g name
changed g name e = rw e refl

pub named_ok : (most : ℕ) (g g' : NamedGraph) (name : List ℕ) (v line : ℕ) (words : Names) → with_name g name ≡ g'
    → AllPairs (λ x y. x ≢ y) g'.names → slice_get g'.names v ≡ Some name
    → (length g.names < length g'.names → length g.names < most) → named most g name line words ≡ Ok ((g', v), words)
unfolding named
named_ok most g g' name v line words same apart at room = rw has_room (given (with_name g name) same)
  where
    has_room : (is_among g.names name || ltb (length g.names) most) ≡ true
    has_room = go (is_among g.names name) refl
      where
        go : (b : Bool) → is_among g.names name ≡ b → (b || ltb (length g.names) most) ≡ true
        go true e = refl
        go false e =
            let longer : length g'.names ≡ length g.names + 1 = ap (λ (h : NamedGraph). length h.names) (sym same ∙ changed g name e) ∙ length_push g.names name in
            lt-ltb (length g.names) most (room (omega arith))

    given : (h : NamedGraph) → h ≡ g' → give {A = NamedGraph × ℕ} (h, number_in h.names name) line words ≡ Ok ((g', v), words)
    given h e = let n : number_in h.names name ≡ v = ap (λ (k : NamedGraph). number_in k.names name) e ∙ number-is g'.names v name apart at in ap₂ (λ (a : NamedGraph) (b : ℕ). Ok ((a, b), words)) e n

pub named_full : (most : ℕ) (g g' : NamedGraph) (name : List ℕ) (line : ℕ) (words : Names) → with_name g name ≡ g'
    → length g.names < length g'.names → most ≤ length g.names
    → named most g name line words ≡ Err (Limit Vertices (most + 1))
unfolding named
named_full most g g' name line words same longer full = rw (new (is_among g.names name) refl, le-ltb (length g.names) most full) refl
  where
    new : (b : Bool) → is_among g.names name ≡ b → b ≡ false
    new true e = let as_before : length g'.names ≡ length g.names = ap (λ (h : NamedGraph). length h.names) (sym same ∙ unchanged g name e) in absurd (omega arith)
    new false e = refl

-- a name of at most 32 bytes, and one that is longer
pub spelled_short : (most : ℕ) (g : NamedGraph) (name : List ℕ) (line : ℕ) (words : Names) → length name ≤ 32
    → spelled_vertex most g name line words ≡ named most g name line words
unfolding spelled_vertex
spelled_short most g name line words short = rw (le-leb (length name) 32 short) refl

pub spelled_long : (most : ℕ) (g : NamedGraph) (name : List ℕ) (line : ℕ) (words : Names) → ¬ (length name ≤ 32)
    → spelled_vertex most g name line words ≡ Err (Limit NameBytes (length name))
unfolding spelled_vertex
spelled_long most g name line words long = rw (lt-leb (length name) 32 (omega (arith, long))) refl
