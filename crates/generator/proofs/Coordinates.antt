-- A list of coordinates is a vector of its block.
use Rattle.std.proofs.Common.{◌≡◌, ℕ, ◌+◌, ◌-◌, ◌*◌, ◌<◌, ◌≤◌, ◌⊎◌, inl, inr, List, [], ◌∷◌, ◌++◌, length, map, get_or, refl, true, false, sym, ◌∙◌, ap, subst, arith}
use Rattle.std.proofs.Math.Decide.{dec_lt, ℕ_discrete}
use Rattle.std.proofs.Math.ListN.{get_or-append}
use Rattle.std.proofs.Math.Seq.{get_or-append_seam}
use Rattle.std.proofs.lemmas.List.{get_or_past, length-append, length-map, map-append}
use Rattle.std.proofs.lemmas.Bool.{lt-ltb, le-ltb, le-leb, lt-leb}
use Rattle.std.specs.Prelude.{nat_lt, nat_le}
use Rattle.generator.specs.Coordinates.{coordinate}
use Rattle.generator.specs.GeneratedProblems.{bit, IsBlockVector}

-- each entry of v is what f says of its place
abbrev pub HasEntries : (ℕ → ℕ) → List ℕ → Type 0
HasEntries f v = (k : ℕ) → k < length v → get_or v k 0 ≡ f k

-- one value more
pub one_more : {X : Type 0} (number : X → ℕ) (f : ℕ → ℕ) (xs ys : List X) (x : X) (n : ℕ) → ys ≡ xs ++ x ∷ [] → length xs ≡ n → HasEntries f (map number xs) → number x ≡ f n
    → HasEntries f (map number ys)
one_more number f xs ys x n is long h e = subst (λ zs. HasEntries f (map number zs)) (sym is) (rw map-append (λ k l. go k l (ℕ_discrete k n)))
  where
    m : length (map number xs) ≡ n
    m = length-map xs number ∙ long

    go : (k : ℕ) → k < length (map number xs ++ number x ∷ []) → Dec (k ≡ n) → get_or (map number xs ++ number x ∷ []) k 0 ≡ f k
    go k l (yes s) = ap (λ j. get_or (map number xs ++ number x ∷ []) j 0) (s ∙ sym m) ∙ get_or-append_seam (map number xs) (number x) [] 0 ∙ e ∙ ap f (sym s)
    go k l (no d) = let a = length-append (map number xs) (number x ∷ []) in let b : k < length (map number xs) = omega (arith, m) in
        get_or-append (map number xs) (number x ∷ []) 0 k b ∙ h k b

hub_of : (b x j : ℕ) → j < 4 → coordinate b x j ≡ bit x j
hub_of b x j l = rw (lt-ltb j 4 l) refl

block_of : (b x j : ℕ) → 4 ≤ j → j < 11 → coordinate b x (7 * b + j) ≡ bit x j
block_of b x j l m =
    let low : nat_lt (7 * b + j) 4 ≡ false = le-ltb (7 * b + j) 4 (omega arith) in
    let from : nat_le (7 * b + 4) (7 * b + j) ≡ true = le-leb (7 * b + 4) (7 * b + j) (omega arith) in
    let below : nat_lt (7 * b + j) (7 * b + 11) ≡ true = lt-ltb (7 * b + j) (7 * b + 11) (omega arith) in
    let back : 7 * b + j - 7 * b ≡ j = omega arith in
    rw (low, from, below, back) refl

elsewhere_of : (b x c : ℕ) → 4 ≤ c → (c < 7 * b + 4) ⊎ (7 * b + 11 ≤ c) → coordinate b x c ≡ 0
elsewhere_of b x c l (inl h) =
    let low : nat_lt c 4 ≡ false = le-ltb c 4 l in
    let from : nat_le (7 * b + 4) c ≡ false = lt-leb (7 * b + 4) c h in
    rw (low, from) refl
elsewhere_of b x c l (inr h) =
    let low : nat_lt c 4 ≡ false = le-ltb c 4 l in
    let from : nat_le (7 * b + 4) c ≡ true = le-leb (7 * b + 4) c (omega arith) in
    let below : nat_lt c (7 * b + 11) ≡ false = le-ltb c (7 * b + 11) h in
    rw (low, from, below) refl

pub block_vector_of : (b x : ℕ) (v : List ℕ) → b < 8 → length v ≡ 60 → HasEntries (coordinate b x) v → IsBlockVector b x v
block_vector_of b x v l long h = record {
  long = long;
  hub = λ j m. h j (omega arith) ∙ hub_of b x j m;
  block = λ j m n. h (7 * b + j) (omega arith) ∙ block_of b x j m n;
  elsewhere = λ c m e. zero c m e (dec_lt c (length v));
}
  where
    zero : (c : ℕ) → 4 ≤ c → (c < 7 * b + 4) ⊎ (7 * b + 11 ≤ c) → Dec (c < length v) → get_or v c 0 ≡ 0
    zero c m e (yes i) = h c i ∙ elsewhere_of b x c m e
    zero c m e (no i) = get_or_past v c 0 (omega arith)
