-- The entries of a map from names to classes: their names, found and put in.
use Rattle.std.proofs.Common.{◌≡◌, ℕ, zero, suc, ◌<◌, List, [], ◌∷◌, ◌++◌, Option, None, Some, Bool, true, false, map, length, get_or, slice_get, ◌+◌, inl, inr, cond, is_some, refl, sym, ap, subst, ◌∙◌, arith}
use Rattle.std.specs.Prelude.{slice_set, ◌≢◌, nat_eq, position}
use Rattle.std.specs.Map.{keys_of, lookup}
use Rattle.std.proofs.lemmas.Option.{none-some, slice_get-get_or}
use Rattle.std.proofs.lemmas.List.{length-map, length-set, length_push, get_or-map, map-append}
use Rattle.std.proofs.lemmas.List.Quantifiers.{position-Some, all_pairs_push}
use Rattle.std.specs.Cmp.Lexicographic.{pointwise, same_text, other_text}
use Rattle.std.proofs.lemmas.Bool.{true≢false}
use Rattle.indexmap.specs.Layout.{set_value_at}
use Rattle.vector_spaces.proofs.Members.{In, In-get_or}
use Rattle.graph_core.specs.NamedGraphs.{IsNamedGraph}

module _ {K V : Type 0} (f : K → List ℕ) where
  pub names-set : (es : List (K × V)) (i : ℕ) (w : V) → map (λ (e : K × V). f e.0) (set_value_at es i w) ≡ map (λ (e : K × V). f e.0) es
  names-set [] i w = refl
  names-set (e ∷ es) zero w = refl
  names-set (e ∷ es) (suc i) w = ap (λ xs. f e.0 ∷ xs) (names-set es i w)

  pub classes-set : (es : List (K × V)) (i : ℕ) (w : V) →
      map (λ (e : K × V). e.1) (set_value_at es i w) ≡ slice_set (map (λ (e : K × V). e.1) es) i w
  classes-set [] i w = refl
  classes-set (e ∷ es) zero w = refl
  classes-set (e ∷ es) (suc i) w = ap (λ xs. e.1 ∷ xs) (classes-set es i w)

  -- the place of the name among the keys is its place among the names
  pub name_found : (name : List ℕ) (es : List (K × V)) (i : ℕ) → position (λ k. pointwise nat_eq name (f k)) (keys_of es) ≡ Some i →
      slice_get (map (λ (e : K × V). f e.0) es) i ≡ Some name
  name_found name [] i h = absurd (none-some i h)
  name_found name (e ∷ es) i h =
      let at = position-Some (λ k. pointwise nat_eq name (f k)) (keys_of (e ∷ es)) i e.0 h in
      let within : i < length (e ∷ es) = omega (arith, at.0, length-map (e ∷ es) (λ (e : K × V). e.0)) in
      let key : get_or (keys_of (e ∷ es)) i e.0 ≡ (get_or (e ∷ es) i e).0 = get_or-map (λ (e : K × V). e.0) (e ∷ es) i e e.0 within in
      slice_get-get_or (map (λ (e : K × V). f e.0) (e ∷ es)) i [] (omega (arith, length-map (e ∷ es) (λ (e : K × V). f e.0)))
      ∙ ap Some (get_or-map (λ (e : K × V). f e.0) (e ∷ es) i e [] within
      ∙ sym (same_text name (f (get_or (e ∷ es) i e).0) (sym (subst (λ k. pointwise nat_eq name (f k) ≡ true) key at.1))))

  -- a name that isn't found is none of the names
  pub name_missed : (name : List ℕ) (es : List (K × V)) → is_some (lookup (λ k. pointwise nat_eq name (f k)) es) ≡ false →
      ¬ (In name (map (λ (e : K × V). f e.0) es))
  name_missed name [] h i = i
  name_missed name (e ∷ es) h i = go (pointwise nat_eq name (f e.0)) refl i (name_missed name es)
    where
      go : (b : Bool) → pointwise nat_eq name (f e.0) ≡ b → In name (map (λ (e : K × V). f e.0) (e ∷ es)) →
          (is_some (lookup (λ k. pointwise nat_eq name (f k)) es) ≡ false → ¬ (In name (map (λ (e : K × V). f e.0) es))) → ⊥
      go true t i ih = true≢false (ap (λ c. is_some (cond c (Some e.1) (lookup (λ k. pointwise nat_eq name (f k)) es))) (sym t) ∙ h)
      go false t (inl q) ih = other_text name (f e.0) (sym t) q
      go false t (inr j) ih = ih (ap (λ c. is_some (cond c (Some e.1) (lookup (λ k. pointwise nat_eq name (f k)) es))) (sym t) ∙ h) j

  -- a name that is none of the names isn't found
  pub lookup_none : (name : List ℕ) (es : List (K × V)) → ¬ (In name (map (λ (e : K × V). f e.0) es)) →
      lookup (λ k. pointwise nat_eq name (f k)) es ≡ None
  lookup_none name [] n = refl
  lookup_none name (e ∷ es) n = go (pointwise nat_eq name (f e.0)) refl (lookup_none name es (λ i. n (inr i)))
    where
      go : (b : Bool) → pointwise nat_eq name (f e.0) ≡ b → lookup (λ k. pointwise nat_eq name (f k)) es ≡ None →
          cond b (Some e.1) (lookup (λ k. pointwise nat_eq name (f k)) es) ≡ None
      go true t h = absurd (n (inl (same_text name (f e.0) (sym t))))
      go false t h = h

  pub names-more : (es : List (K × V)) (k : K) (v : V) →
      map (λ (e : K × V). f e.0) (es ++ (k, v) ∷ []) ≡ map (λ (e : K × V). f e.0) es ++ f k ∷ []
  names-more es k v = map-append (λ (e : K × V). f e.0) es ((k, v) ∷ [])

  pub classes-more : (es : List (K × V)) (k : K) (v : V) →
      map (λ (e : K × V). e.1) (es ++ (k, v) ∷ []) ≡ map (λ (e : K × V). e.1) es ++ v ∷ []
  classes-more es k v = map-append (λ (e : K × V). e.1) es ((k, v) ∷ [])

-- a graph with one more vertex, of a new name
pub named_more : (names : List (List ℕ)) (ends : List (ℕ × ℕ)) (classes : List (Option ℕ)) (name : List ℕ) →
    IsNamedGraph (record { names = names; ends = ends; classes = classes }) → ¬ (In name names) →
    IsNamedGraph (record { names = names ++ name ∷ []; ends = ends; classes = classes ++ None ∷ [] })
named_more names ends classes name g n = record {
  different = all_pairs_push (λ x y. x ≢ y) names name g.different (λ k d l e. n (subst (λ z. In z names) e (In-get_or names k d l)));
  within = λ k d l. let h = g.within k d l in let m = length_push names name in (omega arith, omega arith);
  classed = length_push classes None ∙ ap (λ n. n + 1) g.classed ∙ sym (length_push names name);
}

-- a graph with a vertex in a class
pub classed_more : {names names' : List (List ℕ)} (ends : List (ℕ × ℕ)) {classes classes' : List (Option ℕ)} (i : ℕ) (k : Option ℕ) →
    names' ≡ names → classes' ≡ slice_set classes i k →
    IsNamedGraph (record { names = names; ends = ends; classes = classes }) →
    IsNamedGraph (record { names = names'; ends = ends; classes = classes' })
classed_more {names} {names'} ends {classes} {classes'} i k p q g = subst
    (λ n. IsNamedGraph (record { names = n; ends = ends; classes = classes' })) (sym p) (record {
      different = g.different;
      within = g.within;
      classed = ap length q ∙ length-set classes i k ∙ g.classed;
    })
