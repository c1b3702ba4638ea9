-- What `==` says of two sets, and that lists of different lengths differ.
use Rattle.std.proofs.Common.{◌≡◌, ℕ, suc, List, [], ◌∷◌, map, length, Bool, false, ◌&&◌, nat_eq, Vec, Global, String, string_bytes}
use Rattle.std.proofs.Common.{refl, sym, ap, ◌∙◌}
use Rattle.std.proofs.lemmas.Bool.Decides.{Decides-and, Decides-like}
use Rattle.std.specs.Bool.{Decides}
use Rattle.std.specs.Cmp.Lexicographic.{pointwise, bytes_decides}
use Rattle.std.specs.String.{string_eq}
use Rattle.dynamo_value.specs.Av as av
use Rattle.dynamo_value.specs.Av.{Av}
use Rattle.dynamo_value.specs.View.{view, elements_view}
use Rattle.dynamo_value.specs.declared.attribute_value.AttributeValue.{AttributeValue, Ss, Ns, Bs}
use Rattle.dynamo_value.proofs.Views.{view_strings, view_numbers, view_blobs}

pub refuted : {P : Type 0} → (P → ⊥) → Decides false P
refuted n = (λ e. cc, λ p. absurd (n p))

pub lengths : (xs ys : List AttributeValue) → elements_view xs ≡ elements_view ys → length xs ≡ length ys
lengths [] [] e = refl
lengths [] (y ∷ ys) e = cc
lengths (x ∷ xs) [] e = cc
lengths (x ∷ xs) (y ∷ ys) e = ap suc (lengths xs ys cc)

-- ---- sets

-- where E compares what f reads, two lists are alike exactly where f reads the same of both
module _ {X Y : Type 0} (f : X → Y) (E : X → X → Bool) (decides : (x y : X) → Decides (E x y) (f x ≡ f y)) where
  pointwise-Decides : (xs ys : List X) → Decides (pointwise E xs ys) (map f xs ≡ map f ys)
  pointwise-Decides [] [] = (λ e. refl, λ e. refl)
  pointwise-Decides [] (y ∷ ys) = (λ e. cc, λ e. cc)
  pointwise-Decides (x ∷ xs) [] = (λ e. cc, λ e. cc)
  pointwise-Decides (x ∷ xs) (y ∷ ys) = Decides-like (E x y && pointwise E xs ys) (λ p i. p.0 i ∷ p.1 i) (λ e. (cc, cc))
      (Decides-and (E x y) (pointwise E xs ys) (decides x y) (pointwise-Decides xs ys))

abbrev blob_eq : Vec ℕ Global → Vec ℕ Global → Bool
blob_eq a b = pointwise nat_eq a.items b.items

texts-Decides : (vs ws : List (String Global)) → Decides (pointwise string_eq vs ws) (map string_bytes vs ≡ map string_bytes ws)
texts-Decides = pointwise-Decides string_bytes string_eq (λ s t. bytes_decides (string_bytes s) (string_bytes t))

bytes-Decides : (vs ws : List (Vec ℕ Global)) → Decides (pointwise blob_eq vs ws) (map (λ b. b.items) vs ≡ map (λ b. b.items) ws)
bytes-Decides = pointwise-Decides (λ b. b.items) blob_eq (λ a b. bytes_decides a.items b.items)

module _ (a b : AttributeValue) where
  -- a test of what the two hold decides whether they are the same
  held : (r : Bool) (x y : Av) → view a ≡ x → view b ≡ y → Decides r (x ≡ y) → Decides r (view a ≡ view b)
  held r x y p q d = Decides-like r (λ e. p ∙ e ∙ sym q) (λ e. sym p ∙ e ∙ q) d

  module _ (v w : Vec (String Global) Global) where
    pub strings-Decides : a ≡ Ss v → b ≡ Ss w → Decides (pointwise string_eq v.items w.items) (view a ≡ view b)
    strings-Decides p q = let r = pointwise string_eq v.items w.items in
        held r _ _ (ap view p ∙ view_strings v) (ap view q ∙ view_strings w) (Decides-like r (ap av.Ss) (λ e. cc) (texts-Decides v.items w.items))

    pub numbers-Decides : a ≡ Ns v → b ≡ Ns w → Decides (pointwise string_eq v.items w.items) (view a ≡ view b)
    numbers-Decides p q = let r = pointwise string_eq v.items w.items in
        held r _ _ (ap view p ∙ view_numbers v) (ap view q ∙ view_numbers w) (Decides-like r (ap av.Ns) (λ e. cc) (texts-Decides v.items w.items))

  pub blobs-Decides : (v w : Vec (Vec ℕ Global) Global) → a ≡ Bs v → b ≡ Bs w → Decides (pointwise blob_eq v.items w.items) (view a ≡ view b)
  blobs-Decides v w p q = let r = pointwise blob_eq v.items w.items in
      held r _ _ (ap view p ∙ view_blobs v) (ap view q ∙ view_blobs w) (Decides-like r (ap av.Bs) (λ e. cc) (bytes-Decides v.items w.items))
