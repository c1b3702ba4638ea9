-- The variant of a number: its name, and what it tells conforms to the enum's shape.
use Rattle.std.proofs.Common.{◌≡◌, ◌<◌, ◌≤◌, ◌+◌, ℕ, zero, suc, List, [], ◌∷◌, Option, Some, None, refl, sym, ap, subst, ◌∙◌, inl, inr, length, map, get_or, arith}
use Rattle.dynamo_record.proofs.Common.{Datum, Text, conforms, conforms_content, Content, nothing}
use Rattle.dynamo_record.proofs.Common.{AboutEnum, enum_shape, Names, first_name, other_names}
use Rattle.dynamo_record.proofs.Common.{names_from, Contents, ConformsToOne, content_at, tag}

-- ---- its name

behind : (i : ℕ) (n : Text) (ns : Names) → names_from (suc i) (n ∷ ns) ≡ names_from i ns
behind zero n ns = refl
behind (suc i) n ns = ap other_names (behind i n ns)

none_there : (i : ℕ) → names_from i [] ≡ []
none_there zero = refl
none_there (suc i) = ap other_names (none_there i)

pub name_there : {A : Type 0} (f : A → Text) (xs : List A) (i : ℕ) (x : A) → i < length xs → x ≡ get_or xs i x → f x ≡ first_name (names_from i (map f xs))
name_there f [] i x h e = absurd (let k : ⊥ = omega arith in k)
name_there f (y ∷ ys) zero x h e = ap f e
name_there f (y ∷ ys) (suc i) x h e = name_there f ys i x (let k : i < length ys = omega arith in k) e ∙ sym (ap first_name (behind i (f y) (map f ys)))

pub name_past : {A : Type 0} (f : A → Text) (xs : List A) (i : ℕ) → length xs ≤ i → [] ≡ first_name (names_from i (map f xs))
name_past f [] i h = sym (ap first_name (none_there i))
name_past f (y ∷ ys) zero h = absurd (let k : ⊥ = omega arith in k)
name_past f (y ∷ ys) (suc i) h = name_past f ys i (let k : length ys ≤ i = omega arith in k) ∙ sym (ap first_name (behind i (f y) (map f ys)))

-- ---- its content

abbrev or_nothing : Option Content → Content
or_nothing None = nothing
or_nothing (Some c) = c

abbrev IsThere : Option Content → Type 0
IsThere None = ⊥
IsThere (Some c) = Unit {0}

at_its_place : (name : Text) (ns : Names) (i j : ℕ) (cs : Contents) (c : Content) (d : Datum) → content_at j cs ≡ Some c → conforms_content c (tag name ns (i + j)) d → ConformsToOne name ns i cs d
at_its_place name ns i j [] c d at h = absurd (subst IsThere (sym at) tt)
at_its_place name ns i zero (b ∷ cs) c d at h =
    let here : i + 0 ≡ i = omega arith in
    inl (subst (λ n. conforms_content b (tag name ns n) d) here (subst (λ c. conforms_content c (tag name ns (i + 0)) d) (sym (ap or_nothing at)) h))
at_its_place name ns i (suc j) (b ∷ cs) c d at h =
    let there : i + suc j ≡ suc i + j = omega arith in
    inr (at_its_place name ns (suc i) j cs c d at (subst (λ n. conforms_content c (tag name ns n) d) there h))

pub variant_conforms : {V L : Type 0} (a : AboutEnum V L) (i : ℕ) (c : Content) (d : Datum) → content_at i (a.list.contents []) ≡ Some c → conforms_content c (tag a.name a.names i) d → conforms (enum_shape a) d
variant_conforms a i c d at h = at_its_place a.name a.names 0 i (a.list.contents []) c d at (subst (λ n. conforms_content c (tag a.name a.names n) d) (from_none i) h)
  where
    from_none : (i : ℕ) → i ≡ 0 + i
    from_none i = omega arith
