-- One after another, up to the first refusal.
use Rattle.std.proofs.Common.{◌≡◌, ℕ, ◌+◌, ◌<◌, ◌≤◌, List, [], ◌∷◌, ◌++◌, length, take, drop, get_or, map, Result, Ok, Err, refl, sym, ap, ◌∙◌, subst, inl, inr}
use Rattle.dynamo_json.proofs.Common.{take-append-drop, take_more, take_all, drop_more, Fault}
use Rattle.dynamo_json.proofs.Common.{Refusal, Refused, refusal_in, ◌>>=◌}
use Rattle.dynamo_value.proofs.Steps.{bind_itself}

-- a fault of one step is one of a larger step that hands its refusals on
pub refused_as : {A B : Type 0} (r : Result A Refusal) (s : Result B Refusal) (f : Fault) → ((x : Refusal) → r ≡ Err x → s ≡ Err x)
    → Refused (refusal_in r) f → Refused (refusal_in s) f
refused_as (Ok x) s f hands h = elim h [ inl e ↦ inl e | inr n ↦ absurd n ]
refused_as (Err x) s f hands h = subst (λ (t : Result _ Refusal). Refused (refusal_in t) f) (sym (hands x refl)) h

abbrev pub each : {A B : Type 0} → (A → Result B Refusal) → List A → Result (List B) Refusal
each f [] = Ok []
each f (x ∷ xs) = do
  y ← f x
  ys ← each f xs
  Ok (y ∷ ys)

module _ {A B : Type 0} (f : A → Result B Refusal) where
  joined : (first : Result B Refusal) (front back whole : Result (List B) Refusal) → whole ≡ (front >>= λ ys. back >>= λ zs. Ok (ys ++ zs))
      → (first >>= λ y. whole >>= λ ys. Ok (y ∷ ys)) ≡ ((first >>= λ y. front >>= λ ys. Ok (y ∷ ys)) >>= λ ys. back >>= λ zs. Ok (ys ++ zs))
  joined (Err e) front back whole is = refl
  joined (Ok y) (Err e) back whole is = rw is refl
  joined (Ok y) (Ok ys) (Ok zs) whole is = rw is refl
  joined (Ok y) (Ok ys) (Err e) whole is = rw is refl

  parted : (xs zs : List A) → each f (xs ++ zs) ≡ (each f xs >>= λ ys. each f zs >>= λ ws. Ok (ys ++ ws))
  parted [] zs = sym (bind_itself (each f zs))
  parted (x ∷ xs) zs = joined (f x) (each f xs) (each f zs) (each f (xs ++ zs)) (parted xs zs)

  after : (done rest : List A) (ys : List B) → each f done ≡ Ok ys → each f (done ++ rest) ≡ (each f rest >>= λ zs. Ok (ys ++ zs))
  after done rest ys h = parted done rest ∙ ap (λ r. r >>= λ vs. each f rest >>= λ zs. Ok (vs ++ zs)) h

  -- one more goes well
  pub goes_on : (done : List A) (x : A) (ys : List B) (y : B) → each f done ≡ Ok ys → f x ≡ Ok y → each f (done ++ x ∷ []) ≡ Ok (ys ++ y ∷ [])
  goes_on done x ys y h k = after done (x ∷ []) ys h ∙ rw k refl

  -- one is refused
  pub stops : (done : List A) (x : A) (rest : List A) (ys : List B) (g : Fault) → each f done ≡ Ok ys → Refused (refusal_in (f x)) g
      → Refused (refusal_in (each f (done ++ x ∷ rest))) g
  stops done x rest ys g h = refused_as (f x) (each f (done ++ x ∷ rest)) g (λ e k. after done (x ∷ rest) ys h ∙ rw k refl)

  pub stops_at : (xs : List A) (i : ℕ) (x : A) (ys : List B) (g : Fault) → i < length xs → x ≡ get_or xs i x → each f (take i xs) ≡ Ok ys
      → Refused (refusal_in (f x)) g → Refused (refusal_in (each f xs)) g
  stops_at xs i x ys g lt at h k =
      let parts : take i xs ++ x ∷ drop (i + 1) xs ≡ xs =
      ap (λ (zs : List A). take i xs ++ zs) (ap (λ z. z ∷ drop (i + 1) xs) at ∙ sym (drop_more xs i x lt)) ∙ take-append-drop i xs in
      subst (λ (zs : List A). Refused (refusal_in (each f zs)) g) parts (stops (take i xs) x (drop (i + 1) xs) ys g h k)

  pub all_done : (xs : List A) (i : ℕ) (ys : List B) → length xs ≤ i → each f (take i xs) ≡ Ok ys → each f xs ≡ Ok ys
  all_done xs i ys le h = ap (λ (zs : List A). each f zs) (sym (take_all i xs le)) ∙ h

map_append : {A B : Type 0} (h : A → B) (xs zs : List A) → map h (xs ++ zs) ≡ map h xs ++ map h zs
map_append h [] zs = refl
map_append h (x ∷ xs) zs = ap (λ r. h x ∷ r) (map_append h xs zs)

-- one more goes well, at a place of a list, where what was made is seen by g
pub goes_on_at : {A B C : Type 0} (f : A → Result B Refusal) (g : C → B) (xs : List A) (i : ℕ) (x : A) (made : List C) (y : C)
    → i < length xs → x ≡ get_or xs i x → each f (take i xs) ≡ Ok (map g made) → f x ≡ Ok (g y)
    → each f (take (i + 1) xs) ≡ Ok (map g (made ++ y ∷ []))
goes_on_at f g xs i x made y lt at h k =
    ap (λ (zs : List _). each f zs) (take_more xs i x lt ∙ ap (λ z. take i xs ++ z ∷ []) (sym at))
    ∙ goes_on f (take i xs) x (map g made) (g y) h k ∙ ap Ok (sym (map_append g made (y ∷ [])))
