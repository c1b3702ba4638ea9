-- What a scalar's read says of the attribute value that was laid.
use Rattle.std.proofs.Common.{◌≡◌, ⊎_elim, ℕ, List, ◌∷◌, Bool, true, false, Option, Some, None, refl, sym, ap, ◌∙◌}
use Rattle.serde.specs.Event.{boolean, text, nothing}
use Rattle.dynamo_ser.specs.Key.{bool_text}
use Rattle.dynamo_value.specs.Av as av
use Rattle.dynamo_value.specs.Av.{Av}
use Rattle.dynamo_ser.specs.Symbols.{strings, numbers, blobs}
use Rattle.dynamo_serde.specs.Laid as laid
use Rattle.dynamo_serde.specs.Laid.{Token, Place, IsLaid, Takes, TakesText, TakesNumber, Reads}

-- the first token of an attribute value
abbrev begins : Av → Token
begins (av.N s) = laid.number s
begins (av.S s) = laid.text s
begins (av.Boolean b) = laid.boolean b
begins (av.B blob) = laid.bytes blob
begins (av.Null b) = laid.null b
begins (av.M ms) = laid.begin_map
begins (av.L as') = laid.begin_list
begins (av.Ss xs) = laid.begin_set strings
begins (av.Ns xs) = laid.begin_set numbers
begins (av.Bs xs) = laid.begin_set blobs

first : (a : Av) (ts : List Token) → IsLaid a ts → (t : Token) (rest : List Token) → ts ≡ t ∷ rest → begins a ≡ t
first (av.N s) ts h t rest e = cc (h, e)
first (av.S s) ts h t rest e = cc (h, e)
first (av.Boolean b) ts h t rest e = cc (h, e)
first (av.B blob) ts h t rest e = cc (h, e)
first (av.Null b) ts h t rest e = cc (h, e)
first (av.M ms) ts h t rest e = cc (h, e)
first (av.L as') ts h t rest e = cc (h, e)
first (av.Ss xs) ts h t rest e = cc (h, e)
first (av.Ns xs) ts h t rest e = cc (h, e)
first (av.Bs xs) ts h t rest e = cc (h, e)

-- no attribute value begins with a key
no_key : (a : Av) (s : List ℕ) → begins a ≡ laid.key s → ⊥
no_key (av.N t) s e = cc
no_key (av.S t) s e = cc
no_key (av.Boolean b) s e = cc
no_key (av.B t) s e = cc
no_key (av.Null b) s e = cc
no_key (av.M ms) s e = cc
no_key (av.L as') s e = cc
no_key (av.Ss xs) s e = cc
no_key (av.Ns xs) s e = cc
no_key (av.Bs xs) s e = cc

-- the scalar that is this token
abbrev value_of : Token → Option Av
value_of (laid.number s) = Some (av.N s)
value_of (laid.text s) = Some (av.S s)
value_of (laid.boolean b) = Some (av.Boolean b)
value_of (laid.bytes s) = Some (av.B s)
value_of (laid.null b) = Some (av.Null b)
value_of _ = None

back : (a b : Av) → value_of (begins a) ≡ Some b → a ≡ b
back (av.N s) b e = cc (e)
back (av.S s) b e = cc (e)
back (av.Boolean c) b e = cc (e)
back (av.B s) b e = cc (e)
back (av.Null c) b e = cc (e)
back (av.M ms) b e = let no : ⊥ = cc (e) in absurd no
back (av.L as') b e = let no : ⊥ = cc (e) in absurd no
back (av.Ss xs) b e = let no : ⊥ = cc (e) in absurd no
back (av.Ns xs) b e = let no : ⊥ = cc (e) in absurd no
back (av.Bs xs) b e = let no : ⊥ = cc (e) in absurd no

module _ (a : Av) (old new : Place) (h : IsLaid a old.ahead) where
  taken : (t : Token) (b : Av) → value_of t ≡ Some b → Takes old t new → a ≡ b
  taken t b is k = back a b (ap value_of (first a old.ahead h t new.ahead k.0) ∙ is)

  no_key_taken : {P : Type 0} (s : List ℕ) → Takes old (laid.key s) new → P
  no_key_taken s k = absurd (no_key a s (first a old.ahead h (laid.key s) new.ahead k.0))

  not_told : {P : Type 0} → old.told ≡ false → old.told ≡ true → P
  not_told untold is_told = let both : false ≡ true = sym untold ∙ is_told in let never : ⊥ = cc (both) in absurd never

  pub boolean_read : (b : Bool) → old.told ≡ false → Reads old (boolean b) new → a ≡ av.Boolean b
  boolean_read b untold r = ⊎_elim (taken (laid.boolean b) (av.Boolean b) refl) (λ s. ⊎_elim (no_key_taken (bool_text b)) (λ k. not_told untold k.0) s) r

  text_read : (s : List ℕ) → TakesText old s new → a ≡ av.S s
  text_read s r = ⊎_elim (taken (laid.text s) (av.S s) refl) (no_key_taken s) r

  pub string_read : (s : List ℕ) → old.told ≡ false → Reads old (text s) new → a ≡ av.S s
  string_read s untold r = ⊎_elim (text_read s) (λ k. not_told untold k.0) r

  pub number_read : (P : List ℕ → Type 0) → TakesNumber old P new → (s : List ℕ) × (a ≡ av.N s) × P s
  number_read P r = (r.0, ⊎_elim (taken (laid.number r.0) (av.N r.0) refl) (no_key_taken r.0) r.1, r.2)

  pub nothing_read : Reads old nothing new → a ≡ av.Null true
  nothing_read r = taken (laid.null true) (av.Null true) refl r
