-- What is written for a key of a clear key shape reads back as that key alone.
use Rattle.std.proofs.Common.{◌≡◌, ℕ, suc, Bool, true, false, Ok, None, refl, sym, ap, subst, ◌∙◌, inl, inr}
use Rattle.dynamo_shape.proofs.Common.{encode_utf8, bytes_eq, signed_decimal, parse_back, value}
use Rattle.dynamo_shape.proofs.Common.{Text, Datum, bool_text, IsKey, AreUnits, is_variant}
use Rattle.dynamo_shape.proofs.Common.{conforms, conforms_variant, kept, read, read_one_of, Shape}
use Rattle.dynamo_shape.proofs.Common.{boolean, char, string, integer, newtype, enum, nothing}
use Rattle.dynamo_shape.proofs.Common.{Variants, no_variants, variant, S, written}
use Rattle.dynamo_ser.specs.Datum as datum
use Rattle.dynamo_shape.proofs.Found.{or_false, same_bytes}
use Rattle.dynamo_value.proofs.Steps.{ok_same}
use Rattle.dynamo_shape.proofs.Results.{value_same, chars-encode}
use Rattle.dynamo_de.specs.Source as source
use Rattle.dynamo_ser.specs.Key.{key_text}

abbrev pub KeyBack : Shape → Datum → Type 0
KeyBack k l = (t : Text) × (key_text l ≡ Ok t) × (kept l ≡ l) × (read k (source.key_text t) ≡ value l)

bool_back : (b : Bool) → read boolean (source.key_text (bool_text b)) ≡ value (datum.boolean b)
bool_back true = refl
bool_back false = refl

moved : (k : Shape) (l e : Datum) → l ≡ e → KeyBack k e → KeyBack k l
moved k l e p h = subst (KeyBack k) (sym p) h

abbrev pub UnitsBack : Variants → Text → ℕ → Datum → Type 0
UnitsBack vs name i d = (t : Text) × ((u : Text) → is_variant vs u ≡ false → bytes_eq t u ≡ false) × (key_text d ≡ Ok t) × (kept d ≡ d) × (read_one_of vs name i t None ≡ value d) × (written d ≡ Ok (S t))

units_first : (v : Text) (vs : Variants) (name : Text) (i : ℕ) → UnitsBack (variant v nothing vs) name i (datum.unit_variant (record { enum = name; index = i; name = v }))
units_first v vs name i = (v, λ u k. (or_false (bytes_eq v u) (is_variant vs u) k).0, refl, refl, rw (same_bytes v) refl, refl)

pub units_back : (vs : Variants) (name : Text) (i : ℕ) (d : Datum) → AreUnits vs → conforms_variant name i vs d → UnitsBack vs name i d
units_back no_variants name i d n c = absurd c
units_back (variant v nothing vs) name i d n c = elim c [
  | inl x ↦ subst (UnitsBack (variant v nothing vs) name i) (sym x) (units_first v vs name i)
  | inr y ↦
      let h = units_back vs name (suc i) d n.1 y in
      (h.0, λ u k. h.1 u (or_false (bytes_eq v u) (is_variant vs u) k).1, h.2, h.3, rw (h.1 v n.0) h.4, h.5)
]
units_back (variant v k vs) name i d n c = absurd n

pub key_back : (k : Shape) (l : Datum) → IsKey k → conforms k l → KeyBack k l
key_back boolean l n c = moved boolean _ _ c.1 (bool_text c.0, refl, refl, bool_back c.0)
key_back char l n c = moved char _ _ c.1 (encode_utf8 c.0, refl, refl, rw (chars-encode c.0 c.2) refl)
key_back string l n c = moved string _ _ c.1 (c.0, refl, refl, refl)
key_back (integer k) l n c = moved (integer k) _ _ c.1 (signed_decimal c.0, refl, refl, rw (parse_back k c.0 c.2) refl)
key_back (newtype name s) l n c = let h = key_back s c.0 n.1 c.2 in moved (newtype name s) _ _ c.1 (h.0, h.1, ap (datum.newtype_struct name) h.2, rw h.3 refl)
key_back (enum name vs) l n c = let h = units_back vs name 0 l n c in (h.0, h.2, h.3, h.4)
key_back _ l n c = absurd n

pub key_texts : (k : Shape) (l m : Datum) → IsKey k → conforms k l → conforms k m → key_text l ≡ key_text m → l ≡ m
key_texts k l m n c d e =
    let a = key_back k l n c in
    let b = key_back k m n d in
    let same : a.0 ≡ b.0 = ok_same (sym a.1 ∙ e ∙ b.1) in
    value_same (sym a.3 ∙ ap (λ t. read k (source.key_text t)) same ∙ b.3)
