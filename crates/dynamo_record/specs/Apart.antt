-- Fields whose names differ.
use Rattle.std.proofs.Common.{◌≡◌, ℕ, zero, suc, true, false, [], ◌∷◌, length, refl, sym, ap, subst}
use Rattle.std.proofs.Common.{◌∙◌}
use Rattle.std.specs.Prelude.{⊤, Bool, ◌&&◌, ◌||◌, not, bytes_eq}
use Rattle.std.proofs.lemmas.Bool.{true≢false}
use Rattle.dynamo_de.specs.Source.{Text}
use Rattle.dynamo_shape.specs.Clear.{is_field}
use Rattle.dynamo_shape.specs.Shape.{Shape}
use Rattle.dynamo_shape.proofs.FieldsByName.{NamesDiffer}
use Rattle.dynamo_record.specs.Fields.{Defaults, other_defaults, field_shapes}
use Rattle.dynamo_record.specs.Listed.{Shapes}
use Rattle.dynamo_record.specs.Names.{Names, is_named, differ}

abbrev before : ℕ → ℕ
before zero = zero
before (suc n) = n

abbrev IsZero : ℕ → Type 0
IsZero zero = ⊤
IsZero (suc n) = ⊥

pub same_length : (s : Shape) (n : Text) (ns : Names) (ss : Shapes)
    → length (n ∷ ns) ≡ length (s ∷ ss)
    → length ns ≡ length ss
same_length s n ns ss h = ap before h

pub none_named : (s : Shape) (ss : Shapes) → length {A = Text} [] ≡ length (s ∷ ss) → ⊥
none_named s ss h = subst IsZero h tt

pub no_shape : (n : Text) (ns : Names) → length (n ∷ ns) ≡ length {A = Shape} [] → ⊥
no_shape n ns h = subst IsZero (sym h) tt

pub field_named : (ns : Names) (ss : Shapes) (gs : Defaults) (t : Text) → length ns ≡ length ss
    → is_field (field_shapes ns ss gs) t ≡ is_named ns t
field_named [] [] gs t h = refl
field_named [] (s ∷ ss) gs t h = absurd (none_named s ss h)
field_named (n ∷ ns) [] gs t h = absurd (no_shape n ns h)
field_named (n ∷ ns) (s ∷ ss) gs t h = ap (λ r. bytes_eq t n || r)
    (field_named ns ss (other_defaults gs) t (same_length s n ns ss h))

pub both_true : (a b : Bool) → a && b ≡ true → (a ≡ true) × (b ≡ true)
both_true true b h = (refl, h)
both_true false b h = absurd (true≢false (sym h))

pub not_true : (a : Bool) → not a ≡ true → a ≡ false
not_true true h = absurd (true≢false (sym h))
not_true false h = refl

pub names_differ : (ns : Names) (ss : Shapes) (gs : Defaults) → differ ns ≡ true
    → length ns ≡ length ss
    → NamesDiffer (field_shapes ns ss gs)
names_differ [] [] gs d h = tt
names_differ [] (s ∷ ss) gs d h = absurd (none_named s ss h)
names_differ (n ∷ ns) [] gs d h = tt
names_differ (n ∷ ns) (s ∷ ss) gs d h =
    let p = both_true (not (is_named ns n)) (differ ns) d in
    let k = same_length s n ns ss h in
    (field_named ns ss (other_defaults gs) n k ∙ not_true (is_named ns n) p.0, names_differ ns ss (other_defaults gs) p.1 k)
