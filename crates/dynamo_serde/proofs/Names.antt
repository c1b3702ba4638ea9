-- A name that is spelled as it is.
use Rattle.std.proofs.Common.{◌≡◌, ℕ, List, [], ◌∷◌, Bool, true, refl, ap}
use Rattle.serde.specs.Spelling.{spelled, spelled_from}
use Rattle.serde.specs.declared.name.Case.TheVariants.{AsIs}
use Rattle.serde.specs.declared.name.NameKind.{NameKind}
use Rattle.serde.specs.declared.name.NameKind.TheVariants.{Field, Variant}

as_is_from : (kind : NameKind) (name : List ℕ) (first begins : Bool) → spelled_from AsIs kind first begins name ≡ name
as_is_from Field [] first begins = refl
as_is_from Field (b ∷ bs) first begins = ap (λ xs. b ∷ xs) (as_is_from Field bs _ _)
as_is_from Variant [] first begins = refl
as_is_from Variant (b ∷ bs) first begins = ap (λ xs. b ∷ xs) (as_is_from Variant bs _ _)

pub as_is : (kind : NameKind) (name : List ℕ) → spelled AsIs kind name ≡ name
unfolding spelled
as_is kind name = as_is_from kind name true true
