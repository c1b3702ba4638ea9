-- What is empty tells no elements, and no pairs.
use Rattle.std.proofs.Common.{◌≡◌, ℕ, suc, false, List, [], ◌∷◌, length, ◌==◌, refl, ◌∙◌, arith}
use Rattle.dynamo_record.proofs.Common.{⊤, Datum, elements_of, same_default}
use Rattle.dynamo_ser.specs.Datum as datum
use Rattle.std.specs.Prelude.{map}
use Rattle.std.specs.BTreeSet.{insert_key}
use Rattle.std.specs.Ordering.{match_ordering}
use Rattle.std.specs.declared.cmp.Ordering.{Ordering}
use Rattle.std.specs.declared.cmp.Ordering.TheVariants.{Less, Equal, Greater}
use Rattle.std.proofs.lemmas.Bool.Decides.{nat_tests}
use Rattle.dynamo_ser.specs.Members.{members_onto, members_in_order}
use Rattle.dynamo_record.specs.Keys.{map_tells}

not_none : (n : ℕ) → (suc n == 0) ≡ false
not_none n = grind (arith, nat_tests)

pub no_elements_told : {T : Type 0} (tells : T → Datum) (vs : List T) → (length vs == 0) ≡ same_default (datum.seq datum.no_elements) (datum.seq (elements_of (map tells vs)))
no_elements_told tells [] = refl
no_elements_told tells (v ∷ vs) = not_none (length vs)

pub no_pairs_told : {K V : Type 0} (keys : K → Datum) (values : V → Datum) (es : List (K × V)) → (length es == 0) ≡ same_default (datum.map datum.no_pairs) (map_tells keys values es)
no_pairs_told keys values [] = refl
no_pairs_told keys values (e ∷ es) = not_none (length es)

-- ---- hashed sets, whose members are told in order

abbrev IsFilled : {T : Type 0} → List T → Type 0
IsFilled [] = ⊥
IsFilled (v ∷ vs) = ⊤

module _ {T : Type 0} (tells : T → Datum) (cmp : T → T → Ordering) where
  put_filled : (ms : List T) (k : T) → IsFilled (insert_key cmp ms k)
  put_filled [] k = tt
  put_filled (m ∷ ms) k = either (cmp k m)
    where
      either : (o : Ordering) → IsFilled (match_ordering o (k ∷ m ∷ ms) (m ∷ ms) (m ∷ insert_key cmp ms k))
      either Less = tt
      either Equal = tt
      either Greater = tt

  onto_filled : (ks ms : List T) → IsFilled ms → IsFilled (members_onto cmp ms ks)
  onto_filled [] ms h = h
  onto_filled (k ∷ ks) ms h = onto_filled ks (insert_key cmp ms k) (put_filled ms k)

  filled_told : (vs : List T) → IsFilled vs → false ≡ same_default (datum.seq datum.no_elements) (datum.seq (elements_of (map tells vs)))
  filled_told [] h = absurd h
  filled_told (v ∷ vs) h = refl

  pub no_members_told : (ks : List T) → (length ks == 0) ≡ same_default (datum.seq datum.no_elements) (datum.seq (elements_of (map tells (members_in_order cmp ks))))
  no_members_told [] = refl
  no_members_told (k ∷ ks) = not_none (length ks) ∙ filled_told (members_in_order cmp (k ∷ ks)) (onto_filled ks (k ∷ []) tt)
